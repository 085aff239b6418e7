-- Each step keeps what is open and what comes next as they may be.
use Rattle.std.proofs.Common.{◌≡◌, ℕ, Bool, true, false, List, [], ◌∷◌, Option, Some, None, Ok, Err, subst}
use Rattle.sail_syntax.specs.Tree.{Text, node, name}
use Rattle.sail_syntax.specs.Program.{enumeration, order}
use Rattle.sail_syntax.specs.declared.tree.Infix.TheVariants as between
use Rattle.sail_syntax.specs.declared.patterns.Part.{Part}
use Rattle.sail_syntax.specs.declared.patterns.Part.TheVariants as part
use Rattle.sail_syntax.specs.declared.patterns.Pattern.TheVariants as pattern
use Rattle.sail_grammar.specs.declared.keyword.Keyword.TheVariants as kw
use Rattle.sail_grammar.specs.declared.mark.Mark.TheVariants as m
use Rattle.sail_grammar.specs.declared.word.Sign.{Sign}
use Rattle.sail_grammar.specs.declared.word.Sign.TheVariants as sign
use Rattle.sail_grammar.specs.declared.word.Word.{Word}
use Rattle.sail_grammar.specs.Words.{Words}
use Rattle.sail_machine.specs.declared.fault.Fault.{Fault}
use Rattle.sail_machine.specs.declared.heads.EnumHead.{EnumHead}
use Rattle.sail_machine.specs.declared.awaited.Await.{Await}
use Rattle.sail_machine.specs.declared.awaited.Await.TheVariants as a
use Rattle.sail_machine.specs.declared.awaited.Fixed.{Fixed}
use Rattle.sail_machine.specs.declared.awaited.Fixed.TheVariants as fixed
use Rattle.sail_machine.specs.declared.awaited.Naming.TheVariants as naming
use Rattle.sail_machine.specs.declared.awaited.Counting.TheVariants as counting
use Rattle.sail_machine.specs.declared.awaited.Sized.TheVariants as sized
use Rattle.sail_machine.specs.declared.awaited.TypeUse.TheVariants as typing
use Rattle.sail_machine.specs.Frames as f
use Rattle.sail_machine.specs.Frames.{Frames, Mode, awaits, have, whole, program}
use Rattle.sail_machine.specs.Signs.{next_word, is_keyword, is_mark, is_operator}
use Rattle.sail_machine.specs.Turns.{Turn}
use Rattle.sail_machine.specs.Headers.{behind, awaited, is_sign, fixed_word}
use Rattle.sail_machine.specs.Machine as machine
use Rattle.sail_machine.specs.Machine.{inside, statement, text_word, truth_alone, part_word, name_alone, pattern_named, one_part, parts_alone, arms_close, step_await, step}
use Rattle.sail_machine.specs.Run.{passes, pass, passed}
use Rattle.sail_machine.proofs.Closing.{IsText}
use Rattle.sail_machine.proofs.Reached.{IsOpen, InBlock, InArms, InAssert, AtFixed, AtAwait, IsReached, Kept, if_kept, opened_kept, shallow_kept, text_kept, definition_kept, ends_kept, after_kept, operand_kept, want_kept, closes_kept, block_kept, open_block, assigns_kept, binds_kept, arms_with_kept, type_kept, name_kept, number_kept, index_kept, indexed_kept, sized_kept, widens_kept, asserts_kept}

-- ---- fixed words

behind_kept : (k : Frames) (w : Fixed) (at : ℕ) → AtFixed k w → Kept (behind k w at)
behind_kept k fixed.OrderWord at h = h
behind_kept k fixed.OrderEnd at h = text_kept k order h
behind_kept k (fixed.RegisterColon x p) at h = h
behind_kept k (fixed.BitsWord z) at h = h
behind_kept k (fixed.BitsOpen z) at h = shallow_kept k (a.Number (counting.Width z)) at h
behind_kept k (fixed.BitsClose z w) at h = sized_kept k z w h
behind_kept k (fixed.EnumEquals x p) at h = h
behind_kept k (fixed.EnumOpen x p) at h = h
behind_kept k (fixed.ValColon x p) at h = h
behind_kept k (fixed.ValOpen x p) at h = h
behind_kept k (fixed.ValArrow e) at h = h
behind_kept k (fixed.FunctionOpen x p) at h = h
behind_kept k (fixed.ParamColon e x) at h = h
behind_kept k (fixed.FunctionArrow e) at h = h
behind_kept k (fixed.FunctionEquals e t) at h = (tt, h)
behind_kept k (fixed.FlipOpen p) at h = opened_kept k (f.flipping p) (awaits a.Want) at (tt, h)
behind_kept k (fixed.WidenOpen signed p) at h = opened_kept k (f.widening signed p) (awaits (a.Number (counting.Width sized.Widening))) at h
behind_kept k (fixed.WidenComma w) at h = widens_kept k w at h
behind_kept k (fixed.AssertOpen p) at h = opened_kept k (f.asserting p) (awaits a.Want) at (tt, h)
behind_kept k (fixed.AssertClose z) at h = asserts_kept k z at h
behind_kept k (fixed.ExitOpen p) at h = shallow_kept k (a.Fixed (fixed.ExitClose p)) at h
behind_kept k (fixed.ExitClose p) at h = h
behind_kept k (fixed.EachOpen p) at h = shallow_kept k (a.Name (naming.Each p)) at h
behind_kept k (fixed.EachFrom x p) at h = h
behind_kept k (fixed.EachTo x i p) at h = h
behind_kept k (fixed.EachClose x i j p) at h = h
behind_kept k (fixed.EachBlock x i j p) at h = opened_kept (f.looping x i j p ∷ k) (f.statements [] at) (awaits (a.Statement None)) at (tt, h)
behind_kept k (fixed.LocalEquals b x t) at h = binds_kept k b x (Some t) at h
behind_kept k (fixed.Arrow pt) at h = arms_with_kept k pt at h
behind_kept k (fixed.IndexEnd u i) at h = indexed_kept k u i at h

fixed_kept : (k : Frames) (w : Fixed) (s : Sign) (at : ℕ) → AtFixed k w → Kept (fixed_word k w s at)
fixed_kept k w s at h = if_kept (is_sign (awaited w) s) _ _ (behind_kept k w at h) tt

-- ---- patterns and texts

text_word_kept : (k : Frames) (s : Sign) (at : ℕ) → InAssert k → Kept (text_word k s at)
text_word_kept k (sign.Text z) at h = h
text_word_kept k _ at h = tt

truth_kept : (k : Frames) (ps : List Part) (b : Bool) (at : ℕ) → InArms k → Kept (truth_alone k ps b at)
truth_kept k [] b at h = h
truth_kept k (q ∷ ps) b at h = tt

part_kept : (k : Frames) (ps : List Part) (s : Sign) (at : ℕ) → InArms k → Kept (part_word k ps s at)
part_kept k ps (sign.Literal b) at h = h
part_kept k ps (sign.Name x) at h = h
part_kept k ps (sign.Keyword word) at h =
    if_kept (is_keyword kw.Wildcard (sign.Keyword word)) _ _ h (if_kept (is_keyword kw.True (sign.Keyword word)) _ _ (truth_kept k ps true at h)
    (if_kept (is_keyword kw.False (sign.Keyword word)) _ _ (truth_kept k ps false at h) tt))
part_kept k ps _ at h = tt

name_alone_kept : (k : Frames) (ps : List Part) (who : Option Text) (at : ℕ) → InArms k → Kept (name_alone k ps who at)
name_alone_kept k [] who at h = arms_with_kept k (pattern_named who) at h
name_alone_kept k (q ∷ ps) who at h = tt

parts_kept : (k : Frames) (ps : List Part) (at : ℕ) → InArms k → Kept (parts_alone k ps at)
parts_kept k [] at h = tt
parts_kept k (part.Lit b ∷ []) at h = arms_with_kept k (pattern.Lit b) at h
parts_kept k (part.Bind x w ∷ []) at h = tt
parts_kept k (part.Skip w ∷ []) at h = tt
parts_kept k (p ∷ q ∷ ps) at h = arms_with_kept k (pattern.Parts (p ∷ q ∷ ps)) at h

arms_close_kept : (k : Frames) (at : ℕ) → InArms k → Kept (arms_close k at)
arms_close_kept (f.arms x cs p ∷ k) at h = h
arms_close_kept [] at h = tt
arms_close_kept (g ∷ k) at h = tt

-- ---- all words

enum_kept : (k : Frames) (h : EnumHead) → IsText k → Kept (machine.enum_ends k h)
enum_kept k h here = text_kept k (enumeration h.name h.members h.at) here

inside_kept : (k : Frames) (w : Word) → IsOpen k → Kept (inside k w)
inside_kept k w h = if_kept (is_mark m.Close w.sign) _ _ (closes_kept k w.at h) (want_kept k w h)

statement_kept : (k : Frames) (before : Option ℕ) (w : Word) → InBlock k → Kept (statement k before w)
statement_kept k before w h =
    if_kept (is_mark m.CloseBrace w.sign) _ _ (block_kept k before w.at h) (if_kept (is_keyword kw.Let w.sign) _ _ h (if_kept (is_keyword kw.Var w.sign) _ _ h (want_kept k w (open_block k h))))

named_kept : (k : Frames) (x : Text) (p : ℕ) (w : Word) → IsOpen k → Kept (machine.named k x p w)
named_kept k x p w h =
    if_kept (is_mark m.Open w.sign) _ _ (opened_kept k (f.args x [] p) (awaits a.Inside) w.at (tt, h))
    (if_kept (is_mark m.Equals w.sign) _ _ (assigns_kept k x p w.at h) (after_kept k (node p (name x)) 0 p (next_word w) h))

pub await_kept : (k : Frames) (await : Await) (w : Word) → AtAwait k await → Kept (step_await k await w)
await_kept k a.Begin w h = if_kept (is_keyword kw.Default w.sign) _ _ h (definition_kept k (next_word w) h)
await_kept k a.Definition w h = definition_kept k (next_word w) h
await_kept k (a.Fixed e) w h = fixed_kept k e w.sign w.at h
await_kept k (a.Name u) w h = name_kept k u w.sign w.at h
await_kept k (a.Number c) w h = number_kept k c w.sign w.at h
await_kept k (a.Type u) w h = type_kept k u w.sign w.at h
await_kept k (a.MemberOrEnd e) w h = if_kept (is_mark m.CloseBrace w.sign) _ _ (enum_kept k e h) (name_kept k (naming.Member e) w.sign w.at h)
await_kept k (a.MoreMembers e) w h = if_kept (is_mark m.Comma w.sign) _ _ h (if_kept (is_mark m.CloseBrace w.sign) _ _ (enum_kept k e h) tt)
await_kept k (a.TypeOrEnd e) w h = if_kept (is_mark m.Close w.sign) _ _ h (type_kept k (typing.Argument e) w.sign w.at h)
await_kept k (a.MoreTypes e) w h = if_kept (is_mark m.Comma w.sign) _ _ h (if_kept (is_mark m.Close w.sign) _ _ h tt)
await_kept k (a.ParamOrEnd e) w h = if_kept (is_mark m.Close w.sign) _ _ h (name_kept k (naming.Param e) w.sign w.at h)
await_kept k (a.MoreParams e) w h = if_kept (is_mark m.Comma w.sign) _ _ h (if_kept (is_mark m.Close w.sign) _ _ h tt)
await_kept k a.Want w h = want_kept k w h
await_kept k a.Operand w h = operand_kept k w h
await_kept k a.Inside w h = inside_kept k w h
await_kept k (a.Statement before) w h = statement_kept k before w h
await_kept k (a.Named x p) w h = named_kept k x p w h
await_kept k (a.Index u) w h = index_kept k u w.sign w.at h
await_kept k (a.IndexName u x) w h = if_kept (is_operator between.Add w.sign) _ _ h (fixed_kept k (fixed.IndexEnd u (record { var = Some x; plus = 0 })) w.sign w.at h)
await_kept k (a.LocalMore b x) w h = if_kept (is_mark m.Colon w.sign) _ _ h (if_kept (is_mark m.Equals w.sign) _ _ (binds_kept k b x None w.at h) tt)
await_kept k a.Text w h = text_word_kept k w.sign w.at h
await_kept k (a.Part ps) w h = part_kept k ps w.sign w.at h
await_kept k (a.PartNamed ps who) w h = if_kept (is_mark m.Colon w.sign) _ _ h (if_kept (is_mark m.FatArrow w.sign) _ _ (name_alone_kept k ps who w.at h) tt)
await_kept k (a.MoreParts ps) w h = if_kept (is_operator between.Join w.sign) _ _ h (if_kept (is_mark m.FatArrow w.sign) _ _ (parts_kept k ps w.at h) tt)
await_kept k a.ArmOrEnd w h = if_kept (is_mark m.CloseBrace w.sign) _ _ (arms_close_kept k w.at h) (part_kept k [] w.sign w.at h)

step_kept : (k : Frames) (m : Mode) (w : Word) → IsReached k m → Kept (step k m w)
step_kept k (awaits await) w h = await_kept k await w h
step_kept k (have x c p) w h = after_kept k x c p (next_word w) h
step_kept k (whole x) w h = ends_kept k x (next_word w) h.1

-- ---- all words in front

abbrev came : Frames → Mode → Turn
came k m = Ok (k, m)

no_fault : (e : Fault) (k : Frames) (m : Mode) (X : Type 0) → Err e ≡ came k m → X
no_fault e k m X h = absurd cc

passes_kept : (ws : Words) (t : Turn) (k : Frames) (m : Mode) → ((k' : Frames) (m' : Mode) → IsReached k' m' → pass k' m' ws ≡ came k m → IsReached k m) → Kept t → passes t (λ k' m'. pass k' m' ws) ≡ came k m → IsReached k m
passes_kept ws (Ok s) k m go kept h = go s.0 s.1 kept h
passes_kept ws (Err e) k m go kept h = no_fault e k m (IsReached k m) h

pub pass_kept : (ws : Words) (k' : Frames) (m' : Mode) (k : Frames) (m : Mode) → IsReached k' m' → pass k' m' ws ≡ came k m → IsReached k m
unfolding pass
pass_kept [] k' m' k m kept h = subst Kept h kept
pass_kept (w ∷ ws) k' m' k m kept h = passes_kept ws (step k' m' w) k m (λ k'' m'' kept' h'. pass_kept ws k'' m'' k m kept' h') (step_kept k' m' w kept) h

pub passed_reached : (ws : Words) (k : Frames) (m : Mode) → passed ws ≡ Ok (k, m) → IsReached k m
passed_reached ws k m h = pass_kept ws (program [] ∷ []) (awaits a.Begin) k m tt h
