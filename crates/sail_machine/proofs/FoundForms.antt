-- Types, widths, numbers, indices and patterns.
use Rattle.std.proofs.Common.{◌≡◌, ℕ, suc, ◌+◌, ◌≤◌, true, false, List, [], ◌∷◌, ◌++◌, Option, Some, None, refl, sym, subst, append_assoc, leb-true}
use Rattle.std.specs.Prelude.{if◌then◌else◌, nat_le}
use Rattle.sail_syntax.specs.Tree.{Text, node, slice}
use Rattle.sail_syntax.specs.Program.{Definition, signature, register}
use Rattle.sail_syntax.specs.declared.tree.Index.{Index}
use Rattle.sail_syntax.specs.declared.tree.Infix.TheVariants as between
use Rattle.sail_syntax.specs.declared.types.Ty.{Ty}
use Rattle.sail_syntax.specs.declared.types.Ty.TheVariants as ty
use Rattle.sail_syntax.specs.declared.patterns.Part.{Part}
use Rattle.sail_syntax.specs.declared.patterns.Part.TheVariants as part
use Rattle.sail_syntax.specs.declared.patterns.Pattern.{Pattern}
use Rattle.sail_syntax.specs.declared.patterns.Pattern.TheVariants as pattern
use Rattle.sail_grammar.specs.declared.keyword.Keyword.TheVariants as kw
use Rattle.sail_grammar.specs.declared.mark.Mark.TheVariants as m
use Rattle.sail_grammar.specs.declared.word.Sign.{Sign}
use Rattle.sail_grammar.specs.declared.word.Sign.TheVariants as sign
use Rattle.sail_grammar.specs.declared.word.Word.{Word}
use Rattle.sail_grammar.specs.Words as words
use Rattle.sail_grammar.specs.Words.{Words, the, its, named, joining}
use Rattle.sail_grammar.specs.Expressions as g
use Rattle.sail_grammar.specs.Expressions.{Spells, SpellsOperand, SpellsType, SpellsIndex, SpellsPart, SpellsPattern}
use Rattle.sail_grammar.specs.Definitions as d
use Rattle.sail_grammar.specs.Definitions.{is_register}
use Rattle.sail_machine.specs.declared.awaited.Await.TheVariants as a
use Rattle.sail_machine.specs.declared.awaited.Fixed.TheVariants as fixed
use Rattle.sail_machine.specs.declared.awaited.Counting.{Counting}
use Rattle.sail_machine.specs.declared.awaited.Counting.TheVariants as counting
use Rattle.sail_machine.specs.declared.awaited.Sized.{Sized}
use Rattle.sail_machine.specs.declared.awaited.Sized.TheVariants as sized
use Rattle.sail_machine.specs.declared.awaited.TypeUse.{TypeUse}
use Rattle.sail_machine.specs.declared.awaited.TypeUse.TheVariants as typing
use Rattle.sail_machine.specs.declared.awaited.IndexUse.{IndexUse}
use Rattle.sail_machine.specs.declared.awaited.IndexUse.TheVariants as index
use Rattle.sail_machine.specs.Frames as f
use Rattle.sail_machine.specs.Frames.{Frames, nest, awaits}
use Rattle.sail_machine.specs.Signs.{is_keyword, is_mark, is_operator}
use Rattle.sail_machine.specs.Turns.{unexpected, fixes, goes}
use Rattle.sail_machine.specs.Headers.{typed, type_word, may_be, counted, number_word, sized_by, arms_with, slices, replaces, indexed, index_end}
use Rattle.sail_machine.specs.Machine.{index_word, part_word, truth_alone, name_alone, one_part, parts_alone, part_named, more_parts}
use Rattle.sail_machine.proofs.Rests.{left, below, Fits}
use Rattle.sail_machine.proofs.Awaiting.{IsTypeIn, Typed, Patterns, part_first, Indices, AwaitsNumber, Awaits, Turned}
use Rattle.sail_machine.proofs.SignLemmas.{by_this_operator}
use Rattle.sail_machine.proofs.Found.{one_level, slice_room, width_told, tested, keyworded, marked}
use Rattle.sail_machine.proofs.FoundDefinitions.{adds}

module _ (D : List Definition) where
  -- ---- types

  pub typed_found : {ws : Words} (k : Frames) (u : TypeUse) (t : Ty) → Turned D (typed k u t) ws → (us : Words) → IsTypeIn us t ws → SpellsType (left k) us t ws → Typed D k u us
  typed_found k (typing.Argument h) t more us each here = more h.args t us refl each
  typed_found k (typing.Answer h) t more us each here = λ vs q s e args.
      adds D k (signature h.name h.args t h.at) (d.a_val args (each 127)) (λ is. absurd cc) (λ is. absurd cc) (λ is. absurd cc) more
  typed_found k (typing.Param h x) t more us each here = λ p c. more h.params x t us p c refl each
  typed_found k (typing.Returned h) t more us each here = λ place vs q e params. more place vs us q e params (each 127)
  typed_found k (typing.Local b x) t more us each here = λ at q s. more (its m.Colon s ∷ us) at q (g.a_type here)

  named_type : (k : Frames) (u : TypeUse) (x : Text) (at : ℕ) (ws : Words) → Turned D (typed k u (ty.Enum x)) ws → Typed D k u (named x at ∷ ws)
  named_type k u x at ws h = typed_found k u (ty.Enum x) h (named x at ∷ ws) (λ n. g.enum_type) g.enum_type

  other_type : (k : Frames) (u : TypeUse) (s : Sign) (at : ℕ) (ws : Words)
      → Turned D (if is_keyword kw.Bits s then fixes k (fixed.BitsOpen (sized.Type u)) else if is_keyword kw.Bool s then typed k u ty.Bool else if is_keyword kw.Unit s then typed k u ty.Unit else unexpected at) ws
      → Typed D k u (record { sign = s; at = at } ∷ ws)
  other_type k u s at ws h =
      keyworded D kw.Bits s at (λ r. Typed D k u r) ws _ _ (λ more. more at)
      (keyworded D kw.Bool s at (λ r. Typed D k u r) ws _ _ (λ more. typed_found k u ty.Bool more (the kw.Bool at ∷ ws) (λ n. g.bool_type) g.bool_type)
      (keyworded D kw.Unit s at (λ r. Typed D k u r) ws _ _ (λ more. typed_found k u ty.Unit more (the kw.Unit at ∷ ws) (λ n. g.unit_type) g.unit_type) (λ g'. absurd g'))) h

  pub type_found : (k : Frames) (u : TypeUse) (s : Sign) (at : ℕ) (ws : Words) → Turned D (type_word k u s at) ws → Typed D k u (record { sign = s; at = at } ∷ ws)
  type_found k u (sign.Name x) at ws h = named_type k u x at ws h
  type_found k u (sign.Keyword word) at ws h = other_type k u (sign.Keyword word) at ws h
  type_found k u (sign.Number n) at ws h = absurd h
  type_found k u (sign.Literal b) at ws h = absurd h
  type_found k u (sign.Text z) at ws h = absurd h
  type_found k u (sign.Operator op) at ws h = absurd h
  type_found k u (sign.Mark which) at ws h = absurd h

  -- ---- numbers

  sized_number : (k : Frames) (c : Counting) (n at : ℕ) (ws : Words) → may_be c n ≡ true → Awaits D k (a.Fixed (counted c n)) ws → AwaitsNumber D k c (words.counted n at ∷ ws)
  sized_number k (counting.Width (sized.Register x p)) n at ws is more = λ room q s. more room (width_told n is) q s at
  sized_number k (counting.Width (sized.Type u)) n at ws is more = λ room q s. more room (width_told n is) q s at
  sized_number k (counting.Width (sized.Part ps who)) n at ws is more = λ room q s. more room (width_told n is) q s at
  sized_number k (counting.Width sized.Widening) n at ws is more = more (width_told n is) at
  sized_number k (counting.First x p) n at ws is more = λ free room q s t. more free room (leb-true n 127 is) q s t at
  sized_number k (counting.Last x i p) n at ws is more = λ free room first q s t e e'. more free room first (leb-true n 127 is) q s t e e' at
  sized_number k (counting.Plus u x) n at ws is more = λ p q. more (named x p ∷ joining between.Add q ∷ words.counted n at ∷ ws) (g.at_sum (leb-true n 127 is))

  pub number_found : (k : Frames) (c : Counting) (s : Sign) (at : ℕ) (ws : Words) → Turned D (number_word k c s at) ws → AwaitsNumber D k c (record { sign = s; at = at } ∷ ws)
  number_found k c (sign.Number n) at ws h = tested D (may_be c n) (fixes k (counted c n)) (unexpected at) ws (λ is more. sized_number k c n at ws is more) (λ e g'. absurd g') h
  number_found k c (sign.Keyword word) at ws h = absurd h
  number_found k c (sign.Name x) at ws h = absurd h
  number_found k c (sign.Literal b) at ws h = absurd h
  number_found k c (sign.Text z) at ws h = absurd h
  number_found k c (sign.Operator op) at ws h = absurd h
  number_found k c (sign.Mark which) at ws h = absurd h

  -- ---- indices

  slices_found : {s e : ℕ} {us vs ws : Words} (k : Frames) (hi lo : Index) (at : ℕ) → Turned D (slices k hi lo at) ws → SpellsIndex vs hi (its m.Dots s ∷ us) → SpellsIndex us lo (its m.CloseSquare e ∷ ws) → Fits D k vs
  slices_found {ws = ws} (f.slicing x c p ∷ k) hi lo at h i j = λ room us q same of.
      h us same (subst (λ (z : ℕ). SpellsOperand (left k) (suc c) us (node z (slice x hi lo)) ws) same (g.sliced of (slice_room k c room) i j))
  slices_found [] hi lo at h i j = tt
  slices_found (g' ∷ k) hi lo at h i j = absurd h

  replaces_found : {s e : ℕ} {us vs ws : Words} (k : Frames) (hi lo : Index) (at : ℕ) → Turned D (replaces k hi lo at) ws → SpellsIndex vs hi (its m.Dots s ∷ us) → SpellsIndex us lo (its m.Equals e ∷ ws) → Fits D k vs
  replaces_found {s = s} {e = e} {us = us} {vs = vs} (f.indexing x p ∷ k) hi lo at h i j = λ room us' o q of. h tt room us' vs us o q s e of i j
  replaces_found [] hi lo at h i j = tt
  replaces_found (g' ∷ k) hi lo at h i j = absurd h

  pub indexed_found : {at : ℕ} {ws : Words} (k : Frames) (u : IndexUse) (i : Index) → Turned D (indexed k u i at) ws → (us : Words) → SpellsIndex us i (record { sign = index_end u; at = at } ∷ ws) → Indices D k u us
  indexed_found {at = at} k index.High i h us d = h us at d
  indexed_found {at = at} k (index.Low hi) i h us d = λ vs s upper. slices_found k hi i at h upper d
  indexed_found {at = at} k index.WithHigh i h us d = h us at d
  indexed_found {at = at} k (index.WithLow hi) i h us d = λ vs s upper. replaces_found k hi i at h upper d

  pub index_found : (k : Frames) (u : IndexUse) (s : Sign) (at : ℕ) (ws : Words) → Turned D (index_word k u s at) ws → Indices D k u (record { sign = s; at = at } ∷ ws)
  index_found k u (sign.Number i) at ws h =
      tested D (nat_le i 127) (fixes k (fixed.IndexEnd u (record { var = None; plus = i }))) (unexpected at) ws (λ is more. more (words.counted i at ∷ ws) (g.at_number (leb-true i 127 is))) (λ e g'. absurd g') h
  index_found k u (sign.Name x) at ws h = h at
  index_found k u (sign.Keyword word) at ws h = absurd h
  index_found k u (sign.Literal b) at ws h = absurd h
  index_found k u (sign.Text z) at ws h = absurd h
  index_found k u (sign.Operator op) at ws h = absurd h
  index_found k u (sign.Mark which) at ws h = absurd h

  -- ---- patterns

  -- a pattern has been read
  pub arms_with_found : {at : ℕ} {ws : Words} (k : Frames) (pt : Pattern) → Turned D (arms_with k pt at) ws → (us : Words) → SpellsPattern (left k) us pt (its m.FatArrow at ∷ ws) → Fits D k us
  arms_with_found {at = at} (f.arms x cs p ∷ k) pt h us d = h tt us at d
  arms_with_found [] pt h us d = tt
  arms_with_found (g' ∷ k) pt h us d = absurd h

  a_literal : {n : ℕ} {b : _} {us r : Words} → SpellsPart n us (part.Lit b) r → SpellsPattern n us (pattern.Lit b) r
  a_literal g.part_value = g.a_value

  one_part_found : {at : ℕ} {ws : Words} (k : Frames) (c : Part) → Turned D (one_part k c at) ws → (us : Words) → SpellsPart (left k) us c (its m.FatArrow at ∷ ws) → Fits D k us
  one_part_found k (part.Lit b) h us d = arms_with_found k (pattern.Lit b) h us (a_literal d)
  one_part_found k (part.Bind x w) h us d = absurd h
  one_part_found k (part.Skip w) h us d = absurd h

  two_parts_found : (k : Frames) (b : Part) (ps : List Part) (c : Part) (at : ℕ) (ws : Words) → Turned D (parts_alone k (b ∷ (ps ++ c ∷ [])) at) ws → Turned D (arms_with k (pattern.Parts (b ∷ (ps ++ c ∷ []))) at) ws
  two_parts_found k b [] c at ws h = h
  two_parts_found k b (b' ∷ ps) c at ws h = h

  parts_found : {at : ℕ} {ws : Words} (k : Frames) (ps : List Part) (c : Part) → Turned D (parts_alone k (ps ++ c ∷ []) at) ws → (us : Words) → SpellsPart (left k) us c (its m.FatArrow at ∷ ws) → Patterns D k ps us
  parts_found k [] c h us d = one_part_found k c h us d
  parts_found {at = at} {ws = ws} k (b ∷ ps) c h us d = λ vs front.
      arms_with_found k (pattern.Parts (b ∷ (ps ++ c ∷ []))) (two_parts_found k b ps c at ws h) vs (front (c ∷ []) ws at (g.last_part d))

  joined_found : {at : ℕ} {ws : Words} (k : Frames) (ps : List Part) (c : Part) → Patterns D k (ps ++ c ∷ []) ws → (us : Words) → SpellsPart (left k) us c (joining between.Join at ∷ ws) → Patterns D k ps us
  joined_found k [] c h us d = h us (λ all r q ds. g.in_parts d ds)
  joined_found k (b ∷ ps) c h us d = λ vs front.
      h vs (λ all r q ds. subst (λ (l : List Part). SpellsPattern (left k) vs (pattern.Parts (b ∷ l)) (its m.FatArrow q ∷ r)) (sym (append_assoc ps (c ∷ []) all)) (front (c ∷ all) r q (g.more_parts d ds)))

  parts_end : (k : Frames) (ps : List Part) (c : Part) (w : Word) (ws : Words) → Turned D (more_parts k (ps ++ c ∷ []) w) ws → (us : Words) → SpellsPart (left k) us c (w ∷ ws) → Patterns D k ps us
  parts_end k ps c w ws h us =
      tested D (is_operator between.Join w.sign) (goes k (a.Part (ps ++ c ∷ []))) (if is_mark m.FatArrow w.sign then parts_alone k (ps ++ c ∷ []) w.at else unexpected w.at) ws
      (λ is more. subst (λ (z : Sign). SpellsPart (left k) us c (record { sign = z; at = w.at } ∷ ws) → Patterns D k ps us) (sym (by_this_operator between.Join w.sign is)) (joined_found k ps c more us))
      (λ e h'. marked D m.FatArrow w.sign w.at (λ r. SpellsPart (left k) us c r → Patterns D k ps us) ws (parts_alone k (ps ++ c ∷ []) w.at) (unexpected w.at) (λ more. parts_found k ps c more us) (λ g'. absurd g') h') h

  pub more_parts_found : (k : Frames) (ps : List Part) (w : Word) (ws : Words) → Turned D (more_parts k ps w) ws → Awaits D k (a.MoreParts ps) (w ∷ ws)
  more_parts_found k ps w ws h = λ xs x us e d. parts_end k xs x w ws (subst (λ (l : List Part). Turned D (more_parts k l w) ws) e h) us d

  truth_found : (k : Frames) (ps : List Part) (at : ℕ) (ws : Words) → Turned D (truth_alone k ps true at) ws → Patterns D k ps (the kw.True at ∷ ws)
  truth_found k [] at ws h = h (the kw.True at ∷ ws) g.if_true
  truth_found k (b ∷ ps) at ws h = absurd h

  falsehood_found : (k : Frames) (ps : List Part) (at : ℕ) (ws : Words) → Turned D (truth_alone k ps false at) ws → Patterns D k ps (the kw.False at ∷ ws)
  falsehood_found k [] at ws h = h (the kw.False at ∷ ws) g.if_false
  falsehood_found k (b ∷ ps) at ws h = absurd h

  other_part : (k : Frames) (ps : List Part) (s : Sign) (at : ℕ) (ws : Words)
      → Turned D (if is_keyword kw.Wildcard s then goes k (a.PartNamed ps None) else if is_keyword kw.True s then truth_alone k ps true at else if is_keyword kw.False s then truth_alone k ps false at else unexpected at) ws
      → Patterns D k ps (record { sign = s; at = at } ∷ ws)
  other_part k ps s at ws h =
      keyworded D kw.Wildcard s at (λ r. Patterns D k ps r) ws _ _ (λ more. more at)
      (keyworded D kw.True s at (λ r. Patterns D k ps r) ws _ _ (truth_found k ps at ws)
      (keyworded D kw.False s at (λ r. Patterns D k ps r) ws _ _ (falsehood_found k ps at ws) (λ g'. absurd g'))) h

  pub part_found : (k : Frames) (ps : List Part) (s : Sign) (at : ℕ) (ws : Words) → Turned D (part_word k ps s at) ws → Patterns D k ps (record { sign = s; at = at } ∷ ws)
  part_found k ps (sign.Literal b) at ws h = h ps (part.Lit b) (words.valued b at ∷ ws) refl g.part_value
  part_found k ps (sign.Name x) at ws h = h at
  part_found k ps (sign.Keyword word) at ws h = other_part k ps (sign.Keyword word) at ws h
  part_found k ps (sign.Number n) at ws h = absurd h
  part_found k ps (sign.Text z) at ws h = absurd h
  part_found k ps (sign.Operator op) at ws h = absurd h
  part_found k ps (sign.Mark which) at ws h = absurd h

  name_alone_found : (k : Frames) (ps : List Part) (who : Option Text) (p at : ℕ) (ws : Words) → Turned D (name_alone k ps who at) ws → Patterns D k ps (part_first who p ∷ its m.FatArrow at ∷ ws)
  name_alone_found k [] (Some x) p at ws h = arms_with_found k (pattern.Name x) h (named x p ∷ its m.FatArrow at ∷ ws) g.a_name
  name_alone_found k [] None p at ws h = arms_with_found k pattern.Any h (the kw.Wildcard p ∷ its m.FatArrow at ∷ ws) g.any_value
  name_alone_found k (b ∷ ps) who p at ws h = absurd h

  pub part_named_found : (k : Frames) (ps : List Part) (who : Option Text) (w : Word) (ws : Words) → Turned D (part_named k ps who w) ws → (p : ℕ) → Patterns D k ps (part_first who p ∷ w ∷ ws)
  part_named_found k ps who w ws h p =
      marked D m.Colon w.sign w.at (λ r. Patterns D k ps (part_first who p ∷ r)) ws (fixes k (fixed.BitsWord (sized.Part ps who))) (if is_mark m.FatArrow w.sign then name_alone k ps who w.at else unexpected w.at)
      (λ more. more p w.at)
      (marked D m.FatArrow w.sign w.at (λ r. Patterns D k ps (part_first who p ∷ r)) ws (name_alone k ps who w.at) (unexpected w.at) (name_alone_found k ps who p w.at ws) (λ g'. absurd g')) h

  -- ---- a width in brackets

  bits_level : {w p q s e : ℕ} {r : Words} (k : Frames) → nest k + 1 ≤ 128 → SpellsType (suc (below k 1)) (the kw.Bits p ∷ its m.Open q ∷ words.counted w s ∷ its m.Close e ∷ r) (ty.Bits w) r
      → SpellsType (left k) (the kw.Bits p ∷ its m.Open q ∷ words.counted w s ∷ its m.Close e ∷ r) (ty.Bits w) r
  bits_level {w = w} {p = p} {q = q} {s = s} {e = e} {r = r} k room t = subst (λ (n : ℕ). SpellsType n (the kw.Bits p ∷ its m.Open q ∷ words.counted w s ∷ its m.Close e ∷ r) (ty.Bits w) r) (one_level k room) t

  pub sized_found : (k : Frames) (z : Sized) (w at : ℕ) (ws : Words) → Turned D (sized_by k z w) ws → Awaits D k (a.Fixed (fixed.BitsClose z w)) (its m.Close at ∷ ws)
  sized_found k (sized.Register x p) w at ws more = λ room is p' q s place q' s'.
      adds D k (register x w p) (d.a_register is) (λ e. place) (λ e. absurd cc) (λ e. absurd cc) more
  sized_found k (sized.Type u) w at ws more = λ room is p q s.
      typed_found k u (ty.Bits w) more (the kw.Bits p ∷ its m.Open q ∷ words.counted w s ∷ its m.Close at ∷ ws) (λ n. g.bits_type is) (bits_level k room (g.bits_type is))
  sized_found k (sized.Part ps (Some x)) w at ws more = λ room is p q s p' q'.
      more ps (part.Bind x w) (named x p' ∷ its m.Colon q' ∷ the kw.Bits p ∷ its m.Open q ∷ words.counted w s ∷ its m.Close at ∷ ws) refl
      (subst (λ (n : ℕ). SpellsPart n (named x p' ∷ its m.Colon q' ∷ the kw.Bits p ∷ its m.Open q ∷ words.counted w s ∷ its m.Close at ∷ ws) (part.Bind x w) ws) (one_level k room) (g.part_name is))
  sized_found k (sized.Part ps None) w at ws more = λ room is p q s p' q'.
      more ps (part.Skip w) (the kw.Wildcard p' ∷ its m.Colon q' ∷ the kw.Bits p ∷ its m.Open q ∷ words.counted w s ∷ its m.Close at ∷ ws) refl
      (subst (λ (n : ℕ). SpellsPart n (the kw.Wildcard p' ∷ its m.Colon q' ∷ the kw.Bits p ∷ its m.Open q ∷ words.counted w s ∷ its m.Close at ∷ ws) (part.Skip w) ws) (one_level k room) (g.part_any is))
  sized_found k sized.Widening w at ws more = λ room is p q s. tt
