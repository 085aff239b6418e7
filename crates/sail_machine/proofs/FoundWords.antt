-- Fixed words, and each word where no expression has just ended.
use Rattle.std.proofs.Common.{ℕ, ◌+◌, ◌≤◌, List, [], ◌∷◌, Some, None, refl, sym, subst, arith}
use Rattle.sail_syntax.specs.Tree.{Text}
use Rattle.sail_syntax.specs.Program.{Definition, order}
use Rattle.sail_syntax.specs.declared.tree.Infix.TheVariants as between
use Rattle.sail_grammar.specs.declared.keyword.Keyword.TheVariants as kw
use Rattle.sail_grammar.specs.declared.mark.Mark.TheVariants as m
use Rattle.sail_grammar.specs.declared.word.Sign.{Sign}
use Rattle.sail_grammar.specs.declared.word.Sign.TheVariants as sign
use Rattle.sail_grammar.specs.declared.word.Word.{Word}
use Rattle.sail_grammar.specs.Words.{Words, the, its, named}
use Rattle.sail_grammar.specs.Expressions as g
use Rattle.sail_grammar.specs.Definitions.{ordered, unordered, AreFew}
use Rattle.sail_machine.specs.declared.awaited.Await.{Await}
use Rattle.sail_machine.specs.declared.awaited.Await.TheVariants as a
use Rattle.sail_machine.specs.declared.awaited.Fixed.{Fixed}
use Rattle.sail_machine.specs.declared.awaited.Fixed.TheVariants as fixed
use Rattle.sail_machine.specs.declared.awaited.Counting.TheVariants as counting
use Rattle.sail_machine.specs.declared.awaited.Sized.{Sized}
use Rattle.sail_machine.specs.declared.awaited.Sized.TheVariants as sized
use Rattle.sail_machine.specs.declared.awaited.Naming.TheVariants as naming
use Rattle.sail_machine.specs.declared.awaited.IndexUse.{IndexUse}
use Rattle.sail_machine.specs.Frames as f
use Rattle.sail_machine.specs.Frames.{Frames, nest, awaits}
use Rattle.sail_machine.specs.Signs.{is_operator, next_word}
use Rattle.sail_machine.specs.Turns.{unexpected, fixes, goes, definition, defined}
use Rattle.sail_machine.specs.Headers.{widens, asserts, awaited, is_sign, behind, fixed_word, sum_of}
use Rattle.sail_machine.specs.Machine.{begin, index_name, text_word, step_await}
use Rattle.sail_machine.proofs.Rests.{Definitions, Program, Fits}
use Rattle.sail_machine.proofs.Awaiting.{Indices, AwaitsFixed, AwaitsNumber, Awaits, Turned}
use Rattle.sail_machine.proofs.SignLemmas.{by_sign, by_this_operator}
use Rattle.sail_machine.proofs.Found.{atom_found, tested, keyworded, opened_found, shallow_found}
use Rattle.sail_machine.proofs.FoundDefinitions.{definition_found}
use Rattle.sail_machine.proofs.FoundOperands.{operand_word_found, want_found, inside_found, named_found}
use Rattle.sail_machine.proofs.FoundForms.{type_found, number_found, indexed_found, index_found, arms_with_found, part_found, part_named_found, more_parts_found, sized_found}
use Rattle.sail_machine.proofs.FoundLists.{name_found, member_or_end_found, more_members_found, type_or_end_found, more_types_found, param_or_end_found, more_params_found, binds_found, local_found, statement_word_found, arm_found}

few_none : AreFew []
few_none = record { registers = omega arith; enums = omega arith; functions = omega arith }

few_order : AreFew (order ∷ [])
few_order = record { registers = omega arith; enums = omega arith; functions = omega arith }

module _ (D : List Definition) where
  -- ---- the order of bits

  order_found : (k : Frames) (p q at : ℕ) (ws : Words) → Definitions D (defined k order) ws → Program D k (the kw.Default p ∷ the kw.Order q ∷ the kw.Dec at ∷ ws)
  order_found (f.program [] ∷ []) p q at ws h = h (the kw.Default p ∷ the kw.Order q ∷ the kw.Dec at ∷ ws) (λ es d. ordered d) few_order
  order_found [] p q at ws h = tt
  order_found (f.program (d ∷ ds) ∷ []) p q at ws h = tt
  order_found (f.program ds ∷ g' ∷ k) p q at ws h = tt
  order_found (g' ∷ k) p q at ws h = tt

  pub without_order : (k : Frames) (r : Words) → Definitions D k r → Program D k r
  without_order (f.program [] ∷ []) r h = h r (λ es d. unordered d) few_none
  without_order [] r h = tt
  without_order (f.program (d ∷ ds) ∷ []) r h = tt
  without_order (f.program ds ∷ g' ∷ k) r h = tt
  without_order (g' ∷ k) r h = tt

  -- ---- fixed words

  bits_found : (k : Frames) (z : Sized) (at : ℕ) (ws : Words) → nest k + 1 ≤ 128 → AwaitsNumber D k (counting.Width z) ws → AwaitsFixed D k (fixed.BitsOpen z) (its m.Open at ∷ ws)
  bits_found k (sized.Register x p) at ws room h = λ q. h room q at
  bits_found k (sized.Type u) at ws room h = λ q. h room q at
  bits_found k (sized.Part ps who) at ws room h = λ q. h room q at
  bits_found k sized.Widening at ws room h = λ q. tt

  widens_found : (k : Frames) (w at : ℕ) (ws : Words) → Turned D (widens k w at) ws → AwaitsFixed D k (fixed.WidenComma w) (its m.Comma at ∷ ws)
  widens_found (f.widening signed p ∷ k) w at ws h = λ is s room q. h tt room is q s at
  widens_found [] w at ws h = absurd h
  widens_found (g' ∷ k) w at ws h = absurd h

  asserts_found : (k : Frames) (z : Text) (at : ℕ) (ws : Words) → Turned D (asserts k z at) ws → AwaitsFixed D k (fixed.AssertClose z) (its m.Close at ∷ ws)
  asserts_found (f.asserted x p ∷ k) z at ws h = λ t room us o q s d. atom_found D k h refl room (g.asserted d)
  asserts_found [] z at ws h = absurd h
  asserts_found (g' ∷ k) z at ws h = absurd h

  behind_found : (k : Frames) (w : Fixed) (at : ℕ) (ws : Words) → Turned D (behind k w at) ws → AwaitsFixed D k w (record { sign = awaited w; at = at } ∷ ws)
  behind_found k fixed.OrderWord at ws h = λ p. h p at
  behind_found k fixed.OrderEnd at ws h = λ p q. order_found k p q at ws h
  behind_found k (fixed.RegisterColon x p) at ws h = λ place q. h place q at
  behind_found k (fixed.BitsWord z) at ws h = h at
  behind_found k (fixed.BitsOpen z) at ws h = shallow_found D k (a.Number (counting.Width z)) at ws (λ room more. bits_found k z at ws room more) h
  behind_found k (fixed.BitsClose z w) at ws h = sized_found D k z w at ws h
  behind_found k (fixed.EnumEquals x p) at ws h = λ place q. h place q at
  behind_found k (fixed.EnumOpen x p) at ws h = λ place q s. h place ws q s at (λ xs r names. names)
  behind_found k (fixed.ValColon x p) at ws h = λ q. h q at
  behind_found k (fixed.ValOpen x p) at ws h = λ q s. h refl q s at
  behind_found k (fixed.ValArrow e) at ws h = λ us q s d. h us q s at d
  behind_found k (fixed.FunctionOpen x p) at ws h = λ place q. h refl place q at
  behind_found k (fixed.ParamColon e x) at ws h = λ p. h p at
  behind_found k (fixed.FunctionArrow e) at ws h = λ place us q d. h place us q at d
  behind_found k (fixed.FunctionEquals e t) at ws h = λ place us vs q s params result. h tt place us vs q s at params result
  behind_found k (fixed.FlipOpen p) at ws h = opened_found D k (f.flipping p) (awaits a.Want) at ws (λ room more. more tt room at) h
  behind_found k (fixed.WidenOpen signed p) at ws h = opened_found D k (f.widening signed p) (awaits (a.Number (counting.Width sized.Widening))) at ws (λ room more. more room at) h
  behind_found k (fixed.WidenComma w) at ws h = widens_found k w at ws h
  behind_found k (fixed.AssertOpen p) at ws h = opened_found D k (f.asserting p) (awaits a.Want) at ws (λ room more. more tt room at) h
  behind_found k (fixed.AssertClose z) at ws h = asserts_found k z at ws h
  behind_found k (fixed.ExitOpen p) at ws h = shallow_found D k (a.Fixed (fixed.ExitClose p)) at ws (λ room more. more room at) h
  behind_found k (fixed.ExitClose p) at ws h = λ room q. atom_found D k h refl room g.exits
  behind_found k (fixed.EachOpen p) at ws h = shallow_found D k (a.Name (naming.Each p)) at ws (λ room more free. more free room at) h
  behind_found k (fixed.EachFrom x p) at ws h = λ free room q s. h free room q s at
  behind_found k (fixed.EachTo x i p) at ws h = λ free room first q s t e. h free room first q s t e at
  behind_found k (fixed.EachClose x i j p) at ws h = λ free room first last q s t e e' u. h free room first last q s t e e' u at
  behind_found k (fixed.EachBlock x i j p) at ws h = opened_found D (f.looping x i j p ∷ k) (f.statements [] at) (awaits (a.Statement None)) at ws (λ room more. more refl room) h
  behind_found k (fixed.LocalEquals b x t) at ws h = binds_found D k b x (Some t) at ws h
  behind_found k (fixed.Arrow pt) at ws h = λ us d. arms_with_found D k pt h us d
  behind_found k (fixed.IndexEnd u i) at ws h = λ us d. indexed_found D k u i h us d

  fixed_found : (k : Frames) (w : Fixed) (s : Sign) (at : ℕ) (ws : Words) → Turned D (fixed_word k w s at) ws → AwaitsFixed D k w (record { sign = s; at = at } ∷ ws)
  fixed_found k w s at ws h =
      tested D (is_sign (awaited w) s) (behind k w at) (unexpected at) ws
      (λ is more. subst (λ (z : Sign). AwaitsFixed D k w (record { sign = z; at = at } ∷ ws)) (sym (by_sign (awaited w) s is)) (behind_found k w at ws more)) (λ e g'. absurd g') h

  -- ---- other words

  index_name_found : (k : Frames) (u : IndexUse) (x : Text) (w : Word) (ws : Words) → Turned D (index_name k u x w) ws → (p : ℕ) → Indices D k u (named x p ∷ w ∷ ws)
  index_name_found k u x w ws h p =
      tested D (is_operator between.Add w.sign) (goes k (a.Number (counting.Plus u x))) (fixed_word k (fixed.IndexEnd u (sum_of x 0)) w.sign w.at) ws
      (λ is more. subst (λ (z : Sign). Indices D k u (named x p ∷ record { sign = z; at = w.at } ∷ ws)) (sym (by_this_operator between.Add w.sign is)) (more p w.at))
      (λ e h'. fixed_found k (fixed.IndexEnd u (sum_of x 0)) w.sign w.at ws h' (named x p ∷ w ∷ ws) g.at_name) h

  text_found : (k : Frames) (s : Sign) (at : ℕ) (ws : Words) → Turned D (text_word k s at) ws → Fits D k (record { sign = s; at = at } ∷ ws)
  text_found k (sign.Text z) at ws h = h at
  text_found k (sign.Keyword word) at ws h = absurd h
  text_found k (sign.Name x) at ws h = absurd h
  text_found k (sign.Number n) at ws h = absurd h
  text_found k (sign.Literal b) at ws h = absurd h
  text_found k (sign.Operator op) at ws h = absurd h
  text_found k (sign.Mark which) at ws h = absurd h

  module _ (end : ℕ) where
    begin_found : (k : Frames) (w : Word) (ws : Words) → Turned D (begin k w) ws → Program D k (w ∷ ws)
    begin_found k w ws h =
        keyworded D kw.Default w.sign w.at (λ r. Program D k r) ws (fixes k fixed.OrderWord) (definition k (next_word w)) (λ more. more w.at)
        (λ h'. without_order k (w ∷ ws) (definition_found D end k (w ∷ ws) h')) h

    pub await_found : (k : Frames) (await : Await) (w : Word) (ws : Words) → Turned D (step_await k await w) ws → Awaits D k await (w ∷ ws)
    await_found k a.Begin w ws h = begin_found k w ws h
    await_found k a.Definition w ws h = definition_found D end k (w ∷ ws) h
    await_found k (a.Fixed e) w ws h = fixed_found k e w.sign w.at ws h
    await_found k (a.Name u) w ws h = name_found D k u w.sign w.at ws h
    await_found k (a.Number c) w ws h = number_found D k c w.sign w.at ws h
    await_found k (a.Type u) w ws h = type_found D k u w.sign w.at ws h
    await_found k (a.MemberOrEnd e) w ws h = member_or_end_found D k e w ws h
    await_found k (a.MoreMembers e) w ws h = more_members_found D k e w ws h
    await_found k (a.TypeOrEnd e) w ws h = type_or_end_found D k e w ws h
    await_found k (a.MoreTypes e) w ws h = more_types_found D k e w ws h
    await_found k (a.ParamOrEnd e) w ws h = param_or_end_found D k e w ws h
    await_found k (a.MoreParams e) w ws h = more_params_found D k e w ws h
    await_found k a.Want w ws h = want_found D k w ws h
    await_found k a.Operand w ws h = operand_word_found D k w ws h
    await_found k a.Inside w ws h = inside_found D k w ws h
    await_found k (a.Statement before) w ws h = statement_word_found D k before w ws h
    await_found k (a.Named x p) w ws h = named_found D end k x p w ws h
    await_found k (a.Index u) w ws h = index_found D k u w.sign w.at ws h
    await_found k (a.IndexName u x) w ws h = index_name_found k u x w ws h
    await_found k (a.LocalMore b x) w ws h = local_found D k b x w ws h
    await_found k a.Text w ws h = text_found k w.sign w.at ws h
    await_found k (a.Part ps) w ws h = part_found D k ps w.sign w.at ws h
    await_found k (a.PartNamed ps who) w ws h = part_named_found D k ps who w ws h
    await_found k (a.MoreParts ps) w ws h = more_parts_found D k ps w ws h
    await_found k a.ArmOrEnd w ws h = arm_found D k w ws h
