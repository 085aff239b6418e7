-- Where a definition is awaited: the first word of one, or the end of the text; and one definition more.
use Rattle.std.proofs.Common.{◌≡◌, ℕ, ◌+◌, ◌≤◌, ◌<◌, Bool, true, false, List, [], ◌∷◌, ◌++◌, length, Ok, refl, sym, subst, ◌∙◌, append_assoc, append-nil, arith}
use Rattle.std.specs.List.{filter}
use Rattle.sail_syntax.specs.Tree.{Tree}
use Rattle.sail_syntax.specs.Program.{Definition}
use Rattle.sail_syntax.specs.declared.types.Ty.{Ty}
use Rattle.sail_grammar.specs.declared.keyword.Keyword.TheVariants as kw
use Rattle.sail_grammar.specs.declared.word.Sign.{Sign}
use Rattle.sail_grammar.specs.Words.{Words}
use Rattle.sail_grammar.specs.Expressions.{Spells}
use Rattle.sail_grammar.specs.Definitions.{SpellsDefinition, a_function, no_definition, more_definitions, SpellsProgram, AreFew, is_register, is_enum, is_a_function}
use Rattle.sail_machine.specs.declared.heads.FunctionHead.{FunctionHead}
use Rattle.sail_machine.specs.declared.awaited.Await.TheVariants as a
use Rattle.sail_machine.specs.declared.awaited.Naming.TheVariants as naming
use Rattle.sail_machine.specs.Frames as f
use Rattle.sail_machine.specs.Frames.{Frames}
use Rattle.sail_machine.specs.Turns.{first_word, definition, defined, function_of}
use Rattle.sail_machine.specs.Run.{Outcome, given}
use Rattle.sail_machine.proofs.Programs.{filter_parts}
use Rattle.sail_machine.proofs.Rests.{below, HasPlace, Definitions, Fits}
use Rattle.sail_machine.proofs.Awaiting.{Turned}
use Rattle.sail_machine.proofs.Found.{keyworded, begins_found, next_of, Follows}

one_kind : (kind : Definition → Bool) (d : Definition) (n : ℕ) → (kind d ≡ true → n < 1024) → n ≤ 1024 → n + length (filter kind (d ∷ [])) ≤ 1024
one_kind kind d n more few = by (kind d) refl
  where
    by : (b : Bool) → kind d ≡ b → n + length (filter kind (d ∷ [])) ≤ 1024
    by true e = let one : length (filter kind (d ∷ [])) ≡ 1 = rw e refl in omega (arith, more e, one)
    by false e = let none : length (filter kind (d ∷ [])) ≡ 0 = rw e refl in omega (arith, few, none)

few_more : (kind : Definition → Bool) (ds : List Definition) (d : Definition) → (kind d ≡ true → length (filter kind ds) < 1024) → length (filter kind ds) ≤ 1024 → length (filter kind (ds ++ d ∷ [])) ≤ 1024
few_more kind ds d more few = omega (arith, filter_parts kind ds (d ∷ []), one_kind kind d (length (filter kind ds)) more few)

abbrev outcome : List Definition → Outcome
outcome ds = Ok ds

same_outcome : (ds es : List Definition) → outcome ds ≡ outcome es → ds ≡ es
same_outcome ds es h = cc

module _ (D : List Definition) where
  -- a definition stands in front
  pub adds : {ts r : Words} (k : Frames) (d : Definition) → SpellsDefinition 128 ts d r → (is_register d ≡ true → HasPlace is_register k) → (is_enum d ≡ true → HasPlace is_enum k)
      → (is_a_function d ≡ true → HasPlace is_a_function k) → Definitions D (defined k d) r → Definitions D k ts
  adds (f.program ds ∷ []) d one registers enums functions h = λ us spelled few.
      h us (λ es des. subst (λ (l : List Definition). SpellsProgram 128 us l) (sym (append_assoc ds (d ∷ []) es)) (spelled (d ∷ es) (more_definitions one des)))
      (record { registers = few_more is_register ds d registers few.registers; enums = few_more is_enum ds d enums few.enums; functions = few_more is_a_function ds d functions few.functions })
  adds [] d one registers enums functions h = tt
  adds (f.program ds ∷ g ∷ k) d one registers enums functions h = tt
  adds (g ∷ k) d one registers enums functions h = tt

  -- the body of a function has ended
  pub body_found : {o : Bool} {r : Words} (k : Frames) (h : FunctionHead) (t : Ty) (x : Tree) → Definitions D (defined k (function_of h t x)) r → (us : Words) → Spells (below k 0) o us x r → Fits D (f.body h t ∷ k) us
  body_found (f.program ds ∷ []) h t x more us d = λ place vs vs' q s e params result.
      adds (f.program ds ∷ []) (function_of h t x) (a_function params result d) (λ is. absurd cc) (λ is. absurd cc) (λ is. place) more
  body_found [] h t x more us d = λ place vs vs' q s e params result. tt
  body_found (f.program ds ∷ g ∷ k) h t x more us d = λ place vs vs' q s e params result. tt
  body_found (g ∷ k) h t x more us d = λ place vs vs' q s e params result. tt

  first_found : (k : Frames) (s : Sign) (at : ℕ) (ws : Words) → Turned D (first_word k s at) ws → Definitions D k (record { sign = s; at = at } ∷ ws)
  first_found k s at ws h =
      keyworded D kw.Register s at (λ r. Definitions D k r) ws _ _ (begins_found D is_register k (a.Name (naming.Register at)) at ws (λ place g. g place))
      (keyworded D kw.Enum s at (λ r. Definitions D k r) ws _ _ (begins_found D is_enum k (a.Name (naming.Enum at)) at ws (λ place g. g place))
      (keyworded D kw.Val s at (λ r. Definitions D k r) ws _ _ (λ g. g)
      (keyworded D kw.Function s at (λ r. Definitions D k r) ws _ _ (begins_found D is_a_function k (a.Name (naming.Function at)) at ws (λ place g. g place)) (λ g. absurd g)))) h

  module _ (end : ℕ) where
    all_found : (k : Frames) → given k end ≡ Ok D → Definitions D k []
    all_found (f.program ds ∷ []) h = λ us spelled few.
        let all : ds ≡ D = same_outcome ds D h in
        record { spelled = subst (λ (l : List Definition). SpellsProgram 128 us l) (append-nil ds ∙ all) (spelled [] no_definition); few = subst AreFew all few }
    all_found [] h = tt
    all_found (f.program ds ∷ g ∷ k) h = tt
    all_found (g ∷ k) h = tt

    pub definition_found : (k : Frames) (r : Words) → Follows D end r (definition k (next_of D end r)) → Definitions D k r
    definition_found k [] h = all_found k h
    definition_found k (w ∷ ws) h = first_found k w.sign w.at ws h
