-- The literals of a typed program are bit vectors.
use Rattle.std.proofs.Common.{ℕ, ◌+◌, Bool, true, false, List, [], ◌∷◌, ◌++◌, reverse, Option, Some, None, sym, subst}
use Rattle.std.proofs.lemmas.List.{reverse-append}
use Rattle.sail_syntax.specs.Tree.{Tree, node, Form, unit, lit, truth, name, chain, flip, slice, update, call, widen, choose, when, cases, foreach, check, exit, assign, block, Trees, none, some, arm, Cases, no_case, case, binds, holds, does, Steps, done, next}
use Rattle.sail_syntax.specs.Program.{Definition, order, register, enumeration, signature, function}
use Rattle.sail_syntax.specs.declared.tree.Infix.{Infix}
use Rattle.sail_syntax.specs.declared.types.Ty.{Ty}
use Rattle.sail_syntax.specs.declared.types.Ty.TheVariants as ty
use Rattle.sail_syntax.specs.declared.patterns.Pattern.{Pattern}
use Rattle.sail_syntax.specs.declared.patterns.Pattern.TheVariants as pattern
use Rattle.sail_syntax.specs.declared.patterns.Part.{Part}
use Rattle.sail_syntax.specs.declared.patterns.Part.TheVariants as part
use Rattle.type_rules.specs.declared.scope.Entry.{Entry}
use Rattle.type_rules.specs.declared.scope.Item.{Item}
use Rattle.type_rules.specs.declared.scope.Item.TheVariants as item
use Rattle.type_rules.specs.declared.scope.Slot.{Slot}
use Rattle.type_rules.specs.declared.scope.Local.{Local}
use Rattle.type_rules.specs.Names.{find, globals_of}
use Rattle.type_rules.specs.Heights.{Height}
use Rattle.type_rules.specs.Rules.{is_join, part_width}
use Rattle.type_rules.specs.HasType.{Where, Calls, ArePartsOf, PatternFits, HasType, FormHas, ChainHas, AllHave, JoinHas, ArgsHave, OthersHave, ArmsHave, RestHave, StepsHave}
use Rattle.type_rules.specs.IsTyped.{AreTypedDefinitions, IsTypedProgram}
use Rattle.sym_follows.proofs.Sound.{AreSoundParts, IsSoundPattern, IsSound, IsSoundForm, AreSound, AreSoundArms, AreSoundSteps, AreSoundDefinitions}

where_sound : (b : Bool) (A B C : Type 0) → Where b A B → (A → C) → (B → C) → C
where_sound true A B C h f g = f h
where_sound false A B C h f g = g h

calls_args : (here : ℕ) (o : Option Item) (Args : List Slot → Option Ty → Type 0) (C : Type 0) → Calls here o Args → ((ps : List Slot) (r : Option Ty) → Args ps r → C) → C
calls_args here (Some (item.Function ps r after)) Args C h f = f ps r h.1
calls_args here (Some (item.Register w)) Args C h f = absurd h
calls_args here (Some (item.Member e)) Args C h f = absurd h
calls_args here (Some item.Enum) Args C h f = absurd h
calls_args here None Args C h f = absurd h

module _ (globals : List Entry) where
  -- ---- patterns

  parts_sound : (ps : List Part) (before total : ℕ) → ArePartsOf globals ps before total → AreSoundParts ps
  parts_sound [] before total h = tt
  parts_sound (part.Lit b ∷ ps) before total h = (h.0, parts_sound ps (before + part_width (part.Lit b)) total h.1)
  parts_sound (part.Bind x w ∷ ps) before total h = (tt, parts_sound ps (before + part_width (part.Bind x w)) total h.1)
  parts_sound (part.Skip w ∷ ps) before total h = (tt, parts_sound ps (before + part_width (part.Skip w)) total h.1)

  pattern_sound : (p : Pattern) (t : Ty) → PatternFits globals p t → IsSoundPattern p
  pattern_sound pattern.Any t h = tt
  pattern_sound (pattern.Name x) t h = tt
  pattern_sound (pattern.Lit b) t h = h.0
  pattern_sound (pattern.Truth b) t h = tt
  pattern_sound (pattern.Parts ps) t h = parts_sound ps 0 h.0 h.1.0

  -- ---- expressions

  module _ (here : ℕ) where
    mutual
      pub tree_sound : (e : Tree) (want : Option Ty) (scope : List Local) (t : Ty) → HasType globals here e want scope t → IsSound e
      tree_sound (node at form) want scope t h = form_sound form want scope t h

      form_sound : (form : Form) (want : Option Ty) (scope : List Local) (t : Ty) → FormHas globals here form want scope t → IsSoundForm form
      form_sound unit want scope t h = tt
      form_sound (lit b) want scope t h = h.0
      form_sound (truth b) want scope t h = tt
      form_sound (name x) want scope t h = tt
      form_sound (chain op parts) want scope t h =
          where_sound (is_join op) (JoinHas globals here parts 0 scope t) (ChainHas globals here parts op scope t) (AreSound parts) h.1 (join_sound parts 0 scope t) (chain_sound parts op scope t)
      form_sound (flip of) want scope t h = tree_sound of None scope t h.0
      form_sound (slice of hi lo) want scope t h = tree_sound of None scope (ty.Bits h.0) h.1.0
      form_sound (update of hi lo by) want scope t h = (tree_sound of None scope (ty.Bits h.0) h.1.0, tree_sound by _ scope _ h.1.2)
      form_sound (call f args) want scope t h =
          calls_args here (find f globals) (λ params result. ArgsHave globals here args params result scope t) (AreSound args) h.0 (λ ps r k. args_sound args ps r scope t k)
      form_sound (widen signed to of) want scope t h = tree_sound of None scope (ty.Bits h.0) h.1.0
      form_sound (choose test one other) want scope t h =
          (tree_sound test (Some ty.Bool) scope ty.Bool h.0, tree_sound one want scope t h.1, tree_sound other (Some t) scope t h.2)
      form_sound (when test one) want scope t h = (tree_sound test (Some ty.Bool) scope ty.Bool h.0, tree_sound one (Some ty.Unit) scope ty.Unit h.1)
      form_sound (cases of arms) want scope t h = (tree_sound of None scope h.0 h.1.0, arms_sound arms h.0 want scope t h.1.1)
      form_sound (foreach x from to body) want scope t h = tree_sound body (Some ty.Unit) _ ty.Unit h.1
      form_sound (check test text) want scope t h = tree_sound test (Some ty.Bool) scope ty.Bool h.0
      form_sound exit want scope t h = tt
      form_sound (assign x by) want scope t h = tree_sound by (Some h.0) scope h.0 h.1.1
      form_sound (block steps) want scope t h = steps_sound steps want scope t h

      chain_sound : (ts : Trees) (op : Infix) (scope : List Local) (t : Ty) → ChainHas globals here ts op scope t → AreSound ts
      chain_sound none op scope t h = tt
      chain_sound (some p rest) op scope t h = (tree_sound p None scope h.0 h.1.0, all_sound rest h.0 scope h.1.2)

      all_sound : (ts : Trees) (u : Ty) (scope : List Local) → AllHave globals here ts u scope → AreSound ts
      all_sound none u scope h = tt
      all_sound (some p rest) u scope h = (tree_sound p (Some u) scope u h.0, all_sound rest u scope h.1)

      join_sound : (ts : Trees) (total : ℕ) (scope : List Local) (t : Ty) → JoinHas globals here ts total scope t → AreSound ts
      join_sound none total scope t h = tt
      join_sound (some p rest) total scope t h = (tree_sound p None scope (ty.Bits h.0) h.1.0, join_sound rest (total + h.0) scope t h.1.1)

      args_sound : (ts : Trees) (ps : List Slot) (r : Option Ty) (scope : List Local) (t : Ty) → ArgsHave globals here ts ps r scope t → AreSound ts
      args_sound none ps r scope t h = tt
      args_sound (some a rest) [] r scope t h = absurd h
      args_sound (some a rest) (q ∷ qs) r scope t h = (tree_sound a _ scope h.0 h.1.0, others_sound rest qs h.0 scope h.1.2)

      others_sound : (ts : Trees) (ps : List Slot) (u : Ty) (scope : List Local) → OthersHave globals here ts ps u scope → AreSound ts
      others_sound none ps u scope h = tt
      others_sound (some a rest) [] u scope h = absurd h
      others_sound (some a rest) (q ∷ qs) u scope h = (tree_sound a _ scope h.0 h.1.0, others_sound rest qs u scope h.1.2)

      arms_sound : (arms : Cases) (u : Ty) (want : Option Ty) (scope : List Local) (t : Ty) → ArmsHave globals here arms u want scope t → AreSoundArms arms
      arms_sound no_case u want scope t h = tt
      arms_sound (case (arm p body) rest) u want scope t h = (pattern_sound p u h.0, tree_sound body want _ t h.1, rest_sound rest u scope t h.2)

      rest_sound : (arms : Cases) (u : Ty) (scope : List Local) (t : Ty) → RestHave globals here arms u scope t → AreSoundArms arms
      rest_sound no_case u scope t h = tt
      rest_sound (case (arm p body) rest) u scope t h = (pattern_sound p u h.0, tree_sound body (Some t) _ t h.1, rest_sound rest u scope t h.2)

      steps_sound : (ss : Steps) (want : Option Ty) (scope : List Local) (t : Ty) → StepsHave globals here ss want scope t → AreSoundSteps ss
      steps_sound done want scope t h = tt
      steps_sound (next (does e) done) want scope t h = (tree_sound e want scope t h, tt)
      steps_sound (next (does e) (next s rest)) want scope t h = (tree_sound e (Some ty.Unit) scope ty.Unit h.0, steps_sound (next s rest) want scope t h.1)
      steps_sound (next (binds x d by) rest) want scope t h = (tree_sound by d scope h.0 h.1.2, steps_sound rest want _ t h.1.3)
      steps_sound (next (holds x d by) rest) want scope t h = (tree_sound by d scope h.0 h.1.2, steps_sound rest want _ t h.1.3)

  -- ---- definitions

  definitions_sound : (ds : List Definition) (above : List Height) (i : ℕ) → AreTypedDefinitions globals ds above i → AreSoundDefinitions ds
  definitions_sound [] above i h = tt
  definitions_sound (order ∷ ds) above i h = (tt, definitions_sound ds _ _ h.1)
  definitions_sound (register x width at ∷ ds) above i h = (tt, definitions_sound ds _ _ h.1)
  definitions_sound (enumeration x members at ∷ ds) above i h = (tt, definitions_sound ds _ _ h.1)
  definitions_sound (signature x args result at ∷ ds) above i h = (tt, definitions_sound ds _ _ h.1)
  definitions_sound (function f ∷ ds) above i h = (tree_sound i f.body (Some f.result) _ f.result h.0.body, definitions_sound ds _ _ h.1)

sound_append : (xs ys : List Definition) → AreSoundDefinitions xs → AreSoundDefinitions ys → AreSoundDefinitions (xs ++ ys)
sound_append [] ys h k = k
sound_append (x ∷ xs) ys h k = (h.0, sound_append xs ys h.1 k)

sound_reverse : (ds : List Definition) → AreSoundDefinitions ds → AreSoundDefinitions (reverse ds)
sound_reverse [] h = tt
sound_reverse (d ∷ ds) h = subst AreSoundDefinitions (sym (reverse-append (d ∷ []) ds)) (sound_append (reverse ds) (d ∷ []) (sound_reverse ds h.1) (h.0, tt))

-- the last one first
pub sound_program : (defs : List Definition) → IsTypedProgram defs → AreSoundDefinitions (reverse defs)
sound_program defs p = sound_reverse defs (definitions_sound (globals_of defs) defs [] 0 p.definitions)
