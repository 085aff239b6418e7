-- Programs are accepted exactly by the judgement.
use Rattle.std.proofs.Common.{◌≡◌, ℕ, ◌+◌, ◌≤◌, Bool, true, false, List, [], ◌∷◌, ◌++◌, length, map, Option, Some, None, refl, sym, ap, ◌∙◌, subst, arith, nat_eq}
use Rattle.std.proofs.lemmas.Bool.{eqb-true, eq-eqb}
use Rattle.std.specs.Prelude.{⊤, nat_le, is_some, if◌then◌else◌, ◌↔◌}
use Rattle.sail_syntax.specs.Tree.{Text}
use Rattle.sail_syntax.specs.Types.{is_same_type}
use Rattle.sail_syntax.specs.Program.{Definition, Function, order, register, enumeration, signature, function}
use Rattle.sail_syntax.specs.declared.types.Ty.{Ty}
use Rattle.sail_syntax.specs.declared.types.Ty.TheVariants as ty
use Rattle.sail_syntax.specs.declared.types.Param.{Param}
use Rattle.type_rules.specs.declared.fault.Fault.{Fault}
use Rattle.type_rules.specs.declared.fault.Why.TheVariants.{Twice, Differs, TooHigh}
use Rattle.type_rules.specs.declared.fault.TypeFault.{TypeFault}
use Rattle.type_rules.specs.declared.fault.TypeFault.TheVariants as told
use Rattle.type_rules.specs.declared.scope.Entry.{Entry}
use Rattle.type_rules.specs.declared.scope.Item.{Item}
use Rattle.type_rules.specs.declared.scope.Local.{Local}
use Rattle.type_rules.specs.declared.scope.Sort.TheVariants.{Holds}
use Rattle.type_rules.specs.Faults.{Faults, fine, both, first, Clean}
use Rattle.type_rules.specs.Names.{find, is_free, Declared, members_of, slots_of, declares, declared_from, given_operators, given_accesses, prelude, entry_of, globals_of, known}
use Rattle.type_rules.specs.Rules.{taken, written}
use Rattle.type_rules.specs.Judge.{judge}
use Rattle.type_rules.specs.Heights.{Height, own_height, most_calls}
use Rattle.type_rules.specs.HasType.{IsType, IsFree, HasType}
use Rattle.type_rules.specs.Laws.{FirstOf, Known, AreSlots, AllHaveTypes, ProgramsAreExact}
use Rattle.type_rules.specs.Program.{wrong, names_faults, announced, compared, compared_each, val_faults, types_faults, params_faults, params_scope, height_faults, definition_faults, heights_after, definitions_faults, program_faults, has_word, may_have_word, begins_at, instr_of, instr16_of, pc_number, entry_fault, fault_or, type_fault}
use Rattle.type_rules.specs.IsTyped.{AreNew, AreAlike, Agrees, AreTypes, AreParams, locals_of, IsTypedFunction, IsTypedDefinition, AreTypedDefinitions, IsTypedProgram}
use Rattle.type_rules.proofs.FirstLemmas.{first_of}
use Rattle.type_rules.proofs.RuleLemmas.{same_is, same_refl, width_sound, width_complete, le_true, le_test}
use Rattle.type_rules.proofs.NameLemmas.{taken_sound, taken_complete, known_is, written_sound, written_complete}
use Rattle.type_rules.proofs.SoundLemmas.{sound_at}
use Rattle.type_rules.proofs.CompleteLemmas.{complete}

-- ---- names

free_none : (o : Option Item) → is_free o ≡ true → o ≡ None
free_none None h = refl
free_none (Some i) h = absurd cc

names_sound : (before : List Entry) (ds : List Declared) → Clean (names_faults before ds) → AreNew before ds
names_sound before [] c = tt
names_sound before (d ∷ ds) c = (free_none (find d.entry.name before) (step (is_free (find d.entry.name before)) c.0), names_sound (before ++ d.entry ∷ []) ds c.1)
  where
    step : (b : Bool) → Clean (if b then fine else wrong d.at (Twice d.entry.name)) → b ≡ true
    step true k = refl
    step false k = absurd k

names_complete : (before : List Entry) (ds : List Declared) → AreNew before ds → Clean (names_faults before ds)
names_complete before [] h = tt
names_complete before (d ∷ ds) h =
    (subst (λ o. Clean (if is_free o then fine else wrong d.at (Twice d.entry.name))) (sym h.0) tt, names_complete (before ++ d.entry ∷ []) ds h.1)

-- ---- vals

compared_sound : (at : ℕ) (t u : Ty) → Clean (compared at t u) → t ≡ u
compared_sound at t u c = step (is_same_type t u) refl c
  where
    step : (b : Bool) → is_same_type t u ≡ b → Clean (if b then fine else wrong at (Differs t u)) → t ≡ u
    step true h d = same_is t u h
    step false h d = absurd d

compared_complete : (at : ℕ) (t u : Ty) → t ≡ u → Clean (compared at t u)
compared_complete at t u e = subst (λ v. Clean (compared at t v)) e (rw (same_refl t) tt)

each_sound : (at : ℕ) (ts : List Ty) (ps : List Param) (result got : Ty) → length ts ≡ length ps → Clean (compared_each at ts ps result got) → AreAlike ts ps × (result ≡ got)
each_sound at [] [] result got n c = (tt, compared_sound at result got c)
each_sound at [] (p ∷ ps) result got n c = absurd (omega (arith, n))
each_sound at (t ∷ ts) [] result got n c = absurd (omega (arith, n))
each_sound at (t ∷ ts) (p ∷ ps) result got n c = step (is_same_type t p.ty) refl (λ d. each_sound at ts ps result got (omega (arith, n)) d) c
  where
    step : (b : Bool) → is_same_type t p.ty ≡ b → (Clean (compared_each at ts ps result got) → AreAlike ts ps × (result ≡ got))
        → Clean (if b then compared_each at ts ps result got else wrong at (Differs t p.ty)) → ((t ≡ p.ty) × AreAlike ts ps) × (result ≡ got)
    step true h k d = let m = k d in ((same_is t p.ty h, m.0), m.1)
    step false h k d = absurd d

-- two lists that are alike have one length
alike_length : (ts : List Ty) (ps : List Param) → AreAlike ts ps → length ts ≡ length ps
alike_length [] [] h = refl
alike_length [] (p ∷ ps) h = absurd h
alike_length (t ∷ ts) [] h = absurd h
alike_length (t ∷ ts) (p ∷ ps) h = let k = alike_length ts ps h.1 in omega (arith, k)

each_complete : (at : ℕ) (ts : List Ty) (ps : List Param) (result got : Ty) → AreAlike ts ps → result ≡ got → Clean (compared_each at ts ps result got)
each_complete at [] [] result got h e = compared_complete at result got e
each_complete at [] (p ∷ ps) result got h e = absurd h
each_complete at (t ∷ ts) [] result got h e = absurd h
each_complete at (t ∷ ts) (p ∷ ps) result got h e =
    let s = subst (λ v. is_same_type t v ≡ true) h.0 (same_refl t) in
    subst (λ b. Clean (if b then compared_each at ts ps result got else wrong at (Differs t p.ty))) (sym s) (each_complete at ts ps result got h.1 e)

val_sound : (x : Text) (at : ℕ) (args : List Ty) (result : Ty) (o : Option Function) → Clean (val_faults x at args result o) → Agrees args result o
val_sound x at args result None c = absurd c
val_sound x at args result (Some f) c = step (nat_eq (length args) (length f.params)) refl c
  where
    step : (b : Bool) → nat_eq (length args) (length f.params) ≡ b → Clean (if b then compared_each at args f.params result f.result else wrong at (Differs result f.result))
        → AreAlike args f.params × (result ≡ f.result)
    step true h d = each_sound at args f.params result f.result (eqb-true (length args) (length f.params) h) d
    step false h d = absurd d

val_complete : (x : Text) (at : ℕ) (args : List Ty) (result : Ty) (o : Option Function) → Agrees args result o → Clean (val_faults x at args result o)
val_complete x at args result None h = absurd h
val_complete x at args result (Some f) h =
    let e = eq-eqb (length args) (length f.params) (alike_length args f.params h.0) in
    subst (λ b. Clean (if b then compared_each at args f.params result f.result else wrong at (Differs result f.result))) (sym e) (each_complete at args f.params result f.result h.0 h.1)

-- ---- definitions

module _ (globals : List Entry) where
  types_sound : (at : ℕ) (ts : List Ty) → Clean (types_faults globals at ts) → AreTypes globals ts
  types_sound at [] c = tt
  types_sound at (t ∷ ts) c = (written_sound globals at t c.0, types_sound at ts c.1)

  types_complete : (at : ℕ) (ts : List Ty) → AreTypes globals ts → Clean (types_faults globals at ts)
  types_complete at [] h = tt
  types_complete at (t ∷ ts) h = ((written_complete globals at t h.0).1, types_complete at ts h.1)

  params_sound : (at : ℕ) (ps : List Param) → Clean (params_faults globals at ps) → AreParams globals ps
  params_sound at [] c = tt
  params_sound at (p ∷ ps) c = (written_sound globals at p.ty c.0.0, taken_sound globals p.name at c.0.1, params_sound at ps c.1)

  params_complete : (at : ℕ) (ps : List Param) → AreParams globals ps → Clean (params_faults globals at ps)
  params_complete at [] h = tt
  params_complete at (p ∷ ps) h = (((written_complete globals at p.ty h.0).1, taken_complete globals p.name at h.1), params_complete at ps h.2)

  params_slots : (ps : List Param) → AreParams globals ps → AreSlots globals (slots_of ps)
  params_slots [] h = tt
  params_slots (p ∷ ps) h = (h.0, params_slots ps h.2)

  scope_is : (ps : List Param) (scope : List Local) → AreParams globals ps → params_scope globals ps scope ≡ locals_of ps scope
  scope_is [] scope h = refl
  scope_is (p ∷ ps) scope h =
      ap (λ o. params_scope globals ps (record { name = p.name; sort = Holds o false } ∷ scope)) (known_is globals p.ty h.0)
      ∙ scope_is ps (record { name = p.name; sort = Holds (Some p.ty) false } ∷ scope) h.2

  locals_known : (ps : List Param) (scope : List Local) → Known scope → Known (locals_of ps scope)
  locals_known [] scope h = h
  locals_known (p ∷ ps) scope h = locals_known ps (record { name = p.name; sort = Holds (Some p.ty) false } ∷ scope) (tt, h)

  height_sound : (x : Text) (at n : ℕ) → Clean (height_faults x at n) → n ≤ most_calls
  height_sound x at n c = step (nat_le n most_calls) refl c
    where
      step : (b : Bool) → nat_le n most_calls ≡ b → Clean (if b then fine else wrong at (TooHigh x)) → n ≤ most_calls
      step true h d = le_true n most_calls h
      step false h d = absurd d

  height_complete : (x : Text) (at n : ℕ) → n ≤ most_calls → Clean (height_faults x at n)
  height_complete x at n h = rw (le_test n most_calls h) tt

  -- ---- all that is declared has types

  append_types : (es fs : List Entry) → AllHaveTypes globals es → AllHaveTypes globals fs → AllHaveTypes globals (es ++ fs)
  append_types [] fs h k = k
  append_types (e ∷ es) fs h k = (h.0, append_types es fs h.1 k)

  members_types : (x : Text) (at : ℕ) (ms : List Text) (ds : List Declared) → AllHaveTypes globals (map entry_of ds) → AllHaveTypes globals (map entry_of (members_of x at ms ++ ds))
  members_types x at [] ds h = h
  members_types x at (m ∷ ms) ds h = (tt, members_types x at ms ds h)

  prelude_types : AllHaveTypes globals prelude
  prelude_types = append_types given_operators given_accesses
      (((refl, tt), refl), ((tt, refl), ((tt, refl), ((tt, tt), ((tt, tt), ((tt, tt), ((tt, tt), ((tt, tt), ((tt, tt), ((tt, tt), tt))))))))))
      (((refl, tt), refl), (((refl, tt), refl), (((refl, tt), refl), (((refl, tt), refl), (((refl, tt), refl), (((refl, (refl, tt)), refl), (((refl, (refl, tt)), refl), (((refl, (refl, tt)), refl), (((refl, (refl, tt)), refl), (((refl, (refl, tt)), refl), tt))))))))))

  declared_sound : (ds : List Definition) (above : List Height) (i : ℕ) → Clean (definitions_faults globals ds above i) → AllHaveTypes globals (map entry_of (declared_from ds i))
  declared_sound [] above i c = tt
  declared_sound (order ∷ ds) above i c = declared_sound ds above (i + 1) c.1
  declared_sound (register x w at ∷ ds) above i c = (tt, declared_sound ds above (i + 1) c.1)
  declared_sound (enumeration x ms at ∷ ds) above i c = (tt, members_types x at ms (declared_from ds (i + 1)) (declared_sound ds above (i + 1) c.1))
  declared_sound (signature x args result at ∷ ds) above i c = declared_sound ds above (i + 1) c.1
  declared_sound (function f ∷ ds) above i c =
      ((params_slots f.params (params_sound f.at f.params c.0.0), written_sound globals f.at f.result c.0.1.0), declared_sound ds (heights_after (function f) above) (i + 1) c.1)

  declared_complete : (ds : List Definition) (above : List Height) (i : ℕ) → AreTypedDefinitions globals ds above i → AllHaveTypes globals (map entry_of (declared_from ds i))
  declared_complete [] above i h = tt
  declared_complete (order ∷ ds) above i h = declared_complete ds above (i + 1) h.1
  declared_complete (register x w at ∷ ds) above i h = (tt, declared_complete ds above (i + 1) h.1)
  declared_complete (enumeration x ms at ∷ ds) above i h = (tt, members_types x at ms (declared_from ds (i + 1)) (declared_complete ds above (i + 1) h.1))
  declared_complete (signature x args result at ∷ ds) above i h = declared_complete ds above (i + 1) h.1
  declared_complete (function f ∷ ds) above i h =
      ((params_slots f.params h.0.params, h.0.result), declared_complete ds (heights_after (function f) above) (i + 1) h.1)

  -- ---- each definition

  module _ (types : AllHaveTypes globals globals) where
    definition_sound : (d : Definition) (above : List Height) (i : ℕ) (below : List Definition) → Clean (definition_faults globals d above i below) → IsTypedDefinition globals d above i below
    definition_sound order above i below c = tt
    definition_sound (register x w at) above i below c = width_sound w (written_sound globals at (ty.Bits w) c)
    definition_sound (enumeration x ms at) above i below c = tt
    definition_sound (signature x args result at) above i below c =
        (types_sound at args c.0, written_sound globals at result c.1.0, val_sound x at args result (announced x below) c.1.1)
    definition_sound (function f) above i below c =
        let p = params_sound f.at f.params c.0 in
        let r = written_sound globals f.at f.result c.1.0 in
        let j = subst (λ s. Clean (judge globals i f.body (known globals f.result) s).faults) (scope_is f.params [] p) c.1.1.1 in
        let b = subst (λ o. Clean (judge globals i f.body o (locals_of f.params [])).faults) (known_is globals f.result r) j in
        record {
          params = p;
          result = r;
          height = height_sound f.name f.at (own_height above f.body) c.1.1.0;
          body = sound_at globals types i f.body f.result (locals_of f.params []) (locals_known f.params [] tt) b;
        }

    definition_complete : (d : Definition) (above : List Height) (i : ℕ) (below : List Definition) → IsTypedDefinition globals d above i below → Clean (definition_faults globals d above i below)
    definition_complete order above i below h = tt
    definition_complete (register x w at) above i below h = (written_complete globals at (ty.Bits w) (width_complete w h)).1
    definition_complete (enumeration x ms at) above i below h = tt
    definition_complete (signature x args result at) above i below h =
        (types_complete at args h.0, ((written_complete globals at result h.1).1, val_complete x at args result (announced x below) h.2))
    definition_complete (function f) above i below h =
        let b = (complete globals types i f.body (Some f.result) (locals_of f.params []) f.result h.body).1 in
        let j = subst (λ o. Clean (judge globals i f.body o (locals_of f.params [])).faults) (sym (known_is globals f.result h.result)) b in
        let k = subst (λ s. Clean (judge globals i f.body (known globals f.result) s).faults) (sym (scope_is f.params [] h.params)) j in
        (params_complete f.at f.params h.params, ((written_complete globals f.at f.result h.result).1, (height_complete f.name f.at (own_height above f.body) h.height, k)))

    definitions_sound : (ds : List Definition) (above : List Height) (i : ℕ) → Clean (definitions_faults globals ds above i) → AreTypedDefinitions globals ds above i
    definitions_sound [] above i c = tt
    definitions_sound (d ∷ ds) above i c = (definition_sound d above i ds c.0, definitions_sound ds (heights_after d above) (i + 1) c.1)

    definitions_complete : (ds : List Definition) (above : List Height) (i : ℕ) → AreTypedDefinitions globals ds above i → Clean (definitions_faults globals ds above i)
    definitions_complete [] above i h = tt
    definitions_complete (d ∷ ds) above i h = (definition_complete d above i ds h.0, definitions_complete ds (heights_after d above) (i + 1) h.1)

-- ---- what a program has to have

-- what is there
pub record Entries (defs : List Definition) : Type 0 where
  pub instr : has_word 32 (instr_of defs) ≡ true
  pub pc : is_some (pc_number defs) ≡ true
  pub instr16 : may_have_word 16 (instr16_of defs) ≡ true

entry_sound : (defs : List Definition) → entry_fault defs ≡ None → Entries defs
entry_sound defs e = step (has_word 32 (instr_of defs)) refl (is_some (pc_number defs)) refl (may_have_word 16 (instr16_of defs)) refl e
  where
    step : (a : Bool) → has_word 32 (instr_of defs) ≡ a → (b : Bool) → is_some (pc_number defs) ≡ b → (c : Bool) → may_have_word 16 (instr16_of defs) ≡ c
        → (if a then (if b then (if c then None else Some (told.BadInstr16 (begins_at (instr16_of defs)))) else Some told.NoPc) else Some told.NoInstr) ≡ None → Entries defs
    step true p true q true r h = record { instr = p; pc = q; instr16 = r }
    step true p true q false r h = absurd cc
    step true p false q c r h = absurd cc
    step false p b q c r h = absurd cc

entry_complete : (defs : List Definition) → Entries defs → entry_fault defs ≡ None
entry_complete defs h =
    let a = h.instr in let b = h.pc in let c = h.instr16 in
    rw a (rw b (rw c refl))

none_sound : (o : Option Fault) (m : Option TypeFault) → fault_or o m ≡ None → (o ≡ None) × (m ≡ None)
none_sound None m h = (refl, h)
none_sound (Some f) m h = absurd cc

programs_sound : (defs : List Definition) → type_fault defs ≡ None → IsTypedProgram defs
programs_sound defs h =
    let n = none_sound (first (program_faults defs)) (entry_fault defs) h in
    let c = (first_of (program_faults defs)).clean.0 n.0 in
    let e = entry_sound defs n.1 in
    let types = append_types (globals_of defs) prelude (map entry_of (declared_from defs 0)) (prelude_types (globals_of defs)) (declared_sound (globals_of defs) defs [] 0 c.1) in
    record { names = names_sound prelude (declared_from defs 0) c.0; definitions = definitions_sound (globals_of defs) types defs [] 0 c.1; instr = e.instr; pc = e.pc; instr16 = e.instr16 }

programs_complete : (defs : List Definition) → IsTypedProgram defs → type_fault defs ≡ None
programs_complete defs h =
    let types = append_types (globals_of defs) prelude (map entry_of (declared_from defs 0)) (prelude_types (globals_of defs)) (declared_complete (globals_of defs) defs [] 0 h.definitions) in
    let c : Clean (program_faults defs) = (names_complete prelude (declared_from defs 0) h.names, definitions_complete (globals_of defs) types defs [] 0 h.definitions) in
    let n = (first_of (program_faults defs)).clean.1 c in
    ap (λ o. fault_or o (entry_fault defs)) n ∙ entry_complete defs (record { instr = h.instr; pc = h.pc; instr16 = h.instr16 })

pub programs_exact : ProgramsAreExact
programs_exact defs = (programs_sound defs, programs_complete defs)
