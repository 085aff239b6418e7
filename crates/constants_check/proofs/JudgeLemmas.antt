-- The constants of a proof, as the code comes to them.
use Rattle.std.proofs.Common.{◌≡◌, ℕ, List, length, map, sym, ap, ◌∙◌, subst, Some, None}
use Rattle.std.specs.Prelude.{unwrap_or, Result, Ok, Err, IfOk, IfSome}
use Rattle.std.specs.Option.{option_map}
use Rattle.std.specs.declared.option.Option.{Option}
use Rattle.lex_core.specs.declared.memory.NoMemory.{NoMemory}
use Rattle.lex_core.specs.declared.name.RegDecl.{RegDecl}
use Rattle.sail_syntax.specs.Program.{Definition, registers_of}
use Rattle.type_rules.specs.Program.{pc_number}
use Rattle.machine_run.specs.Program.{machine_of, width_in, widths_in}
use Rattle.machine_safe.specs.First.{Constants}
use Rattle.report_text.specs.declared.outcome.Outcome.{Outcome}
use Rattle.report_text.specs.Outcome.{Said, said_of}
use Rattle.proof_form.specs.declared.form.NamedProof.{NamedProof}
use Rattle.proof_form.specs.declared.form.NamedValue.{NamedValue}
use Rattle.constants_walk.specs.declared.register_places.PlacedValue.{PlacedValue}
use Rattle.constants_walk.specs.declared.conditions.ConstantsData.{ConstantsData}
use Rattle.read_rules.specs.Binding.{◌>>=◌}
use Rattle.proof_form.specs.ProofForm.{AreBits}
use Rattle.constants_walk.specs.RegisterPlaces.{places, pair_of, ArePlaced}
use Rattle.constants_walk.specs.Conditions.{code_in, constants, constants_of}
use Rattle.state_core.specs.State.{Memory}
use Rattle.constants_check.specs.Verdict.{constants_for}

pub pc_same : (defs : List Definition) (r : ℕ) → pc_number defs ≡ Some r → r ≡ (machine_of defs).pc
pc_same defs r is = ap (λ o. unwrap_or o 0) (sym is)

-- what is said is what the definition gives
pub said_as : (r : Result Outcome NoMemory) (v : Said) (o : Option Said) → o ≡ Some v → IfOk r (λ a. said_of a ≡ v) → IfOk r (λ a. o ≡ Some (said_of a))
said_as (Ok a) v o is h = is ∙ ap (λ (said : Said). Some said) (sym h)
said_as (Err e) v o is h = h

module _ (defs : List Definition) (p : NamedProof) (memory : Memory) (rs : List RegDecl) (pc : ℕ) (known : rs ≡ registers_of defs) (counter : pc ≡ (machine_of defs).pc) where
  -- with the registers' values, and with the constants
  abbrev on_values : List RegDecl → ℕ → List PlacedValue → List PlacedValue → Option Constants
  on_values ds r entry wanted = constants p entry wanted (length ds) r >>= λ c. option_map (constants_of c) (code_in memory c.lo c.hi)

  abbrev constants_with : List RegDecl → ℕ → Option Constants
  constants_with ds r = places ds r p.entry >>= λ entry. places ds r p.wanted >>= λ wanted. on_values ds r entry wanted

  for_is : constants_for defs p memory ≡ constants_with rs pc
  unfolding constants_for
  for_is = ap (λ (ds : List RegDecl). constants_with ds (machine_of defs).pc) (sym known) ∙ ap (λ (r : ℕ). constants_with rs r) (sym counter)

  pub no_entry : places rs pc p.entry ≡ None → constants_for defs p memory ≡ None
  no_entry e = for_is ∙ ap (λ (o : Option (List PlacedValue)). o >>= λ entry. places rs pc p.wanted >>= λ wanted. on_values rs pc entry wanted) e

  with_entry : (entry : List PlacedValue) → places rs pc p.entry ≡ Some entry → constants_for defs p memory ≡ (places rs pc p.wanted >>= λ wanted. on_values rs pc entry wanted)
  with_entry entry e = for_is ∙ ap (λ (o : Option (List PlacedValue)). o >>= λ entry. places rs pc p.wanted >>= λ wanted. on_values rs pc entry wanted) e

  pub no_wanted : (entry : List PlacedValue) → places rs pc p.entry ≡ Some entry → places rs pc p.wanted ≡ None → constants_for defs p memory ≡ None
  no_wanted entry e w = with_entry entry e ∙ ap (λ (o : Option (List PlacedValue)). o >>= λ wanted. on_values rs pc entry wanted) w

  with_wanted : (entry wanted : List PlacedValue) → places rs pc p.entry ≡ Some entry → places rs pc p.wanted ≡ Some wanted → constants_for defs p memory ≡ on_values rs pc entry wanted
  with_wanted entry wanted e w = with_entry entry e ∙ ap (λ (o : Option (List PlacedValue)). o >>= λ wanted. on_values rs pc entry wanted) w

  pub no_constants : (entry wanted : List PlacedValue) → places rs pc p.entry ≡ Some entry → places rs pc p.wanted ≡ Some wanted
      → None ≡ constants p entry wanted (length rs) pc → constants_for defs p memory ≡ None
  no_constants entry wanted e w is =
      with_wanted entry wanted e w ∙ ap (λ (o : Option ConstantsData). o >>= λ c. option_map (constants_of c) (code_in memory c.lo c.hi)) (sym is)

  pub placed_is : (entry wanted : List PlacedValue) (c : ConstantsData) (code : Option (List ℕ)) → places rs pc p.entry ≡ Some entry → places rs pc p.wanted ≡ Some wanted
      → Some c ≡ constants p entry wanted (length rs) pc → code ≡ code_in memory c.lo c.hi → constants_for defs p memory ≡ option_map (constants_of c) code
  placed_is entry wanted c code e w is coded =
      with_wanted entry wanted e w ∙ ap (λ (o : Option ConstantsData). o >>= λ c. option_map (constants_of c) (code_in memory c.lo c.hi)) (sym is)
      ∙ ap (option_map (constants_of c)) (sym coded)

  pub values_placed : (seen given : List NamedValue) (o : Option (List PlacedValue)) (vs : List PlacedValue) → seen ≡ given → AreBits given
      → (AreBits seen → IfSome o (λ values. ArePlaced (map width_in rs) pc (map pair_of values))) → o ≡ Some vs → ArePlaced (widths_in defs) pc (map pair_of vs)
  values_placed seen given o vs same bits placed is =
      subst (λ (ds : List RegDecl). ArePlaced (map width_in ds) pc (map pair_of vs)) known
      (subst (λ (q : Option (List PlacedValue)). IfSome q (λ values. ArePlaced (map width_in rs) pc (map pair_of values))) is (placed (subst AreBits (sym same) bits)))
