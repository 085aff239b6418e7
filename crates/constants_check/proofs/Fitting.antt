-- Where a proof's conditions hold, the constants fit the machine, and the code is the image's.
use Rattle.std.proofs.Common.{◌≡◌, ◌≢◌, ℕ, suc, ◌<◌, ◌≤◌, List, [], ◌∷◌, length, map, refl, sym, ap, ◌∙◌, subst, arith, ◌^◌, Bool, true, false, Some, None, All, Contains}
use Rattle.std.specs.Prelude.{◌&&◌, ◌||◌, ◌==◌, not, nat_le, nat_lt, slice_index_or, AllPairs, IsSome, unwrap_or}
use Rattle.std.specs.declared.option.Option.{Option}
use Rattle.std.proofs.lemmas.Bool.{leb-true, ltb-true, and_parts}
use Rattle.std.proofs.lemmas.Bool.Decides.{nat_tests}
use Rattle.std.proofs.lemmas.List.{length-map}
use Rattle.std.proofs.lemmas.List.Elements.{All-weaker}
use Rattle.std.proofs.lemmas.Option.{cond_some, get_or_from_slice_get, slice_get_within}
use Rattle.sail_syntax.specs.Program.{Definition, registers_of}
use Rattle.type_rules.specs.Program.{type_fault, pc_number}
use Rattle.type_rules.proofs.ProgramLemmas.{programs_exact}
use Rattle.state_core.specs.State.{Memory}
use Rattle.state_core.specs.Claims.{HasBytes}
use Rattle.machine_run.specs.Program.{machine_of, width_in, widths_in}
use Rattle.machine_safe.specs.First.{Constants, end_of, FitsForm}
use Rattle.proof_form.specs.declared.form.NamedProof.{NamedProof}
use Rattle.read_rules.proofs.SmallLemmas.{bind_some, mapped, not_true}
use Rattle.constants_walk.specs.declared.register_places.PlacedValue.{PlacedValue}
use Rattle.constants_walk.specs.declared.conditions.ConstantsData.{ConstantsData}
use Rattle.constants_walk.specs.RegisterPlaces.{has, places, pair_of}
use Rattle.constants_walk.specs.Conditions.{code_in, constants_of, is_in, covers, constants}
use Rattle.constants_walk.specs.Conditions as conditions
use Rattle.constants_walk.proofs.Covering.{covered}
use Rattle.constants_walk.proofs.EntryPc.{pc_wide}
use Rattle.constants_walk.proofs.EntryState.{IsSet}
use Rattle.constants_walk.proofs.CodeLemmas.{is_code}
use Rattle.constants_walk.proofs.Placing.{AreSet, places_set}
use Rattle.constants_check.specs.Verdict.{constants_for}

-- ---- the PC of a program that types

by_number : (o : Option ℕ) → IsSome o → o ≡ Some (unwrap_or o 0)
by_number None there = absurd (cc)
by_number (Some r) there = refl

pub has_pc : (defs : List Definition) → type_fault defs ≡ None → pc_number defs ≡ Some (machine_of defs).pc
has_pc defs typed = by_number (pc_number defs) ((programs_exact defs).0 typed).pc

-- ---- registers that have values

-- a register that one of the values is of
contained_by : (v : PlacedValue) (vs : List PlacedValue) (r : ℕ) (b : Bool) → (v.register == r) ≡ b → (b || has vs r) ≡ true
    → (has vs r ≡ true → Contains (map (λ v. v.0) (map pair_of vs)) r) → Contains (map (λ v. v.0) (map pair_of (v ∷ vs))) r
contained_by v vs r true is e k = let same : v.register ≡ r = grind (arith, nat_tests, is) in (0, omega arith, same)
contained_by v vs r false is e k = let rest = k e in (suc rest.0, (let l = rest.1 in omega (arith, l)), rest.2)

has_contained : (vs : List PlacedValue) (r : ℕ) → has vs r ≡ true → Contains (map (λ v. v.0) (map pair_of vs)) r
has_contained [] r h = absurd (cc)
has_contained (v ∷ vs) r h = contained_by v vs r (v.register == r) refl h (has_contained vs r)

-- ---- the conditions on addresses

entered_holds : (p : NamedProof) (c : ConstantsData) → c.lo ≡ p.lo → c.hi ≡ p.hi → c.entry_at ≡ p.entry_at → c.exit_at ≡ p.exit_at
    → conditions.is_entered p ≡ true → (c.lo ≤ c.hi) × (is_in c.lo c.hi c.entry_at ≡ true) × (is_in c.lo c.hi c.exit_at ≡ false)
entered_holds p c lo hi entry exit h =
    let ends = and_parts (is_in p.lo p.hi p.entry_at) (not (is_in p.lo p.hi p.exit_at)) h in
    let entered = and_parts (nat_le p.lo p.entry_at) (nat_lt p.entry_at p.hi) ends.0 in
    let out : is_in p.lo p.hi p.exit_at ≡ false = not_true (is_in p.lo p.hi p.exit_at) ends.1 in
    let low : p.lo ≤ p.entry_at = leb-true p.lo p.entry_at entered.0 in
    let high : p.entry_at < p.hi = ltb-true p.entry_at p.hi entered.1 in (
      omega (arith, low, high, lo, hi),
      ap (λ n. is_in n c.hi c.entry_at) lo ∙ ap (λ n. is_in p.lo n c.entry_at) hi ∙ ap (is_in p.lo p.hi) entry ∙ ends.0,
      ap (λ n. is_in n c.hi c.exit_at) lo ∙ ap (λ n. is_in p.lo n c.exit_at) hi ∙ ap (is_in p.lo p.hi) exit ∙ out,
    )

-- ---- the constants fit

placed_end : (p : NamedProof) (m : Memory) (code : List ℕ) (entry wanted : List PlacedValue) (n pc : ℕ) (c : ConstantsData)
    → constants p entry wanted n pc ≡ Some c → code_in m c.lo c.hi ≡ Some code → (end_of (constants_of c code) ≡ c.hi) × (c.hi ≤ 2 ^ 64)
unfolding constants
placed_end p m code entry wanted n pc c h coded =
    let d : ConstantsData = record { lo = p.lo; hi = p.hi; entry_at = p.entry_at; entry = entry; exit_at = p.exit_at; exit = wanted } in
    let test = cond_some (conditions.is_entered p && covers n pc entry) d c h in
    let entered = entered_holds p d refl refl refl refl (and_parts (conditions.is_entered p) (covers n pc entry) test.0).0 in
    let is = is_code m d.lo d.hi code (subst (λ (x : ConstantsData). code_in m x.lo x.hi ≡ Some code) (sym test.1) coded) in
    subst (λ (x : ConstantsData). (end_of (constants_of x code) ≡ x.hi) × (x.hi ≤ 2 ^ 64)) test.1 (is.size entered.0, is.ends)

pub record Fitting (defs : List Definition) (k : Constants) : Type 0 where
  pub fits : FitsForm (machine_of defs) k
  pub wide : slice_index_or (machine_of defs).widths (machine_of defs).pc 0 ≡ 64
  pub each : All (IsSet (machine_of defs).widths (machine_of defs).pc) k.entry
  pub differ : AllPairs ◌≢◌ (map (λ v. v.0) k.entry)

fitting : (defs : List Definition) (p : NamedProof) (m : Memory) (code : List ℕ) (entry wanted : List PlacedValue) (c : ConstantsData)
    → pc_number defs ≡ Some (machine_of defs).pc → AreSet (widths_in defs) (machine_of defs).pc (map pair_of entry) → AreSet (widths_in defs) (machine_of defs).pc (map pair_of wanted)
    → constants p entry wanted (length (registers_of defs)) (machine_of defs).pc ≡ Some c → code_in m c.lo c.hi ≡ Some code → Fitting defs (constants_of c code)
unfolding constants
fitting defs p m code entry wanted c pc entry_set wanted_set h coded =
    let test = cond_some (conditions.is_entered p && covers (length (registers_of defs)) (machine_of defs).pc entry)
    (record { lo = p.lo; hi = p.hi; entry_at = p.entry_at; entry = entry; exit_at = p.exit_at; exit = wanted }) c h in
    let parts = and_parts (conditions.is_entered p) (covers (length (registers_of defs)) (machine_of defs).pc entry) test.0 in
    let d : ConstantsData = record { lo = p.lo; hi = p.hi; entry_at = p.entry_at; entry = entry; exit_at = p.exit_at; exit = wanted } in
    let entered = entered_holds p d refl refl refl refl parts.0 in
    let is = is_code m d.lo d.hi code (subst (λ (x : ConstantsData). code_in m x.lo x.hi ≡ Some code) (sym test.1) coded) in
    let ends : end_of (constants_of d code) ≡ d.hi = is.size entered.0 in
    let last = is.ends in
    let size = length-map (registers_of defs) width_in in
    let wide = pc_wide defs (machine_of defs).pc pc in
    subst (λ (x : ConstantsData). Fitting defs (constants_of x code)) test.1
    (record {
      fits = record {
        place = (omega (arith, ends, last));
        entry_inside = ap (λ e. nat_le d.lo d.entry_at && nat_lt d.entry_at e) ends ∙ entered.1;
        exit_outside = ap (λ e. nat_le d.lo d.exit_at && nat_lt d.exit_at e) ends ∙ entered.2;
        owned = λ r below apart. has_contained entry r (covered (length (registers_of defs)) (machine_of defs).pc entry parts.1 r (omega (arith, below, size)) apart);
        exit_differ = wanted_set.differ;
        exit_there = All-weaker (IsSet (widths_in defs) (machine_of defs).pc) (λ v. v.0 < length (widths_in defs)) (λ v s. slice_get_within (widths_in defs) v.0 v.1.width s.wide) (map pair_of wanted) wanted_set.each;
        exit_other = All-weaker (IsSet (widths_in defs) (machine_of defs).pc) (λ v. v.0 ≢ (machine_of defs).pc) (λ v s. s.other) (map pair_of wanted) wanted_set.each;
        pc_there = slice_get_within (widths_in defs) (machine_of defs).pc 64 wide;
      };
      wide = get_or_from_slice_get (widths_in defs) (machine_of defs).pc 64 0 wide;
      each = entry_set.each;
      differ = entry_set.differ;
    })

-- ---- constants of a proof

pub for_constants : (defs : List Definition) (p : NamedProof) (m : Memory) (k : Constants) → pc_number defs ≡ Some (machine_of defs).pc → constants_for defs p m ≡ Some k
    → Fitting defs k × HasBytes m k.lo k.code
unfolding constants_for
for_constants defs p m k pc h =
    let entry = bind_some (places (registers_of defs) (machine_of defs).pc p.entry) _ k h in
    let wanted = bind_some (places (registers_of defs) (machine_of defs).pc p.wanted) _ k entry.2 in
    let c = bind_some (constants p entry.0 wanted.0 (length (registers_of defs)) (machine_of defs).pc) _ k wanted.2 in
    let code = mapped (constants_of c.0) (code_in m c.0.lo c.0.hi) k c.2 in
    subst (λ (x : Constants). Fitting defs x × HasBytes m x.lo x.code) code.2 (
      fitting defs p m code.0 entry.0 wanted.0 c.0 pc (places_set (registers_of defs) (machine_of defs).pc p.entry entry.0 entry.1)
          (places_set (registers_of defs) (machine_of defs).pc p.wanted wanted.0 wanted.1) c.1 code.1,
      (is_code m c.0.lo c.0.hi code.0 code.1).there,
    )

-- the code ends at the last address at most
pub place_for : (defs : List Definition) (p : NamedProof) (m : Memory) (k : Constants) → constants_for defs p m ≡ Some k → end_of k ≤ 2 ^ 64
unfolding constants_for
place_for defs p m k h =
    let entry = bind_some (places (registers_of defs) (machine_of defs).pc p.entry) _ k h in
    let wanted = bind_some (places (registers_of defs) (machine_of defs).pc p.wanted) _ k entry.2 in
    let c = bind_some (constants p entry.0 wanted.0 (length (registers_of defs)) (machine_of defs).pc) _ k wanted.2 in
    let code = mapped (constants_of c.0) (code_in m c.0.lo c.0.hi) k c.2 in
    let e = placed_end p m code.0 entry.0 wanted.0 (length (registers_of defs)) (machine_of defs).pc c.0 c.1 code.1 in
    subst (λ (x : Constants). end_of x ≤ 2 ^ 64) code.2 (subst (λ n. n ≤ 2 ^ 64) (sym e.0) e.1)
