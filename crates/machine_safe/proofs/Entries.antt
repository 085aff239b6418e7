-- The registers of a state that an entry over constants speaks of.
use Rattle.std.proofs.Common.{◌≡◌, ℕ, zero, suc, ◌<◌, List, [], ◌∷◌, length, refl, sym, ap, ◌∙◌, arith, true, false, Some, All, map, eqb-true}
use Rattle.std.specs.Prelude.{slice_index_or, nat_eq}
use Rattle.std.proofs.lemmas.Bool.{eqb-false}
use Rattle.std.proofs.lemmas.List.{length-map, ext_get_or, get_or-map}
use Rattle.std.proofs.lemmas.List.Elements.{All-head, All-tail}
use Rattle.bv_bits.specs.declared.Bits.{Bits}
use Rattle.bv_bits.specs.Bits.{width_of}
use Rattle.state_core.specs.State.{State, register_of, widths_of}
use Rattle.state_core.specs.Claims.{register_is, Holds}
use Rattle.machine_run.specs.Machine.{Machine, pc_of}
use Rattle.machine_safe.specs.First.{Constants, values_are, FitsForm, IsPartial}

-- values are the same where their widths and their numbers are
pub same_bits : (a b : Bits) → a.width ≡ b.width → a.value ≡ b.value → a ≡ b
same_bits a b w v = λ i. record { width = w i; value = v i }

values_same : (s p : State) (states : ℕ → ℕ) (r : ℕ) (vs : List (ℕ × Bits)) → All (Holds s states) (values_are vs) → All (λ v. register_of p v.0 ≡ v.1) vs
    → (i : ℕ) → i < length (map (λ v. v.0) vs) → slice_index_or (map (λ v. v.0) vs) i r ≡ r → register_of s r ≡ register_of p r
values_same s p states r [] holds are i below is = absurd (omega (arith, below))
values_same s p states r (v ∷ vs) holds are zero below is =
    ap (register_of s) (sym is) ∙ All-head (Holds s states) (register_is v.0 (Some v.1)) (values_are vs) holds
    ∙ sym (All-head (λ v. register_of p v.0 ≡ v.1) v vs are) ∙ ap (register_of p) is
values_same s p states r (v ∷ vs) holds are (suc i) below is =
    values_same s p states r vs (All-tail (Holds s states) (register_is v.0 (Some v.1)) (values_are vs) holds)
    (All-tail (λ v. register_of p v.0 ≡ v.1) v vs are) i (omega (arith, below)) is

width_at : (s : State) (r : ℕ) → r < length s.registers → (register_of s r).width ≡ slice_index_or (widths_of s) r 0
width_at s r below = sym (get_or-map width_of s.registers r (record { width = 0; value = 0 }) 0 below)

pub entry_registers : (m : Machine) (c : Constants) (s p : State) (states : ℕ → ℕ) → FitsForm m c → IsPartial m c p → widths_of s ≡ m.widths
    → pc_of m s ≡ c.entry_at → All (Holds s states) (values_are c.entry) → s.registers ≡ p.registers
entry_registers m c s p states fits partial widths pc holds =
    let ws : widths_of s ≡ widths_of p = widths ∙ sym partial.widths in
    let size_s = length-map s.registers width_of in
    let size_p = length-map p.registers width_of in
    let sizes : length (widths_of s) ≡ length (widths_of p) = ap length ws in
    let size_m : length (widths_of s) ≡ length m.widths = ap length widths in
    ext_get_or (record { width = 0; value = 0 }) s.registers p.registers (sym size_s ∙ sizes ∙ size_p)
    (λ r below. elim (nat_eq r m.pc) as (λ b. nat_eq r m.pc ≡ b → register_of s r ≡ register_of p r) [
      | true ↦ λ is. let at : r ≡ m.pc = eqb-true r m.pc is in
          same_bits (register_of s r) (register_of p r)
          (width_at s r below ∙ ap (λ w. slice_index_or w r 0) ws ∙ sym (width_at p r (omega (arith, below, size_s, size_p, sizes))))
          (ap (λ n. (register_of s n).value) at ∙ pc ∙ sym partial.pc ∙ ap (λ n. (register_of p n).value) (sym at))
      | false ↦ λ off. let h = fits.owned r (omega (arith, below, size_s, size_m)) (λ same. eqb-false r m.pc off same) in
          values_same s p states r c.entry holds partial.values h.0 h.1 h.2
    ] refl)
