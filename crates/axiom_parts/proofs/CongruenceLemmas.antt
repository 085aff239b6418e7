-- How long the clauses of two bytes of one array are.
use Rattle.std.proofs.Common.{◌≡◌, ℕ, zero, suc, ◌+◌, ◌*◌, ◌/◌, ◌%◌, ◌<◌, ◌≤◌, ◌≢◌, Bool, true, false, cond, eqb, ltb, List, [], ◌∷◌, ◌++◌, length, map, Option, Some, None, refl, ap, sym, ◌∙◌, arith}
use Rattle.std.specs.Prelude.{slice_get, option_map, not}
use Rattle.std.specs.List.{range_with_len}
use Rattle.std.proofs.lemmas.Bool.{eq-eqb, ne_eqb, lt-ltb, le-ltb}
use Rattle.std.proofs.lemmas.Nat.{div-add-mod', mod_below}
use Rattle.std.proofs.lemmas.List.{length-append}
use Rattle.std.proofs.lemmas.List.FromFn.{length-map-range_with_len}
use Rattle.clause_core.specs.declared.Lit.{Lit}
use Rattle.clause_core.specs.Congruence.{literal_of, index_rows, layer_bits, byte_clause, byte_rows, congruence_of}

layer_long : (p q n : ℕ) → length (layer_bits p q n) ≡ n
unfolding layer_bits
layer_long p q n = length-map-range_with_len (literal_of true p q) 0 n

byte_long : (p q j : ℕ) (on : Bool) → length (byte_clause p q j on) ≡ 66
byte_long p q j on =
    length-append (layer_bits p q 64) (literal_of on p 0 j ∷ literal_of (not on) q 0 j ∷ []) ∙ ap (λ n. n + 2) (layer_long p q 64)

rows_long : (p q bit row : ℕ) → row ≤ 1 → option_map length (slice_get (byte_rows p q bit) row) ≡ Some 66
rows_long p q bit zero h = ap Some (byte_long p q bit false)
rows_long p q bit (suc zero) h = ap Some (byte_long p q bit true)
rows_long p q bit (suc (suc row)) h = absurd (omega arith)

-- of the bytes
pub byte_length : (p q x y part bit row : ℕ) → part / 2 ≡ q → row ≤ 1 → (part % 2 ≡ 0 → ⊥) → bit < 8 → Some 66 ≡ option_map length (congruence_of p q x y part bit row)
byte_length p q x y part bit row half low odd narrow =
    let is : part ≡ 2 * q + 1 = omega (arith, div-add-mod' part 2, mod_below part 2) in
    let not_even : part ≡ 2 * q → ⊥ = λ e. omega arith in
    sym (ap (λ (t : Bool). option_map length (cond t (cond (ltb bit 64) (slice_get (index_rows p q x y bit) row) None) (cond (eqb part (2 * q + 1)) (cond (ltb bit 8) (slice_get (byte_rows p q bit) row) None) None))) (ne_eqb part (2 * q) not_even)
    ∙ ap (λ (t : Bool). option_map length (cond t (cond (ltb bit 8) (slice_get (byte_rows p q bit) row) None) None)) (eq-eqb part (2 * q + 1) is)
    ∙ ap (λ (t : Bool). option_map length (cond t (slice_get (byte_rows p q bit) row) None)) (lt-ltb bit 8 narrow)
    ∙ rows_long p q bit row low)
