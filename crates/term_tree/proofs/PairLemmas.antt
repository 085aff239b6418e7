-- The values that pairs write down are values.
use Rattle.std.proofs.Common.{◌≡◌, ℕ, ◌^◌, ◌<◌, Bool, true, ◌&&◌, List, [], refl, arith}
use Rattle.std.specs.Prelude.{All, bytes_eq, nat_eq}
use Rattle.std.proofs.lemmas.Bool.{eqb-true, and_parts}
use Rattle.std.proofs.lemmas.List.Elements.{All-nil, All-weaker}
use Rattle.std.proofs.lemmas.Nat.{pow_pos}
use Rattle.bv_bits.specs.declared.Bits.{Bits}
use Rattle.bv_bits.specs.Bits.{IsBits, IsWidth}
use Rattle.term_tree.specs.Terms.{Text}
use Rattle.term_tree.specs.Values.{IsValues, Pairs, IsPairs, first_bits, first_byte, first_array, values_of}
use Rattle.term_tree.proofs.FoundLemmas.{found}

bits_found : (pairs : List (Text × Bits)) → All (λ q. IsBits q.1) pairs → (x : Text) (w : ℕ) → IsWidth w → IsBits (first_bits pairs x w) × ((first_bits pairs x w).width ≡ w)
bits_found pairs all x w h =
    let test : Text × Bits → Bool = λ q. bytes_eq q.0 x && nat_eq q.1.width w in
    let none : Bits = record { width = w; value = 0 } in (
      found IsBits test (λ q. q.1) pairs none (All-weaker (λ q. IsBits q.1) (λ q. test q ≡ true → IsBits q.1) (λ q k same. k) pairs all) (record { positive = h.positive; at_most = h.at_most; fits = pow_pos w }),
      found (λ b. b.width ≡ w) test (λ q. q.1) pairs none
          (All-weaker (λ q. IsBits q.1) (λ q. test q ≡ true → q.1.width ≡ w) (λ q k same. eqb-true q.1.width w (and_parts (bytes_eq q.0 x) (nat_eq q.1.width w) same).1) pairs all) refl,
    )

-- indices of 64 bits, and bytes
abbrev AreBytes : List (ℕ × ℕ) → Type 0
AreBytes bytes = All (λ r. (r.0 < 2 ^ 64) × (r.1 < 256)) bytes

byte_found : (bytes : List (ℕ × ℕ)) → AreBytes bytes → (i : ℕ) → first_byte bytes i < 256
byte_found bytes all i =
    found (λ b. b < 256) (λ q. nat_eq q.0 i) (λ q. q.1) bytes 0
    (All-weaker (λ r. (r.0 < 2 ^ 64) × (r.1 < 256)) (λ r. nat_eq r.0 i ≡ true → r.1 < 256) (λ r k same. k.1) bytes all) (omega arith)

array_found : (arrays : List (Text × List (ℕ × ℕ))) → All (λ q. AreBytes q.1) arrays → (f : Text) → AreBytes (first_array arrays f)
array_found arrays all f =
    found AreBytes (λ q. bytes_eq q.0 f) (λ q. q.1) arrays []
    (All-weaker (λ q. AreBytes q.1) (λ q. bytes_eq q.0 f ≡ true → AreBytes q.1) (λ q k same. k) arrays all) (All-nil (λ r. (r.0 < 2 ^ 64) × (r.1 < 256)))

pub values_are : (p : Pairs) → IsPairs p → IsValues (values_of p)
values_are p h = record {
  bits = λ x w ok. bits_found p.bits h.bits x w ok;
  bytes = λ f i. byte_found (first_array p.arrays f) (array_found p.arrays h.arrays f) i;
}
