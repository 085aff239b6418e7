-- The widths of typed terms.
use Rattle.std.proofs.Common.{◌≡◌, ℕ, ◌+◌, ◌-◌, ◌<◌, ◌≤◌, ◌&&◌, [], ◌∷◌, IsSome, leb, ltb, arith}
use Rattle.std.specs.Prelude.{unwrap_or}
use Rattle.std.proofs.lemmas.Bool.{leb-true, ltb-true, and_parts}
use Rattle.std.proofs.lemmas.Nat.{pow_pos}
use Rattle.bv_bits.specs.declared.Op.TheVariants.{Extract}
use Rattle.bv_bits.specs.Bits.{IsBits, IsWidth, result_width_of}
use Rattle.term_tree.specs.Terms.{Tree, lit, var, one, two, three, sel, width_of, IsTyped}
use Rattle.term_tree.proofs.OperatorLemmas.{some_width, one_fits, two_fits, three_fits}

-- ---- widths of typed terms

pub zero_fits : (w : ℕ) → IsWidth w → IsBits (record { width = w; value = 0 })
zero_fits w h = record { positive = h.positive; at_most = h.at_most; fits = pow_pos w }

pub width_is : (t : Tree) → IsTyped t → IsWidth (width_of t)
width_is (lit b) h = record { positive = h.positive; at_most = h.at_most }
width_is (var x w) h = h
width_is (one op a) h =
    let f = one_fits op (record { width = width_of a; value = 0 }) (zero_fits (width_of a) (width_is a h.1)) h.0 in
    record { positive = f.positive; at_most = f.at_most }
width_is (two op a b) h =
    let p = zero_fits (width_of a) (width_is a h.1) in
    let q = zero_fits (width_of b) (width_is b h.2) in
    let f = two_fits (record { width = width_of a; value = 0 }) (record { width = width_of b; value = 0 }) p q op h.0 in
    record { positive = f.positive; at_most = f.at_most }
width_is (three op a b c) h =
    let p = zero_fits (width_of a) (width_is a h.1) in
    let q = zero_fits (width_of b) (width_is b h.2) in
    let r = zero_fits (width_of c) (width_is c h.3) in
    let f = three_fits op (record { width = width_of a; value = 0 }) (record { width = width_of b; value = 0 }) (record { width = width_of c; value = 0 }) p q r h.0 in
    record { positive = f.positive; at_most = f.at_most }
width_is (sel f i) h = record { positive = omega arith; at_most = omega arith }

-- the bounds of an extract
pub extract_parts : (hi lo w : ℕ) → IsSome (result_width_of (Extract hi lo) (w ∷ [])) → (lo ≤ hi) × (hi < w) × (unwrap_or (result_width_of (Extract hi lo) (w ∷ [])) 0 ≡ hi - lo + 1)
extract_parts hi lo w h =
    let t = some_width (leb lo hi && ltb hi w) (hi - lo + 1) h in
    let p = and_parts (leb lo hi) (ltb hi w) t.0 in
    (leb-true lo hi p.0, ltb-true hi w p.1, t.1)
