-- Zeros are values.
use Rattle.std.proofs.Common.{◌≡◌, ℕ, ◌+◌, ◌<◌, List, [], ◌∷◌, ◌++◌, length, get_or, map, drop, ap, sym, ◌∙◌, arith, append_assoc}
use Rattle.std.specs.Prelude.{All}
use Rattle.std.proofs.lemmas.List.Elements.{All-append, All-cons}
use Rattle.std.proofs.lemmas.List.{drop_more}
use Rattle.std.proofs.lemmas.Nat.{pow_pos}
use Rattle.bv_bits.specs.declared.Bits.{Bits}
use Rattle.bv_bits.specs.Bits.{IsBits, IsWidth}
use Rattle.state_core.specs.State.{zero_of}

pub zero_is_bits : (w : ℕ) → IsWidth w → IsBits (zero_of w)
zero_is_bits w h = record { positive = h.positive; at_most = h.at_most; fits = pow_pos w }

pub one_more : (registers : List Bits) (w : ℕ) → All IsBits registers → IsWidth w → All IsBits (registers ++ zero_of w ∷ [])
one_more registers w all h = All-append IsBits registers (zero_of w ∷ []) all (All-cons IsBits (zero_of w) [] (zero_is_bits w h) (λ k d below. absurd (omega (arith, below))))

-- the next width's zero goes from those that are left to those that are there
pub moved : (registers : List Bits) (widths : List ℕ) (i : ℕ) → i < length widths → (registers ++ zero_of (get_or widths i 0) ∷ []) ++ map zero_of (drop (i + 1) widths) ≡ registers ++ map zero_of (drop i widths)
moved registers widths i within =
    append_assoc registers (zero_of (get_or widths i 0) ∷ []) (map zero_of (drop (i + 1) widths))
    ∙ ap (λ ws. registers ++ map zero_of ws) (sym (drop_more widths i 0 within))
