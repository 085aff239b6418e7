-- Registers that are given values of their widths, one after the other.
use Rattle.std.proofs.Common.{◌≡◌, ℕ, ◌+◌, ◌<◌, List, ◌∷◌, length, map, get_or, drop, sym, ap, ◌∙◌, subst, arith, All}
use Rattle.std.specs.Prelude.{slice_set, slice_index_or}
use Rattle.std.proofs.lemmas.List.{drop_more, length-map, get_or-map}
use Rattle.std.proofs.lemmas.List.Elements.{All-head, All-tail}
use Rattle.bv_bits.specs.declared.Bits.{Bits}
use Rattle.bv_bits.specs.Bits.{width_of}
use Rattle.state_core.specs.State.{State, register_of, widths_of}
use Rattle.constants_walk.specs.declared.register_places.PlacedValue.{PlacedValue}
use Rattle.constants_walk.specs.RegisterPlaces.{pair_of}
use Rattle.constants_walk.specs.Entry.{Fits, with_values}
use Rattle.constants_walk.proofs.EntryState.{kept_width}

pairs_from : (vs : List PlacedValue) (i : ℕ) (d : PlacedValue) → i < length vs → map pair_of (drop i vs) ≡ pair_of (get_or vs i d) ∷ map pair_of (drop (i + 1) vs)
pairs_from vs i d below = ap (map pair_of) (drop_more vs i d below)

pub first_fits : (ws : List ℕ) (vs : List PlacedValue) (i : ℕ) (d : PlacedValue) → i < length vs → All (Fits ws) (map pair_of (drop i vs)) → Fits ws (pair_of (get_or vs i d))
first_fits ws vs i d below h =
    All-head (Fits ws) (pair_of (get_or vs i d)) (map pair_of (drop (i + 1) vs)) (subst (All (Fits ws)) (pairs_from vs i d below) h)

pub others_fit : (ws : List ℕ) (vs : List PlacedValue) (i : ℕ) (d : PlacedValue) → i < length vs → All (Fits ws) (map pair_of (drop i vs)) → All (Fits ws) (map pair_of (drop (i + 1) vs))
others_fit ws vs i d below h =
    All-tail (Fits ws) (pair_of (get_or vs i d)) (map pair_of (drop (i + 1) vs)) (subst (All (Fits ws)) (pairs_from vs i d below) h)

pub is_there : (s : State) (ws : List ℕ) (v : ℕ × Bits) → widths_of s ≡ ws → Fits ws v → v.0 < length s.registers
is_there s ws v is fit =
    let size = length-map s.registers width_of in
    let same : length (widths_of s) ≡ length ws = ap length is in
    let there = fit.there in omega (arith, size, same, there)

pub has_width : (s : State) (ws : List ℕ) (v : ℕ × Bits) → widths_of s ≡ ws → Fits ws v → v.1.width ≡ (register_of s v.0).width
has_width s ws v is fit =
    sym fit.wide ∙ ap (λ l. slice_index_or l v.0 0) (sym is) ∙ get_or-map width_of s.registers v.0 (record { width = 0; value = 0 }) 0 (is_there s ws v is fit)

pub set_widths : (s t : State) (ws : List ℕ) (v : ℕ × Bits) → t ≡ record s { registers = slice_set s.registers v.0 v.1 } → widths_of s ≡ ws → Fits ws v → widths_of t ≡ ws
set_widths s t ws v is same fit = ap widths_of is ∙ kept_width ws s.registers v.0 v.1 same fit.there (sym fit.wide)

pub set_rest : (s t : State) (vs : List PlacedValue) (i : ℕ) (d : PlacedValue) (all : List Bits) → i < length vs
    → t ≡ record s { registers = slice_set s.registers (get_or vs i d).register (get_or vs i d).value }
    → with_values (map pair_of (drop i vs)) s.registers ≡ all → with_values (map pair_of (drop (i + 1) vs)) t.registers ≡ all
set_rest s t vs i d all below is rest =
    ap (λ (u : State). with_values (map pair_of (drop (i + 1) vs)) u.registers) is
    ∙ sym (ap (λ ps. with_values ps s.registers) (pairs_from vs i d below)) ∙ rest
