-- The registers of the entry's state: the PC is there and has 64 bits, and values of placed registers fit.
use Rattle.std.proofs.Common.{◌≡◌, ℕ, zero, suc, ◌<◌, List, [], ◌∷◌, length, map, get_or, nat_eq, sym, ap, ◌∙◌, subst, arith, All, Some, refl}
use Rattle.std.specs.Prelude.{bytes_eq, codes, slice_set, slice_get, slice_index_or}
use Rattle.std.proofs.lemmas.Bool.{and_parts, eqb-true}
use Rattle.std.proofs.lemmas.List.{length-map, get_or-map}
use Rattle.std.proofs.lemmas.List.Elements.{All-weaker}
use Rattle.std.proofs.lemmas.List.Quantifiers.{position-Some}
use Rattle.std.proofs.lemmas.Option.{get_or_from_slice_get, slice_get_within}
use Rattle.bv_bits.specs.declared.Bits.{Bits}
use Rattle.bv_bits.specs.Bits.{width_of}
use Rattle.lex_core.specs.declared.name.RegDecl.{RegDecl}
use Rattle.sail_syntax.specs.Program.{Definition, registers_of}
use Rattle.type_rules.specs.Program.{is_pc, pc_number}
use Rattle.state_core.specs.State.{State, Memory, register_of, widths_of}
use Rattle.machine_run.specs.Program.{width_in, widths_in}
use Rattle.constants_walk.specs.RegisterPlaces.{IsPlaced}
use Rattle.constants_walk.specs.Entry.{Fits}
use Rattle.constants_walk.proofs.EntryState.{kept_width}

placed_fits : (ws : List ℕ) (pc : ℕ) (v : ℕ × Bits) → IsPlaced ws pc v → Fits ws v
placed_fits ws pc v p = record { there = p.there; wide = get_or_from_slice_get ws v.0 v.1.width 0 p.wide; bits = p.bits }

pub all_fit : (s : State) (ws : List ℕ) (pc : ℕ) (vs : List (ℕ × Bits)) → widths_of s ≡ ws → All (IsPlaced ws pc) vs → All (Fits (widths_of s)) vs
all_fit s ws pc vs is h = subst (λ l. All (Fits l) vs) (sym is) (All-weaker (IsPlaced ws pc) (Fits ws) (placed_fits ws pc) vs h)

-- ---- the PC

width_at : (rs : List RegDecl) (i : ℕ) (d : RegDecl) → i < length rs → slice_get (map width_in rs) i ≡ Some (get_or rs i d).width
width_at [] i d within = absurd (omega (arith, within))
width_at (r ∷ rs) zero d within = refl
width_at (r ∷ rs) (suc i) d within = width_at rs i d (omega (arith, within))

pub pc_wide : (defs : List Definition) (i : ℕ) → pc_number defs ≡ Some i → slice_get (widths_in defs) i ≡ Some 64
pc_wide defs i h =
    let rs = registers_of defs in
    let d : RegDecl = record { name = []; width = 0 } in
    let found = position-Some is_pc rs i d h in
    let r = get_or rs i d in
    width_at rs i d found.0 ∙ ap Some (eqb-true r.width 64 ((and_parts (bytes_eq r.name (codes "PC")) (nat_eq r.width 64) found.1).1))

pub pc_there : (s : State) (ws : List ℕ) (r : ℕ) → widths_of s ≡ ws → slice_get ws r ≡ Some 64 → r < length s.registers
pc_there s ws r is wide =
    let size = length-map s.registers width_of in
    let same : length (widths_of s) ≡ length ws = ap length is in
    let below = slice_get_within ws r 64 wide in omega (arith, size, same, below)

pub pc_width : (s : State) (ws : List ℕ) (r : ℕ) → widths_of s ≡ ws → slice_get ws r ≡ Some 64 → 64 ≡ (register_of s r).width
pc_width s ws r is wide =
    let below = pc_there s ws r is wide in
    sym (get_or_from_slice_get ws r 64 0 wide) ∙ ap (λ l. slice_index_or l r 0) (sym is) ∙ get_or-map width_of s.registers r (record { width = 0; value = 0 }) 0 below

-- a register that is set keeps the widths, and so does a byte that is added
pub entry_widths : (s t u : State) (ws : List ℕ) (r : ℕ) (b : Bits) (m : Memory) → widths_of s ≡ ws → r < length s.registers → b.width ≡ (register_of s r).width
    → t ≡ record s { registers = slice_set s.registers r b } → u ≡ record t { memory = m } → widths_of u ≡ ws
entry_widths s t u ws r b m is below wide set added =
    let size = length-map s.registers width_of in
    let same : length (widths_of s) ≡ length ws = ap length is in
    ap widths_of added ∙ ap widths_of set
    ∙ kept_width ws s.registers r b is (omega (arith, size, same, below))
    (wide ∙ sym (get_or-map width_of s.registers r (record { width = 0; value = 0 }) 0 below) ∙ ap (λ l. slice_index_or l r 0) is)
