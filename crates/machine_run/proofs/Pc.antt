-- The register PC is there, and has 64 bits.
use Rattle.std.proofs.Common.{◌≡◌, ℕ, zero, suc, ◌<◌, List, [], ◌∷◌, Some, length, get_or, map, slice_get, nat_eq, refl, sym, ap, ◌∙◌, subst, ◌^◌, arith}
use Rattle.std.specs.Prelude.{bytes_eq, codes, slice_index_or}
use Rattle.std.proofs.lemmas.Option.{get_or_from_slice_get, slice_get_within}
use Rattle.std.specs.List.{position}
use Rattle.std.proofs.lemmas.Bool.{and_parts, eqb-true}
use Rattle.std.proofs.lemmas.List.Quantifiers.{position-Some}
use Rattle.bv_bits.specs.declared.Bits.{Bits}
use Rattle.bv_bits.specs.Bits.{IsBits, width_of}
use Rattle.state_core.specs.State.{State, register_of, widths_of}
use Rattle.lex_core.specs.declared.name.RegDecl.{RegDecl}
use Rattle.sail_syntax.specs.Program.{Definition, registers_of}
use Rattle.type_rules.specs.Program.{is_pc, pc_number}
use Rattle.machine_run.specs.Program.{width_in, widths_in}

-- the width at a place
width_at : (rs : List RegDecl) (i : ℕ) (d : RegDecl) → i < length rs → slice_get (map width_in rs) i ≡ Some (get_or rs i d).width
width_at [] i d within = absurd (omega (arith, within))
width_at (r ∷ rs) zero d within = refl
width_at (r ∷ rs) (suc i) d within = width_at rs i d (omega (arith, within))

-- the width of PC
pc_width : (rs : List RegDecl) (i : ℕ) → Some i ≡ position is_pc rs → slice_get (map width_in rs) i ≡ Some 64
pc_width rs i h =
    let d : RegDecl = record { name = []; width = 0 } in
    let found = position-Some is_pc rs i d (sym h) in
    let r = get_or rs i d in
    width_at rs i d found.0 ∙ ap Some (eqb-true r.width 64 ((and_parts (bytes_eq r.name (codes "PC")) (nat_eq r.width 64) found.1).1))

pub pc_declared : (defs : List Definition) (r : ℕ) → pc_number defs ≡ Some r → r < length (widths_in defs)
pc_declared defs r is = slice_get_within (widths_in defs) r 64 (pc_width (registers_of defs) r (sym is))

pub pc_wide : (defs : List Definition) (r : ℕ) → pc_number defs ≡ Some r → slice_index_or (widths_in defs) r 0 ≡ 64
pc_wide defs r is = get_or_from_slice_get (widths_in defs) r 64 0 (pc_width (registers_of defs) r (sym is))

-- the width of a register
width_of_register : (rs : List Bits) (r : ℕ) (d : Bits) → (slice_index_or rs r d).width ≡ slice_index_or (map width_of rs) r d.width
width_of_register [] r d = refl
width_of_register (x ∷ xs) zero d = refl
width_of_register (x ∷ xs) (suc r) d = width_of_register xs r d

-- the value of PC is an address
pub pc_fits : (defs : List Definition) (s : State) (r : ℕ) (b : Bits) → widths_of s ≡ widths_in defs → pc_number defs ≡ Some r → b ≡ register_of s r → IsBits b → b.value < 2 ^ 64
pc_fits defs s r b same is value bits =
    let wide : b.width ≡ 64 =
    ap (λ (c : Bits). c.width) value ∙ width_of_register s.registers r (record { width = 0; value = 0 }) ∙ ap (λ ws. slice_index_or ws r 0) same ∙ pc_wide defs r is in
    subst (λ w. b.value < 2 ^ w) wide bits.fits
