-- What holds no expression is spelled by its signs.
use Rattle.std.proofs.Common.{◌≡◌, ℕ, zero, suc, max, ◌+◌, ◌≤◌, Bool, true, false, List, [], ◌∷◌, Option, Some, None, arith}
use Rattle.sail_syntax.specs.Tree.{Text}
use Rattle.sail_syntax.specs.declared.tree.Infix.TheVariants as between
use Rattle.sail_syntax.specs.declared.tree.Index.{Index}
use Rattle.sail_syntax.specs.declared.patterns.Pattern.{Pattern}
use Rattle.sail_syntax.specs.declared.patterns.Pattern.TheVariants as pattern
use Rattle.sail_syntax.specs.declared.patterns.Part.{Part}
use Rattle.sail_syntax.specs.declared.patterns.Part.TheVariants as part
use Rattle.sail_syntax.specs.declared.types.Ty.{Ty}
use Rattle.sail_syntax.specs.declared.types.Ty.TheVariants as ty
use Rattle.sail_syntax.specs.declared.types.Param.{Param}
use Rattle.sail_grammar.specs.declared.keyword.Keyword.TheVariants as k
use Rattle.sail_grammar.specs.declared.mark.Mark.TheVariants as m
use Rattle.sail_grammar.specs.declared.word.Sign.{Sign}
use Rattle.sail_grammar.specs.declared.word.Sign.TheVariants as sign
use Rattle.sail_grammar.specs.Words.{Words}
use Rattle.sail_grammar.specs.Expressions.{SpellsType, bits_type, bool_type, unit_type, enum_type, SpellsWritten, no_type, a_type, SpellsIndex, at_number, at_name, at_sum, SpellsPart, part_value, part_name, part_any, SpellsParts, last_part, more_parts, SpellsPattern, any_value, a_name, a_value, if_true, if_false, in_parts}
use Rattle.sail_grammar.specs.Definitions.{SpellsNames, last_name, more_names, SpellsTypes, last_type, more_types, SpellsParams, last_param, more_params, SpellsTypeList, no_types, some_types, SpellsParamList, no_params, some_params}
use Rattle.sail_printed.specs.Forms.{IsFormedType, IsFormedWritten, IsFormedVariable, IsFormedIndex, IsFormedPart, AreFormedParts, AreSeveralParts, IsFormedPattern, AreNames, AreFormedTypes, AreFormedParams}
use Rattle.sail_printed.specs.Levels.{type_levels, written_levels, part_levels, parts_levels, pattern_levels, types_levels, params_levels}
use Rattle.sail_printed.proofs.Shown.{Signs, kw, mk, past, placed, type_signs, written_signs, index_part_signs, index_signs, part_signs, more_parts_signs, parts_signs, pattern_signs, more_names_signs, names_signs, more_types_signs, types_signs, more_params_signs, params_signs}

-- of the signs from a place on those in front of the others are so
pub record Passes (is : Words → Words → Type 0) (at : ℕ) (ss r : Signs) : Type 0 where
  pub to : ℕ
  pub holds : is (placed at ss) (placed to r)

-- ---- types

pub type_spelled : (t : Ty) (n : ℕ) → IsFormedType t → type_levels t ≤ n → (at : ℕ) (r : Signs) → Passes (λ ts rest. SpellsType n ts t rest) at (type_signs t r) r
type_spelled ty.Unit n h l at r = record { to = _; holds = unit_type }
type_spelled ty.Bool n h l at r = record { to = _; holds = bool_type }
type_spelled (ty.Bits w) zero h l at r = absurd (omega (arith, l))
type_spelled (ty.Bits w) (suc n) h l at r = record { to = _; holds = bits_type h }
type_spelled (ty.Enum x) n h l at r = record { to = _; holds = enum_type }

pub written_spelled : (t : Option Ty) (n : ℕ) → IsFormedWritten t → written_levels t ≤ n → (at : ℕ) (r : Signs) → Passes (λ ts rest. SpellsWritten n ts t rest) at (written_signs t r) r
written_spelled None n h l at r = record { to = at; holds = no_type }
written_spelled (Some t) n h l at r = let a = type_spelled t n h l (past at (mk m.Colon)) r in record { to = a.to; holds = a_type a.holds }

-- types in a row, and the bracket behind them
types_spelled : (t : Ty) (ts : List Ty) (n : ℕ) → AreFormedTypes (t ∷ ts) → types_levels (t ∷ ts) ≤ n → (at : ℕ) (r : Signs) → Passes (λ ws rest. SpellsTypes n ws (t ∷ ts) rest) at (types_signs (t ∷ ts) (mk m.Close ∷ r)) r
types_spelled t [] n h l at r = let a = type_spelled t n h.0 (omega (arith, l)) at (mk m.Close ∷ r) in record { to = past a.to (mk m.Close); holds = last_type a.holds }
types_spelled t (u ∷ us) n h l at r =
    let a = type_spelled t n h.0 (omega (arith, l)) at (more_types_signs (u ∷ us) (mk m.Close ∷ r)) in
    let b = types_spelled u us n h.1 (omega (arith, l)) (past a.to (mk m.Comma)) r in
    record { to = b.to; holds = more_types a.holds b.holds }

pub type_list_spelled : (ts : List Ty) (n : ℕ) → AreFormedTypes ts → suc (types_levels ts) ≤ n → (at : ℕ) (r : Signs) → Passes (λ ws rest. SpellsTypeList n ws ts rest) at (mk m.Open ∷ types_signs ts (mk m.Close ∷ r)) r
type_list_spelled ts zero h l at r = absurd (omega (arith, l))
type_list_spelled [] (suc n) h l at r = record { to = _; holds = no_types }
type_list_spelled (t ∷ ts) (suc n) h l at r = let a = types_spelled t ts n h (omega (arith, l)) (past at (mk m.Open)) r in record { to = a.to; holds = some_types a.holds }

-- parameters in a row, and the bracket behind them
params_spelled : (p : Param) (ps : List Param) (n : ℕ) → AreFormedParams (p ∷ ps) → params_levels (p ∷ ps) ≤ n → (at : ℕ) (r : Signs) → Passes (λ ws rest. SpellsParams n ws (p ∷ ps) rest) at (params_signs (p ∷ ps) (mk m.Close ∷ r)) r
params_spelled p [] n h l at r =
    let a = type_spelled p.ty n h.1 (omega (arith, l)) (past (past at (sign.Name p.name)) (mk m.Colon)) (mk m.Close ∷ r) in
    record { to = past a.to (mk m.Close); holds = last_param a.holds }
params_spelled p (q ∷ qs) n h l at r =
    let a = type_spelled p.ty n h.1 (omega (arith, l)) (past (past at (sign.Name p.name)) (mk m.Colon)) (more_params_signs (q ∷ qs) (mk m.Close ∷ r)) in
    let b = params_spelled q qs n h.2 (omega (arith, l)) (past a.to (mk m.Comma)) r in
    record { to = b.to; holds = more_params a.holds b.holds }

pub param_list_spelled : (ps : List Param) (n : ℕ) → AreFormedParams ps → suc (params_levels ps) ≤ n → (at : ℕ) (r : Signs) → Passes (λ ws rest. SpellsParamList n ws ps rest) at (mk m.Open ∷ params_signs ps (mk m.Close ∷ r)) r
param_list_spelled ps zero h l at r = absurd (omega (arith, l))
param_list_spelled [] (suc n) h l at r = record { to = _; holds = no_params }
param_list_spelled (p ∷ ps) (suc n) h l at r = let a = params_spelled p ps n h (omega (arith, l)) (past at (mk m.Open)) r in record { to = a.to; holds = some_params a.holds }

-- ---- names

pub names_spelled : (xs : List Text) → AreNames xs → (at : ℕ) (r : Signs) → Passes (λ ts rest. SpellsNames ts xs rest) at (names_signs xs (mk m.CloseBrace ∷ r)) r
names_spelled [] h at r = absurd h
names_spelled (x ∷ []) h at r = record { to = _; holds = last_name }
names_spelled (x ∷ y ∷ xs) h at r = let a = names_spelled (y ∷ xs) h.1 (past (past at (sign.Name x)) (mk m.Comma)) r in record { to = a.to; holds = more_names a.holds }

-- ---- indices

index_parts_spelled : (x : Option Text) (n : ℕ) → IsFormedVariable x → n ≤ 127 → (at : ℕ) (r : Signs) → Passes (λ ts rest. SpellsIndex ts (record { var = x; plus = n }) rest) at (index_part_signs x n r) r
index_parts_spelled None n h l at r = record { to = _; holds = at_number l }
index_parts_spelled (Some x) zero h l at r = record { to = _; holds = at_name }
index_parts_spelled (Some x) (suc n) h l at r = record { to = _; holds = at_sum l }

pub index_spelled : (i : Index) → IsFormedIndex i → (at : ℕ) (r : Signs) → Passes (λ ts rest. SpellsIndex ts i rest) at (index_signs i r) r
index_spelled i h at r = index_parts_spelled i.var i.plus h.0 h.1 at r

-- ---- patterns

part_spelled : (p : Part) (n : ℕ) → IsFormedPart p → part_levels p ≤ n → (at : ℕ) (r : Signs) → Passes (λ ts rest. SpellsPart n ts p rest) at (part_signs p r) r
part_spelled (part.Lit b) n h l at r = record { to = _; holds = part_value }
part_spelled (part.Bind x w) zero h l at r = absurd (omega (arith, l))
part_spelled (part.Bind x w) (suc n) h l at r = record { to = _; holds = part_name h.1 }
part_spelled (part.Skip w) zero h l at r = absurd (omega (arith, l))
part_spelled (part.Skip w) (suc n) h l at r = record { to = _; holds = part_any h }

parts_spelled : (ps : List Part) (n : ℕ) → AreFormedParts ps → parts_levels ps ≤ n → (at : ℕ) (r : Signs) → Passes (λ ts rest. SpellsParts n ts ps rest) at (parts_signs ps r) r
parts_spelled [] n h l at r = absurd h
parts_spelled (p ∷ []) n h l at r = let a = part_spelled p n h (omega (arith, l)) at r in record { to = a.to; holds = last_part a.holds }
parts_spelled (p ∷ q ∷ ps) n h l at r =
    let a = part_spelled p n h.0 (omega (arith, l)) at (more_parts_signs (q ∷ ps) r) in
    let b = parts_spelled (q ∷ ps) n h.1 (omega (arith, l)) (past a.to (sign.Operator between.Join)) r in
    record { to = b.to; holds = more_parts a.holds b.holds }

several_spelled : (ps : List Part) (n : ℕ) → AreSeveralParts ps → parts_levels ps ≤ n → (at : ℕ) (r : Signs) → Passes (λ ts rest. SpellsPattern n ts (pattern.Parts ps) rest) at (parts_signs ps r) r
several_spelled [] n h l at r = absurd h
several_spelled (p ∷ []) n h l at r = absurd h.1
several_spelled (p ∷ q ∷ ps) n h l at r =
    let a = part_spelled p n h.0 (omega (arith, l)) at (more_parts_signs (q ∷ ps) r) in
    let b = parts_spelled (q ∷ ps) n h.1 (omega (arith, l)) (past a.to (sign.Operator between.Join)) r in
    record { to = b.to; holds = in_parts a.holds b.holds }

pub pattern_spelled : (p : Pattern) (n : ℕ) → IsFormedPattern p → pattern_levels p ≤ n → (at : ℕ) (r : Signs) → Passes (λ ts rest. SpellsPattern n ts p rest) at (pattern_signs p r) r
pattern_spelled pattern.Any n h l at r = record { to = _; holds = any_value }
pattern_spelled (pattern.Name x) n h l at r = record { to = _; holds = a_name }
pattern_spelled (pattern.Lit b) n h l at r = record { to = _; holds = a_value }
pattern_spelled (pattern.Truth true) n h l at r = record { to = _; holds = if_true }
pattern_spelled (pattern.Truth false) n h l at r = record { to = _; holds = if_false }
pattern_spelled (pattern.Parts ps) n h l at r = several_spelled ps n h l at r
