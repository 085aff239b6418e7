-- What the functions that may still be called weigh.
use Rattle.std.proofs.Common.{ℕ, ◌+◌, ◌*◌, ◌≤◌, List, take}
use Rattle.std.proofs.lemmas.List.Sums.{sum_by-take-le}
use Rattle.std.specs.Prelude.{sum_by}
use Rattle.sail_syntax.specs.declared.tree.Expr.{size-Expr}
use Rattle.sail_syntax.specs.declared.definitions.Def.{Def}
use Rattle.sail_syntax.specs.declared.definitions.Def.TheVariants as def

-- a definition
abbrev pub weight_of : Def → ℕ
weight_of def.Order = 1
weight_of (def.Register x width at) = 1
weight_of (def.Enum x members at) = 1
weight_of (def.Val x args result at) = 1
weight_of (def.Function x params result body at) = 4 * size-Expr body + 3

-- definitions
abbrev pub weight : List Def → ℕ
weight = sum_by weight_of

-- the first n definitions weigh no more than all
pub weight_take : (n : ℕ) (defs : List Def) → weight (take n defs) ≤ weight defs
weight_take n defs = sum_by-take-le weight_of defs n
