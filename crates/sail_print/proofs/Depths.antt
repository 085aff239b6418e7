-- How deep the parts of an `if` are.
use Rattle.std.proofs.Common.{ℕ, max, Option, Some, None}
use Rattle.sail_syntax.specs.declared.tree.Expr.{Expr, size-Expr}

-- what stands behind `else`
abbrev pub other_depth : Option Expr → ℕ
other_depth None = 0
other_depth (Some e) = size-Expr e

-- all parts
abbrev pub choice_depth : Expr → Expr → Option Expr → ℕ
choice_depth test one other = max (size-Expr test) (max (size-Expr one) (other_depth other))
