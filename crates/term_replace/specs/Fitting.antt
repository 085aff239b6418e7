-- The test whether a replacement is as wide as a variable.
use Rattle.std.specs.Prelude.{ℕ, Bool, ◌&&◌, not, nat_eq, bytes_eq}
use Rattle.term_tree.specs.Terms.{Text, Tree, width_of}

-- whether a replacement has this name and another width
abbrev pub misfits : Text → ℕ → Text × Tree → Bool
misfits x w p = bytes_eq p.0 x && not (nat_eq (width_of p.1) w)
