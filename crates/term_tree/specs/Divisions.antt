-- Terms that hold no division.
use Rattle.std.specs.Prelude.{◌≡◌, ⊤, Bool, true, false}
use Rattle.bv_bits.specs.declared.Op.{Op}
use Rattle.bv_bits.specs.declared.Op.TheVariants.{UDiv, URem, SDiv, SRem}
use Rattle.term_tree.specs.Terms.{Tree, lit, var, one, two, three, sel, ArrayTree, array, upd, splice}

-- whether an operator is one of the four divisions
abbrev pub is_division : Op → Bool
is_division UDiv = true
is_division URem = true
is_division SDiv = true
is_division SRem = true
is_division op = false

-- a term that holds no division
abbrev pub HasNoDivision : Tree → Type 0
HasNoDivision (lit b) = ⊤
HasNoDivision (var x width) = ⊤
HasNoDivision (one op a) = (is_division op ≡ false) × HasNoDivision a
HasNoDivision (two op a b) = (is_division op ≡ false) × HasNoDivision a × HasNoDivision b
HasNoDivision (three op a b c) = (is_division op ≡ false) × HasNoDivision a × HasNoDivision b × HasNoDivision c
HasNoDivision (sel f i) = HasNoDivision i

-- an array term that holds none
abbrev pub ArrayHasNoDivision : ArrayTree → Type 0
ArrayHasNoDivision (array f) = ⊤
ArrayHasNoDivision (upd of at by) = ArrayHasNoDivision of × HasNoDivision at × HasNoDivision by
ArrayHasNoDivision (splice of below at) = ArrayHasNoDivision of × ArrayHasNoDivision below × HasNoDivision at
