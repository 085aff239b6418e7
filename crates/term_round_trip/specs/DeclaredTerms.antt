-- Terms whose variables a scope declares.
use Rattle.std.specs.Prelude.{◌≡◌, ⊤, Some}
use Rattle.term_tree.specs.declared.term.Sort.TheVariants as sort
use Rattle.term_tree.specs.Terms.{Tree, lit, var, one, two, three, sel, ArrayTree, array, upd, splice}
use Rattle.term_words.specs.Scopes.{Scope, sort_of}

-- the variables of a term are declared with their sorts
abbrev pub IsDeclared : Scope → Tree → Type 0
IsDeclared scope (lit b) = ⊤
IsDeclared scope (var x width) = sort_of scope x ≡ Some (sort.Bits width)
IsDeclared scope (one op a) = IsDeclared scope a
IsDeclared scope (two op a b) = IsDeclared scope a × IsDeclared scope b
IsDeclared scope (three op a b c) = IsDeclared scope a × IsDeclared scope b × IsDeclared scope c
IsDeclared scope (sel f i) = (sort_of scope f ≡ Some sort.Array) × IsDeclared scope i

-- the variables of an array term are declared with their sorts
abbrev pub IsDeclaredArray : Scope → ArrayTree → Type 0
IsDeclaredArray scope (array f) = sort_of scope f ≡ Some sort.Array
IsDeclaredArray scope (upd of at by) = IsDeclaredArray scope of × IsDeclared scope at × IsDeclared scope by
IsDeclaredArray scope (splice of below at) = IsDeclaredArray scope of × IsDeclaredArray scope below × IsDeclared scope at
