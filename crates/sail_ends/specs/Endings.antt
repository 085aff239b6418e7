-- What ends with an expression, from the innermost to the outermost.
use Rattle.std.specs.Prelude.{Bool, true, false, not, [], ◌∷◌, ◌++◌}
use Rattle.sail_machine.specs.Frames as m
use Rattle.sail_machine.specs.Signs.{Next, meets_keyword}
use Rattle.sail_grammar.specs.declared.keyword.Keyword.TheVariants as keyword
use Rattle.sail_syntax.specs.Tree.{Tree, node, when, choose, chain, assign}
use Rattle.sail_syntax.specs.View.{trees}

-- whether what is open ends with an expression that ends in front of this
abbrev pub ends_with : m.Frame → Next → Bool
ends_with (m.choosing t p) n = not (meets_keyword keyword.Else n)
ends_with (m.otherwise t y p) n = true
ends_with (m.chained op xs p) n = true
ends_with (m.assigning x p) n = true
ends_with f n = false

-- the expression that ended with its last part
abbrev pub outer : m.Frame → Tree → Tree
outer (m.choosing t p) e = node p (when t e)
outer (m.otherwise t y p) e = node p (choose t y e)
outer (m.chained op xs p) e = node p (chain op (trees (xs ++ e ∷ [])))
outer (m.assigning x p) e = node p (assign x e)
outer f e = e

-- whether the part behind `then` of an if is awaited
abbrev pub is_choosing : m.Frame → Bool
is_choosing (m.choosing t p) = true
is_choosing f = false
