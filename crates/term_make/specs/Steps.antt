-- What the code makes next of an application.
use Rattle.std.specs.Prelude.{◌≡◌, Option, Some, None}
use Rattle.bv_bits.specs.declared.Op.TheVariants.{Add}
use Rattle.term_make.specs.declared.making.Step.{Step}
use Rattle.term_make.specs.declared.making.Step.TheVariants as step
use Rattle.term_tree.specs.Terms.{lit}
use Rattle.term_rules.specs.Rules.{Right, given, made_one, made_two}
use Rattle.term_tree.specs.View.{tree}

-- the step that a right side asks for, and the one where there is none
abbrev pub IsStep : Option Right → Step → Type 0
IsStep o step.Plain = o ≡ None
IsStep o (step.Given t) = o ≡ Some (given (tree t.now))
IsStep o (step.Literal b) = o ≡ Some (given (lit b))
IsStep o (step.One op a) = o ≡ Some (made_one op (given (tree a.now)))
IsStep o (step.Two op a b) = o ≡ Some (made_two op (given (tree a.now)) (given (tree b.now)))
IsStep o (step.WithLiteral op a c) = o ≡ Some (made_two op (given (tree a.now)) (given (lit c)))
IsStep o (step.PlusLiteral op a b c) = o ≡ Some (made_two Add (made_two op (given (tree a.now)) (given (tree b.now))) (given (lit c)))
