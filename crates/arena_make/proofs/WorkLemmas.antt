-- Making ends: each application on a right side is less work.
use Rattle.std.proofs.Common.{◌≡◌, ℕ, ◌<◌, ◌≤◌, max, Some, arith}
use Rattle.term_tree.specs.Terms.{Tree, lit, var, one, two, three, sel, IsTyped}
use Rattle.term_rules.specs.Rules.{Right, given, made_one, made_two, rule_of}
use Rattle.term_make.specs.Making.{build, make}
use Rattle.term_tree.specs.Sizes.{size}
use Rattle.term_rules.specs.Laws.{IsTypedRight}
use Rattle.term_make.proofs.SizeLemmas.{IsWithin, work}
use Rattle.term_make.proofs.MakeLemmas.{calls_below}
use Rattle.term_rules.proofs.TypedLemmas.{right_typed}

-- the most work of an application on a right side
abbrev pub right_work : Right → ℕ
right_work (given t) = 0
right_work (made_one op r) = max (right_work r) (work (one op (build make r).it))
right_work (made_two op r s) = max (max (right_work r) (right_work s)) (work (two op (build make r).it (build make s).it))

right_below : (k : ℕ) (r : Right) → 0 < k → IsWithin make k r → right_work r < k
right_below k (given t) p w = p
right_below k (made_one op r) p w = omega (arith, right_below k r p w.0, w.1)
right_below k (made_two op r s) p w = omega (arith, right_below k r p w.0, right_below k s p w.1, w.2)

some_size : (t : Tree) → 1 ≤ size t
some_size (lit b) = omega arith
some_size (var x w) = omega arith
some_size (one op a) = omega arith
some_size (two op a b) = omega arith
some_size (three op a b c) = omega arith
some_size (sel f i) = omega arith

some_work : (t : Tree) (r : Right) → rule_of t ≡ Some r → 0 < work t
some_work (lit b) r e = absurd (let x : ⊥ = cc in x)
some_work (var x w) r e = absurd (let x : ⊥ = cc in x)
some_work (one op a) r e = omega (arith, some_size a)
some_work (two op a b) r e = omega (arith, some_size a)
some_work (three op a b c) r e = omega (arith, some_size a)
some_work (sel f i) r e = absurd (let x : ⊥ = cc in x)

-- a right side is less work than what it stands for
pub right_less : (t : Tree) (r : Right) → rule_of t ≡ Some r → right_work r < work t
right_less t r e = right_below (work t) r (some_work t r e) (calls_below t r e)

pub right_is_typed : (t : Tree) (r : Right) → IsTyped t → rule_of t ≡ Some r → IsTypedRight r
right_is_typed t r h e = (right_typed t r h e).0
