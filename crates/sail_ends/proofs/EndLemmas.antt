-- What ends with an expression, and what doesn't.
use Rattle.std.proofs.Common.{◌≡◌, ℕ, Bool, true, false, if◌then◌else◌, not, [], ◌∷◌, Ok, refl}
use Rattle.sail_syntax.specs.Tree.{Tree}
use Rattle.sail_grammar.specs.declared.keyword.Keyword.TheVariants as keyword
use Rattle.sail_machine.specs.Frames as m
use Rattle.sail_machine.specs.Frames.{Frames, awaits}
use Rattle.sail_machine.specs.declared.awaited.Await.TheVariants as a
use Rattle.sail_machine.specs.Signs.{Next, meets_keyword}
use Rattle.sail_machine.specs.Turns.{Turn, ends, ends_in, unexpected}
use Rattle.sail_ends.specs.Endings.{ends_with, is_choosing, outer}

second : (b : Bool) (x y : Turn) → not b ≡ true → (if b then x else y) ≡ y
second true x y h = absurd cc
second false x y h = refl

first : (b : Bool) (x y : Turn) → not b ≡ false → (if b then x else y) ≡ x
first true x y h = refl
first false x y h = absurd cc

pub ends_outer : (k : Frames) (f : m.Frame) (e : Tree) (n : Next) → ends_with f n ≡ true → ends (f ∷ k) e n ≡ ends k (outer f e) n
unfolding ends
ends_outer k (m.choosing t p) e n h = second (meets_keyword keyword.Else n) (Ok (m.otherwise t e p ∷ k, awaits a.Want)) (ends k (outer (m.choosing t p) e) n) h
ends_outer k (m.otherwise t y p) e n h = refl
ends_outer k (m.chained op xs p) e n h = refl
ends_outer k (m.assigning x p) e n h = refl
ends_outer k f e n h = absurd cc

pub ends_none : (e : Tree) (n : Next) → ends [] e n ≡ unexpected n.at
unfolding ends
ends_none e n = refl

pub ends_else : (k : Frames) (t : Tree) (p : ℕ) (e : Tree) (n : Next) → ends_with (m.choosing t p) n ≡ false → ends (m.choosing t p ∷ k) e n ≡ Ok (m.otherwise t e p ∷ k, awaits a.Want)
unfolding ends
ends_else k t p e n h = first (meets_keyword keyword.Else n) (Ok (m.otherwise t e p ∷ k, awaits a.Want)) (ends k (outer (m.choosing t p) e) n) h

pub ends_inner : (k : Frames) (f : m.Frame) (e : Tree) (n : Next) → ends_with f n ≡ false → is_choosing f ≡ false → ends (f ∷ k) e n ≡ ends_in k f e n
unfolding ends
ends_inner k (m.choosing t p) e n h i = absurd cc
ends_inner k (m.otherwise t y p) e n h i = absurd cc
ends_inner k (m.chained op xs p) e n h i = absurd cc
ends_inner k (m.assigning x p) e n h i = absurd cc
ends_inner k f e n h i = refl
