-- Laws of what is made.
use Rattle.std.specs.Prelude.{◌≡◌, ◌≤◌, ◌<◌, ◌↔◌, ◌⊎◌, ◌||◌, None, All}
use Rattle.std.specs.List.{Any}
use Rattle.term_tree.specs.Terms.{Tree, IsTyped, width_of, height, array_height, HIGHEST}
use Rattle.term_tree.specs.Values.{Values, IsValues, value}
use Rattle.term_tree.specs.Divisions.{HasNoDivision}
use Rattle.term_tree.specs.Variables.{Variables, HoldsOnly}
use Rattle.term_tree.specs.Sizes.{size}
use Rattle.term_rules.specs.Rules.{Right, rule_of}
use Rattle.term_make.specs.Making.{IsMade, IsBuilt, Made, made_then, build, make_by, make, goes_high, within_height}

-- what is made is what the relation says, and nothing else
abbrev pub MadeExactly : Type 0
MadeExactly = (t u : Tree) → IsMade t u ↔ (u ≡ (make t).it)

-- so is what a right side builds
abbrev pub BuiltExactly : Type 0
BuiltExactly = (r : Right) (u : Tree) → IsBuilt r u ↔ (u ≡ (build make r).it)

-- the bound on rules is never met: each application is made by the first rule that fits, and so is each on its right side
abbrev pub MadeByFirstRule : Type 0
MadeByFirstRule = (t : Tree) → make t ≡ make_by make t (rule_of t)

-- each application that is asked for on the way stands with what is made of it
abbrev pub AskedAreMade : Type 0
AskedAreMade = (t : Tree) → All (λ a. IsMade a.0 a.1) (make t).asked

-- what is made is no larger
abbrev pub MadeIsNoLarger : Type 0
MadeIsNoLarger = (t : Tree) → size (make t).it ≤ size t

-- it is typed, and as wide
abbrev pub MadeIsTyped : Type 0
MadeIsTyped = (t : Tree) → IsTyped t → IsTyped (make t).it × (width_of (make t).it ≡ width_of t)

-- so is each application that is asked for on the way, and what is made of it
abbrev pub AskedAreTyped : Type 0
AskedAreTyped = (t : Tree) → IsTyped t → All (λ a. IsTyped a.0 × IsTyped a.1) (make t).asked

-- it has the value of the application as it stands
abbrev pub MadeKeepsValue : Type 0
MadeKeepsValue = (v : Values) (t : Tree) → IsValues v → IsTyped t → value v (make t).it ≡ value v t

-- ---- laws of what a term holds

-- what is made of an application that holds no division holds none
abbrev pub MadeHoldsNoDivision : Type 0
MadeHoldsNoDivision = (t : Tree) → HasNoDivision t → HasNoDivision (make t).it

-- what is made holds no variable but the application's
abbrev pub MadeHoldsOnly : Type 0
MadeHoldsOnly = (vs : Variables) (t : Tree) → HoldsOnly vs t → HoldsOnly vs (make t).it

-- ---- laws of several terms that are made in a row

-- something on the way is too high
abbrev pub IsHigh : Made Tree → Type 0
IsHigh m = Any (λ a. HIGHEST < height a.1) m.asked ⊎ Any (λ f. HIGHEST < array_height f) m.stored

-- two in a row go too high where one of them does, whatever is made
abbrev pub HighInARow : Type 0
HighInARow = (m n : Made Tree) → goes_high (made_then m (λ x. n)) ≡ (goes_high m || goes_high n)

-- so nothing is made within the height where nothing is of the one or of the other
abbrev pub OutsideInARow : Type 0
OutsideInARow = (m : Made Tree) (f : Tree → Made Tree) → (within_height (made_then m f) ≡ None) ↔ ((within_height m ≡ None) ⊎ (within_height (f m.it) ≡ None))

-- and that is so exactly where something on the way is too high
abbrev pub OutsideIsHigh : Type 0
OutsideIsHigh = (m : Made Tree) → (within_height m ≡ None) ↔ IsHigh m
