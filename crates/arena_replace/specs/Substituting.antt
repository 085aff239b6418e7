-- Variables of interned terms that are replaced.
use Rattle.std.specs.Prelude.{◌≡◌, ℕ, ◌<◌, List, [], Option, Some, None, All, map}
use Rattle.bv_bits.specs.declared.Bits.{Bits}
use Rattle.term_tree.specs.Terms.{Text, Tree, lit, var, one, two, three, sel, ArrayTree, array, IsTyped, IsTypedArray, width_of}
use Rattle.term_replace.specs.Replacing.{Replacements, substitute, substitute_array, Fits, FitsArray}
use Rattle.term_replace.specs.Laws.{AreTyped}
use Rattle.term_arena.specs.declared.node.TermId.{TermId}
use Rattle.term_arena.specs.declared.node.ArrayId.{ArrayId}
use Rattle.arena_replace.specs.declared.substituting.TermTop.{TermTop}
use Rattle.arena_replace.specs.declared.substituting.TermTop.TheVariants as top
use Rattle.arena_replace.specs.declared.substituting.Known.{Known}
use Rattle.term_arena.specs.Nodes.{Node, term_at, array_at, Keeps}
use Rattle.term_arena.specs.Answers.{id_term, id_array}
use Rattle.term_arena.specs.Built.{built}
use Rattle.term_arena.specs.Makes.{AreLow}
use Rattle.arena_replace.specs.Renumbering.{number_for}

-- ---- what is asked for

-- the name of a variable
abbrev pub name_of_variable : Tree → Text
name_of_variable (var x w) = x
name_of_variable t = []

-- the name of an array variable
abbrev pub name_of_array : ArrayTree → Text
name_of_array (array f) = f
name_of_array g = []

-- a variable's name, and the term that stands for it
abbrev pub named : List Node → TermId × TermId → Text × Tree
named nodes p = (name_of_variable (id_term nodes p.0), id_term nodes p.1)

-- an array variable's name, and the array term that stands for it
abbrev pub named_array : List Node → ArrayId × ArrayId → Text × ArrayTree
named_array nodes p = (name_of_array (id_array nodes p.0), id_array nodes p.1)

-- pairs of numbers as replacements by name
abbrev pub replacements : List Node → List (TermId × TermId) → List (ArrayId × ArrayId) → Replacements
replacements nodes bits arrays = record { terms = map (named nodes) bits; arrays = map (named_array nodes) arrays }

-- a variable, and a typed term that is as wide
abbrev pub Replaces : List Node → TermId × TermId → Type 0
Replaces nodes p = (x : Text) × (id_term nodes p.0 ≡ var x (width_of (id_term nodes p.1))) × IsTyped (id_term nodes p.1)

-- an array variable, and a typed array term
abbrev pub ReplacesArray : List Node → ArrayId × ArrayId → Type 0
ReplacesArray nodes p = (f : Text) × (id_array nodes p.0 ≡ array f) × IsTypedArray (id_array nodes p.1)

-- ---- what is known on the way

-- the second term is what is made of the first
pub record StandsFor (nodes : List Node) (by : Replacements) (n r : ℕ) : Type 0 where
  pub of : IsTyped (term_at nodes n)
  pub typed : IsTyped (term_at nodes r)
  pub is : Fits by (term_at nodes n) → ((substitute by (term_at nodes n)).it ≡ term_at nodes r) × AreLow (built (substitute by (term_at nodes n)))

-- the same of array terms
pub record StandsForArray (nodes : List Node) (by : Replacements) (n r : ℕ) : Type 0 where
  pub of : IsTypedArray (array_at nodes n)
  pub typed : IsTypedArray (array_at nodes r)
  pub is : FitsArray by (array_at nodes n) → ((substitute_array by (array_at nodes n)).it ≡ array_at nodes r) × AreLow (built (substitute_array by (array_at nodes n)))

-- what is known to stand for terms and array terms does, and all that is to be replaced is known
pub record Knows (nodes : List Node) (by : Replacements) (known : Known) : Type 0 where
  pub typed : AreTyped by
  pub terms : (n r : ℕ) → number_for known.terms n ≡ Some r → StandsFor nodes by n r
  pub arrays : (n r : ℕ) → number_for known.arrays n ≡ Some r → StandsForArray nodes by n r
  pub variables : All (λ p. (n r : ℕ) × (term_at nodes n ≡ var p.0 (width_of p.1)) × (number_for known.terms n ≡ Some r)) by.terms
  pub array_variables : All (λ p. (n r : ℕ) × (array_at nodes n ≡ array p.0) × (number_for known.arrays n ≡ Some r)) by.arrays

-- ---- tops of terms

-- the top of a term's node, read over any list that keeps this one; its parts stand before it
abbrev pub IsTop : List Node → ℕ → TermTop → Type 0
IsTop nodes n top.Literal = (b : Bits) × (term_at nodes n ≡ lit b)
IsTop nodes n top.Variable = (x : Text) × (w : ℕ) × (term_at nodes n ≡ var x w)
IsTop nodes n (top.One op a) = ((last : List Node) → Keeps nodes last → term_at last n ≡ one op (id_term last a)) × (a.number < n)
IsTop nodes n (top.Two op a b) = ((last : List Node) → Keeps nodes last → term_at last n ≡ two op (id_term last a) (id_term last b)) × (a.number < n) × (b.number < n)
IsTop nodes n (top.Three op a b c) =
    ((last : List Node) → Keeps nodes last → term_at last n ≡ three op (id_term last a) (id_term last b) (id_term last c)) × (a.number < n) × (b.number < n) × (c.number < n)
IsTop nodes n (top.Sel i) = (f : Text) × ((last : List Node) → Keeps nodes last → term_at last n ≡ sel f (id_term last i)) × (i.number < n)
