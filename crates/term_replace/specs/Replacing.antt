-- Variables that are replaced, all at once.
use Rattle.std.specs.Prelude.{◌≡◌, ⊤, ℕ, true, ◌&&◌, List, [], ◌∷◌, All, unwrap_or, find, bytes_eq, nat_eq}
use Rattle.std.specs.Option.{option_map}
use Rattle.term_tree.specs.Terms.{Text, Tree, lit, var, one, two, three, sel, ArrayTree, array, upd, splice, width_of}
use Rattle.term_tree.specs.Values.{Values, value, byte_at}
use Rattle.term_make.specs.Making.{Made, just, made_then, make}
use Rattle.term_select.specs.Selecting.{select}

-- replacements by name: terms for variables, array terms for array variables; of two with one name the first counts
pub record Replacements : Type 0 where
  pub terms : List (Text × Tree)
  pub arrays : List (Text × ArrayTree)

-- what stands for a variable
abbrev pub replaced_var : Replacements → Text → ℕ → Tree
replaced_var by x w = unwrap_or (option_map (λ p. p.1) (find (λ p. bytes_eq p.0 x) by.terms)) (var x w)

-- what stands for an array variable
abbrev pub replaced_array : Replacements → Text → ArrayTree
replaced_array by f = unwrap_or (option_map (λ p. p.1) (find (λ p. bytes_eq p.0 f) by.arrays)) (array f)

-- an array term, but for a byte
abbrev pub update : ArrayTree → Tree → Tree → Made ArrayTree
update f i e = record { it = upd f i e; asked = []; stored = upd f i e ∷ [] }

-- an array term below an index, and another one from it on
abbrev pub join_at : ArrayTree → ArrayTree → Tree → Made ArrayTree
join_at f g i = record { it = splice f g i; asked = []; stored = splice f g i ∷ [] }

-- the term with its variables replaced, each application and each select made again
abbrev pub substitute : Replacements → Tree → Made Tree
substitute by (lit b) = just (lit b)
substitute by (var x w) = just (replaced_var by x w)
substitute by (one op a) = made_then (substitute by a) (λ a. make (one op a))
substitute by (two op a b) = made_then (substitute by a) (λ a. made_then (substitute by b) (λ b. make (two op a b)))
substitute by (three op a b c) =
    made_then (substitute by a) (λ a. made_then (substitute by b) (λ b. made_then (substitute by c) (λ c. make (three op a b c))))
substitute by (sel f i) = made_then (substitute by i) (λ i. select (replaced_array by f) i)

-- the same of an array term
abbrev pub substitute_array : Replacements → ArrayTree → Made ArrayTree
substitute_array by (array f) = just (replaced_array by f)
substitute_array by (upd of i e) =
    made_then (substitute_array by of) (λ f. made_then (substitute by i) (λ i. made_then (substitute by e) (λ e. update f i e)))
substitute_array by (splice of below i) =
    made_then (substitute_array by of) (λ f. made_then (substitute_array by below) (λ g. made_then (substitute by i) (λ i. join_at f g i)))

-- each replacement is as wide as every variable of its name
abbrev pub Fits : Replacements → Tree → Type 0
Fits by (lit b) = ⊤
Fits by (var x w) = All (λ p. bytes_eq p.0 x ≡ true → width_of p.1 ≡ w) by.terms
Fits by (one op a) = Fits by a
Fits by (two op a b) = Fits by a × Fits by b
Fits by (three op a b c) = Fits by a × Fits by b × Fits by c
Fits by (sel f i) = Fits by i

-- the same in an array term
abbrev pub FitsArray : Replacements → ArrayTree → Type 0
FitsArray by (array f) = ⊤
FitsArray by (upd of i e) = FitsArray by of × Fits by i × Fits by e
FitsArray by (splice of below i) = FitsArray by of × FitsArray by below × Fits by i

-- the replacement of a variable, if it is as wide, and else the variable
abbrev pub fitting_var : Replacements → Text → ℕ → Tree
fitting_var by x w = unwrap_or (option_map (λ p. p.1) (find (λ p. bytes_eq p.0 x && nat_eq (width_of p.1) w) by.terms)) (var x w)

-- the values in which each variable with a replacement as wide has the replacement's value
abbrev pub replaced_values : Replacements → Values → Values
replaced_values by v = record { bits_of = λ x w. value v (fitting_var by x w); byte_of = λ f i. byte_at v (replaced_array by f) i }
