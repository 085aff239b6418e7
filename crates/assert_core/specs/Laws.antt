-- Laws of assertions.
use Rattle.std.specs.Prelude.{◌≡◌, ℕ, List}
use Rattle.std.specs.Bool.{Decides}
use Rattle.term_tree.specs.declared.term.Sort.TheVariants as sort
use Rattle.term_tree.specs.declared.term.VarDecl.{VarDecl}
use Rattle.term_tree.specs.Terms.{Text}
use Rattle.term_tree.specs.Values.{Values}
use Rattle.assert_core.specs.Assertions.{PlainAssertion}
use Rattle.assert_core.specs.Denoting.{Numbers, claims_of}
use Rattle.assert_core.specs.Sorts.{Declares, SortsFit, scope_of, sorts_fit}

-- the test holds exactly where the variables and widths fit
abbrev pub SortsFitExactly : Type 0
SortsFitExactly = (fixed : List VarDecl) (a : PlainAssertion) → Decides (sorts_fit fixed a) (SortsFit fixed a)

-- values that are the same at each declared variable
pub record AgreeOnScope (scope : List VarDecl) (v u : Values) : Type 0 where
  pub bits : (x : Text) (w : ℕ) → Declares scope x (sort.Bits w) → v.bits_of x w ≡ u.bits_of x w
  pub bytes : (f : Text) (i : ℕ) → Declares scope f sort.Array → v.byte_of f i ≡ u.byte_of f i

-- what an assertion claims rests on the values of its own and the fixed variables alone
abbrev pub ClaimsRestOnScope : Type 0
ClaimsRestOnScope =
    (fixed : List VarDecl) (a : PlainAssertion) (n : Numbers) (v u : Values) → SortsFit fixed a → AgreeOnScope (scope_of fixed a) v u
    → claims_of n v a.items ≡ claims_of n u a.items
