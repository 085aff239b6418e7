-- Which variables and widths the terms of an assertion may have.
use Rattle.std.specs.Prelude.{◌≡◌, ⊤, ℕ, ◌*◌, Bool, true, false, ◌&&◌, not, nat_eq, List, [], ◌∷◌, ◌++◌, All, Any, Option, Some, None, IfSome, bytes_eq}
use Rattle.std.specs.List.{list_any, list_all}
use Rattle.term_tree.specs.declared.term.Sort.{Sort}
use Rattle.term_tree.specs.declared.term.Sort.TheVariants as sort
use Rattle.term_tree.specs.declared.term.VarDecl.{VarDecl}
use Rattle.term_tree.specs.Terms.{Text, Tree, lit, var, one, two, three, sel, ArrayTree, array, upd, splice, width_of}
use Rattle.term_tree.specs.Variables.{HasVariables, ArrayHasVariables}
use Rattle.assert_core.specs.Assertions.{PlainAssertion, PlainItem, arr, dev, fact, mem, reg}

-- ---- declared variables

-- the variables that an assertion may use: the fixed ones, and its own
abbrev pub scope_of : List VarDecl → PlainAssertion → List VarDecl
scope_of fixed a = fixed ++ a.vars

-- a variable of this name and sort is declared
abbrev pub Declares : List VarDecl → Text → Sort → Type 0
Declares scope x s = Any (λ d. (d.name ≡ x) × (d.sort ≡ s)) scope

-- the names of all declared variables differ: none stands again behind itself
abbrev pub HasNamesApart : List VarDecl → Type 0
HasNamesApart [] = ⊤
HasNamesApart (d ∷ ds) = (¬ Any (λ e. e.name ≡ d.name) ds) × HasNamesApart ds

-- each variable of a term is declared with its sort
abbrev pub UsesDeclared : List VarDecl → Tree → Type 0
UsesDeclared scope t = HasVariables (λ x w. Declares scope x (sort.Bits w)) (λ f. Declares scope f sort.Array) t

-- the same of an array term
abbrev pub ArrayUsesDeclared : List VarDecl → ArrayTree → Type 0
ArrayUsesDeclared scope f = ArrayHasVariables (λ x w. Declares scope x (sort.Bits w)) (λ f. Declares scope f sort.Array) f

-- ---- what places ask for

-- a term of this width over declared variables
abbrev pub HasWidth : List VarDecl → ℕ → Tree → Type 0
HasWidth scope w t = (width_of t ≡ w) × UsesDeclared scope t

-- facts are 1 wide, addresses and lengths 64, and the number in bytes has 8 bits a byte
abbrev pub ItemFits : List VarDecl → PlainItem → Type 0
ItemFits scope (fact t) = HasWidth scope 1 t
ItemFits scope (reg x written) = IfSome written (UsesDeclared scope)
ItemFits scope (mem at bytes number) = HasWidth scope 64 at × HasWidth scope (8 * bytes) number
ItemFits scope (arr at len of) = HasWidth scope 64 at × HasWidth scope 64 len × ArrayUsesDeclared scope of
ItemFits scope (dev x q) = ⊤

-- an assertion whose variables and widths are those that its places ask for
pub record SortsFit (fixed : List VarDecl) (a : PlainAssertion) : Type 0 where
  pub apart : HasNamesApart (scope_of fixed a)
  pub items : All (ItemFits (scope_of fixed a)) a.items

-- ---- the same as tests

-- whether two sorts are the same
abbrev pub same_sort : Sort → Sort → Bool
same_sort (sort.Bits a) (sort.Bits b) = nat_eq a b
same_sort (sort.Bits a) sort.Array = false
same_sort sort.Array (sort.Bits b) = false
same_sort sort.Array sort.Array = true

-- whether a variable has this name
abbrev pub is_named : Text → VarDecl → Bool
is_named x d = bytes_eq d.name x

-- whether a variable has this name and sort
abbrev pub is_of : Text → Sort → VarDecl → Bool
is_of x s d = bytes_eq d.name x && same_sort d.sort s

-- whether a variable of this name and sort is declared
abbrev pub declares : List VarDecl → Text → Sort → Bool
declares scope x s = list_any (is_of x s) scope

-- whether all names differ
abbrev pub names_apart : List VarDecl → Bool
names_apart [] = true
names_apart (d ∷ ds) = not (list_any (is_named d.name) ds) && names_apart ds

-- whether each variable of a term is declared
abbrev pub uses_declared : List VarDecl → Tree → Bool
uses_declared scope (lit b) = true
uses_declared scope (var x w) = declares scope x (sort.Bits w)
uses_declared scope (one op a) = uses_declared scope a
uses_declared scope (two op a b) = uses_declared scope a && uses_declared scope b
uses_declared scope (three op a b c) = uses_declared scope a && (uses_declared scope b && uses_declared scope c)
uses_declared scope (sel f i) = declares scope f sort.Array && uses_declared scope i

-- whether each variable of an array term is declared
abbrev pub array_uses_declared : List VarDecl → ArrayTree → Bool
array_uses_declared scope (array f) = declares scope f sort.Array
array_uses_declared scope (upd of i e) = array_uses_declared scope of && (uses_declared scope i && uses_declared scope e)
array_uses_declared scope (splice of below i) = array_uses_declared scope of && (array_uses_declared scope below && uses_declared scope i)

-- whether a term has this width, and its variables are declared
abbrev pub has_width : List VarDecl → ℕ → Tree → Bool
has_width scope w t = nat_eq (width_of t) w && uses_declared scope t

-- whether the variables of a written value are declared
abbrev pub written_fits : List VarDecl → Option Tree → Bool
written_fits scope None = true
written_fits scope (Some t) = uses_declared scope t

-- whether an item fits
abbrev pub item_fits : List VarDecl → PlainItem → Bool
item_fits scope (fact t) = has_width scope 1 t
item_fits scope (reg x written) = written_fits scope written
item_fits scope (mem at bytes number) = has_width scope 64 at && has_width scope (8 * bytes) number
item_fits scope (arr at len of) = has_width scope 64 at && (has_width scope 64 len && array_uses_declared scope of)
item_fits scope (dev x q) = true

-- whether the variables and widths of an assertion fit
abbrev pub sorts_fit : List VarDecl → PlainAssertion → Bool
sorts_fit fixed a = names_apart (scope_of fixed a) && list_all (item_fits (scope_of fixed a)) a.items
