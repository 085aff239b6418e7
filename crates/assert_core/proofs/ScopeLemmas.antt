-- Declared variables in two lists.
use Rattle.std.proofs.Common.{◌≡◌, List, ◌++◌, ◌||◌}
use Rattle.std.proofs.lemmas.List.Folds.{list_any-append}
use Rattle.term_tree.specs.declared.term.Sort.{Sort}
use Rattle.term_tree.specs.declared.term.VarDecl.{VarDecl}
use Rattle.term_tree.specs.Terms.{Text}
use Rattle.assert_core.specs.Sorts.{declares, is_of}

-- a variable of two lists is one of the first or of the second
pub declares_append : (ds es : List VarDecl) (x : Text) (s : Sort) → declares (ds ++ es) x s ≡ (declares ds x s || declares es x s)
declares_append ds es x s = list_any-append (is_of x s) ds es
