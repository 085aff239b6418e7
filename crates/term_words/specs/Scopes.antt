-- Variables that are declared.
use Rattle.std.specs.Prelude.{if◌then◌else◌, List, [], ◌∷◌, Option, Some, None, bytes_eq}
use Rattle.term_tree.specs.declared.term.VarDecl.{VarDecl}
use Rattle.term_tree.specs.declared.term.Sort.{Sort}
use Rattle.term_tree.specs.Terms.{Text}
use Rattle.term_print.specs.Words.{name}

-- ---- scopes

-- the variables that are declared, and their sorts
abbrev pub Scope : Type 0
Scope = List VarDecl

-- the sort of the first variable of a name
abbrev pub sort_of : Scope → Text → Option Sort
sort_of [] x = None
sort_of (d ∷ ds) x = if bytes_eq d.name x then Some d.sort else sort_of ds x
