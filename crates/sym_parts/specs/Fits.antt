-- Values whose terms stand in a list of nodes.
use Rattle.std.specs.Prelude.{◌≡◌, ⊤, List, [], ◌∷◌}
use Rattle.term_tree.specs.Terms.{Tree, IsTyped, width_of}
use Rattle.term_arena.specs.declared.node.TermId.{TermId}
use Rattle.term_arena.specs.Nodes.{Node}
use Rattle.term_arena.specs.Answers.{id_term}
use Rattle.sym_parts.specs.declared.comparing.Compared.{Compared}
use Rattle.sym_parts.specs.declared.comparing.Compared.TheVariants as compared
use Rattle.sym_parts.specs.declared.values.SymValue.{SymValue}
use Rattle.sym_parts.specs.declared.values.SymValue.TheVariants as value

-- the term of a value is typed, and that of a bool has one bit
abbrev pub ValueFits : List Node → SymValue → Type 0
ValueFits nodes value.Unit = ⊤
ValueFits nodes (value.Truth t) = IsTyped (id_term nodes t) × (width_of (id_term nodes t) ≡ 1)
ValueFits nodes (value.Bits t) = IsTyped (id_term nodes t)
ValueFits nodes (value.Member e i) = ⊤

-- terms that compare are typed, and of one width
abbrev pub ComparedFits : List Node → Compared → Type 0
ComparedFits nodes (compared.Terms a b) = IsTyped (id_term nodes a) × IsTyped (id_term nodes b) × (width_of (id_term nodes a) ≡ width_of (id_term nodes b))
ComparedFits nodes (compared.Known same) = ⊤

-- a typed term of one bit
abbrev pub IsBit : List Node → TermId → Type 0
IsBit nodes id = IsTyped (id_term nodes id) × (width_of (id_term nodes id) ≡ 1)
