-- The values of the code, over a list of nodes.
use Rattle.std.specs.Prelude.{List}
use Rattle.term_arena.specs.Nodes.{Node}
use Rattle.term_arena.specs.Answers.{id_term}
use Rattle.sym_parts.specs.declared.values.SymValue as code
use Rattle.sym_parts.specs.declared.values.SymValue.TheVariants as value
use Rattle.sym_rules.specs.Values.{SymValue, sym_unit, sym_truth, sym_bits, sym_member}

-- a value
abbrev pub value_in : List Node → code.SymValue → SymValue
value_in nodes value.Unit = sym_unit
value_in nodes (value.Truth t) = sym_truth (id_term nodes t)
value_in nodes (value.Bits t) = sym_bits (id_term nodes t)
value_in nodes (value.Member e i) = sym_member e i
