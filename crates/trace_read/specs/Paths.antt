-- The variables that are bound on a path.
use Rattle.std.specs.Prelude.{ℕ, ◌*◌, List, [], ◌∷◌, ◌++◌, length, slice_index_or}
use Rattle.lex_core.specs.declared.name.RegDecl.{RegDecl}
use Rattle.term_tree.specs.declared.term.Sort.TheVariants as sort
use Rattle.term_words.specs.Scopes.{Scope}
use Rattle.trace_plain.specs.Rules.{var_name}
use Rattle.trace_plain.specs.Trace.{Event, read_reg, write_reg, read_mem, write_mem, assume, need, assume_reg}

-- the width of a register
abbrev pub width_at : List RegDecl → ℕ → ℕ
width_at registers r = (slice_index_or registers r (record { name = []; width = 0 })).width

-- one more variable, of so many bits
abbrev pub bound : ℕ → Scope → Scope
bound width scope = scope ++ record { name = var_name (length scope); sort = sort.Bits width } ∷ []

-- the variables behind an event
abbrev pub scope_behind : List RegDecl → Scope → Event → Scope
scope_behind registers scope (read_reg r x) = bound (width_at registers r) scope
scope_behind registers scope (read_mem x at n) = bound (8 * n) scope
scope_behind registers scope e = scope
