-- Names in a symbolic evaluation: locals first, then the names of the program.
use Rattle.std.specs.Prelude.{ℕ, ◌+◌, Bool, true, false, List, [], ◌∷◌, Option, Some, None, nat_eq, slice_index_or, if◌then◌else◌}
use Rattle.bv_bits.specs.declared.Bits.{Bits}
use Rattle.sail_syntax.specs.Tree.{Text}
use Rattle.term_tree.specs.Terms as term
use Rattle.term_tree.specs.Terms.{Tree, width_of}
use Rattle.term_arena.specs.Nodes.{of_term}
use Rattle.trace_plain.specs.declared.trace.FailKind.TheVariants as failure
use Rattle.trace_plain.specs.Trace.{read_reg, write_reg, assume_reg}
use Rattle.trace_plain.specs.Rules.{var_name}
use Rattle.sail_names.specs.declared.things.Thing.{Thing}
use Rattle.sail_names.specs.declared.things.Thing.TheVariants as thing
use Rattle.sail_names.specs.Things.{find_thing}
use Rattle.sym_rules.specs.Values.{SymValue, sym_unit, sym_truth, sym_bits, sym_member, SymLocal, sym_is, sym_counts, SymSlot, SymPath, SymSetting, entry_of, sym_look, sym_has, sym_put}
use Rattle.sym_rules.specs.Trees.{SymTree, leaf, naming, on, fails, Leaf, SymMeaning, sym_pure, sym_fails, with_locals}

-- ---- reading

-- the value that a local stands for; a foreach variable stands in indices alone
abbrev pub sym_value_of : SymLocal → SymValue
sym_value_of (sym_is v) = v
sym_value_of (sym_counts n) = sym_unit

-- a register has from here on the value of a term
abbrev pub knows : ℕ → Tree → SymPath → SymPath
knows r t p = record p { known = (r, t) ∷ p.known }

-- the next variable of a path
abbrev pub next_variable : ℕ → SymPath → Tree
next_variable width p = term.var (var_name p.count) width

-- one variable more
abbrev pub counts_on : SymPath → SymPath
counts_on p = record p { count = p.count + 1 }

-- how many bits a register has; 0 where there is no such register
abbrev pub width_at : SymSetting → ℕ → ℕ
width_at here r = slice_index_or here.widths r 0

-- the leaf at a bit vector
abbrev pub bits_leaf : Tree → SymPath → SymTree (Leaf SymValue)
bits_leaf t p = leaf (record { value = sym_bits t; path = p })

-- a register is read for the first time on a path: its assumed value, or a variable
abbrev pub first_read : SymSetting → ℕ → Option Bits → SymPath → SymTree (Leaf SymValue)
first_read here r (Some b) p = naming (of_term (term.lit b) ∷ []) (on (assume_reg r b) (bits_leaf (term.lit b) (knows r (term.lit b) p)))
first_read here r None p =
    let v = next_variable (width_at here r) p in naming (of_term v ∷ []) (on (read_reg r p.count) (bits_leaf v (knows r v (counts_on p))))

-- a register whose value is known, or isn't
abbrev pub known_read : SymSetting → ℕ → Option Tree → SymPath → SymTree (Leaf SymValue)
known_read here r (Some t) p = bits_leaf t p
known_read here r None p = first_read here r (entry_of r here.given) p

-- a read of a register
abbrev pub register_read : SymSetting → ℕ → SymMeaning SymValue
register_read here r = λ p. known_read here r (entry_of r p.known) p

-- a read of a name of the program
abbrev pub thing_read : SymSetting → Option Thing → SymMeaning SymValue
thing_read here (Some (thing.Register r)) = register_read here r
thing_read here (Some (thing.Member e i)) = sym_pure (sym_member e i)
thing_read here (Some (thing.Given g)) = sym_pure sym_unit
thing_read here (Some (thing.Function i)) = sym_pure sym_unit
thing_read here None = sym_pure sym_unit

-- a read of a local, or of a name of the program
abbrev pub name_read : SymSetting → Option SymLocal → Text → SymMeaning SymValue
name_read here (Some v) x = sym_pure (sym_value_of v)
name_read here None x = thing_read here (find_thing x here.things)

-- a read of a name
abbrev pub sym_read : SymSetting → Text → SymMeaning SymValue
sym_read here x = λ p. name_read here (sym_look x p.locals) x p

-- ---- writing

-- a register takes the value of a term: none may be assumed of it
abbrev pub register_written : ℕ → Tree → Option Bits → SymMeaning SymValue
register_written r t (Some b) = sym_fails failure.AssumedWritten
register_written r t None = λ p. on (write_reg r t) (leaf (record { value = sym_unit; path = knows r t p }))

-- a term as wide as the register
abbrev pub term_written : SymSetting → ℕ → Tree → SymMeaning SymValue
term_written here r t = if nat_eq (width_of t) (width_at here r) then register_written r t (entry_of r here.given) else sym_pure sym_unit

-- a value that is written to a register
abbrev pub value_written : SymSetting → ℕ → SymValue → SymMeaning SymValue
value_written here r (sym_bits t) = term_written here r t
value_written here r sym_unit = sym_pure sym_unit
value_written here r (sym_truth t) = sym_pure sym_unit
value_written here r (sym_member e i) = sym_pure sym_unit

-- a value that is written to a name of the program
abbrev pub thing_written : SymSetting → Option Thing → SymValue → SymMeaning SymValue
thing_written here (Some (thing.Register r)) v = value_written here r v
thing_written here (Some (thing.Member e i)) v = sym_pure sym_unit
thing_written here (Some (thing.Given g)) v = sym_pure sym_unit
thing_written here (Some (thing.Function i)) v = sym_pure sym_unit
thing_written here None v = sym_pure sym_unit

-- an assignment to a local that is there, or to a name of the program
abbrev pub name_written : SymSetting → Bool → Text → SymValue → SymMeaning SymValue
name_written here true x v = λ p. leaf (record { value = sym_unit; path = with_locals (sym_put x (sym_is v) p.locals) p })
name_written here false x v = thing_written here (find_thing x here.things) v

-- an assignment
abbrev pub sym_write : SymSetting → Text → SymValue → SymMeaning SymValue
sym_write here x v = λ p. name_written here (sym_has x p.locals) x v p
