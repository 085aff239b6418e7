-- What the names of a program stand for: one space of registers, members of enums, and functions of the prelude and of the text.
use Rattle.std.specs.Prelude.{ℕ, ◌+◌, List, [], ◌∷◌, ◌++◌, Option, Some, None, bytes_eq, codes, if◌then◌else◌}
use Rattle.sail_syntax.specs.Tree.{Text}
use Rattle.sail_syntax.specs.Program.{Definition, order, register, enumeration, signature, function}
use Rattle.sail_names.specs.declared.things.Named.{Named}
use Rattle.sail_names.specs.declared.things.Thing.{Thing}
use Rattle.sail_names.specs.declared.things.Thing.TheVariants as thing
use Rattle.sail_names.specs.declared.things.Given.{Given}
use Rattle.sail_names.specs.declared.things.Given.TheVariants as given

-- what a name stands for: of two entries with one name, the first counts
abbrev pub find_thing : Text → List Named → Option Thing
find_thing x [] = None
find_thing x (n ∷ rest) = if bytes_eq n.name x then Some n.thing else find_thing x rest

-- a name that stands for something
abbrev pub named : Text → Thing → Named
named x t = record { name = x; thing = t }

-- a name of the prelude
abbrev pub given_name : Text → Given → Named
given_name x g = named x (thing.Given g)

-- tests: not of bool, and comparisons
abbrev pub given_tests : List Named
given_tests =
    given_name (codes "not") given.Not
    ∷ given_name (codes "lt_u") given.LtU
    ∷ given_name (codes "lt_s") given.LtS
    ∷ []

-- shifts
abbrev pub given_shifts : List Named
given_shifts =
    given_name (codes "shift_left") given.ShiftLeft
    ∷ given_name (codes "shift_right") given.ShiftRight
    ∷ given_name (codes "shift_right_arith") given.ShiftRightArith
    ∷ []

-- quotients and rests
abbrev pub given_divisions : List Named
given_divisions =
    given_name (codes "div_u") given.DivU
    ∷ given_name (codes "rem_u") given.RemU
    ∷ given_name (codes "div_s") given.DivS
    ∷ given_name (codes "rem_s") given.RemS
    ∷ []

-- reads of memory, so many bytes
abbrev pub given_reads : List Named
given_reads =
    given_name (codes "mem_read_1") (given.Read 1)
    ∷ given_name (codes "mem_read_2") (given.Read 2)
    ∷ given_name (codes "mem_read_4") (given.Read 4)
    ∷ given_name (codes "mem_read_8") (given.Read 8)
    ∷ given_name (codes "mem_read_16") (given.Read 16)
    ∷ []

-- writes
abbrev pub given_writes : List Named
given_writes =
    given_name (codes "mem_write_1") (given.Write 1)
    ∷ given_name (codes "mem_write_2") (given.Write 2)
    ∷ given_name (codes "mem_write_4") (given.Write 4)
    ∷ given_name (codes "mem_write_8") (given.Write 8)
    ∷ given_name (codes "mem_write_16") (given.Write 16)
    ∷ []

-- the prelude
unfoldable pub prelude_things : List Named
prelude_things = given_tests ++ (given_shifts ++ (given_divisions ++ (given_reads ++ given_writes)))

-- the members of the enum of a number, from one on
abbrev pub members_from : ℕ → ℕ → List Text → List Named
members_from e i [] = []
members_from e i (m ∷ ms) = named m (thing.Member e i) ∷ members_from e (i + 1) ms

-- what a definition declares, where so many registers, enums and definitions stand in front of it
abbrev pub declares : Definition → ℕ → ℕ → ℕ → List Named
declares order r e i = []
declares (register x width at) r e i = named x (thing.Register r) ∷ []
declares (enumeration x members at) r e i = members_from e 0 members
declares (signature x args result at) r e i = []
declares (function f) r e i = named f.name (thing.Function i) ∷ []

-- how many registers a definition declares
abbrev pub registers_in : Definition → ℕ
registers_in order = 0
registers_in (register x width at) = 1
registers_in (enumeration x members at) = 0
registers_in (signature x args result at) = 0
registers_in (function f) = 0

-- how many enums
abbrev pub enums_in : Definition → ℕ
enums_in order = 0
enums_in (register x width at) = 0
enums_in (enumeration x members at) = 1
enums_in (signature x args result at) = 0
enums_in (function f) = 0

-- what definitions declare, where so many registers, enums and definitions stand in front of them
abbrev pub things_from : List Definition → ℕ → ℕ → ℕ → List Named
things_from [] r e i = []
things_from (d ∷ ds) r e i = declares d r e i ++ things_from ds (r + registers_in d) (e + enums_in d) (i + 1)

-- the names of a program
unfoldable pub things_of : List Definition → List Named
things_of defs = prelude_things ++ things_from defs 0 0 0
