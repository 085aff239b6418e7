-- The prelude in groups.
use Rattle.std.specs.Prelude.{List, [], ◌∷◌, Some, None, codes}
use Rattle.sail_syntax.specs.Tree.{Text}
use Rattle.sail_syntax.specs.declared.types.Ty.TheVariants as ty
use Rattle.type_rules.specs.declared.scope.Entry.{Entry}
use Rattle.type_rules.specs.declared.scope.Slot.TheVariants as slot
use Rattle.type_rules.specs.Names.{given, bits}
use Rattle.std.specs.Prelude.{ℕ}

-- a comparison of two of one width
abbrev pub comparison : Text → Entry
comparison x = given x (slot.AnyBits ∷ slot.Alike ∷ []) (Some ty.Bool)

-- a shift, where the amount has any width
abbrev pub shift : Text → Entry
shift x = given x (slot.AnyBits ∷ slot.AnyBits ∷ []) None

-- a quotient or a rest of two of one width
abbrev pub quotient : Text → Entry
quotient x = given x (slot.AnyBits ∷ slot.Alike ∷ []) None

-- a read of so many bits at an address
abbrev pub read : Text → ℕ → Entry
read x width = given x (slot.Is (bits 64) ∷ []) (Some (bits width))

-- a write of so many bits at an address
abbrev pub write : Text → ℕ → Entry
write x width = given x (slot.Is (bits 64) ∷ slot.Is (bits width) ∷ []) (Some ty.Unit)

-- the reads
abbrev pub reads : List Entry
reads =
    read (codes "mem_read_1") 8
    ∷ read (codes "mem_read_2") 16
    ∷ read (codes "mem_read_4") 32
    ∷ read (codes "mem_read_8") 64
    ∷ read (codes "mem_read_16") 128
    ∷ []

-- the writes
abbrev pub writes : List Entry
writes =
    write (codes "mem_write_1") 8
    ∷ write (codes "mem_write_2") 16
    ∷ write (codes "mem_write_4") 32
    ∷ write (codes "mem_write_8") 64
    ∷ write (codes "mem_write_16") 128
    ∷ []

-- the comparisons and the shifts
abbrev pub comparisons : List Entry
comparisons = comparison (codes "lt_u") ∷ comparison (codes "lt_s") ∷ []

abbrev pub shifts : List Entry
shifts = shift (codes "shift_left") ∷ shift (codes "shift_right") ∷ shift (codes "shift_right_arith") ∷ []

-- the quotients and the rests
abbrev pub quotients : List Entry
quotients = quotient (codes "div_u") ∷ quotient (codes "rem_u") ∷ quotient (codes "div_s") ∷ quotient (codes "rem_s") ∷ []
