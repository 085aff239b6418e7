-- The texts that the program prints.
use Rattle.std.specs.Prelude.{ℕ, ◌-◌, false, List, [], ◌∷◌, ◌++◌, codes, length, replicate, Option, Some, None}
use Rattle.std.specs.Fmt.{decimal, digits}
use Rattle.std.specs.List.{concat, flat_map}
use Rattle.lex_core.specs.Classes.{Text}
use Rattle.constants_text.specs.declared.texts.Exit.{Exit}
use Rattle.constants_text.specs.declared.texts.Block.{Block}
use Rattle.constants_text.specs.declared.texts.SpecReport.{SpecReport}

-- the end of a line
abbrev pub newline : Text
newline = codes "\n"

-- `0x` and the hex digits in lower case, filled to sixteen with zeros in front
unfoldable pub address_text : ℕ → Text
address_text a = concat (codes "0x" ∷ replicate (16 - length (digits 16 false a)) 48 ∷ digits 16 false a ∷ [])

-- ---- the report of a check

-- an exit: its name and where it stands
unfoldable pub exit_line : Exit → Text
exit_line e = concat (codes "exit " ∷ e.name ∷ codes " " ∷ address_text e.address ∷ newline ∷ [])

-- a block: its name, where it starts, and how many instructions were walked and how many certificates were taken in it
unfoldable pub block_line : Block → Text
block_line b = concat (codes "block " ∷ b.name ∷ codes " " ∷ address_text b.address ∷ codes " instructions " ∷ decimal b.instructions
    ∷ codes " certificates " ∷ decimal b.certificates ∷ newline ∷ [])

-- a specification that has no sample
unfoldable pub spec_line : Text → Text
spec_line name = concat (codes "spec " ∷ name ∷ codes " no sample\n" ∷ [])

-- a specification, its exits and its blocks
unfoldable pub spec_lines : SpecReport → Text
spec_lines s = spec_line s.name ++ (flat_map exit_line s.exits ++ flat_map block_line s.blocks)

-- that all was accepted, and each specification
unfoldable pub report_text : List SpecReport → Text
report_text specs = codes "accepted\n" ++ flat_map spec_lines specs

-- ---- what is said of a file, of a name and of a run

-- the end of a line: its last words with a blank before them, where there are any
abbrev pub line_end : Text → Text
line_end [] = newline
line_end (b ∷ words) = concat (codes " " ∷ (b ∷ words) ∷ newline ∷ [])

-- a fault of a file: what it is, its number, the file's name, and its fields where it has any
unfoldable pub on_file_text : Text → ℕ → Text → Text → Text
on_file_text what number name more = concat (what ∷ codes " " ∷ decimal number ∷ codes " " ∷ name ∷ line_end more ∷ [])

-- what is to be said of a name
unfoldable pub on_name_text : Text → Text → Text
on_name_text what name = concat (what ∷ codes " " ∷ name ∷ newline ∷ [])

-- the address of an instruction, and `-` where there is none
abbrev pub pc_text : Option ℕ → Text
pc_text None = codes "-"
pc_text (Some a) = address_text a

-- a refusal in checking: what it is, its number, the specification, the block, the instruction, and its details where it has any
unfoldable pub on_run_text : Text → ℕ → Text → Text → Option ℕ → Text → Text
on_run_text what number spec block pc more = concat (what ∷ codes " " ∷ decimal number ∷ codes " " ∷ spec ∷ codes " " ∷ block ∷ codes " " ∷ pc_text pc
    ∷ line_end more ∷ [])

-- how the program is called
abbrev pub usage_text : Text
usage_text = codes "words\nusage: islaris trace SAIL OPCODE [REG=LIT ..]\nusage: islaris check SAIL IMAGE PROOF\n"
