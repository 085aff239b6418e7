-- The machine that a program of the Sail profile is.
use Rattle.std.specs.Prelude.{ℕ, Bool, true, false, List, map, codes, Option, Some, None, unwrap_or}
use Rattle.lex_core.specs.declared.name.RegDecl.{RegDecl}
use Rattle.sail_syntax.specs.Program.{Definition, registers_of}
use Rattle.sail_names.specs.declared.things.Thing.{Thing}
use Rattle.sail_names.specs.declared.things.Thing.TheVariants as thing
use Rattle.sail_names.specs.Things.{find_thing, things_of}
use Rattle.type_rules.specs.Program.{begins_at, pc_number}
use Rattle.type_rules.specs.Program as rules
use Rattle.eval_words.specs.Instr.{instr_of, uses_of_instr}
use Rattle.machine_run.specs.Machine.{Machine}

-- the width of a register
abbrev pub width_in : RegDecl → ℕ
width_in r = r.width

-- the widths of the registers
abbrev pub widths_in : List Definition → List ℕ
widths_in defs = map width_in (registers_of defs)

-- whether a name stands for a function of the text
abbrev pub is_text_function : Option Thing → Bool
is_text_function (Some (thing.Function i)) = true
is_text_function (Some (thing.Register r)) = false
is_text_function (Some (thing.Member e i)) = false
is_text_function (Some (thing.Given g)) = false
is_text_function None = false

-- whether a text has words of two bytes
abbrev pub has_short : List Definition → Bool
has_short defs = is_text_function (find_thing (codes "instr16") (things_of defs))

-- where `instr` is defined
abbrev pub instr_place : List Definition → ℕ
instr_place defs = begins_at (rules.instr_of defs)

-- its registers, its PC, and its functions `instr` and `instr16`
abbrev pub machine_of : List Definition → Machine
machine_of defs = record {
  widths = widths_in defs;
  pc = unwrap_or (pc_number defs) 0;
  instr_at = instr_place defs;
  short = has_short defs;
  instr = instr_of defs;
  uses = uses_of_instr defs;
}
