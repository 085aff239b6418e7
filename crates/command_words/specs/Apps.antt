-- The commands as they are declared to the parser, and the values that it finds.
use Rattle.std.specs.Prelude.{◌≡◌, codes, true, List, [], option_map, Option, Some, None, unwrap_or}
use Rattle.clap.specs.declared.builder.action.ArgAction.TheVariants.{Append}
use Rattle.clap.specs.declared.parser.matches.Found.{Found}
use Rattle.clap.specs.Words.{App, Rule, Text, first_value, matched_of, new_app, new_rule, raw_values, with_rule, with_subcommand}
use Rattle.report_text.specs.Names.{Row}

-- ---- the commands as they are declared

-- a name that has to be given
abbrev pub required : Text → Rule
required id = record (new_rule id) { required = true }

-- a name that may be given any number of times
abbrev pub repeated : Text → Rule
repeated id = record (new_rule id) { action = Some Append }

-- `check` and its three names
abbrev pub check_app : App
check_app = with_rule (with_rule (with_rule (new_app (codes "check")) (required (codes "SAIL"))) (required (codes "IMAGE"))) (required (codes "PROOF"))

-- `trace`, its two names, and what is assumed
abbrev pub trace_app : App
trace_app = with_rule (with_rule (with_rule (new_app (codes "trace")) (required (codes "SAIL"))) (required (codes "OPCODE"))) (repeated (codes "REG=LIT"))

-- the program without its commands
abbrev pub bare_app : App
bare_app = record (new_app (codes "islaris")) {
  top = record (new_app (codes "islaris")).top { no_binary_name = true; disable_help_subcommand = true; subcommand_required = true };
}

-- the program
abbrev pub app : App
app = with_subcommand (with_subcommand bare_app check_app.top) trace_app.top

-- ---- the values that are found

-- all values of a name
abbrev pub values_of : Found → Text → List Text
values_of given id = unwrap_or (option_map raw_values (matched_of given id)) []

-- the values of `check` are the names of a row
pub record HasNames (given : Found) (row : Row) : Type 0 where
  pub sail : first_value given (codes "SAIL") ≡ Some row.sail
  pub image : first_value given (codes "IMAGE") ≡ Some row.image
  pub proof : first_value given (codes "PROOF") ≡ Some row.proof

-- the values of `trace` are these
pub record HasTrace (given : Found) (sail opcode : Text) (rest : List Text) : Type 0 where
  pub sail_value : first_value given (codes "SAIL") ≡ Some sail
  pub opcode_value : first_value given (codes "OPCODE") ≡ Some opcode
  pub rest_values : values_of given (codes "REG=LIT") ≡ rest
