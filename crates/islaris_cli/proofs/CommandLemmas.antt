-- The names of a command's files are among its words.
use Rattle.std.proofs.Common.{◌≡◌, Bool, true, false, List, [], ◌∷◌, Some, None, Contains, refl, sym, ap, ◌∙◌, subst, arith, unwrap_or, codes}
use Rattle.std.specs.Prelude.{if◌then◌else◌, option_map, bytes_eq}
use Rattle.std.specs.Option.{option_or, option_and_then}
use Rattle.std.specs.List.{list_any}
use Rattle.std.specs.declared.option.Option.{Option}
use Rattle.lex_core.specs.Classes.{Text}
use Rattle.report_text.specs.Names.{Row}
use Rattle.state_core.specs.declared.word.Word.{Word}
use Rattle.trace_words.specs.Given.{GivenSaid}
use Rattle.trace_words.specs.Opcode.{opcode_of}
use Rattle.trace_words.specs.Trace.{TraceSaid, trace_of, givens_of}
use Rattle.command_words.specs.Words.{CommandSaid, trace, check, command_of, row_of, row_said, is_dashed, names_behind, trace_behind}
use Rattle.command_words.proofs.ParseLemmas.{row_is}
use Rattle.command_words.proofs.WordLemmas.{HasNames, names_of}

-- those of a check
pub check_names : (words : List Text) (row : Row) → command_of words ≡ Some (check row) → HasNames words row
check_names words row is = names_of words row (sym (row_is words) ∙ ap row_said is)

-- ---- that of a trace

said_sail : (sail : Text) (o : Option Word) (given : Option (List GivenSaid)) (t : TraceSaid)
    → option_and_then (λ w. option_map (λ gs. record { sail = sail; opcode = w; given = gs }) given) o ≡ Some t → sail ≡ t.sail
said_sail sail None given t is = absurd (cc)
said_sail sail (Some w) None t is = absurd (cc)
said_sail sail (Some w) (Some gs) t is = ap (λ (o : Option TraceSaid). (unwrap_or o t).sail) is

behind_trace : (command : Text) (rest : List Text) (t : TraceSaid) → trace_of rest ≡ Some t → Contains (command ∷ rest) t.sail
behind_trace command [] t is = absurd (cc)
behind_trace command (sail ∷ []) t is = absurd (cc)
behind_trace command (sail ∷ opcode ∷ given) t is =
    subst (λ (x : Text). Contains (command ∷ sail ∷ opcode ∷ given) x) (said_sail sail (opcode_of opcode) (givens_of given) t is) (1, omega arith, refl)

by_first : (b : Bool) (command : Text) (rest : List Text) (t : TraceSaid) → (if b then trace_of rest else None) ≡ Some t → Contains (command ∷ rest) t.sail
by_first true command rest t is = behind_trace command rest t is
by_first false command rest t is = absurd (cc)

by_behind : (words : List Text) (t : TraceSaid) → trace_behind words ≡ Some t → Contains words t.sail
by_behind [] t is = absurd (cc)
by_behind (command ∷ rest) t is = by_first (bytes_eq command (codes "trace")) command rest t is

abbrev said_trace : CommandSaid → Option TraceSaid
said_trace (trace t) = Some t
said_trace (check row) = None

same_trace : (a t : TraceSaid) → Some (trace a) ≡ Some (trace t) → Some a ≡ Some t
same_trace a t is = ap (λ (o : Option CommandSaid). option_and_then said_trace o) is

by_command : (row : Option Row) (said : Option TraceSaid) (t : TraceSaid) → option_or (option_map check row) (option_map trace said) ≡ Some (trace t) → said ≡ Some t
by_command (Some row) said t is = absurd (cc)
by_command None None t is = absurd (cc)
by_command None (Some a) t is = same_trace a t is

no_dash : (b : Bool) (o : Option CommandSaid) (c : CommandSaid) → (if b then None else o) ≡ Some c → o ≡ Some c
no_dash true o c is = absurd (cc)
no_dash false o c is = is

pub trace_name : (words : List Text) (t : TraceSaid) → command_of words ≡ Some (trace t) → Contains words t.sail
trace_name words t is =
    by_behind words t (by_command (names_behind words) (trace_behind words) t
    (no_dash (list_any is_dashed words) (option_or (option_map check (names_behind words)) (option_map trace (trace_behind words))) (trace t) is))
