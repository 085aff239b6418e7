-- Words that begin with no command's name are refused.
use Rattle.std.proofs.Common.{ap, sym, ◌==◌, ◌||◌, Bool, refl, codes, true, false, option_map, List, Option, Some, None, [], ◌∷◌, ◌≡◌, ◌∙◌}
use Rattle.std.specs.Prelude.{if◌then◌else◌, ◌&&◌}
use Rattle.std.specs.Option.{option_and_then, option_map_or}
use Rattle.std.specs.Str.{bytes_eq}
use Rattle.clap.specs.Kinds.{Kinds, or_else}
use Rattle.clap.specs.Lexer.{long_of, long_of_rest, short_of, short_of_rest, strip_byte}
use Rattle.clap.specs.Walk.{Held, Step, Walk, idle, long_or_other, nothing_held, short_or_plain, subcommand_met, subcommand_or_other, trailing, value, walk, walk_from, walked, word_met}
use Rattle.clap.specs.Faults.{bundle_fault, fault_of, flag_word_fault, other_fault, step_fault, stray_fault, turn_fault, walk_fault, word_fault}
use Rattle.clap.specs.Words.{Text}
use Rattle.clap.proofs.OnLiterals.{clap_on_literals}
use Rattle.command_words.specs.Apps.{app}
use Rattle.command_words.specs.Words.{is_dashed}
use Rattle.command_words.proofs.WalkLemmas.{fault_by, names, top}

pub no_word : fault_of app [] ≡ [] → ⊥
unfolding clap_on_literals
no_word e = absurd (cc)

abbrev start_of : Walk
start_of = walk_from nothing_held

-- the word is no flag
pub record IsPlain (x : Text) : Type 0 where
  pub long : long_of x ≡ None
  pub short : short_of x ≡ None
  pub no_marker : bytes_eq x (codes "--") ≡ false

pub is_plain : (x : Text) → is_dashed x ≡ false → IsPlain x
is_plain [] h = record { long = refl; short = refl; no_marker = refl }
is_plain (b ∷ x) h = record {
  long = ap (λ (t : Bool). option_and_then long_of_rest (option_and_then (strip_byte 45) (if t then Some x else None))) h;
  short = ap (λ (t : Bool). option_and_then short_of_rest (if t then Some x else None)) h;
  no_marker = ap (λ (t : Bool). t && bytes_eq x (codes "-")) h;
}

module _ (x : Text) (plain : IsPlain x) (no_check : bytes_eq (codes "check") x ≡ false) (no_trace : bytes_eq (codes "trace") x ≡ false) where
  unmet : subcommand_met names idle x ≡ None
  unmet =
      ap (λ (t : Bool). option_map (λ (s : Text × List Text). s.0) (if t || false then Some (codes "check", []) else (if bytes_eq (codes "trace") x || false then Some (codes "trace", []) else None))) no_check
      ∙ ap (λ (t : Bool). option_map (λ (s : Text × List Text). s.0) (if t || false then Some (codes "trace", []) else None)) no_trace

  no_flag : word_fault top names false idle x nothing_held ≡ []
  no_flag =
      ap (λ (o : Option Text). other_fault top o x nothing_held) unmet
      ∙ ap (λ (t : Bool). if t then [] else flag_word_fault top.rules top.args_override_self (long_of x) x nothing_held) plain.no_marker
      ∙ ap (λ (o : Option (Text × Option Text)). flag_word_fault top.rules top.args_override_self o x nothing_held) plain.long
      ∙ ap (λ (o : Option Text). option_map_or (λ flags. bundle_fault top.rules top.args_override_self flags nothing_held) o []) plain.short

  is_value : word_met top.rules names false idle 1 x nothing_held ≡ (nothing_held, value)
  is_value =
      ap (λ (o : Option Text). subcommand_or_other top.rules o idle 1 x nothing_held) unmet
      ∙ ap (λ (t : Bool). if t then (nothing_held, trailing 1) else long_or_other top.rules idle x (long_of x) nothing_held) plain.no_marker
      ∙ ap (λ (o : Option (Text × Option Text)). long_or_other top.rules idle x o nothing_held) plain.long
      ∙ ap (λ (o : Option Text). short_or_plain top.rules idle x o nothing_held) plain.short

  abbrev turn_by : Kinds → Held × Step → Kinds
  turn_by k met = or_else k (step_fault top 1 met.0 met.1)

  stray : turn_fault top names start_of x ≡ stray_fault top
  stray = ap (λ (k : Kinds). turn_by k (word_met top.rules names false idle 1 x nothing_held)) no_flag ∙ ap (λ (m : Held × Step). turn_by [] m) is_value

  abbrev whole_by : List Text → Kinds → Kinds
  whole_by rest turn =
      let end = walk top.rules names nothing_held (x ∷ rest) in
      fault_by end (or_else turn (walk_fault top names (walked top.rules names start_of x) rest))

  -- a first word that is no command's name is refused
  pub other_word : (rest : List Text) → fault_of app (x ∷ rest) ≡ [] → ⊥
  unfolding walk_fault
  other_word rest e =
      let bad : whole_by rest (stray_fault top) ≡ [] = sym (ap (whole_by rest) stray) ∙ e in
      absurd (cc)
