-- Which words behind the name `trace` the parser takes, and the values that it finds.
use Rattle.std.proofs.Common.{ap, sym, ℕ, Bool, refl, codes, true, false, option_map, List, Option, Some, None, [], ◌∷◌, ◌++◌, ◌≡◌, ◌∙◌, ◌&&◌, unwrap_or, subst}
use Rattle.std.specs.Prelude.{fold, find}
use Rattle.std.specs.List.{list_all}
use Rattle.std.proofs.lemmas.List.{append_assoc}
use Rattle.clap.specs.Faults.{fault_of}
use Rattle.clap.specs.Simple.{Shape, built, label_of, entered, rows_at}
use Rattle.clap.specs.Takes.{default_passes, is_valid, level_passes, settle_passes, walk_passes}
use Rattle.clap.specs.Walk.{Walk, answers_to, finished, nothing_held, positional, walk, walk_from, walked}
use Rattle.clap.specs.Words.{Row, Text, all_of, first_of, first_value, matched_of, raw_values, rows_of, subcommand_of, takes}
use Rattle.clap.specs.Values.{reading_of}
use Rattle.clap.specs.declared.builder.value_parser.ValueParser.TheVariants as vp
use Rattle.clap.specs.declared.parser.matches.Found.{Found}
use Rattle.clap.specs.declared.parser.matches.ValueSource.TheVariants.{CommandLine}
use Rattle.clap.proofs.OnLiterals.{clap_on_literals}
use Rattle.clap.proofs.WalkLemmas.{first_value-rows, raw_values-rows}
use Rattle.command_words.specs.Apps.{app, HasTrace, values_of}
use Rattle.command_words.proofs.WalkLemmas.{top, trace_entered_is, trace_takes_is}

-- ---- the words that are taken

none_given : fault_of app (codes "trace" ∷ codes "--" ∷ []) ≡ [] → ⊥
unfolding clap_on_literals
none_given e = absurd (cc)

one_given : (a : Text) → fault_of app (codes "trace" ∷ codes "--" ∷ a ∷ []) ≡ [] → ⊥
unfolding clap_on_literals
one_given a e = absurd (cc)

-- two words, and any more
pub record IsTrace (rest : List Text) : Type 0 where
  pub sail : Text
  pub opcode : Text
  pub more : List Text
  pub are : rest ≡ sail ∷ opcode ∷ more

-- words behind `trace` that the parser doesn't refuse are two or more
pub is_trace : (rest : List Text) → fault_of app (codes "trace" ∷ codes "--" ∷ rest) ≡ [] → IsTrace rest
is_trace [] e = absurd (none_given e)
is_trace (a ∷ []) e = absurd (one_given a e)
is_trace (a ∷ b ∷ more) e = record { sail = a; opcode = b; more = more; are = refl }

-- ---- the walk over them

abbrev sub : Shape
sub = unwrap_or (find (λ s. answers_to (codes "trace") (label_of s)) (built app).subs) top

-- what is found for a name
abbrev row_in : Text → List Text → Row
row_in id values = record { id = id; values = values; count = None; source = Some CommandLine; reading = reading_of vp.String }

-- where the walk stands with two values of the last name at least, of which the last one waits
abbrev on : Text → Text → List Text → Text → Walk
on a b front last = record {
  held = record {
    rows = row_in (codes "SAIL") (a ∷ []) ∷ row_in (codes "OPCODE") (b ∷ []) ∷ row_in (codes "REG=LIT") front ∷ [];
    pending = Some (codes "REG=LIT", last ∷ []);
    skip = 0;
  };
  waiting = positional;
  position = 3;
  is_trailing = true;
  stopped = None;
}

-- it stands there with these values
record Stands (w : Walk) (a b : Text) (all : List Text) : Type 0 where
  front : List Text
  last : Text
  is : w ≡ on a b front last
  whole : front ++ last ∷ [] ≡ all

stands : (a b : Text) (front : List Text) (last : Text) (more : List Text) → Stands (fold (walked sub.rules []) (on a b front last) more) a b (front ++ last ∷ more)
unfolding clap_on_literals
stands a b front last [] = record { front = front; last = last; is = refl; whole = refl }
stands a b front last (m ∷ more) =
    let r = stands a b (front ++ last ∷ []) m more in
    record { front = r.front; last = r.last; is = r.is; whole = r.whole ∙ append_assoc front (last ∷ []) (m ∷ more) }

-- each further value passes
passes : (a b : Text) (front : List Text) (last : Text) (more : List Text) → walk_passes sub [] (on a b front last) more ≡ true
unfolding clap_on_literals
passes a b front last [] = refl
passes a b front last (m ∷ more) = passes a b (front ++ last ∷ []) m more

-- the walk from the start
abbrev walk_of : List Text → Walk
walk_of more = fold (walked sub.rules []) (walk_from nothing_held) (codes "--" ∷ more)

-- ---- the words are taken

-- whether the words behind `trace` are taken, from what the walk comes to
abbrev level_by : Walk → Bool → Bool
level_by end ok = ok && (settle_passes sub.rules sub.args_override_self end.held && (list_all default_passes sub.rules && is_valid sub (finished sub.rules end.held) false))

level_ends : (a b : Text) (all : List Text) (w : Walk) → Stands w a b all → level_by w true ≡ true
unfolding clap_on_literals
level_ends a b all w s = ap (λ (w : Walk). level_by w true) s.is

level_taken : (a b : Text) (more : List Text) → level_passes sub [] nothing_held (codes "--" ∷ a ∷ b ∷ more) false ≡ true
unfolding clap_on_literals
level_taken a b [] = refl
level_taken a b (g ∷ []) = refl
level_taken a b (g ∷ h ∷ more) =
    ap (λ (t : Bool). level_by (fold (walked sub.rules []) (on a b (g ∷ []) h) more) t) (passes a b (g ∷ []) h more)
    ∙ level_ends a b (g ∷ h ∷ more) _ (stands a b (g ∷ []) h more)

pub trace_taken : (a b : Text) (more : List Text) → takes app (codes "trace" ∷ codes "--" ∷ a ∷ b ∷ more) ≡ true
unfolding clap_on_literals
trace_taken a b more =
    let words : List Text = codes "--" ∷ a ∷ b ∷ more in
    trace_takes_is words ∙ ap (λ (t : Bool). t && true) (level_taken a b more)

-- ---- the values

-- what is found of the words behind `trace`
record Finds (rows : List Row) (a b : Text) (all : List Text) : Type 0 where
  sail : first_of (codes "SAIL") rows ≡ Some a
  opcode : first_of (codes "OPCODE") rows ≡ Some b
  rest : unwrap_or (all_of (codes "REG=LIT") rows) [] ≡ all

finds_ends : (a b : Text) (all : List Text) (w : Walk) → Stands w a b all → Finds (finished sub.rules w.held) a b all
unfolding clap_on_literals
finds_ends a b all w s = subst (λ (w : Walk). Finds (finished sub.rules w.held) a b all) (sym s.is) (record { sail = refl; opcode = refl; rest = s.whole })

finds : (a b : Text) (more : List Text) → Finds (rows_at sub (codes "--" ∷ a ∷ b ∷ more)).1 a b more
unfolding clap_on_literals
finds a b [] = record { sail = refl; opcode = refl; rest = refl }
finds a b (g ∷ []) = record { sail = refl; opcode = refl; rest = refl }
finds a b (g ∷ h ∷ more) = finds_ends a b (g ∷ h ∷ more) _ (stands a b (g ∷ []) h more)

-- the command is `trace`, and these are its rows
pub trace_is : (more : List Text) → subcommand_of app (codes "trace" ∷ more) ≡ Some (codes "trace", (rows_at sub more).1)
unfolding clap_on_literals
trace_is more = trace_entered_is more

pub trace_name : (more : List Text) → option_map (λ p. p.0) (subcommand_of app (codes "trace" ∷ more)) ≡ Some (codes "trace")
trace_name more = ap (option_map (λ p. p.0)) (trace_is more)

-- the values of `trace` are these
pub has_trace : (a b : Text) (more : List Text) (r : Option (Text × List Row)) (f : Found) → r ≡ subcommand_of app (codes "trace" ∷ codes "--" ∷ a ∷ b ∷ more)
    → option_map (λ p. p.1) r ≡ Some (rows_of f) → HasTrace f a b more
has_trace a b more r f is rows =
    let found = finds a b more in
    let all : Some (rows_at sub (codes "--" ∷ a ∷ b ∷ more)).1 ≡ Some (rows_of f) = sym (ap (option_map (λ p. p.1)) (is ∙ trace_is (codes "--" ∷ a ∷ b ∷ more))) ∙ rows in
    let same : (rows_at sub (codes "--" ∷ a ∷ b ∷ more)).1 ≡ rows_of f = cc in
    record {
      sail_value = first_value-rows f (codes "SAIL") ∙ ap (first_of (codes "SAIL")) (sym same) ∙ found.sail;
      opcode_value = first_value-rows f (codes "OPCODE") ∙ ap (first_of (codes "OPCODE")) (sym same) ∙ found.opcode;
      rest_values = ap (λ o. unwrap_or o []) (raw_values-rows f (codes "REG=LIT") ∙ ap (all_of (codes "REG=LIT")) (sym same)) ∙ found.rest;
    }
