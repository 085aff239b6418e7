-- How the parser walks over the words behind a command's name.
use Rattle.std.proofs.Common.{ap, sym, Bool, ℕ, refl, codes, true, false, List, Option, Some, None, [], ◌∷◌, ◌≡◌, ◌∙◌, ◌&&◌}
use Rattle.std.specs.Prelude.{fold, ◌++◌, find, is_some}
use Rattle.std.specs.List.{list_all}
use Rattle.std.specs.Option.{option_map_or}
use Rattle.std.proofs.lemmas.List.{append-nil, append_assoc}
use Rattle.clap.specs.Kinds.{Kinds, or_else}
use Rattle.clap.specs.Walk.{Names, Walk, answers_to, finished, nothing_held, settled, walk_from, walked}
use Rattle.clap.specs.Simple.{Shape, built, entered, label_of, names_of}
use Rattle.clap.specs.Faults.{check_fault, defaults_fault, fault_of, is_simple_and_free, level_fault, settle_fault, walk_fault}
use Rattle.clap.specs.Takes.{default_passes, is_valid, level_passes, settle_passes, walk_passes}
use Rattle.clap.specs.Words.{Row, Rule, Text, is_simple, subcommand_of, takes}
use Rattle.clap.proofs.OnLiterals.{clap_on_literals}
use Rattle.command_words.specs.Apps.{app}

-- ---- a walk that has stopped

-- goes no further
pub stays_stopped : (c : List Rule) (names : Names) (w : Walk) (name : Text) (behind more : List Text)
    → fold (walked c names) (record w { stopped = Some (name, behind) }) more ≡ record w { stopped = Some (name, behind ++ more) }
unfolding walked
stays_stopped c names w name behind [] = ap (λ (ws : List Text). record w { stopped = Some (name, ws) }) (sym (append-nil behind))
stays_stopped c names w name behind (m ∷ more) =
    stays_stopped c names w name (behind ++ m ∷ []) more ∙ ap (λ (ws : List Text). record w { stopped = Some (name, ws) }) (append_assoc behind (m ∷ []) more)

-- finds no fault
pub no_fault_behind : (s : Shape) (names : Names) (w : Walk) (name : Text) (behind more : List Text)
    → walk_fault s names (record w { stopped = Some (name, behind) }) more ≡ []
unfolding walk_fault walked
no_fault_behind s names w name behind [] = refl
no_fault_behind s names w name behind (m ∷ more) = no_fault_behind s names w name (behind ++ m ∷ []) more

-- and passes
pub passes_behind : (s : Shape) (names : Names) (w : Walk) (name : Text) (behind more : List Text)
    → walk_passes s names (record w { stopped = Some (name, behind) }) more ≡ true
unfolding walk_passes walked
passes_behind s names w name behind [] = refl
passes_behind s names w name behind (m ∷ more) = passes_behind s names w name (behind ++ m ∷ []) more

-- ---- the program

pub free : is_simple_and_free app ≡ true
unfolding clap_on_literals
free = refl

pub simple : is_simple app ≡ true
unfolding clap_on_literals
simple = refl

abbrev pub top : Shape
top = (built app).top

abbrev pub names : Names
names = names_of (built app)

-- where the top walk stands behind the name of a command
abbrev pub behind : Text → List Text → Walk
behind name more = record (walk_from nothing_held) { stopped = Some (name, more) }

-- the fault of words, from what the top walk comes to and its own fault
abbrev pub fault_by : Walk → Kinds → Kinds
fault_by end walk_kinds =
    let below = option_map_or (λ (p : Text × List Text). option_map_or (λ s. level_fault s [] nothing_held p.1 false []) (find (λ s. answers_to p.0 (label_of s)) (built app).subs) []) end.stopped [] in
    or_else walk_kinds
    (or_else below (or_else (settle_fault top.rules top.args_override_self end.held)
    (or_else (defaults_fault (settled top.rules end.held).rows top.rules)
    (check_fault top (finished top.rules end.held) (is_some (entered (built app) end.stopped))))))

-- whether they are taken, by the same
abbrev pub takes_by : Walk → Bool → Bool
takes_by end walk_ok =
    option_map_or (λ (p : Text × List Text). option_map_or (λ s. level_passes s [] nothing_held p.1 false) (find (λ s. answers_to p.0 (label_of s)) (built app).subs) true) end.stopped true
    && (walk_ok && (settle_passes top.rules top.args_override_self end.held
    && (list_all default_passes top.rules && is_valid top (finished top.rules end.held) (is_some (entered (built app) end.stopped)))))

-- ---- words behind the name `check`

module _ (more : List Text) where
  check_end : fold (walked top.rules names) (behind (codes "check") []) more ≡ behind (codes "check") more
  check_end = stays_stopped top.rules names (walk_from nothing_held) (codes "check") [] more

  pub check_fault_is : fault_of app (codes "check" ∷ more) ≡ fault_by (behind (codes "check") more) []
  unfolding clap_on_literals
  check_fault_is =
      ap (λ (w : Walk). fault_by w (walk_fault top names (behind (codes "check") []) more)) check_end
      ∙ ap (λ (k : Kinds). fault_by (behind (codes "check") more) k) (no_fault_behind top names (walk_from nothing_held) (codes "check") [] more)

-- ---- words behind the name `trace`

module _ (more : List Text) where
  trace_end : fold (walked top.rules names) (behind (codes "trace") []) more ≡ behind (codes "trace") more
  trace_end = stays_stopped top.rules names (walk_from nothing_held) (codes "trace") [] more

  pub trace_takes_is : takes app (codes "trace" ∷ more) ≡ takes_by (behind (codes "trace") more) true
  unfolding clap_on_literals
  trace_takes_is =
      ap (λ (w : Walk). takes_by w (walk_passes top names (behind (codes "trace") []) more)) trace_end
      ∙ ap (λ (b : Bool). takes_by (behind (codes "trace") more) b) (passes_behind top names (walk_from nothing_held) (codes "trace") [] more)

  pub trace_entered_is : subcommand_of app (codes "trace" ∷ more) ≡ entered (built app) (Some (codes "trace", more))
  unfolding clap_on_literals
  trace_entered_is = ap (λ (w : Walk). entered (built app) w.stopped) trace_end
