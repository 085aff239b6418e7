-- What follows from the cause of a status.
use Rattle.std.proofs.Common.{◌≡◌, ◌≢◌, ℕ, List, [], ◌∷◌, refl, sym, ap, ◌∙◌, subst, arith, Some, None, Contains, ◌⊎◌, inl, inr}
use Rattle.std.specs.Prelude.{◌<◌}
use Rattle.std.specs.declared.option.Option.{Option}
use Rattle.files_core.specs.Counts.{Rose}
use Rattle.files_core.specs.Store.{Store}
use Rattle.files_core.specs.Writes.{Grows}
use Rattle.lex_core.specs.Classes.{Text}
use Rattle.constants_text.specs.Texts.{usage_text}
use Rattle.report_text.specs.Outcome.{Said, accept, refuse, bad_input, beyond, status_number}
use Rattle.report_text.specs.Names.{Row}
use Rattle.trace_words.specs.Trace.{TraceSaid}
use Rattle.trace_verdict.specs.Verdict.{trace_verdict, IsMisfit, IsTold}
use Rattle.trace_verdict.proofs.Statuses.{told_of_each}
use Rattle.islaris_cli.specs.Top.{Source, sources, row_sources, sail_source, image_source, proof_source, Reading, Stops, StopsAmong, IsJudged, IsTraced, IsSaid, Answers, Writing, HasCause, Tells, TellsOfCheck, TellsAccepted, AreMisfits, TellsUsage, TellsLimit, TellsMissing, TellsReadFault, IsFinished}
use Rattle.command_words.specs.Words.{CommandSaid, trace, check, command_of}
use Rattle.constants_check.proofs.Accepting.{accepting}
use Rattle.constants_check.proofs.Statuses.{judged_status}
use Rattle.command_words.proofs.WordLemmas.{HasNames}
use Rattle.islaris_cli.proofs.CommandLemmas.{check_names, trace_name}
use Rattle.report_text.specs.declared.outcome.Status.{Status}
use Rattle.report_text.specs.declared.outcome.Status.TheVariants as kind

-- an outcome that is written
pub finished : (n : ℕ) (said : Said) (command : Option CommandSaid) (r : Reading) (w : Writing) → Answers command said r → IsFinished n said w → HasCause n command r w
finished n said command r w why (inl e) = inl (record { said = said; why = why; number = e.0; grown = e.1 })
finished n said command r w why (inr (inl e)) = inr (inl (e.0, e.1, inr (said, why, e.2)))
finished n said command r w why (inr (inr e)) = inr (inr (e.0, inr (said, why, e.1)))

-- ---- the file that stops the call

-- the names of the command's files are among the words
abbrev pub AreNamed : List Text → CommandSaid → Type 0
AreNamed words (check row) = HasNames words row
AreNamed words (trace t) = Contains words t.sail

named : (words : List Text) (command : CommandSaid) → command_of words ≡ Some command → AreNamed words command
named words (check row) is = check_names words row is
named words (trace t) is = trace_name words t is

pub record Stopped (said : Said) (r : Reading) (command : CommandSaid) : Type 0 where
  pub source : Source
  pub among : Contains (sources command) source
  pub among_words : (words : List Text) → AreNamed words command → Contains words source.name
  pub stop : Stops said.status said.text r source

stopped : (said : Said) (r : Reading) (command : CommandSaid) → StopsAmong said r (sources command) → Stopped said r command
stopped said r (check row) (inl stop) =
    record { source = sail_source row.sail; among = (0, omega arith, refl); among_words = λ words names. names.sail; stop = stop }
stopped said r (check row) (inr (sail, is, inl stop)) =
    record { source = image_source row.image; among = (1, omega arith, refl); among_words = λ words names. names.image; stop = stop }
stopped said r (check row) (inr (sail, is, inr (image, is', inl stop))) =
    record { source = proof_source row.proof; among = (2, omega arith, refl); among_words = λ words names. names.proof; stop = stop }
stopped said r (check row) (inr (sail, is, inr (image, is', inr (proof, is'', none)))) = absurd none
stopped said r (trace t) (inl stop) = record { source = sail_source t.sail; among = (0, omega arith, refl); among_words = λ words names. names; stop = stop }
stopped said r (trace t) (inr (sail, is, none)) = absurd none

missing_stop : (status : Status) (text : Text) (r : Reading) (source : Source) → Stops status text r source → status_number status ≡ 4 → Stops kind.Missing text r source
missing_stop kind.Missing text r source stop is = stop
missing_stop kind.ReadFault text r source stop is = absurd (omega (arith, is))
missing_stop kind.Limit text r source stop is = absurd (omega (arith, is))
missing_stop kind.Accepted text r source stop is = absurd stop
missing_stop kind.Refused text r source stop is = absurd stop
missing_stop kind.Words text r source stop is = absurd stop
missing_stop kind.Input text r source stop is = absurd stop

read_fault_stop : (status : Status) (text : Text) (r : Reading) (source : Source) → Stops status text r source → status_number status ≡ 5 → Stops kind.ReadFault text r source
read_fault_stop kind.Missing text r source stop is = absurd (omega (arith, is))
read_fault_stop kind.ReadFault text r source stop is = stop
read_fault_stop kind.Limit text r source stop is = absurd (omega (arith, is))
read_fault_stop kind.Accepted text r source stop is = absurd stop
read_fault_stop kind.Refused text r source stop is = absurd stop
read_fault_stop kind.Words text r source stop is = absurd stop
read_fault_stop kind.Input text r source stop is = absurd stop

limit_stop : (status : Status) (text : Text) (r : Reading) (source : Source) → Stops status text r source → status_number status ≡ 7 → Stops kind.Limit text r source
limit_stop kind.Missing text r source stop is = absurd (omega (arith, is))
limit_stop kind.ReadFault text r source stop is = absurd (omega (arith, is))
limit_stop kind.Limit text r source stop is = stop
limit_stop kind.Accepted text r source stop is = absurd stop
limit_stop kind.Refused text r source stop is = absurd stop
limit_stop kind.Words text r source stop is = absurd stop
limit_stop kind.Input text r source stop is = absurd stop

-- ---- the kinds of answers

-- it is said of the texts of the command's files
pub record OfTexts (command : Option CommandSaid) (r : Reading) (said : Said) : Type 0 where
  pub it : CommandSaid
  pub on_words : command ≡ Some it
  pub is_said : IsSaid r.store it said

-- a file of the command stops the call
pub record Halted (command : Option CommandSaid) (r : Reading) (said : Said) : Type 0 where
  pub it : CommandSaid
  pub on_words : command ≡ Some it
  pub stopped : Stopped said r it

-- the answer is of one of three kinds
abbrev pub Kinds : Option CommandSaid → Reading → Said → Type 0
Kinds command r said = ((command ≡ None) × (said.status ≡ kind.Words) × (said.text ≡ usage_text)) ⊎ OfTexts command r said ⊎ Halted command r said

kinds_of : (command : Option CommandSaid) (r : Reading) (said : Said) → Answers command said r → Kinds command r said
kinds_of None r said why = inl (refl, why.0, why.1)
kinds_of (Some it) r said (inl is) = inr (inl (record { it = it; on_words = refl; is_said = is }))
kinds_of (Some it) r said (inr stop) = inr (inr (record { it = it; on_words = refl; stopped = stopped said r it stop }))

-- what is said of the text of a trace: an input, a limit, or that the words don't fit it
pub record IsMisfitSaid (store : Option Store) (t : TraceSaid) (said : Said) : Type 0 where
  pub number : status_number said.status ≡ 2
  pub usage : said.text ≡ usage_text
  pub misfits : (words : List Text) → command_of words ≡ Some (trace t) → AreMisfits words store

trace_kinds : (store : Option Store) (t : TraceSaid) (said : Said) (is : IsTraced store t said) → IsTold t is.sail (Some said)
    → (status_number said.status ≡ 3) ⊎ (status_number said.status ≡ 7) ⊎ IsMisfitSaid store t said
trace_kinds store t said is (inl input) = inl (ap status_number input)
trace_kinds store t said is (inr (inl limit)) = inr (inl (ap status_number limit))
trace_kinds store t said is (inr (inr misfit)) = inr (inr (record {
  number = ap (λ (s : Said). status_number s.status) misfit.0;
  usage = ap (λ (s : Said). s.text) misfit.0;
  misfits = λ words on_words. record { said = t; on_words = on_words; sail = is.sail; read = is.read; misfit = misfit.1 };
}))

of_trace : (store : Option Store) (t : TraceSaid) (said : Said) → IsTraced store t said
    → (status_number said.status ≡ 3) ⊎ (status_number said.status ≡ 7) ⊎ IsMisfitSaid store t said
of_trace store t said is = trace_kinds store t said is (subst (λ (o : Option Said). IsTold t is.sail o) is.judged (told_of_each t is.sail))

no_such : {n : ℕ} {P : Type 0} (m : ℕ) → n ≡ m → (m ≢ 3) → (m ≢ 7) → (m ≢ 2) → (n ≡ 3) ⊎ (n ≡ 7) ⊎ P → (P → n ≡ 2) → ⊥
no_such m at a b c (inl h) f = a (sym at ∙ h)
no_such m at a b c (inr (inl h)) f = b (sym at ∙ h)
no_such m at a b c (inr (inr p)) f = c (sym at ∙ f p)

-- no file is missing and none fails where something is said of the texts
not_missing : (store : Option Store) (command : CommandSaid) (said : Said) → IsSaid store command said → status_number said.status ≢ 4
not_missing store (check row) said is e = (judged_status row is.sail is.image is.proof said is.judged).not_missing e
not_missing store (trace t) said is e = no_such 4 e (omega arith) (omega arith) (omega arith) (of_trace store t said is) (λ (m : IsMisfitSaid store t said). m.number)

not_read_fault : (store : Option Store) (command : CommandSaid) (said : Said) → IsSaid store command said → status_number said.status ≢ 5
not_read_fault store (check row) said is e = (judged_status row is.sail is.image is.proof said is.judged).not_read_fault e
not_read_fault store (trace t) said is e = no_such 5 e (omega arith) (omega arith) (omega arith) (of_trace store t said is) (λ (m : IsMisfitSaid store t said). m.number)

-- ---- the statuses that files give

missing_in : (words : List Text) (r : Reading) (w : Writing) (said : Said) → status_number said.status ≡ 4
    → Grows w.bytes said.text w.bytes' → Kinds (command_of words) r said
    → Rose r.missing r.missing' × TellsMissing words r.store w.bytes w.bytes'
missing_in words r w said is grown (inl none) = absurd (omega (arith, is, ap status_number none.1))
missing_in words r w said is grown (inr (inl of)) = absurd (not_missing r.store of.it said of.is_said is)
missing_in words r w said is grown (inr (inr halted)) =
    let stop = missing_stop said.status said.text r halted.stopped.source halted.stopped.stop is in (
      stop.0,
      record {
        name = halted.stopped.source.name;
        among = halted.stopped.among_words words (named words halted.it halted.on_words);
        absent = stop.1;
        grown = subst (λ (t : Text). Grows w.bytes t w.bytes') stop.2 grown;
      },
    )

pub missing_of : (words : List Text) (r : Reading) (w : Writing) (n : ℕ) → HasCause n (command_of words) r w → n ≡ 4
    → Rose r.missing r.missing' × TellsMissing words r.store w.bytes w.bytes'
missing_of words r w n (inl e) at = missing_in words r w e.said (sym e.number ∙ at) e.grown (kinds_of (command_of words) r e.said e.why)
missing_of words r w n (inr (inl e)) at = absurd (omega (arith, e.0, at))
missing_of words r w n (inr (inr e)) at = absurd (omega (arith, e.0, at))

read_fault_in : (words : List Text) (r : Reading) (w : Writing) (said : Said) → status_number said.status ≡ 5
    → Grows w.bytes said.text w.bytes' → Kinds (command_of words) r said
    → Rose r.faults r.faults' × TellsReadFault words w.bytes w.bytes'
read_fault_in words r w said is grown (inl none) = absurd (omega (arith, is, ap status_number none.1))
read_fault_in words r w said is grown (inr (inl of)) = absurd (not_read_fault r.store of.it said of.is_said is)
read_fault_in words r w said is grown (inr (inr halted)) =
    let stop = read_fault_stop said.status said.text r halted.stopped.source halted.stopped.stop is in (
      stop.0,
      record {
        name = halted.stopped.source.name;
        among = halted.stopped.among_words words (named words halted.it halted.on_words);
        grown = subst (λ (t : Text). Grows w.bytes t w.bytes') stop.1 grown;
      },
    )

pub read_fault_of : (words : List Text) (r : Reading) (w : Writing) (n : ℕ) → HasCause n (command_of words) r w → n ≡ 5
    → Rose r.faults r.faults' × TellsReadFault words w.bytes w.bytes'
read_fault_of words r w n (inl e) at = read_fault_in words r w e.said (sym e.number ∙ at) e.grown (kinds_of (command_of words) r e.said e.why)
read_fault_of words r w n (inr (inl e)) at = absurd (omega (arith, e.0, at))
read_fault_of words r w n (inr (inr e)) at = absurd (omega (arith, e.0, at))

limit_is : (status : Status) (text : Text) → status_number status ≡ 7 → record { status = status; text = text } ≡ beyond text
limit_is kind.Limit text is = refl
limit_is kind.Missing text is = absurd (omega (arith, is))
limit_is kind.ReadFault text is = absurd (omega (arith, is))
limit_is kind.Accepted text is = absurd (omega (arith, is))
limit_is kind.Refused text is = absurd (omega (arith, is))
limit_is kind.Words text is = absurd (omega (arith, is))
limit_is kind.Input text is = absurd (omega (arith, is))

beyond_in : (words : List Text) (r : Reading) (w : Writing) (said : Said) → status_number said.status ≡ 7
    → Grows w.bytes said.text w.bytes' → Kinds (command_of words) r said
    → Tells beyond words r.store w.bytes w.bytes' ⊎ TellsLimit words r.store w.bytes w.bytes'
beyond_in words r w said is grown (inl none) = absurd (omega (arith, is, ap status_number none.1))
beyond_in words r w said is grown (inr (inl of)) = inl (record {
  command = of.it;
  on_words = of.on_words;
  text = said.text;
  said = subst (λ (v : Said). IsSaid r.store of.it v) (limit_is said.status said.text is) of.is_said;
  grown = grown;
})
beyond_in words r w said is grown (inr (inr halted)) =
    let stop = limit_stop said.status said.text r halted.stopped.source halted.stopped.stop is in inr (record {
      command = halted.it;
      on_words = halted.on_words;
      source = halted.stopped.source;
      among = halted.stopped.among;
      longer = stop.0;
      grown = subst (λ (t : Text). Grows w.bytes t w.bytes') stop.1 grown;
    })

pub beyond_of : (words : List Text) (r : Reading) (w : Writing) (n : ℕ) → HasCause n (command_of words) r w → n ≡ 7
    → Tells beyond words r.store w.bytes w.bytes' ⊎ TellsLimit words r.store w.bytes w.bytes'
beyond_of words r w n (inl e) at = beyond_in words r w e.said (sym e.number ∙ at) e.grown (kinds_of (command_of words) r e.said e.why)
beyond_of words r w n (inr (inl e)) at = absurd (omega (arith, e.0, at))
beyond_of words r w n (inr (inr e)) at = absurd (omega (arith, e.0, at))

-- ---- acceptance, refusal, inputs: no stop of a file has their statuses

accepted_is : (status : Status) (text : Text) → status_number status ≡ 0 → record { status = status; text = text } ≡ accept text
accepted_is kind.Accepted text is = refl
accepted_is kind.Limit text is = absurd (omega (arith, is))
accepted_is kind.Missing text is = absurd (omega (arith, is))
accepted_is kind.ReadFault text is = absurd (omega (arith, is))
accepted_is kind.Refused text is = absurd (omega (arith, is))
accepted_is kind.Words text is = absurd (omega (arith, is))
accepted_is kind.Input text is = absurd (omega (arith, is))

refused_is : (status : Status) (text : Text) → status_number status ≡ 1 → record { status = status; text = text } ≡ refuse text
refused_is kind.Refused text is = refl
refused_is kind.Accepted text is = absurd (omega (arith, is))
refused_is kind.Limit text is = absurd (omega (arith, is))
refused_is kind.Missing text is = absurd (omega (arith, is))
refused_is kind.ReadFault text is = absurd (omega (arith, is))
refused_is kind.Words text is = absurd (omega (arith, is))
refused_is kind.Input text is = absurd (omega (arith, is))

input_is : (status : Status) (text : Text) → status_number status ≡ 3 → record { status = status; text = text } ≡ bad_input text
input_is kind.Input text is = refl
input_is kind.Accepted text is = absurd (omega (arith, is))
input_is kind.Refused text is = absurd (omega (arith, is))
input_is kind.Limit text is = absurd (omega (arith, is))
input_is kind.Missing text is = absurd (omega (arith, is))
input_is kind.ReadFault text is = absurd (omega (arith, is))
input_is kind.Words text is = absurd (omega (arith, is))

-- the statuses of stops
stop_number : (status : Status) (text : Text) (r : Reading) (source : Source) → Stops status text r source
    → (status_number status ≡ 4) ⊎ (status_number status ≡ 5) ⊎ (status_number status ≡ 7)
stop_number kind.Missing text r source stop = inl refl
stop_number kind.ReadFault text r source stop = inr (inl refl)
stop_number kind.Limit text r source stop = inr (inr refl)
stop_number kind.Accepted text r source stop = absurd stop
stop_number kind.Refused text r source stop = absurd stop
stop_number kind.Words text r source stop = absurd stop
stop_number kind.Input text r source stop = absurd stop

no_stop : (m n : ℕ) → n ≡ m → m < 4 → (n ≡ 4) ⊎ (n ≡ 5) ⊎ (n ≡ 7) → ⊥
no_stop m n at small (inl h) = omega (arith, at, small, h)
no_stop m n at small (inr (inl h)) = omega (arith, at, small, h)
no_stop m n at small (inr (inr h)) = omega (arith, at, small, h)

-- an answer below 4 and other than 2 is said of the texts
below_four : (words : List Text) (r : Reading) (said : Said) (m : ℕ) → status_number said.status ≡ m → m < 4 → m ≢ 2 → Kinds (command_of words) r said
    → OfTexts (command_of words) r said
below_four words r said m at small two (inl none) = absurd (two (sym at ∙ ap status_number none.1))
below_four words r said m at small two (inr (inl of)) = of
below_four words r said m at small two (inr (inr halted)) =
    absurd (no_stop m (status_number said.status) at small (stop_number said.status said.text r halted.stopped.source halted.stopped.stop))

-- it is a check that something below 2 is said of
pub record OfCheck (words : List Text) (r : Reading) (said : Said) : Type 0 where
  pub row : Row
  pub on_row : command_of words ≡ Some (check row)
  pub judged : IsJudged r.store row said

check_of : (words : List Text) (r : Reading) (said : Said) (m : ℕ) → status_number said.status ≡ m → m < 2 → (command : CommandSaid) → command_of words ≡ Some command
    → IsSaid r.store command said → OfCheck words r said
check_of words r said m at small (check row) on_words is = record { row = row; on_row = on_words; judged = is }
check_of words r said m at small (trace t) on_words is =
    absurd (no_such m at (λ e. omega (arith, small, e)) (λ e. omega (arith, small, e)) (λ e. omega (arith, small, e)) (of_trace r.store t said is)
    (λ (misfit : IsMisfitSaid r.store t said). misfit.number))

of_check : (words : List Text) (r : Reading) (said : Said) (m : ℕ) → status_number said.status ≡ m → m < 2 → Answers (command_of words) said r → OfCheck words r said
of_check words r said m at small why =
    let of = below_four words r said m at (omega (arith, small)) (λ e. omega (arith, small, e)) (kinds_of (command_of words) r said why) in
    check_of words r said m at small of.it of.on_words of.is_said

accepted_in : (words : List Text) (r : Reading) (w : Writing) (said : Said) → status_number said.status ≡ 0
    → Grows w.bytes said.text w.bytes' → OfCheck words r said → TellsAccepted words r.store w.bytes w.bytes'
accepted_in words r w said is grown of = record {
  row = of.row;
  on_row = of.on_row;
  sail = of.judged.sail;
  image = of.judged.image;
  proof = of.judged.proof;
  report = said.text;
  read = of.judged.read;
  accepted = accepting of.row of.judged.sail of.judged.image of.judged.proof said.text (of.judged.judged ∙ ap (λ (x : Said). Some x) (accepted_is said.status said.text is));
  grown = grown;
}

pub accepted_of : (words : List Text) (r : Reading) (w : Writing) (n : ℕ) → HasCause n (command_of words) r w → n ≡ 0
    → TellsAccepted words r.store w.bytes w.bytes'
accepted_of words r w n (inl e) at =
    accepted_in words r w e.said (sym e.number ∙ at) e.grown (of_check words r e.said 0 (sym e.number ∙ at) (omega arith) e.why)
accepted_of words r w n (inr (inl e)) at = absurd (omega (arith, e.0, at))
accepted_of words r w n (inr (inr e)) at = absurd (omega (arith, e.0, at))

refused_in : (words : List Text) (r : Reading) (w : Writing) (said : Said) → status_number said.status ≡ 1
    → Grows w.bytes said.text w.bytes' → OfCheck words r said → TellsOfCheck refuse words r.store w.bytes w.bytes'
refused_in words r w said is grown of = record {
  row = of.row;
  on_row = of.on_row;
  text = said.text;
  said = subst (λ (v : Said). IsJudged r.store of.row v) (refused_is said.status said.text is) of.judged;
  grown = grown;
}

pub refused_of : (words : List Text) (r : Reading) (w : Writing) (n : ℕ) → HasCause n (command_of words) r w → n ≡ 1
    → TellsOfCheck refuse words r.store w.bytes w.bytes'
refused_of words r w n (inl e) at =
    refused_in words r w e.said (sym e.number ∙ at) e.grown (of_check words r e.said 1 (sym e.number ∙ at) (omega arith) e.why)
refused_of words r w n (inr (inl e)) at = absurd (omega (arith, e.0, at))
refused_of words r w n (inr (inr e)) at = absurd (omega (arith, e.0, at))

input_in : (words : List Text) (r : Reading) (w : Writing) (said : Said) → status_number said.status ≡ 3
    → Grows w.bytes said.text w.bytes' → OfTexts (command_of words) r said → Tells bad_input words r.store w.bytes w.bytes'
input_in words r w said is grown of = record {
  command = of.it;
  on_words = of.on_words;
  text = said.text;
  said = subst (λ (v : Said). IsSaid r.store of.it v) (input_is said.status said.text is) of.is_said;
  grown = grown;
}

pub input_of : (words : List Text) (r : Reading) (w : Writing) (n : ℕ) → HasCause n (command_of words) r w → n ≡ 3
    → Tells bad_input words r.store w.bytes w.bytes'
input_of words r w n (inl e) at =
    input_in words r w e.said (sym e.number ∙ at) e.grown
    (below_four words r e.said 3 (sym e.number ∙ at) (omega arith) (omega arith) (kinds_of (command_of words) r e.said e.why))
input_of words r w n (inr (inl e)) at = absurd (omega (arith, e.0, at))
input_of words r w n (inr (inr e)) at = absurd (omega (arith, e.0, at))

-- ---- the words

-- why the usage is told
pub record IsUsage (words : List Text) (store : Option Store) (text : Text) : Type 0 where
  pub why : (command_of words ≡ None) ⊎ AreMisfits words store
  pub is_usage : text ≡ usage_text

misfit_usage : (words : List Text) (store : Option Store) (t : TraceSaid) (said : Said) → status_number said.status ≡ 2 → command_of words ≡ Some (trace t)
    → (status_number said.status ≡ 3) ⊎ (status_number said.status ≡ 7) ⊎ IsMisfitSaid store t said → IsUsage words store said.text
misfit_usage words store t said is on_words (inl h) = absurd (omega (arith, is, h))
misfit_usage words store t said is on_words (inr (inl h)) = absurd (omega (arith, is, h))
misfit_usage words store t said is on_words (inr (inr m)) = record { why = inr (m.misfits words on_words); is_usage = m.usage }

texts_usage : (words : List Text) (store : Option Store) (command : CommandSaid) (said : Said) → status_number said.status ≡ 2 → command_of words ≡ Some command
    → IsSaid store command said → IsUsage words store said.text
texts_usage words store (check row) said is on_words judged = absurd ((judged_status row judged.sail judged.image judged.proof said judged.judged).not_words is)
texts_usage words store (trace t) said is on_words traced = misfit_usage words store t said is on_words (of_trace store t said traced)

usage_in : (words : List Text) (r : Reading) (said : Said) → status_number said.status ≡ 2 → Kinds (command_of words) r said → IsUsage words r.store said.text
usage_in words r said is (inl none) = record { why = inl none.0; is_usage = none.2 }
usage_in words r said is (inr (inl of)) = texts_usage words r.store of.it said is of.on_words of.is_said
usage_in words r said is (inr (inr halted)) =
    absurd (no_stop 2 (status_number said.status) is (omega arith) (stop_number said.status said.text r halted.stopped.source halted.stopped.stop))

usage_grown : (words : List Text) (r : Reading) (w : Writing) (text : Text) → Grows w.bytes text w.bytes' → IsUsage words r.store text → TellsUsage words r.store w.bytes w.bytes'
usage_grown words r w text grown is = record { why = is.why; grown = subst (λ (t : Text). Grows w.bytes t w.bytes') is.is_usage grown }

pub words_told : (words : List Text) (r : Reading) (w : Writing) (n : ℕ) → HasCause n (command_of words) r w → n ≡ 2 → TellsUsage words r.store w.bytes w.bytes'
words_told words r w n (inl e) at =
    usage_grown words r w e.said.text e.grown (usage_in words r e.said (sym e.number ∙ at) (kinds_of (command_of words) r e.said e.why))
words_told words r w n (inr (inl e)) at = absurd (omega (arith, e.0, at))
words_told words r w n (inr (inr e)) at = absurd (omega (arith, e.0, at))

-- ---- the statuses of faults

read_fault_rose : (command : Option CommandSaid) (r : Reading) (said : Said) → status_number said.status ≡ 5 → Kinds command r said → Rose r.faults r.faults'
read_fault_rose command r said is (inl none) = absurd (omega (arith, is, ap status_number none.1))
read_fault_rose command r said is (inr (inl of)) = absurd (not_read_fault r.store of.it said of.is_said is)
read_fault_rose command r said is (inr (inr halted)) = (read_fault_stop said.status said.text r halted.stopped.source halted.stopped.stop is).0

-- 5 comes only where the count of faults rose
pub five_rose : (n : ℕ) (command : Option CommandSaid) (r : Reading) (w : Writing) → HasCause n command r w → n ≡ 5 → Rose r.faults r.faults'
five_rose n command r w (inl e) at = read_fault_rose command r e.said (sym e.number ∙ at) (kinds_of command r e.said e.why)
five_rose n command r w (inr (inl e)) at = absurd (omega (arith, e.0, at))
five_rose n command r w (inr (inr e)) at = absurd (omega (arith, e.0, at))

not_six : (status : Status) → status_number status ≢ 6
not_six kind.Missing e = omega (arith, e)
not_six kind.ReadFault e = omega (arith, e)
not_six kind.Limit e = omega (arith, e)
not_six kind.Accepted e = omega (arith, e)
not_six kind.Refused e = omega (arith, e)
not_six kind.Words e = omega (arith, e)
not_six kind.Input e = omega (arith, e)

-- 6 comes only where the sink's count of faults rose
pub six_rose : (n : ℕ) (command : Option CommandSaid) (r : Reading) (w : Writing) → HasCause n command r w → n ≡ 6 → Rose w.faults w.faults'
six_rose n command r w (inl e) at = absurd (not_six e.said.status (sym e.number ∙ at))
six_rose n command r w (inr (inl e)) at = e.1
six_rose n command r w (inr (inr e)) at = absurd (omega (arith, e.0, at))

-- a count that stays 0 didn't rise
pub unmoved : (before now : ℕ) → before ≡ 0 → now ≡ 0 → ¬ Rose before now
unmoved before now zero_before zero_now rose = omega (arith, zero_before, zero_now, rose)
