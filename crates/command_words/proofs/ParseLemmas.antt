-- What the parser makes of words, and what they say.
use Rattle.std.proofs.Common.{ap, ap₂, sym, ◌||◌, ◌⊎◌, Bool, codes, true, false, option_map, List, Option, Some, None, [], ◌∷◌, ◌≡◌, ◌∙◌, refl, subst, inl, inr, IfOk, IfSome, Result}
use Rattle.std.proofs.lemmas.Bool.{false≢true}
use Rattle.std.specs.Prelude.{if◌then◌else◌, MatchOption}
use Rattle.std.specs.Option.{option_map_or, option_or}
use Rattle.std.specs.List.{list_any}
use Rattle.std.specs.Str.{bytes_eq}
use Rattle.std.proofs.lemmas.Slice.Eq.{bytes_eq-Decides}
use Rattle.clap.specs.Faults.{fault_of}
use Rattle.clap.specs.Words.{HasMatchesOf, Text, rows_of, subcommand_name_of, subcommand_of, subcommand_rows_of, takes}
use Rattle.clap.specs.declared.parser.matches.ArgMatches.{ArgMatches}
use Rattle.clap.specs.declared.parser.matches.Found.{Found}
use Rattle.report_text.specs.Names.{Row, row_named}
use Rattle.report_text.specs.declared.names.Names.{Names as FileNames}
use Rattle.trace_words.specs.Trace.{TraceSaid, trace_of}
use Rattle.command_words.specs.declared.commands.CommandGiven.{CommandGiven}
use Rattle.command_words.specs.Apps.{app, HasNames, HasTrace}
use Rattle.command_words.specs.Words.{CommandSaid, check, trace, command_of, command_said, is_dashed, marked, names_behind, row_of, row_said, spelled, trace_behind}
use Rattle.command_words.proofs.CheckLemmas.{check_name, check_taken, has_names, is_check}
use Rattle.command_words.proofs.OtherLemmas.{is_plain, no_word, other_word}
use Rattle.command_words.proofs.TraceLemmas.{has_trace, is_trace, trace_name, trace_taken}
use Rattle.command_words.proofs.WalkLemmas.{simple}

-- ---- words that are parsed

-- what words say of which none begins with `-`
abbrev said_behind : List Text → Option CommandSaid
said_behind ws = option_or (option_map check (names_behind ws)) (option_map trace (trace_behind ws))

-- they are `check` and three names
pub record CheckWords (ws : List Text) : Type 0 where
  pub sail : Text
  pub image : Text
  pub proof : Text
  pub words : spelled ws ≡ codes "check" ∷ codes "--" ∷ sail ∷ image ∷ proof ∷ []
  pub says : command_of ws ≡ Some (check (record { sail = sail; image = image; proof = proof }))

-- they are `trace` and two words or more
pub record TraceWords (ws : List Text) : Type 0 where
  pub sail : Text
  pub opcode : Text
  pub more : List Text
  pub words : spelled ws ≡ codes "trace" ∷ codes "--" ∷ sail ∷ opcode ∷ more
  pub says : command_of ws ≡ option_map trace (trace_of (sail ∷ opcode ∷ more))

-- words without `-` are parsed with `--` behind the first, and say what stands there
spelled_is : (ws : List Text) → list_any is_dashed ws ≡ false → spelled ws ≡ marked ws
spelled_is ws plain = ap (λ (b : Bool). if b then [] else marked ws) plain

said_is : (ws : List Text) → list_any is_dashed ws ≡ false → command_of ws ≡ said_behind ws
said_is ws plain = ap (λ (b : Bool). if b then None else said_behind ws) plain

check_words : (rest : List Text) → list_any is_dashed (codes "check" ∷ rest) ≡ false → fault_of app (codes "check" ∷ codes "--" ∷ rest) ≡ [] → CheckWords (codes "check" ∷ rest)
check_words rest plain e =
    let k = is_check rest e in
    record {
      sail = k.sail;
      image = k.image;
      proof = k.proof;
      words = spelled_is (codes "check" ∷ rest) plain ∙ ap (λ (r : List Text). codes "check" ∷ codes "--" ∷ r) k.are;
      says = said_is (codes "check" ∷ rest) plain ∙ ap (λ (r : List Text). said_behind (codes "check" ∷ r)) k.are;
    }

no_names : (a b : Text) (more : List Text) → names_behind (codes "trace" ∷ a ∷ b ∷ more) ≡ None
no_names a b [] = refl
no_names a b (m ∷ []) = refl
no_names a b (m ∷ n ∷ more) = refl

trace_words : (rest : List Text) → list_any is_dashed (codes "trace" ∷ rest) ≡ false → fault_of app (codes "trace" ∷ codes "--" ∷ rest) ≡ [] → TraceWords (codes "trace" ∷ rest)
trace_words rest plain e =
    let k = is_trace rest e in
    record {
      sail = k.sail;
      opcode = k.opcode;
      more = k.more;
      words = spelled_is (codes "trace" ∷ rest) plain ∙ ap (λ (r : List Text). codes "trace" ∷ codes "--" ∷ r) k.are;
      says = said_is (codes "trace" ∷ rest) plain ∙ ap (λ (r : List Text). said_behind (codes "trace" ∷ r)) k.are
          ∙ ap (λ (o : Option Row). option_or (option_map check o) (option_map trace (trace_of (k.sail ∷ k.opcode ∷ k.more)))) (no_names k.sail k.opcode k.more);
    }

abbrev Parsed : List Text → Type 0
Parsed ws = CheckWords ws ⊎ TraceWords ws

by_word : (x : Text) (rest : List Text) (u v : Bool) → list_any is_dashed (x ∷ rest) ≡ false → is_dashed x ≡ false → bytes_eq (codes "check") x ≡ u → bytes_eq (codes "trace") x ≡ v
    → fault_of app (x ∷ codes "--" ∷ rest) ≡ [] → Parsed (x ∷ rest)
by_word x rest true v plain first p q e =
    let word : codes "check" ≡ x = (bytes_eq-Decides (codes "check") x).0 p in
    subst (λ (y : Text). Parsed (y ∷ rest)) word
    (inl (check_words rest (ap (λ (y : Text). list_any is_dashed (y ∷ rest)) word ∙ plain) (ap (λ (y : Text). fault_of app (y ∷ codes "--" ∷ rest)) word ∙ e)))
by_word x rest false true plain first p q e =
    let word : codes "trace" ≡ x = (bytes_eq-Decides (codes "trace") x).0 q in
    subst (λ (y : Text). Parsed (y ∷ rest)) word
    (inr (trace_words rest (ap (λ (y : Text). list_any is_dashed (y ∷ rest)) word ∙ plain) (ap (λ (y : Text). fault_of app (y ∷ codes "--" ∷ rest)) word ∙ e)))
by_word x rest false false plain first p q e = absurd (other_word x (is_plain x first) p q (codes "--" ∷ rest) e)

first_plain : (a b : Bool) → (a || b) ≡ false → a ≡ false
first_plain true b h = absurd (cc)
first_plain false b h = refl

without_dash : (ws : List Text) → list_any is_dashed ws ≡ false → fault_of app (marked ws) ≡ [] → Parsed ws
without_dash [] plain e = absurd (no_word e)
without_dash (x ∷ rest) plain e = by_word x rest (bytes_eq (codes "check") x) (bytes_eq (codes "trace") x) plain (first_plain (is_dashed x) (list_any is_dashed rest) plain) refl refl e

by_dash : (ws : List Text) (b : Bool) → list_any is_dashed ws ≡ b → fault_of app (if b then [] else marked ws) ≡ [] → Parsed ws
by_dash ws true is e = absurd (no_word e)
by_dash ws false is e = without_dash ws is e

-- what the parser doesn't refuse are the words of a command
pub parsed : (ws : List Text) → fault_of app (spelled ws) ≡ [] → CheckWords ws ⊎ TraceWords ws
parsed ws e = by_dash ws (list_any is_dashed ws) refl e

-- ---- words that are refused

abbrev Refused : List Text → Type 0
Refused ws = takes app (marked ws) ≡ true → ⊥

of_four : (a b c d : Text) (same : Bool) → bytes_eq a (codes "check") ≡ same → Refused (a ∷ b ∷ c ∷ d ∷ [])
    → ◌≡◌ {A = Option Row} (if same then Some (record { sail = b; image = c; proof = d }) else None) None
of_four a b c d true is refused =
    absurd (refused (ap (λ x. takes app (x ∷ codes "--" ∷ b ∷ c ∷ d ∷ [])) ((bytes_eq-Decides a (codes "check")).0 is) ∙ check_taken b c d))
of_four a b c d false is refused = refl

names_refused : (ws : List Text) → Refused ws → names_behind ws ≡ None
names_refused [] refused = refl
names_refused (a ∷ []) refused = refl
names_refused (a ∷ b ∷ []) refused = refl
names_refused (a ∷ b ∷ c ∷ []) refused = refl
names_refused (a ∷ b ∷ c ∷ d ∷ []) refused = of_four a b c d (bytes_eq a (codes "check")) refl refused
names_refused (a ∷ b ∷ c ∷ d ∷ e ∷ ws) refused = refl

of_two : (x a b : Text) (more : List Text) (same : Bool) → bytes_eq x (codes "trace") ≡ same → Refused (x ∷ a ∷ b ∷ more)
    → (if same then trace_of (a ∷ b ∷ more) else None) ≡ None
of_two x a b more true is refused =
    absurd (refused (ap (λ x. takes app (x ∷ codes "--" ∷ a ∷ b ∷ more)) ((bytes_eq-Decides x (codes "trace")).0 is) ∙ trace_taken a b more))
of_two x a b more false is refused = refl

either_none : (b : Bool) → ◌≡◌ {A = Option TraceSaid} (if b then None else None) None
either_none true = refl
either_none false = refl

trace_refused : (ws : List Text) → Refused ws → trace_behind ws ≡ None
trace_refused [] refused = refl
trace_refused (x ∷ []) refused = either_none (bytes_eq x (codes "trace"))
trace_refused (x ∷ a ∷ []) refused = either_none (bytes_eq x (codes "trace"))
trace_refused (x ∷ a ∷ b ∷ more) refused = of_two x a b more (bytes_eq x (codes "trace")) refl refused

refused_by : (ws : List Text) (b : Bool) → (takes app (if b then [] else marked ws) ≡ true → ⊥) → (if b then None else said_behind ws) ≡ None
refused_by ws true refused = refl
refused_by ws false refused = ap₂ (λ (n : Option Row) (t : Option TraceSaid). option_or (option_map check n) (option_map trace t)) (names_refused ws refused) (trace_refused ws refused)

-- words that the parser doesn't take are no command
pub not_taken : (ws : List Text) → (takes app (spelled ws) ≡ true → ⊥) → command_of ws ≡ None
not_taken ws refused = refused_by ws (list_any is_dashed ws) refused

-- ---- rows

row_or : (n : Option Row) (t : Option TraceSaid) → row_said (option_or (option_map check n) (option_map trace t)) ≡ n
row_or None None = refl
row_or None (Some words) = refl
row_or (Some row) t = refl

row_by : (b : Bool) (n : Option Row) (t : Option TraceSaid) → row_said (if b then None else option_or (option_map check n) (option_map trace t)) ≡ (if b then None else n)
row_by true n t = refl
row_by false n t = row_or n t

-- a row is what the words of a check say
pub row_is : (ws : List Text) → row_said (command_of ws) ≡ row_of ws
row_is ws = row_by (list_any is_dashed ws) (names_behind ws) (trace_behind ws)

-- the names of a row, or none
pub named : (o : Option FileNames) (r : Option Row) → option_map row_named o ≡ r → MatchOption o (r ≡ None) (λ names. r ≡ Some (row_named names))
named None r e = sym e
named (Some names) r e = sym e

-- ---- what is found

-- the name of what is found is the first part of it
first_part : {A B C : Type 0} (f : A → B) (g : A → C) (o : Option A) → option_map f o ≡ option_map (λ (p : B × C). p.0) (option_map (λ a. (f a, g a)) o)
first_part f g None = refl
first_part f g (Some a) = refl

name_is : (m : ArgMatches) (words : List Text) → subcommand_rows_of m ≡ subcommand_of app words → subcommand_name_of m ≡ option_map (λ p. p.0) (subcommand_of app words)
name_is m words from = first_part _ _ _ ∙ ap (option_map (λ p. p.0)) from

apart : Some (codes "check") ≡ Some (codes "trace") → ⊥
apart e = false≢true (sym (ap (λ o. option_map_or (λ z. bytes_eq z (codes "check")) o false) e))

-- the parser met these words, and found these matches
pub record Meets (ws : List Text) (m : ArgMatches) : Type 0 where
  pub taken : fault_of app (spelled ws) ≡ []
  pub rows : subcommand_rows_of m ≡ subcommand_of app (spelled ws)

pub meets : (ws words : List Text) (o : Option ArgMatches) (m : ArgMatches) → words ≡ spelled ws → o ≡ Some m → IfSome o (λ m. fault_of app words ≡ []) → IfSome o (HasMatchesOf app words) → Meets ws m
meets ws words o m same is taken matches =
    let fine = subst (λ o. IfSome o (λ m. fault_of app words ≡ [])) is taken in
    let has = subst (λ o. IfSome o (HasMatchesOf app words)) is matches in
    record { taken = ap (fault_of app) (sym same) ∙ fine; rows = (has simple).1 ∙ ap (subcommand_of app) same }

check_met : (ws : List Text) (m : ArgMatches) → Meets ws m → (k : CheckWords ws) → subcommand_name_of m ≡ Some (codes "check")
check_met ws m h k = name_is m (codes "check" ∷ codes "--" ∷ k.sail ∷ k.image ∷ k.proof ∷ []) (h.rows ∙ ap (subcommand_of app) k.words) ∙ check_name k.sail k.image k.proof

trace_met : (ws : List Text) (m : ArgMatches) → Meets ws m → (k : TraceWords ws) → subcommand_name_of m ≡ Some (codes "trace")
trace_met ws m h k = name_is m (codes "trace" ∷ codes "--" ∷ k.sail ∷ k.opcode ∷ k.more) (h.rows ∙ ap (subcommand_of app) k.words) ∙ trace_name (codes "--" ∷ k.sail ∷ k.opcode ∷ k.more)

-- what the values of `check` say is what the words say
pub check_says : (ws : List Text) (m : ArgMatches) (f : Found) (said : Option CommandSaid) → Meets ws m → subcommand_name_of m ≡ Some (codes "check")
    → option_map (λ p. p.1) (subcommand_rows_of m) ≡ Some (rows_of f) → ((row : Row) → HasNames f row → said ≡ Some (check row)) → said ≡ command_of ws
check_says ws m f said h name rows says = elim (parsed ws h.taken) [
  | inl k ↦ says (record { sail = k.sail; image = k.image; proof = k.proof }) (has_names k.sail k.image k.proof (subcommand_rows_of m) f (h.rows ∙ ap (subcommand_of app) k.words) rows) ∙ sym k.says
  | inr k ↦ absurd (apart (sym name ∙ trace_met ws m h k))
]

-- and so for `trace`
pub trace_says : {E : Type 0} (ws : List Text) (m : ArgMatches) (f : Found) (r : Result (Option CommandGiven) E) → Meets ws m → subcommand_name_of m ≡ Some (codes "trace")
    → option_map (λ p. p.1) (subcommand_rows_of m) ≡ Some (rows_of f)
    → ((sail opcode : Text) (rest : List Text) → HasTrace f sail opcode rest → IfOk r (λ o. option_map command_said o ≡ option_map trace (trace_of (sail ∷ opcode ∷ rest))))
    → IfOk r (λ o. option_map command_said o ≡ command_of ws)
trace_says ws m f r h name rows says = elim (parsed ws h.taken) [
  | inl k ↦ absurd (apart (sym (check_met ws m h k) ∙ name))
  | inr k ↦ subst (λ q. IfOk r (λ o. option_map command_said o ≡ q)) (sym k.says)
      (says k.sail k.opcode k.more (has_trace k.sail k.opcode k.more (subcommand_rows_of m) f (h.rows ∙ ap (subcommand_of app) k.words) rows))
]

-- one of the two was met
pub one_met : (ws : List Text) (m : ArgMatches) → Meets ws m → ¬ (subcommand_name_of m ≡ Some (codes "check")) → ¬ (subcommand_name_of m ≡ Some (codes "trace")) → ⊥
one_met ws m h no_check no_trace = elim (parsed ws h.taken) [ inl k ↦ no_check (check_met ws m h k) | inr k ↦ no_trace (trace_met ws m h k) ]
