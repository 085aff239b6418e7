use Rattle.std.proofs.Common.{◌≡◌, map, sym, ap, true, ◌∙◌, is_some, option_map, refl}
use Rattle.std.proofs.lemmas.Bool.{false≢true}
use Rattle.clap.specs.Words.{found_of, takes}
use Rattle.command_words.specs.Apps.{app}
use Rattle.command_words.specs.Words.{command_said}
use Rattle.command_words.proofs.ParseLemmas.{Meets, check_says, meets, not_taken, one_met, trace_says}
use Rattle.command_words.proofs.commands.command.Goals as goal

pub returns-in_default : goal.returns-in_default
returns-in_default c = λ ws same. sym (not_taken ws (λ t.
    let some : is_some c.in_ok-matches.field-0 ≡ true = c.in_ok-matches.ensures.refused (ap (takes app) same ∙ t) in
    let none = sym (ap is_some c.in_default.is) ∙ some in
    absurd (cc)))

pub returns-in-Some-subcommand_matches : goal.returns-in-Some-subcommand_matches
returns-in-Some-subcommand_matches c = λ ws same.
    let met = meets ws (map (λ s. s.now) c.args.words.now) c.in_ok-matches.field-0 c.in-Some.matches same c.in-Some.is c.in_ok-matches.ensures.fault c.in_ok-matches.ensures.matches in
    check_says ws c.in-Some.matches (found_of c.in-Some-subcommand_matches.given.now) (option_map command_said c.check_given.result) met
    (c.in-Some-subcommand_matches.ensures.found.0 refl) c.in-Some-subcommand_matches.ensures.rows c.check_given.ensures

pub returns-in-Some-subcommand_matches-2 : goal.returns-in-Some-subcommand_matches-2
returns-in-Some-subcommand_matches-2 c = λ ws same.
    let met = meets ws (map (λ s. s.now) c.args.words.now) c.in_ok-matches.field-0 c.in-Some.matches same c.in-Some.is c.in_ok-matches.ensures.fault c.in_ok-matches.ensures.matches in
    trace_says ws c.in-Some.matches (found_of c.in-Some-subcommand_matches-2.given.now) c.trace_given.result met
    (c.in-Some-subcommand_matches-2.ensures.found.0 refl) c.in-Some-subcommand_matches-2.ensures.rows c.trace_given.ensures

pub returns : goal.returns
returns c = λ ws same.
    let met = meets ws (map (λ s. s.now) c.args.words.now) c.in_ok-matches.field-0 c.in-Some.matches same c.in-Some.is c.in_ok-matches.ensures.fault c.in_ok-matches.ensures.matches in
    absurd (one_met ws c.in-Some.matches met
    (λ e. false≢true (c.in_default-subcommand_matches.ensures.found.1 e)) (λ e. false≢true (c.in-None.ensures.found.1 e)))
