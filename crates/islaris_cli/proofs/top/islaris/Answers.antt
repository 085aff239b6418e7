use Rattle.report_text.specs.Outcome.{said_of}
use Rattle.command_words.specs.Words.{words_of, command_of}
use Rattle.islaris_cli.proofs.TopLemmas.{finished, words_told, accepted_of, refused_of, input_of, missing_of, read_fault_of, beyond_of}
use Rattle.islaris_cli.proofs.top.islaris.Goals as goal

pub returns-in-Ok-clause-accepted : goal.returns-in-Ok-clause-accepted
returns-in-Ok-clause-accepted g c =
    accepted_of _ _ _ _ (finished _ (said_of c.in-Ok.outcome) (command_of (words_of c.args.words.now)) _ _ c.in-Ok.ensures c.finish.ensures)

pub returns-in-Ok-clause-refused : goal.returns-in-Ok-clause-refused
returns-in-Ok-clause-refused g c =
    refused_of _ _ _ _ (finished _ (said_of c.in-Ok.outcome) (command_of (words_of c.args.words.now)) _ _ c.in-Ok.ensures c.finish.ensures)

pub returns-in-Ok-clause-words : goal.returns-in-Ok-clause-words
returns-in-Ok-clause-words g c =
    words_told _ _ _ _ (finished _ (said_of c.in-Ok.outcome) (command_of (words_of c.args.words.now)) _ _ c.in-Ok.ensures c.finish.ensures)

pub returns-in-Ok-clause-input : goal.returns-in-Ok-clause-input
returns-in-Ok-clause-input g c =
    input_of _ _ _ _ (finished _ (said_of c.in-Ok.outcome) (command_of (words_of c.args.words.now)) _ _ c.in-Ok.ensures c.finish.ensures)

pub returns-in-Ok-clause-missing : goal.returns-in-Ok-clause-missing
returns-in-Ok-clause-missing g c =
    missing_of _ _ _ _ (finished _ (said_of c.in-Ok.outcome) (command_of (words_of c.args.words.now)) _ _ c.in-Ok.ensures c.finish.ensures)

pub returns-in-Ok-clause-read_fault : goal.returns-in-Ok-clause-read_fault
returns-in-Ok-clause-read_fault g c =
    read_fault_of _ _ _ _ (finished _ (said_of c.in-Ok.outcome) (command_of (words_of c.args.words.now)) _ _ c.in-Ok.ensures c.finish.ensures)

pub returns-in-Ok-clause-beyond : goal.returns-in-Ok-clause-beyond
returns-in-Ok-clause-beyond g c =
    beyond_of _ _ _ _ (finished _ (said_of c.in-Ok.outcome) (command_of (words_of c.args.words.now)) _ _ c.in-Ok.ensures c.finish.ensures)
