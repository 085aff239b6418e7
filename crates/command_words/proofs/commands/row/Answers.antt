use Rattle.std.proofs.Common.{◌∙◌, ap}
use Rattle.command_words.specs.Words.{row_of, row_said}
use Rattle.command_words.proofs.ParseLemmas.{named, row_is}
use Rattle.command_words.proofs.commands.row.Goals as goal

pub returns-in-Ok : goal.returns-in-Ok
returns-in-Ok c = λ ws same. named c.names.result (row_of ws) (c.names.ensures ∙ ap row_said (c.in-Ok.ensures ws same) ∙ row_is ws)
