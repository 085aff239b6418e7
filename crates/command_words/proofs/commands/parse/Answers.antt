use Rattle.std.proofs.Common.{map, ap, ◌∙◌}
use Rattle.clap.specs.Words.{App, takes}
use Rattle.command_words.proofs.commands.parse.Goals as goal

pub returns : goal.returns
returns c = record {
  fault = tt;
  matches = tt;
  refused = λ t. absurd (c.in_default.not-OutOfMemory (c.kind.ensures ∙ c.in-Err.ensures.passes (ap (λ (a : App). takes a (map (λ s. s.now) c.args.words.now)) c.in_ok-program.ensures ∙ t)));
}
