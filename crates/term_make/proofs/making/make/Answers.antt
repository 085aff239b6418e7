use Rattle.std.proofs.Common.{map}
use Rattle.term_tree.specs.Terms.{applied}
use Rattle.term_tree.specs.View.{tree}
use Rattle.term_make.proofs.MakeLemmas.{made_term, made_value}
use Rattle.term_make.proofs.making.make.Goals as goal

pub returns-clause-term : goal.returns-clause-term
returns-clause-term c = made_term (applied c.args.op (map tree c.args.args)) c.made.result c.requires.typed c.made.ensures.answer c.made.ensures.low

pub returns-clause-value : goal.returns-clause-value
returns-clause-value c = made_value (applied c.args.op (map tree c.args.args)) c.made.result c.requires.typed c.made.ensures.answer
