use Rattle.std.proofs.Common.{◌∙◌, ap, sym}
use Rattle.command_words.specs.Words.{is_dashed}
use Rattle.command_words.proofs.WordLemmas.{one_passed}
use Rattle.command_words.proofs.words.has_dash.Goals as goal

pub loop-word-preserved : goal.loop-word-preserved
loop-word-preserved c =
    one_passed _ _ c.word-item.result c.loop-word-test.true c.word-item.is
    (ap is_dashed (sym c.as_str.ensures.value) ∙ sym c.begins_with_dash.ensures ∙ c.if-begins_with_dash.false)
    ∙ c.loop-word.invariant
