use Rattle.std.proofs.Common.{◌∙◌, ◌++◌, ap}
use Rattle.constants_text.specs.Texts.{block_line}
use Rattle.constants_text.proofs.TextLemmas.{one_more, block_is}
use Rattle.constants_text.proofs.texts.append_blocks.Goals as goal

pub loop-block-preserved : goal.loop-block-preserved
loop-block-preserved c =
    one_more block_line _ _ c.block-item.result _ _ _ c.loop-block-test.true c.block-item.is c.loop-block.invariant
    (c.in_ok-append.ensures
    ∙ ap (λ t. c.loop-block.text.items ++ t)
    (block_is c.block-item.result _ _ _ _ c.bytes-name.ensures (c.deref.ensures.value ∙ c.in_ok-at.ensures.exact)
    (c.deref-in-loop-block.ensures.value ∙ c.in_ok-instructions.ensures.exact) (c.deref-in-loop-block-2.ensures.value ∙ c.in_ok-certificates.ensures.exact)))
