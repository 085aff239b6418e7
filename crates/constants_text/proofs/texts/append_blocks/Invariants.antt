use Rattle.std.proofs.Common.{◌≡◌, ◌++◌, drop}
use Rattle.std.specs.List.{flat_map}
use Rattle.constants_text.specs.Texts.{block_line}
use Rattle.constants_text.proofs.texts.append_blocks.Given as goal

abbrev pub invariant-loop-block : goal.invariant-loop-block
invariant-loop-block l = l.text.items ++ flat_map block_line (drop l.block-index l.blocks) ≡ l.fn.text.items ++ flat_map block_line l.blocks
