use Rattle.std.proofs.Common.{◌∙◌, ◌++◌, ap}
use Rattle.std.specs.List.{flat_map}
use Rattle.constants_text.specs.Texts.{exit_line, block_line}
use Rattle.constants_text.proofs.TextLemmas.{spec_is}
use Rattle.constants_text.proofs.texts.append_spec.Goals as goal

pub returns : goal.returns
returns c =
    spec_is c.args.spec.now _ _ _ _ _ c.bytes.ensures c.in_ok-append.ensures
    (c.in_ok-append_exits.ensures ∙ ap (λ exits. c.append.new.text.items ++ flat_map exit_line exits) c.as_slice.ensures)
    (c.in_ok-append_blocks.ensures ∙ ap (λ blocks. c.append_exits.new.text.items ++ flat_map block_line blocks) c.as_slice-2.ensures)
