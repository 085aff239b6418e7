use Rattle.std.proofs.Common.{◌∙◌, ◌+◌, ◌++◌, map, drop, get_or, sym, subst, ap, arith}
use Rattle.std.specs.Prelude.{All}
use Rattle.std.proofs.lemmas.List.Elements.{All-get_or}
use Rattle.bv_bits.specs.Bits.{IsBits, IsWidth}
use Rattle.state_core.specs.State.{IsMemory, zero_of}
use Rattle.state_core.proofs.Written.{empty_memory}
use Rattle.state_core.proofs.Zeros.{one_more, moved}
use Rattle.state_core.proofs.state.State.new.Goals as goal

pub loop-width-preserved : goal.loop-width-preserved
loop-width-preserved c =
    let widths = c.args.widths.now in let i = c.loop-width.width-index in (
      ap (λ r. r ++ map zero_of (drop (i + 1) widths)) c.in_ok-push.ensures.ok ∙ moved c.loop-width.registers widths i (omega arith) ∙ c.loop-width.invariant.0,
      subst (λ r. All IsBits r) (sym c.in_ok-push.ensures.ok) (one_more c.loop-width.registers (get_or widths i 0) c.loop-width.invariant.1 (All-get_or IsWidth widths i 0 (omega arith) c.requires.widths)),
    )

pub invariant_of-result : goal.invariant_of-result
invariant_of-result c = record { registers = c.loop-width.invariant.1; memory = subst (λ m. IsMemory m) (sym c.new.ensures) empty_memory }
