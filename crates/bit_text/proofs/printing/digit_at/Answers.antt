use Rattle.std.proofs.Common.{◌/◌, ◌^◌}
use Rattle.bit_text.proofs.DigitLemmas.{digit_small}
use Rattle.bit_text.proofs.printing.digit_at.Goals as goal

pub digit-requires-2 : goal.digit-requires-2
digit-requires-2 c = digit_small c.args.each (c.args.value / 2 ^ c.args.low) c.requires
