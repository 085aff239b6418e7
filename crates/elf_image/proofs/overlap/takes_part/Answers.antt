use Rattle.std.proofs.Common.{◌∙◌, ◌+◌, ◌&&◌, ap, arith, ltb, length, get_or, ℕ}
use Rattle.elf_image.proofs.SweepLemmas.{decided, some_segment}
use Rattle.elf_image.proofs.overlap.takes_part.Goals as goal

pub returns-else-greatest-from : goal.returns-else-greatest-from
returns-else-greatest-from c =
    let ss = c.args.sorted.now in let k = c.args.place in
    let early = c.if-greatest-from.false in let from = c.from.ensures in
    decided ss k c.args.greatest some_segment c.begins_below.result c.requires.rising c.requires.some c.requires.greatest c.requires.place (omega (arith, early, from))
    (c.begins_below.ensures some_segment ∙ ap (λ (e : ℕ). ltb (k + 1) (length ss) && ltb (get_or ss (k + 1) some_segment).addr e) c.end.ensures)
