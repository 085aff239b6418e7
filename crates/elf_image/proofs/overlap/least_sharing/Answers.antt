use Rattle.std.proofs.Common.{◌≡◌, ◌+◌, ◌∙◌, ℕ, length, max, get_or, sym, ap, subst, arith, Some, Option}
use Rattle.elf_image.specs.declared.segment.Segment.{Segment}
use Rattle.elf_image.specs.Sweep.{IsGreatestEnd, IsLeastSharing, IsLeast}
use Rattle.elf_image.proofs.SweepLemmas.{some_segment, greatest_more, least_more_none, least_more_part}
use Rattle.elf_image.proofs.overlap.least_sharing.Goals as goal
use Rattle.elf_image.proofs.overlap.least_sharing.Goals.{then-takes_part, else-takes_part}

pub loop-place-preserved : goal.loop-place-preserved
loop-place-preserved c =
    let ss = c.args.sorted.now in let k = c.loop-place.place in (
      subst (IsGreatestEnd ss (k + 1)) (sym (c.max-greatest.ensures ∙ ap (λ (e : ℕ). max c.loop-place.greatest e) c.end.ensures)) (greatest_more ss k c.loop-place.greatest some_segment (omega arith) c.loop-place.invariant.0),
      elim c.if-takes_part.branch [
        | then-takes_part w ↦ subst (IsLeastSharing ss (k + 1)) (sym (w.least-is ∙ ap (λ (s : Segment). Some s) w.lesser.ensures)) (least_more_part ss k some_segment c.loop-place.least (omega arith) c.loop-place.invariant.1 w.if-takes_part.ensures)
        | else-takes_part w ↦ subst (IsLeastSharing ss (k + 1)) (sym w.least-is) (least_more_none ss k c.loop-place.least c.loop-place.invariant.1 w.if-takes_part.ensures)
      ],
    )

pub returns : goal.returns
returns c =
    let ss = c.args.sorted.now in
    let e : c.loop-place.place ≡ length ss = omega arith in
    subst (λ (n : ℕ). IsLeastSharing ss n c.loop-place.least) e c.loop-place.invariant.1
