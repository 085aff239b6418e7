use Rattle.std.proofs.Common.{◌≡◌, ◌∙◌, sym, subst, ap, arith}
use Rattle.std.specs.Prelude.{IfNone, Option}
use Rattle.elf_image.specs.declared.segment.Segment.{Segment}
use Rattle.elf_image.proofs.SegmentLemmas.{IsRow, row_apart}
use Rattle.elf_image.proofs.OverlapLemmas.{row_from_none, none_from_apart, apart_permuted, overlap_is, least_in, least_part, least_has_other}
use Rattle.elf_image.proofs.overlap.least_overlap.Goals as goal

pub returns-in_err-least-clause-value : goal.returns-in_err-least-clause-value
returns-in_err-least-clause-value c =
    let xs = c.args.segments.now in let ys = c.args.sorted.now in
    c.from_residual.ensures ∙ sym (none_from_apart xs c.requires.numbers (apart_permuted xs ys c.requires.permutation (row_apart ys (row_from_none ys c.requires.rising c.requires.some c.in_err-least.ensures))))

pub returns-in_err-least-clause-apart : goal.returns-in_err-least-clause-apart
returns-in_err-least-clause-apart c =
    let ys = c.args.sorted.now in
    subst (λ (o : Option (Segment × Segment)). IfNone o (IsRow ys)) (sym c.from_residual.ensures) (row_from_none ys c.requires.rising c.requires.some c.in_err-least.ensures)

pub returns-in_err-other-clause-value : goal.returns-in_err-other-clause-value
returns-in_err-other-clause-value c =
    absurd (least_has_other c.args.segments.now c.args.sorted.now c.in_ok-least.least c.requires.numbers c.requires.permutation c.in_ok-least.ensures (sym c.in_err-other.ensures))

pub returns-in_err-other-clause-apart : goal.returns-in_err-other-clause-apart
returns-in_err-other-clause-apart c =
    absurd (least_has_other c.args.segments.now c.args.sorted.now c.in_ok-least.least c.requires.numbers c.requires.permutation c.in_ok-least.ensures (sym c.in_err-other.ensures))

pub returns-clause-value : goal.returns-clause-value
returns-clause-value c =
    let xs = c.args.segments.now in let ys = c.args.sorted.now in let s = c.in_ok-least.least in
    sym (overlap_is xs s c.in_ok-other.other c.requires.numbers (least_in xs ys s c.requires.permutation c.in_ok-least.ensures) (least_part xs ys s c.requires.permutation c.in_ok-least.ensures) (sym c.in_ok-other.ensures))
