use Rattle.std.proofs.Common.{◌≡◌, ◌+◌, ◌*◌, ◌<◌, ◌∙◌, ◌++◌, ◌-◌, List, Option, Ok, inr, sym, ap, arith}
use Rattle.elf_image.specs.declared.segment.Segment.{Segment}
use Rattle.elf_image.specs.Fields.{e_phnum}
use Rattle.elf_image.specs.Segments.{header_at, headers_from}
use Rattle.elf_image.proofs.HeaderLemmas.{in_front, refused, taken, passed_over, at_end}
use Rattle.elf_image.proofs.segment.read_segments.Goals as goal
use Rattle.elf_image.proofs.segment.read_segments.Goals.{in-Some+in_ok-push, in_default}

pub returns-in-Err-clause-err : goal.returns-in-Err-clause-err
returns-in-Err-clause-err c =
    let file = c.args.file.now in let i = c.loop-number.number in
    let left : i < e_phnum file = omega (arith, c.e_phnum.ensures, c.from-number-end.ensures, c.loop-number-test.true) in
    inr (sym c.loop-number.invariant.1 ∙ refused file _ c.in-Err.fault i (e_phnum file) left (ap (header_at file i) (sym c.loop-number.invariant.0) ∙ sym c.in-Err.ensures.value))

pub loop-number-preserved : goal.loop-number-preserved
loop-number-preserved c =
    let file = c.args.file.now in let i = c.loop-number.number in let xs = c.loop-number.segments.items in
    let left : i < e_phnum file = omega (arith, c.e_phnum.ensures, c.from-number-end.ensures, c.loop-number-test.true) in
    let value = ap (header_at file i) (sym c.loop-number.invariant.0) ∙ sym c.in-Ok.ensures.value in
    let rest = headers_from file (i + 1) (e_phnum file - (i + 1)) in
    let next = c.loop-number.invariant.0 in (
      omega (arith, next),
      elim c.match-found.branch [
        | in-Some+in_ok-push w ↦ ap (λ (ys : List Segment). in_front ys rest) (ap (λ v. v.items) w.segments-is ∙ w.in_ok-push.ensures.items) ∙ taken file xs w.in-Some.segment i (e_phnum file) left (value ∙ ap (λ (o : Option Segment). Ok o) w.in-Some.is) ∙ c.loop-number.invariant.1
        | in_default w ↦ ap (λ (ys : List Segment). in_front ys rest) (ap (λ v. v.items) w.segments-is) ∙ passed_over file xs i (e_phnum file) left (value ∙ ap (λ (o : Option Segment). Ok o) w.in_default.is) ∙ c.loop-number.invariant.1
      ],
    )
