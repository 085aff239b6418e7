use Rattle.std.proofs.Common.{◌≤◌, [], length, ap, ◌∙◌, arith}
use Rattle.trace_plain.specs.Trace.{end_size}
use Rattle.trace_tree.specs.View.{end_in}
use Rattle.trace_tree.proofs.CountLemmas.{same_size, size_of, size_at_least, cases_size, length_sizes, sizes_next, sizes_end}
use Rattle.trace_tree.proofs.counting.+events_of.Goals as goal

pub overflow_add-own : goal.overflow_add-own
overflow_add-own t c =
    let least = size_at_least c.args.trace.now in
    let most = c.requires.fits in
    omega (arith, least, most)

pub loop-child-init : goal.loop-child-init
loop-child-init t c =
    let whole = size_of c.args.trace.now in
    let end = ap (λ e. end_size (end_in [] e)) c.in-Cases.is ∙ cases_size c.in-Cases.children in
    omega (arith, whole, end)

pub offset_bounds-children-child-index : goal.offset_bounds-children-child-index
offset_bounds-children-child-index t c =
    let whole = size_of c.args.trace.now in
    let end = ap (λ e. end_size (end_in [] e)) c.in-Cases.is ∙ cases_size c.in-Cases.children in
    let few = length_sizes c.in-Cases.children.now in
    let most = c.requires.fits in
    let here = c.loop-child-test.true in
    omega (arith, whole, end, few, most, here)

pub loop-child-preserved : goal.loop-child-preserved
loop-child-preserved t c =
    sizes_next c.in-Cases.children.now c.loop-child.child-index _ c.loop-child.total c.events_of-total.result _ c.loop-child-test.true (c.events_of-total.ensures []) c.loop-child.invariant

pub returns-after-loop-child : goal.returns-after-loop-child
returns-after-loop-child t c nodes =
    let f = c.loop-child-test.false in
    let beyond : length c.in-Cases.children.now ≤ c.loop-child.child-index = omega (arith, f) in
    let rest = sizes_end c.in-Cases.children.now c.loop-child.child-index beyond in
    let before = c.loop-child.invariant in
    let same = same_size nodes c.args.trace.now in
    omega (arith, rest, before, same)
