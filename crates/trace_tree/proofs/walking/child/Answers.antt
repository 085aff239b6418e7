use Rattle.std.proofs.Common.{◌≤◌, sym, ap, ◌∙◌, arith, length, option_map}
use Rattle.std.proofs.lemmas.Option.{slice_get-get_or, slice_get_past}
use Rattle.trace_tree.specs.View.{plain_in}
use Rattle.trace_tree.proofs.ViewLemmas.{child_at}
use Rattle.trace_tree.proofs.walking.child.Goals as goal

pub returns-then-at-children : goal.returns-then-at-children
returns-then-at-children c nodes =
    ap (option_map (plain_in nodes)) (sym (slice_get-get_or c.in-Cases.children.now c.args.at _ c.if-at-children.true))
    ∙ sym (child_at nodes c.args.trace c.in-Cases.children c.args.at c.in-Cases.is)

pub returns-else-at-children : goal.returns-else-at-children
returns-else-at-children c nodes =
    let f = c.if-at-children.false in
    let beyond : length c.in-Cases.children.now ≤ c.args.at = omega (arith, f) in
    ap (option_map (plain_in nodes)) (sym (slice_get_past c.in-Cases.children.now c.args.at beyond))
    ∙ sym (child_at nodes c.args.trace c.in-Cases.children c.args.at c.in-Cases.is)
