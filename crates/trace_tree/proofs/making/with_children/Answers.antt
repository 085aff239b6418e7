use Rattle.std.proofs.Common.{map, ap, ◌∙◌}
use Rattle.std.proofs.lemmas.Result.{IfOk-weaker}
use Rattle.trace_plain.specs.Trace.{trace, cases}
use Rattle.trace_plain.specs.View.{traces}
use Rattle.trace_tree.specs.View.{event_in, plain_in}
use Rattle.trace_tree.proofs.ViewLemmas.{cases_in}
use Rattle.trace_tree.proofs.making.with_children.Goals as goal

pub returns : goal.returns
returns c =
    IfOk-weaker c.with_end.result _ _
    (λ t h nodes.
    h nodes
    ∙ ap (trace (map (event_in nodes) c.args.events.now))
    (cases_in nodes (record { ref_ptr = c.in_ok-children.field-0.ref_ptr; now = c.in_ok-children.field-0.now })
    ∙ ap (λ ts. cases (traces (map (plain_in nodes) ts))) c.in_ok-children.ensures))
    c.with_end.ensures
