-- An end with children, as plain data.
use Rattle.std.proofs.Common.{◌≡◌, List, map, sym, ap, ◌∙◌}
use Rattle.trace_plain.specs.declared.trace.PlainTrace.{PlainTrace}
use Rattle.trace_plain.specs.declared.trace.PlainEnd.TheVariants as plain_end
use Rattle.trace_plain.specs.declared.trace.PlainEnd.TheOpen.{PlainEnd-F}
use Rattle.trace_plain.specs.declared.trace.PlainEnd.TheFolds.{fold-roll-PlainEnd}
use Rattle.trace_plain.specs.Trace.{Trace, End, cases}
use Rattle.trace_plain.specs.View.{end_of, end_step, trace_of, trace_step, traces}

pub end_cases : (ts : List PlainTrace) → end_of (plain_end.Cases ts) ≡ cases (traces (map trace_of ts))
end_cases ts = ap end_of (sym (plain_end.rolls-Cases ts)) ∙ fold-roll-PlainEnd End Trace end_step trace_step (PlainEnd-F.Cases ts)
