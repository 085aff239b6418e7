-- How many children there are.
use Rattle.std.proofs.Common.{◌≡◌, suc, List, [], ◌∷◌, map, length, refl, ap}
use Rattle.trace_plain.specs.declared.trace.PlainTrace.{PlainTrace}
use Rattle.trace_plain.specs.Trace.{count}
use Rattle.trace_plain.specs.View.{trace_of, traces}

pub count_of : (ts : List PlainTrace) → count (traces (map trace_of ts)) ≡ length ts
count_of [] = refl
count_of (t ∷ ts) = ap suc (count_of ts)
