use Rattle.std.proofs.Common.{◌≡◌, ◌++◌, map, drop, length}
use Rattle.trace_plain.specs.Printable.{ArePrintable}
use Rattle.trace_plain.specs.View.{trace_of, traces}
use Rattle.trace_print.specs.Printing.{children_text}
use Rattle.trace_print.proofs.traces.+put.Given as goal

-- what is written, and the text of what is left, are the whole; what is left has a text
abbrev pub invariant-put_children-loop-child : goal.invariant-put_children-loop-child
invariant-put_children-loop-child l =
    (l.out.items ++ children_text l.registers (traces (map trace_of (drop l.child-index l.children))) ≡ l.initial.out.items ++ children_text l.registers (traces (map trace_of l.children)))
    × ArePrintable (length l.registers) (traces (map trace_of (drop l.child-index l.children)))
