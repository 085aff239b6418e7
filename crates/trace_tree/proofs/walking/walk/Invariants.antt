use Rattle.std.proofs.Common.{◌≡◌, List, drop}
use Rattle.term_arena.specs.Nodes.{Node}
use Rattle.trace_tree.specs.Paths.{at_path}
use Rattle.trace_tree.specs.View.{plain_in}
use Rattle.trace_tree.proofs.walking.walk.Given as goal

-- what is left of the path leads from here to where the whole leads
abbrev pub invariant-loop-step : goal.invariant-loop-step
invariant-loop-step l = (nodes : List Node) → at_path (plain_in nodes l.at) (drop l.step-index l.path) ≡ at_path (plain_in nodes l.trace) l.path
