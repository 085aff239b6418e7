use Rattle.std.proofs.Common.{◌≡◌, map, drop}
use Rattle.std.specs.List.{list_any}
use Rattle.term_replace.specs.Fitting.{misfits}
use Rattle.term_replace.specs.Replaced.{named_tree}
use Rattle.term_replace.proofs.fitting.some_misfit.Given as goal

-- what misfits is looked for in what is left
abbrev pub invariant-loop-pair : goal.invariant-loop-pair
invariant-loop-pair l = list_any (misfits l.name l.wide) (map named_tree (drop l.pair-index l.bits)) ≡ list_any (misfits l.name l.wide) (map named_tree l.bits)
