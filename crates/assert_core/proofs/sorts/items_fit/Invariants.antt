use Rattle.std.proofs.Common.{◌≡◌, ◌++◌, map, drop}
use Rattle.std.specs.List.{list_all}
use Rattle.assert_core.specs.Sorts.{item_fits}
use Rattle.assert_core.specs.View.{item_of}
use Rattle.assert_core.proofs.sorts.items_fit.Given as goal

-- the items that are left decide
abbrev pub invariant-loop-item : goal.invariant-loop-item
invariant-loop-item l =
    list_all (item_fits (l.fixed ++ l.own)) (map item_of (drop l.item-index l.items)) ≡ list_all (item_fits (l.fixed ++ l.own)) (map item_of l.items)
