use Rattle.std.proofs.Common.{subst, sym, arith}
use Rattle.assert_core.specs.Assertions.{IsTypedItem}
use Rattle.assert_core.specs.View.{item_of}
use Rattle.assert_core.proofs.sorts.items_fit.Goals as goal

pub item_fits-requires : goal.item_fits-requires
item_fits-requires c = record {
  typed = subst (λ i. IsTypedItem (item_of i)) (sym c.item-item.is) (c.requires.typed c.loop-item.item-index c.item-item.result (omega (arith, c.loop-item-test.true)));
}
