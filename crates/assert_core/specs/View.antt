-- The code's assertions as plain data.
use Rattle.std.specs.Prelude.{map}
use Rattle.std.specs.Option.{option_map}
use Rattle.assert_core.specs.declared.assertion.Assertion.{Assertion}
use Rattle.assert_core.specs.declared.assertion.Item.{Item}
use Rattle.assert_core.specs.declared.assertion.Item.TheVariants as item
use Rattle.term_tree.specs.View.{tree, array_tree}
use Rattle.assert_core.specs.Assertions.{PlainAssertion, PlainItem, arr, dev, fact, mem, reg}

-- an item
abbrev pub item_of : Item → PlainItem
item_of (item.Fact t) = fact (tree t)
item_of (item.Reg x written) = reg x (option_map tree written)
item_of (item.Mem at bytes number) = mem (tree at) bytes (tree number)
item_of (item.Arr at len of) = arr (tree at) (tree len) (array_tree of)
item_of (item.Dev x q) = dev x q

-- an assertion
abbrev pub assertion_of : Assertion → PlainAssertion
assertion_of a = record { vars = a.vars; items = map item_of a.items }
