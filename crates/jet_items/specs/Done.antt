-- The end of a queue.
use Rattle.std.specs.Prelude.{Bool, true, false}
use Rattle.jet_items.specs.declared.item.Item.{Item}
use Rattle.jet_items.specs.declared.item.Item.TheVariants as item

-- the item says that nothing follows it in its queue
abbrev pub is_done : Item → Bool
is_done (item.Event e) = false
is_done (item.Side s) = false
is_done (item.Frame f) = false
is_done (item.Row r) = false
is_done (item.Late l) = false
is_done item.Idle = false
is_done (item.Mark m) = false
is_done item.Done = true
