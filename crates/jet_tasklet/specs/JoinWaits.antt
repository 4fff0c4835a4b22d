-- What comes to the build queues of a join.
use Rattle.std.specs.Prelude.{◌≡◌, ℕ, ◌<◌, false, List, [], get_or}
use Rattle.jet_items.specs.Order.{Each}
use Rattle.jet_items.specs.declared.item.Item.{Item}
use Rattle.jet_items.specs.declared.item.Item.TheVariants as item
use Rattle.jet_boxes.specs.declared.port.Port.TheVariants.{Build}
use Rattle.jet_tasklet.specs.Inputs.{InputView, received, queue_count, all_done}

-- a side row or the end
abbrev pub IsOfSide : Item → Type 0
IsOfSide (item.Event e) = ⊥
IsOfSide (item.Side s) = Unit {0}
IsOfSide (item.Frame f) = ⊥
IsOfSide (item.Row r) = ⊥
IsOfSide (item.Late l) = ⊥
IsOfSide item.Idle = ⊥
IsOfSide (item.Mark m) = ⊥
IsOfSide item.Done = Unit {0}

-- a build queue is open, and all that the build queues received are side rows and ends
pub record HasOnlySides (inputs : List InputView) : Type 0 where
  pub waits : all_done Build inputs ≡ false
  pub sides : (q : ℕ) → q < queue_count Build inputs → Each IsOfSide (get_or (received Build inputs) q [])
