-- What came from all queues together, and the last mark that was told.
use Rattle.std.specs.Prelude.{ℤ, List, [], ◌∷◌, Option, Some, None, fold, get_or}
use Rattle.std.specs.List.{flat_map}
use Rattle.jet_items.specs.declared.item.Item.{Item}
use Rattle.jet_items.specs.declared.item.Item.TheVariants as item
use Rattle.jet_items.specs.Bag.{all_of}
use Rattle.jet_items.specs.Kinds.{data_of}
use Rattle.jet_boxes.specs.declared.port.Port.{Port}
use Rattle.jet_boxes.specs.Entry.{CallEntry, Given, MarkTold, QueueClosed, Finish}
use Rattle.jet_tasklet.specs.Inputs.{InputView, received, queue_count}

-- the data that the queues of a port received, queue by queue
abbrev pub data_received : Port → List InputView → List Item
data_received port inputs = all_of (queue_count port inputs) (λ q. data_of (get_or (received port inputs) q []))

-- the last mark told, if there is one
abbrev pub told_or : Option ℤ → CallEntry → Option ℤ
told_or last (Given port q x) = last
told_or last (MarkTold t) = Some t
told_or last (QueueClosed port q) = last
told_or last Finish = last

abbrev pub last_told : List CallEntry → Option ℤ
last_told entries = fold told_or None entries
