-- What a processor is told, of the items that came to its tasklet in this order.
use Rattle.std.specs.Prelude.{ℕ, zero, suc, ◌==◌, ◌&&◌, Bool, true, false, cond, ℤ, List, [], ◌∷◌, ◌++◌, Option, Some, None}
use Rattle.std.specs.List.{flat_map, list_any}
use Rattle.jet_items.specs.declared.item.Item.{Item}
use Rattle.jet_items.specs.declared.item.Item.TheVariants as item
use Rattle.jet_items.specs.Done.{is_done}
use Rattle.jet_items.specs.Kinds.{marks_of}
use Rattle.jet_boxes.specs.declared.port.Port.{Port}
use Rattle.jet_boxes.specs.declared.port.Port.TheVariants.{Stream, Build}
use Rattle.jet_boxes.specs.Entry.{CallEntry, Given, MarkTold, QueueClosed}
use Rattle.jet_coalescer.specs.Low.{History, low, risen}
use Rattle.jet_tasklet.specs.declared.arrival.Arrival.{Arrival}

abbrev pub same_port : Port → Port → Bool
same_port Stream Stream = true
same_port Stream Build = false
same_port Build Stream = false
same_port Build Build = true

-- the item came from this queue of this port
abbrev pub is_from : Port → ℕ → Arrival → Bool
is_from port q a = same_port a.port port && (a.queue == q)

-- what came from one queue, in its order
abbrev pub of_queue : Port → ℕ → List Arrival → List Item
of_queue port q came = flat_map (λ a. cond (is_from port q a) (a.item ∷ []) []) came

-- a queue gave its Done
abbrev pub has_ended : List Item → Bool
has_ended xs = list_any is_done xs

-- the marks that came from one queue, and whether its Done
abbrev pub history : List Item → History
history xs = record { marks = marks_of xs; done = has_ended xs }

-- the same of the queues with the numbers below n
abbrev pub histories : ℕ → (ℕ → List Item) → List History
histories zero lists = []
histories (suc n) lists = history (lists 0) ∷ histories n (λ q. lists (suc q))

abbrev pub heard : ℕ → List Arrival → List History
heard n came = histories n (λ q. of_queue Stream q came)

-- the watermark of n stream queues after these items: the least of the greatest marks of the queues without Done
abbrev pub watermark : ℕ → List Arrival → Option ℤ
watermark n came = low (heard n came)

-- data is handed on with its port and queue, a Done closes its queue, and a mark counts for the watermark alone
abbrev pub called : Port → ℕ → Item → List CallEntry
called port q (item.Event e) = Given port q (item.Event e) ∷ []
called port q (item.Side s) = Given port q (item.Side s) ∷ []
called port q (item.Frame f) = Given port q (item.Frame f) ∷ []
called port q (item.Row r) = Given port q (item.Row r) ∷ []
called port q (item.Late l) = Given port q (item.Late l) ∷ []
called port q item.Idle = Given port q item.Idle ∷ []
called port q (item.Mark m) = []
called port q item.Done = QueueClosed port q ∷ []

abbrev pub tells : Option ℤ → List CallEntry
tells None = []
tells (Some t) = MarkTold t ∷ []

-- what an item asks of the processor, after those that came before: its own call, and then the watermark, where that rose
abbrev pub asks : ℕ → List Arrival → Arrival → List CallEntry
asks n before a = called a.port a.queue a.item ++ tells (risen (watermark n before) (watermark n (before ++ a ∷ [])))

abbrev pub entries_after : ℕ → List Arrival → List Arrival → List CallEntry
entries_after n before [] = []
entries_after n before (a ∷ came) = asks n before a ++ entries_after n (before ++ a ∷ []) came

-- all that a processor with n stream queues is told of the items that came, but for the finish
abbrev pub entries : ℕ → List Arrival → List CallEntry
entries n came = entries_after n [] came
