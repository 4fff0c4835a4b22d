-- Processors that are driven as a tasklet does, for tests.
use Rattle.std.specs.Prelude.{ℕ, List}
use Rattle.jet_items.specs.Order.{Each}
use Rattle.jet_items.specs.declared.item.Item.{Item}
use Rattle.jet_items.specs.declared.item.Item.TheVariants as item
use Rattle.jet_boxes.specs.declared.port.Port.{Port}
use Rattle.jet_boxes.specs.declared.port.Port.TheVariants.{Stream}
use Rattle.jet_boxes.specs.Entry.{CallEntry, Given, MarkTold, QueueClosed, Finish}

-- what an item tells: a mark and the end are told by their own calls, every other item comes with the stream
abbrev pub entry_of : Item → CallEntry
entry_of (item.Event e) = Given Stream 0 (item.Event e)
entry_of (item.Side s) = Given Stream 0 (item.Side s)
entry_of (item.Frame f) = Given Stream 0 (item.Frame f)
entry_of (item.Row r) = Given Stream 0 (item.Row r)
entry_of (item.Late l) = Given Stream 0 (item.Late l)
entry_of item.Idle = Given Stream 0 item.Idle
entry_of (item.Mark t) = MarkTold t
entry_of item.Done = Finish

-- neither is the entry the end, nor does a queue end
abbrev pub IsPlain : CallEntry → Type 0
IsPlain (Given port queue x) = Unit {0}
IsPlain (MarkTold t) = Unit {0}
IsPlain (QueueClosed port queue) = ⊥
IsPlain Finish = ⊥

-- a processor has taken what is plain, and may be told more
abbrev pub IsReady : {S : Type 0} → (S → List CallEntry → List Item → Type 0) → (S → Port → ℕ → Type 0) → S → Type 0
IsReady stands takes p = (taken : List CallEntry) × (given : List Item) × stands p taken given × Each IsPlain taken × takes p Stream 0

-- the same in the middle of a call
abbrev pub IsCalled : {S : Type 0} → (S → List CallEntry → CallEntry → List Item → Type 0) → (S → Port → ℕ → Type 0) → S → CallEntry → Type 0
IsCalled amid takes p entry = (taken : List CallEntry) × (given : List Item) × amid p taken entry given × Each IsPlain taken × takes p Stream 0

-- the item is not the end
abbrev pub IsNoEnd : Item → Type 0
IsNoEnd x = IsPlain (entry_of x)
