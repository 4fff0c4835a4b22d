-- What a processor is told, call by call.
use Rattle.std.specs.Prelude.{◌≡◌, ℕ, ℤ, List, [], ◌∷◌, ◌++◌}
use Rattle.std.specs.List.{flat_map}
use Rattle.jet_items.specs.declared.item.Item.{Item}
use Rattle.jet_items.specs.declared.item.Item.TheVariants as item
use Rattle.jet_items.specs.Order.{Each}
use Rattle.jet_boxes.specs.declared.port.Port.{Port}

-- an item with its port and queue, a mark of all queues together, that a queue has ended, that all have
pub data CallEntry : Type 0 where
  Given : Port → ℕ → Item → CallEntry
  MarkTold : ℤ → CallEntry
  QueueClosed : Port → ℕ → CallEntry
  Finish : CallEntry

-- the items and marks of what was taken, in their order
abbrev pub entry_items : CallEntry → List Item
entry_items (Given port queue x) = x ∷ []
entry_items (MarkTold t) = item.Mark t ∷ []
entry_items (QueueClosed port queue) = []
entry_items Finish = []

abbrev pub items_of : List CallEntry → List Item
items_of taken = flat_map entry_items taken

-- neither a mark nor the end
abbrev pub IsData : Item → Type 0
IsData (item.Event e) = Unit {0}
IsData (item.Side s) = Unit {0}
IsData (item.Frame f) = Unit {0}
IsData (item.Row r) = Unit {0}
IsData (item.Late l) = Unit {0}
IsData item.Idle = Unit {0}
IsData (item.Mark m) = ⊥
IsData item.Done = ⊥

-- not the end of a queue
abbrev pub NotDone : Item → Type 0
NotDone (item.Event e) = Unit {0}
NotDone (item.Side s) = Unit {0}
NotDone (item.Frame f) = Unit {0}
NotDone (item.Row r) = Unit {0}
NotDone (item.Late l) = Unit {0}
NotDone item.Idle = Unit {0}
NotDone (item.Mark m) = Unit {0}
NotDone item.Done = ⊥

abbrev pub NotFinish : CallEntry → Type 0
NotFinish (Given port queue x) = Unit {0}
NotFinish (MarkTold t) = Unit {0}
NotFinish (QueueClosed port queue) = Unit {0}
NotFinish Finish = ⊥

-- the entry does not say that this queue has ended
abbrev pub NotClosed : Port → ℕ → CallEntry → Type 0
NotClosed port queue (Given p q x) = Unit {0}
NotClosed port queue (MarkTold t) = Unit {0}
NotClosed port queue (QueueClosed p q) = p ≡ port → q ≡ queue → ⊥
NotClosed port queue Finish = Unit {0}

-- an entry may come after those taken: nothing comes after the finish, nothing of a queue after its end, and only from queues that are taken from
abbrev pub MayCome : (Port → ℕ → Type 0) → List CallEntry → CallEntry → Type 0
MayCome takes taken (Given port queue x) = Each NotFinish taken × takes port queue × IsData x × Each (NotClosed port queue) taken
MayCome takes taken (MarkTold t) = Each NotFinish taken
MayCome takes taken (QueueClosed port queue) = Each NotFinish taken × takes port queue × Each (NotClosed port queue) taken
MayCome takes taken Finish = Each NotFinish taken

-- each entry may come after those before it
abbrev pub MayAll : (Port → ℕ → Type 0) → List CallEntry → Type 0
MayAll takes taken = (front : List CallEntry) (entry : CallEntry) (rest : List CallEntry) → taken ≡ front ++ entry ∷ rest → MayCome takes front entry

-- it takes from every queue of every port
abbrev pub AnyQueue : Port → ℕ → Type 0
AnyQueue port queue = Unit {0}
