-- The items that a sink took, in order, each with the number of its queue.
use Rattle.std.specs.Prelude.{◌≡◌, ℕ, ◌==◌, if◌then◌else◌, List, [], ◌∷◌, ◌++◌, map}
use Rattle.std.specs.List.{flat_map}
use Rattle.jet_coalescer.specs.Notes.{Note, Marked, Ended}
use Rattle.jet_conveyor.specs.Conveyor.{View, received_at, SeesMore}
use Rattle.jet_items.specs.declared.item.Item.{Item}
use Rattle.jet_items.specs.declared.item.Item.TheVariants as item

pub record TakenItem : Type 0 where
  pub queue : ℕ
  pub item : Item

-- the items alone
abbrev pub items_in : List TakenItem → List Item
items_in taken = map (λ t. t.item) taken

-- an item, where it came from this queue
abbrev pub item_from : ℕ → TakenItem → List Item
item_from q t = if t.queue == q then t.item ∷ [] else []

-- the items of one queue
abbrev pub items_from : ℕ → List TakenItem → List Item
items_from q taken = flat_map (item_from q) taken

-- what an item of a queue says of the watermark: a mark, or the queue's end
abbrev pub note_of : ℕ → Item → List Note
note_of q (item.Event e) = []
note_of q (item.Side s) = []
note_of q (item.Frame f) = []
note_of q (item.Row r) = []
note_of q (item.Late l) = []
note_of q item.Idle = []
note_of q (item.Mark m) = Marked q m ∷ []
note_of q item.Done = Ended q ∷ []

-- the marks and the ends, in their order
abbrev pub notes_of : List TakenItem → List Note
notes_of taken = flat_map (λ t. note_of t.queue t.item) taken

-- These items were taken of the queues of a conveyor, and no other. Each queue received its own, in their order.
pub record HasTaken (taken : List TakenItem) (old new : View) : Type 0 where
  pub rings : new.rings ≡ old.rings
  pub received : (q : ℕ) → received_at new q ≡ received_at old q ++ items_from q taken
  pub seen : SeesMore old new

-- some items were taken so, or none
abbrev pub TakesSome : View → View → Type 0
TakesSome old new = (taken : List TakenItem) × HasTaken taken old new
