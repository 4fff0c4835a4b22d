-- What a stage gives: a processor that makes events of each event, and passes on every other item as it is.
use Rattle.std.specs.Prelude.{◌≡◌, List, [], ◌∷◌, map}
use Rattle.std.specs.List.{flat_map}
use Rattle.jet_items.specs.Values.{EventValue}
use Rattle.jet_items.specs.declared.item.Item.{Item}
use Rattle.jet_items.specs.declared.item.Item.TheVariants as item
use Rattle.jet_items.specs.Bag.{SameBag}
use Rattle.jet_items.specs.Kinds.{events_of, others_of, marks_of}
use Rattle.jet_boxes.specs.Entry.{CallEntry, Given, MarkTold, QueueClosed, Finish, items_of}

-- for one item: the events that f makes of an event, and any other item itself
abbrev pub item_gives : (EventValue → List EventValue) → Item → List Item
item_gives f (item.Event e) = map item.Event (f e)
item_gives f (item.Side s) = item.Side s ∷ []
item_gives f (item.Frame g) = item.Frame g ∷ []
item_gives f (item.Row r) = item.Row r ∷ []
item_gives f (item.Late l) = item.Late l ∷ []
item_gives f item.Idle = item.Idle ∷ []
item_gives f (item.Mark m) = item.Mark m ∷ []
item_gives f item.Done = item.Done ∷ []

-- for one entry
abbrev pub gives : (EventValue → List EventValue) → CallEntry → List Item
gives f (Given port queue x) = item_gives f x
gives f (MarkTold t) = item.Mark t ∷ []
gives f (QueueClosed port queue) = []
gives f Finish = []

-- between calls: each entry taken has given what it gives, in order
abbrev pub StageStands : (EventValue → List EventValue) → List CallEntry → List Item → Type 0
StageStands f taken given = given ≡ flat_map (gives f) taken

-- The bag law. Together the events given are what `flow` makes of the events taken, and all other data was passed on,
-- in order.
pub record StageBag (flow : List EventValue → List EventValue) (taken : List CallEntry) (given : List Item) : Type 0 where
  pub events : SameBag (events_of given) (flow (events_of (items_of taken)))
  pub others : others_of given ≡ others_of (items_of taken)

-- each mark was passed on, in order
abbrev pub MarksPass : List CallEntry → List Item → Type 0
MarksPass taken given = marks_of given ≡ marks_of (items_of taken)
