-- What a stamp keeps between its calls.
use Rattle.std.specs.Prelude.{◌≡◌, ℕ, ◌<◌, Bool, ℤ, pos, ◌≤ℤ◌, ◌<ℤ◌, List, [], ◌∷◌, ◌++◌, length, Option, Some, None, IfSome, IfNone, slice_get}
use Rattle.std.specs.List.{reduce}
use Rattle.std.specs.Int.{int_max}
use Rattle.jet_items.specs.declared.item.Item.{Item}
use Rattle.jet_items.specs.declared.item.Item.TheVariants as item
use Rattle.jet_items.specs.Order.{Each, Sound, Closed as ClosedItems}
use Rattle.jet_policy.specs.MarkerValue.{MarkerValue}
use Rattle.jet_coalescer.specs.declared.change.Change.{Change}
use Rattle.jet_coalescer.specs.declared.change.Change.TheVariants as change
use Rattle.jet_coalescer.specs.declared.queue.Queue.{Queue}
use Rattle.jet_coalescer.specs.Queues.{HoldsNoneBack}
use Rattle.jet_coalescer.specs.View.{View}
use Rattle.jet_boxes.specs.Entry.{CallEntry, Given, MarkTold, QueueClosed, Finish, IsData}
use Rattle.jet_stages.specs.declared.stamp.Stamp.{Stamp}
use Rattle.jet_stages.specs.Stamp.{unless_idle, queue_times, queue_mark, is_closed, is_idle, IsLeastMark, WasLeast, IsLow, StampMarks, StampBag, FromFiles, HasNoResults}

-- what is known of a queue once this was taken
abbrev pub queue_known : ℤ → ℤ → ℕ → List CallEntry → Queue
queue_known lag grain q taken = record { mark = queue_mark lag grain q taken; done = is_closed q taken; idle = is_idle q taken }

-- the watermark is that, or there is none yet
abbrev pub LowIs : ℕ → ℤ → ℤ → List CallEntry → Option ℤ → Type 0
LowIs n lag grain taken None = (t : ℤ) → WasLeast n lag grain taken t → ⊥
LowIs n lag grain taken (Some t) = IsLow n lag grain taken t

-- its markers and its queues know what was taken from each queue, and the watermark is that of all that was taken
pub record Knows (lag grain : ℤ) (markers : List MarkerValue) (queues : View) (taken : List CallEntry) : Type 0 where
  pub step : pos 1 ≤ℤ grain
  pub count : length queues.queues ≡ length markers
  pub holds : HoldsNoneBack queues
  pub markers_are : (q : ℕ) → q < length markers → slice_get markers q ≡ Some (record { lag = lag; grain = grain; greatest = reduce int_max (queue_times q taken) })
  pub queues_are : (q : ℕ) → q < length markers → slice_get queues.queues q ≡ Some (queue_known lag grain q taken)
  pub low_is : LowIs (length markers) lag grain taken queues.low

-- the watermark told after one entry more, where it is the first or rose: it is the least mark of now, and was never one
-- before
pub record Rises (n : ℕ) (lag grain : ℤ) (before after : List CallEntry) (told : Option ℤ) : Type 0 where
  pub rose : IfSome told (λ t. IsLeastMark n lag grain after t × ((s : ℤ) → WasLeast n lag grain before s → s <ℤ t))
  pub stayed : IfNone told ((t : ℤ) → IsLow n lag grain after t → IsLow n lag grain before t)

-- an item that was given: no end, and a mark that was the least one
abbrev pub IsPast : ℕ → ℤ → ℤ → List CallEntry → Item → Type 0
IsPast n lag grain taken (item.Event e) = Unit {0}
IsPast n lag grain taken (item.Side s) = Unit {0}
IsPast n lag grain taken (item.Frame f) = Unit {0}
IsPast n lag grain taken (item.Row r) = Unit {0}
IsPast n lag grain taken (item.Late l) = Unit {0}
IsPast n lag grain taken item.Idle = Unit {0}
IsPast n lag grain taken (item.Mark w) = WasLeast n lag grain taken w
IsPast n lag grain taken item.Done = ⊥

-- all that the laws say of what was taken and given
pub record Stamped (n : ℕ) (lag grain : ℤ) (taken : List CallEntry) (given : List Item) : Type 0 where
  pub bag : StampBag taken given
  pub marks : StampMarks n lag grain taken given
  pub past : Each (IsPast n lag grain taken) given
  pub sound : (behind : ℕ → ℕ → Bool) → FromFiles n lag grain behind taken → Sound behind given
  pub closed : HasNoResults taken → ClosedItems given

-- the item that an entry passes on
abbrev pub passed : CallEntry → List Item
passed (Given port queue x) = unless_idle x
passed (MarkTold t) = []
passed (QueueClosed port queue) = []
passed Finish = []

abbrev pub mark_items : Option ℤ → List Item
mark_items None = []
mark_items (Some t) = item.Mark t ∷ []

-- a mark can be owed after an item and after the end of a queue alone
abbrev pub MayOwe : CallEntry → Type 0
MayOwe (Given port queue x) = IsData x
MayOwe (MarkTold t) = ⊥
MayOwe (QueueClosed port queue) = Unit {0}
MayOwe Finish = ⊥

-- in the middle of an entry: its item was put, and the mark t is still to be put
pub record Owes (lag grain : ℤ) (markers : List MarkerValue) (queues : View) (t : ℤ) (taken : List CallEntry) (entry : CallEntry) (given : List Item) : Type 0 where
  pub may : MayOwe entry
  pub before : List Item
  pub puts : given ≡ before ++ passed entry
  pub stood : Stamped (length markers) lag grain taken before
  pub knows : Knows lag grain markers queues (taken ++ entry ∷ [])
  pub whole : Stamped (length markers) lag grain (taken ++ entry ∷ []) (given ++ item.Mark t ∷ [])

pub record StampStands (lag grain : ℤ) (markers : List MarkerValue) (queues : View) (owed : Option ℤ) (taken : List CallEntry) (given : List Item) : Type 0 where
  pub none_owed : owed ≡ None
  pub knows : Knows lag grain markers queues taken
  pub stamped : Stamped (length markers) lag grain taken given

-- in the middle of an entry nothing was done yet, or its mark is owed
abbrev pub StampAmid : ℤ → ℤ → List MarkerValue → View → Option ℤ → List CallEntry → CallEntry → List Item → Type 0
StampAmid lag grain markers queues None taken entry given = StampStands lag grain markers queues None taken given
StampAmid lag grain markers queues (Some t) taken entry given = Owes lag grain markers queues t taken entry given

-- what a stamp stands for between two calls, and in the middle of a call for an entry, and what stays the same of it
abbrev pub Stands : Stamp → List CallEntry → List Item → Type 0
Stands p taken given = StampStands p.lag p.grain p.markers.items p.queues p.owed taken given

abbrev pub Amid : Stamp → List CallEntry → CallEntry → List Item → Type 0
Amid p taken entry given = StampAmid p.lag p.grain p.markers.items p.queues p.owed taken entry given

abbrev pub Same : Stamp → Stamp → Type 0
Same p q = (q.lag ≡ p.lag) × (q.grain ≡ p.grain) × (length q.markers.items ≡ length p.markers.items)

-- what one entry more does: it is known, and the least mark of all is told where it is the first or rose
pub record Notes (lag grain : ℤ) (markers : List MarkerValue) (queues : View) (markers' : List MarkerValue) (queues' : View) (taken : List CallEntry) (entry : CallEntry) (told : Option ℤ) : Type 0 where
  pub count : length markers' ≡ length markers
  pub knows : Knows lag grain markers' queues' (taken ++ entry ∷ [])
  pub rises : Rises (length markers) lag grain taken (taken ++ entry ∷ []) told

-- the mark that a change of the least mark tells
abbrev pub told_by : Change → Option ℤ
told_by change.Unchanged = None
told_by (change.Raised t) = Some t
told_by change.AllDone = None
