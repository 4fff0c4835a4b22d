-- What a stamp makes of its queues: the marks of their events, and the least of those that it waits for.
use Rattle.std.specs.Prelude.{◌≡◌, ◌≢◌, ℕ, ◌<◌, ◌==◌, Bool, true, false, if◌then◌else◌, ℤ, ◌≤ℤ◌, ◌<ℤ◌, List, [], ◌∷◌, ◌++◌, map, Option, Some}
use Rattle.std.specs.List.{flat_map, list_any}
use Rattle.std.specs.Option.{IsSomeAnd}
use Rattle.jet_items.specs.Values.{EventValue}
use Rattle.jet_items.specs.declared.item.Item.{Item}
use Rattle.jet_items.specs.declared.item.Item.TheVariants as item
use Rattle.jet_items.specs.Order.{Each, EachPair}
use Rattle.jet_items.specs.Kinds.{as_event, marks_of, data_of}
use Rattle.jet_items.specs.Marks.{mark_of, is_behind, is_under, idle_before}
use Rattle.jet_coalescer.specs.Notes.{last_said}
use Rattle.jet_boxes.specs.declared.port.Port.TheVariants.{Stream, Build}
use Rattle.jet_boxes.specs.Entry.{CallEntry, Given, MarkTold, QueueClosed, Finish, items_of}

abbrev pub event_from : ℕ → CallEntry → List EventValue
event_from q (Given Stream queue x) = if queue == q then as_event x else []
event_from q (Given Build queue x) = []
event_from q (MarkTold t) = []
event_from q (QueueClosed port queue) = []
event_from q Finish = []

-- the events that were taken from a queue, and their times
abbrev pub queue_events : ℕ → List CallEntry → List EventValue
queue_events q taken = flat_map (event_from q) taken

abbrev pub queue_times : ℕ → List CallEntry → List ℤ
queue_times q taken = map (λ e. e.ts) (queue_events q taken)

abbrev pub closes : ℕ → CallEntry → Bool
closes q (Given port queue x) = false
closes q (MarkTold t) = false
closes q (QueueClosed Stream queue) = queue == q
closes q (QueueClosed Build queue) = false
closes q Finish = false

-- the end of a queue was taken
abbrev pub is_closed : ℕ → List CallEntry → Bool
is_closed q taken = list_any (closes q) taken

-- the mark of a queue: that of the times of its events
abbrev pub queue_mark : ℤ → ℤ → ℕ → List CallEntry → Option ℤ
queue_mark lag grain q taken = mark_of lag grain (queue_times q taken)

-- an item, where it is no idle note
abbrev pub unless_idle : Item → List Item
unless_idle (item.Event e) = item.Event e ∷ []
unless_idle (item.Side s) = item.Side s ∷ []
unless_idle (item.Frame f) = item.Frame f ∷ []
unless_idle (item.Row r) = item.Row r ∷ []
unless_idle (item.Late l) = item.Late l ∷ []
unless_idle item.Idle = []
unless_idle (item.Mark m) = item.Mark m ∷ []
unless_idle item.Done = item.Done ∷ []

abbrev pub but_idle : List Item → List Item
but_idle xs = flat_map unless_idle xs

-- what an item says of its queue: an idle note that it is idle, an event that it is not
abbrev pub idle_in : Item → List Bool
idle_in (item.Event e) = false ∷ []
idle_in (item.Side s) = []
idle_in (item.Frame f) = []
idle_in (item.Row r) = []
idle_in (item.Late l) = []
idle_in item.Idle = true ∷ []
idle_in (item.Mark m) = []
idle_in item.Done = []

abbrev pub idle_from : ℕ → CallEntry → List Bool
idle_from q (Given Stream queue x) = if queue == q then idle_in x else []
idle_from q (Given Build queue x) = []
idle_from q (MarkTold t) = []
idle_from q (QueueClosed port queue) = []
idle_from q Finish = []

-- an idle note of the queue was taken, and no event of it since
abbrev pub is_idle : ℕ → List CallEntry → Bool
is_idle q taken = last_said (flat_map (idle_from q) taken)

-- each of the n queues that is neither closed nor idle has a mark, which has reached w
abbrev pub IsReached : ℕ → ℤ → ℤ → List CallEntry → ℤ → Type 0
IsReached n lag grain taken w = (q : ℕ) → q < n → is_closed q taken ≡ false → is_idle q taken ≡ false → IsSomeAnd (queue_mark lag grain q taken) (λ m. w ≤ℤ m)

-- t is the least of the marks of the queues that are neither closed nor idle: each of these has reached it, and one of
-- them has it
pub record IsLeastMark (n : ℕ) (lag grain : ℤ) (taken : List CallEntry) (t : ℤ) : Type 0 where
  pub reached : IsReached n lag grain taken t
  pub queue : ℕ
  pub exists : queue < n
  pub going : is_closed queue taken ≡ false
  pub awake : is_idle queue taken ≡ false
  pub has : queue_mark lag grain queue taken ≡ Some t

-- t was the least mark after a front of what was taken
pub record WasLeast (n : ℕ) (lag grain : ℤ) (taken : List CallEntry) (t : ℤ) : Type 0 where
  pub front : List CallEntry
  pub back : List CallEntry
  pub parts : taken ≡ front ++ back
  pub least : IsLeastMark n lag grain front t

-- t is the watermark: the greatest of the least marks that there were, one after each front of what was taken
pub record IsLow (n : ℕ) (lag grain : ℤ) (taken : List CallEntry) (t : ℤ) : Type 0 where
  pub was : WasLeast n lag grain taken t
  pub greatest : (s : ℤ) → WasLeast n lag grain taken s → s ≤ℤ t

-- The mark t, where `before` was given before it, stands right behind what makes it the watermark: it was the least mark
-- after a front of what was taken and above each least mark before, and the data before it is the data of that front.
pub record IsPlaced (n : ℕ) (lag grain : ℤ) (taken : List CallEntry) (before : List Item) (t : ℤ) : Type 0 where
  pub front : List CallEntry
  pub back : List CallEntry
  pub parts : taken ≡ front ++ back
  pub least : IsLeastMark n lag grain front t
  pub above : (earlier later : List CallEntry) (entry : CallEntry) (s : ℤ) → front ≡ earlier ++ entry ∷ later → WasLeast n lag grain earlier s → s <ℤ t
  pub behind : data_of before ≡ data_of (but_idle (items_of front))

-- The marks of a stamp. Each stands right behind what makes it the watermark, and the last one is the watermark of now,
-- where there is one.
pub record StampMarks (n : ℕ) (lag grain : ℤ) (taken : List CallEntry) (given : List Item) : Type 0 where
  pub placed : (before after : List Item) (t : ℤ) → given ≡ before ++ item.Mark t ∷ after → IsPlaced n lag grain taken before t
  pub last : (t : ℤ) → IsLow n lag grain taken t → (before : List ℤ) × (marks_of given ≡ before ++ t ∷ [])

-- The bag law of a stamp: all data but idle notes was passed on, in order.
abbrev pub StampBag : List CallEntry → List Item → Type 0
StampBag taken given = data_of given ≡ data_of (but_idle (items_of taken))

-- The same in the middle of an entry, with what the call still has to put.
pub record StampBagAmid (taken : List CallEntry) (entry : CallEntry) (given : List Item) : Type 0 where
  pub held : List Item
  pub bag : StampBag (taken ++ entry ∷ []) (given ++ held)

-- something stands in a list
abbrev pub StandsIn : {X : Type 0} → List X → X → Type 0
StandsIn {X} xs x = (front : List X) × (back : List X) × (xs ≡ front ++ x ∷ back)

abbrev pub IsNotLate : Item → Type 0
IsNotLate (item.Event e) = Unit {0}
IsNotLate (item.Side s) = Unit {0}
IsNotLate (item.Frame f) = Unit {0}
IsNotLate (item.Row r) = Unit {0}
IsNotLate (item.Late l) = ⊥
IsNotLate item.Idle = Unit {0}
IsNotLate (item.Mark m) = Unit {0}
IsNotLate item.Done = Unit {0}

-- an idle note stands in the place of an idle line, of those with these numbers: behind the events before it, and before
-- those after it
pub record InPlace (idles : List ℕ) (before after : List EventValue) : Type 0 where
  pub line : ℕ
  pub is : StandsIn idles line
  pub behind : Each (λ e. e.line < line) before
  pub ahead : Each (λ e. line < e.line) after

-- What is asked for soundness. Each queue has a file of its own, with its events and the numbers of its idle lines; the
-- events of the queue stand in the file, and come in the order of their lines, and each idle note of it stands in the
-- place of an idle line. `behind` tells of each file the events that stand behind: behind its own mark, or behind an idle
-- line and below the mark of all events of the file of another queue. And no late item was taken.
pub record FromFiles (n : ℕ) (lag grain : ℤ) (behind : ℕ → ℕ → Bool) (taken : List CallEntry) : Type 0 where
  pub files : ℕ → List EventValue
  pub idles : ℕ → List ℕ
  pub inside : (q : ℕ) → q < n → Each (StandsIn (files q)) (queue_events q taken)
  pub order : (q : ℕ) → q < n → EachPair (λ d e. d.line < e.line) (queue_events q taken)
  pub places : (q : ℕ) → q < n → (front back : List CallEntry) → taken ≡ front ++ Given Stream q item.Idle ∷ back → InPlace (idles q) (queue_events q front) (queue_events q back)
  pub told : (q : ℕ) → q < n → Each (λ e. is_behind lag grain (files q) e ≡ true → behind e.part e.line ≡ true) (files q)
  pub told_idle : (q p : ℕ) → q < n → p < n → p ≢ q → Each (λ e. idle_before e.line (idles q) ≡ true → is_under lag grain (files p) e ≡ true → behind e.part e.line ≡ true) (files q)
  pub no_late : Each IsNotLate (items_of taken)

abbrev pub IsNoResult : Item → Type 0
IsNoResult (item.Event e) = Unit {0}
IsNoResult (item.Side s) = Unit {0}
IsNoResult (item.Frame f) = ⊥
IsNoResult (item.Row r) = ⊥
IsNoResult (item.Late l) = Unit {0}
IsNoResult item.Idle = Unit {0}
IsNoResult (item.Mark m) = Unit {0}
IsNoResult item.Done = Unit {0}

-- what is asked for closedness: no frame and no row was taken
abbrev pub HasNoResults : List CallEntry → Type 0
HasNoResults taken = Each IsNoResult (items_of taken)
