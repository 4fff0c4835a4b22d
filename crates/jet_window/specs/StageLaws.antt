-- What follows of frame and combine vertices together, however many instances of each there are and however their items were dealt.
use Rattle.std.specs.Prelude.{◌≡◌, ℕ, zero, suc, ◌*◌, ◌/◌, ◌<◌, ◌≤◌, ◌==◌, length, unsigned_abs, Bool, true, cond, ◌&&◌, ℤ, pos, ◌+ℤ◌, List, [], ◌∷◌, ◌++◌, map, filter, Option, None}
use Rattle.jet_items.specs.Bag.{SameBag, all_of}
use Rattle.jet_items.specs.Frames.{FramesSum, frame_in, event_in}
use Rattle.jet_items.specs.Kinds.{events_of, frames_of, others_of, data_of}
use Rattle.jet_items.specs.Order.{Each}
use Rattle.jet_items.specs.Rows.{Window, Inflow, AreRows, IsAccOf, first_value, members}
use Rattle.jet_items.specs.Totals.{total, both}
use Rattle.jet_items.specs.Values.{AccValue, EventValue, FrameValue, RowValue}
use Rattle.jet_items.specs.declared.item.Item.{Item}
use Rattle.jet_policy.specs.Policy.{IsPolicy}
use Rattle.jet_boxes.specs.Entry.{CallEntry, Finish, items_of}
use Rattle.jet_window.specs.FrameStands.{FrameBag}
use Rattle.jet_window.specs.InOrder.{IsInOrder}
use Rattle.jet_window.specs.LateEvents.{kept_events}
use Rattle.jet_window.specs.Later.{newly}
use Rattle.jet_window.specs.Tables.{is_multiple}
use Rattle.jet_window.specs.WindowRows.{as_list, rows_at, RowsAre}

-- right after the finish, the frames that a frame vertex gave sum the events that it kept, where it took no frame
abbrev pub FramesSumKept : Type 0
FramesSumKept = (vertex : ℕ) (slide : ℤ) (begun : Option ℤ) (held : List FrameValue) (front told taken : List CallEntry) (given : List Item)
    → FrameBag vertex slide begun held told taken given → taken ≡ front ++ Finish ∷ [] → frames_of (items_of taken) ≡ []
    → FramesSum slide (frames_of given) (kept_events slide begun (items_of taken))

-- the frames of n instances together sum the events of all, whichever kept which
abbrev pub InstancesSumKept : Type 0
InstancesSumKept = (slide : ℤ) (n : ℕ) (frames : ℕ → List FrameValue) (events : ℕ → List EventValue)
    → ((i : ℕ) → i < n → FramesSum slide (frames i) (events i)) → FramesSum slide (all_of n frames) (all_of n events)

-- the rows of a window over events and the frames that were there before, of all ends that are due for a key: one for each such
-- end and key that has an event or a frame there, with what these join to, and no other
pub record RowsOver (w : Window) (due : List ℕ → ℤ → Bool) (held : List FrameValue) (events : List EventValue) (rows : List RowValue) : Type 0 where
  pub at : (e : ℤ) (key : List ℕ) → rows_at e key rows ≡ as_list (cond (is_multiple w.slide e && due key e) (both (total (frame_in w.size e key) held) (total (event_in w.size e key) events)) None)
  pub vertices : Each (λ row. row.vertex ≡ w.vertex) rows

-- where frames sum events and are dealt by key to m combine instances, in any order, and so are frames that were held before (none
-- in a run from the beginning), with which the instances began, behind a mark or none: then the rows of all instances are those
-- over the events and the held frames, of the ends above that mark; what is due for a key is what is due at the key's instance, so
-- the instances may stand at different marks
abbrev pub InstancesGiveRows : Type 0
InstancesGiveRows = (w : Window) (begun : Option ℤ) (due : List ℕ → ℤ → Bool) (m : ℕ) (owner : List ℕ → ℕ) (held frames : List FrameValue) (starts mine : ℕ → List FrameValue) (events : List EventValue) (rows : ℕ → List RowValue) (dues : ℕ → ℤ → Bool)
    → IsPolicy w.size w.slide
    → FramesSum w.slide frames events
    → ((key : List ℕ) → owner key < m)
    → ((j : ℕ) → j < m → SameBag (starts j) (filter (λ f. owner f.key == j) held))
    → ((j : ℕ) → j < m → SameBag (mine j) (filter (λ f. owner f.key == j) frames))
    → ((j : ℕ) → j < m → RowsAre w.vertex w.size w.slide (newly begun (dues j)) (starts j ++ mine j) (rows j))
    → ((key : List ℕ) (e : ℤ) → dues (owner key) e ≡ due key e)
    → RowsOver w (λ key. newly begun (due key)) held events (all_of m rows)

-- no row where there are no values, else one, whose accumulator is theirs
abbrev pub IsRowFor : List AccValue → List ℤ → Type 0
IsRowFor [] values = values ≡ []
IsRowFor (acc ∷ []) values = IsAccOf values acc
IsRowFor (acc ∷ more ∷ rest) values = ⊥

-- in other words: at each end that is due, a key has the row of the events of the key in the window, and none where there are none
abbrev pub OneRowEach : Type 0
OneRowEach = (w : Window) (due : List ℕ → ℤ → Bool) (events : List EventValue) (rows : List RowValue) (e : ℤ) (key : List ℕ)
    → RowsOver w due [] events rows → is_multiple w.slide e ≡ true → due key e ≡ true
    → IsRowFor (rows_at e key rows) (map first_value (members w.size e key events))

-- the windows of n vertices, each with its own events
abbrev pub instance_inflows : ℕ → (ℕ → Inflow) → List Inflow
instance_inflows n entered = all_of n (λ i. entered i ∷ [])

-- the rows of n windows, together and in order, are the rows of these windows
abbrev pub OrderedAreRows : Type 0
OrderedAreRows = (n : ℕ) (entered : ℕ → Inflow) (parts : ℕ → List RowValue) (rows : List RowValue)
    → ((i : ℕ) → i < n → IsPolicy (entered i).window.size (entered i).window.slide)
    → ((i j : ℕ) → i < n → j < n → (entered i).window.vertex ≡ (entered j).window.vertex → i ≡ j)
    → ((i : ℕ) → i < n → RowsOver (entered i).window (λ key e. true) [] (entered i).events (parts i))
    → SameBag rows (all_of n parts) → IsInOrder rows
    → AreRows (instance_inflows n entered) rows

-- so many slides, one after another
abbrev pub slides : ℤ → ℕ → ℤ
slides slide zero = pos 0
slides slide (suc n) = slides slide n +ℤ slide

-- in how many windows an event is
abbrev pub windows_of : ℤ → ℤ → ℕ
windows_of size slide = unsigned_abs size / unsigned_abs slide

-- a window of a policy is as many slides long as an event is in windows
abbrev pub WholeWindows : Type 0
WholeWindows = (size slide : ℤ) → IsPolicy size slide → size ≡ slides slide (windows_of size slide)

-- there are at most as many rows for each frame as it is in windows
abbrev pub FewRows : Type 0
FewRows = (vertex : ℕ) (size slide : ℤ) (due : ℤ → Bool) (frames : List FrameValue) (rows : List RowValue)
    → IsPolicy size slide → RowsAre vertex size slide due frames rows → length rows ≤ windows_of size slide * length frames

-- where a frame vertex took no data but events, it gave at most one frame or late item for each, and no other data
abbrev pub FewFrames : Type 0
FewFrames = (vertex : ℕ) (slide : ℤ) (begun : Option ℤ) (held : List FrameValue) (told taken : List CallEntry) (given : List Item)
    → FrameBag vertex slide begun held told taken given → others_of (items_of taken) ≡ []
    → length (data_of given) ≤ length (events_of (items_of taken))
