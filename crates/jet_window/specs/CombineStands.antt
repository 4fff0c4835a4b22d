-- What a combine vertex gave and holds, against what it took.
use Rattle.std.specs.Prelude.{◌≡◌, ℕ, Bool, true, false, ◌||◌, ℤ, List, [], ◌∷◌, ◌++◌, map, Option, Some}
use Rattle.jet_items.specs.Bag.{SameBag}
use Rattle.jet_items.specs.Kinds.{events_of, sides_of, frames_of, rows_of, lates_of, marks_of}
use Rattle.jet_items.specs.Order.{Each, EachPair, SoundAfter, LateIsBehind, ClosedAfter}
use Rattle.jet_items.specs.Ranges.{IsWithin, most_row_end}
use Rattle.jet_items.specs.Frames.{frame_at, frame_in}
use Rattle.jet_items.specs.Totals.{total}
use Rattle.jet_items.specs.Values.{AccValue, FrameValue, RowValue}
use Rattle.jet_items.specs.declared.item.Item.{Item}
use Rattle.jet_items.specs.declared.item.Item.TheVariants as item
use Rattle.jet_items.proofs.Orders.{Shadows}
use Rattle.jet_policy.specs.Policy.{IsPolicy}
use Rattle.jet_boxes.specs.Entry.{CallEntry, Given, MarkTold, QueueClosed, Finish, items_of, NotFinish, NotDone}
use Rattle.jet_window.specs.Idles.{idles_of}
use Rattle.jet_window.specs.Combining.{Fits, Passes, row_of}
use Rattle.jet_window.specs.FrameTables.{Table, IsKept, FramesRise}
use Rattle.jet_window.specs.Later.{newly, later_of}
use Rattle.jet_window.specs.Tables.{Place, is_multiple}
use Rattle.jet_window.specs.Taken.{is_due, last_mark, is_finished, due_after, InOpenWindow, StageInput}
use Rattle.jet_window.specs.WindowRows.{RowsAre}

-- the bag law of a combine vertex that holds these frames, and began with this mark and these frames or with none; `last` is the
-- last mark that it took. `due` says of a window end that its rows are given, where what was taken is as `input` says
pub record CombineBag (vertex : ℕ) (size slide : ℤ) (begun last : Option ℤ) (start held : List FrameValue) (due : ℤ → Bool) (input : Type 0) (taken : List CallEntry) (given : List Item) : Type 0 where
  pub told : last ≡ last_mark taken
  -- events, side rows, idle notes and late items pass, and no frame does
  pub events : events_of given ≡ events_of (items_of taken)
  pub sides : sides_of given ≡ sides_of (items_of taken)
  pub idles : idles_of given ≡ idles_of (items_of taken)
  pub lates : lates_of given ≡ lates_of (items_of taken)
  pub frames : frames_of given ≡ []
  -- rows that were taken pass, the others are the vertex's own; where none was taken all are its own
  pub own : List RowValue
  pub passed : SameBag (rows_of given) (rows_of (items_of taken) ++ own)
  pub alone : rows_of (items_of taken) ≡ [] → rows_of given ≡ own
  -- its own rows are those over its first frames and those that were taken, of the windows that are due and were not before
  pub rows : input → RowsAre vertex size slide (newly begun due) (start ++ frames_of (items_of taken)) own
  -- of each other window it holds what these frames join to
  pub held_is : input → (e : ℤ) (key : List ℕ) → is_multiple slide e ≡ true → (is_due begun e || due e) ≡ false → total (frame_in size e key) held ≡ total (frame_in size e key) (start ++ frames_of (items_of taken))
  -- and of each end in such a window, and each key, what the frames there join to
  pub held_at : input → (end : ℤ) (key : List ℕ) → InOpenWindow size slide (λ e. is_due begun e || due e) end → total (frame_at end key) held ≡ total (frame_at end key) (start ++ frames_of (items_of taken))
  -- a frame is forgotten once its last window is closed: held are only frames of open windows
  pub held_open : IsPolicy size slide → input → Each (λ f. InOpenWindow size slide (λ e. is_due begun e || due_after taken e) f.end) held
  -- it is one for each end and key, by end, then key
  pub held_rising : EachPair FramesRise held
  pub held_vertices : Each (λ f. f.vertex ≡ vertex) held

-- the same in the middle of a call: with the rows that are ready to be given, they are those of the windows up to a time;
-- that is at least the last mark, and no later than the call itself makes due or the mark that the vertex began with
pub record CombineBagAmid (vertex : ℕ) (size slide : ℤ) (begun last : Option ℤ) (start held : List FrameValue) (taken : List CallEntry) (entry : CallEntry) (given : List Item) : Type 0 where
  pub ready : List RowValue
  pub until : Option ℤ
  pub at_least : StageInput (taken ++ entry ∷ []) → (e : ℤ) → due_after taken e ≡ true → is_due until e ≡ true
  pub at_most : StageInput (taken ++ entry ∷ []) → (e : ℤ) → is_due until e ≡ true → (is_due begun e || due_after (taken ++ entry ∷ []) e) ≡ true
  pub bag : CombineBag vertex size slide begun last start held (is_due until) (StageInput (taken ++ entry ∷ [])) taken (given ++ map item.Row ready)

-- what was taken, against what was given or is sure to be given next; `input` says that what was taken is as it is to be
pub record Promises (vertex : ℕ) (size slide : ℤ) (begun : Option ℤ) (start : List FrameValue) (passed : Option ℤ) (held : Table) (promised : List Item) (input : Type 0) (items : List Item) : Type 0 where
  pub sound : (behind : ℕ → ℕ → Bool) → Shadows (SoundAfter behind) promised items
  pub behind_lates : (behind : ℕ → ℕ → Bool) → Each (LateIsBehind behind) items → Each (LateIsBehind behind) promised
  pub open_ended : Each NotDone promised
  pub marks : marks_of promised ≡ marks_of items
  pub due : EachPair ClosedAfter items → Each (λ w. is_due passed w ≡ true) (marks_of items)
  pub closed : EachPair ClosedAfter items → EachPair ClosedAfter promised
  pub events : events_of promised ≡ events_of items
  pub sides : sides_of promised ≡ sides_of items
  pub idles : idles_of promised ≡ idles_of items
  pub lates : lates_of promised ≡ lates_of items
  pub frames : frames_of promised ≡ []
  pub own : List RowValue
  pub rows : SameBag (rows_of promised) (rows_of items ++ own)
  pub alone : rows_of items ≡ [] → rows_of promised ≡ own
  pub begins : Passes begun passed
  pub fits : input → Fits vertex size slide begun passed held (start ++ frames_of items) own
  pub kept : IsKept held

-- a frame: all else passes
abbrev pub IsFrame : Item → Type 0
IsFrame (item.Event e) = ⊥
IsFrame (item.Side s) = ⊥
IsFrame (item.Frame f) = Unit {0}
IsFrame (item.Row r) = ⊥
IsFrame (item.Late l) = ⊥
IsFrame item.Idle = ⊥
IsFrame (item.Mark m) = ⊥
IsFrame item.Done = ⊥

-- the rows that are still to be given
abbrev pub pending_rows : ℕ → ℤ → List (List ℕ × AccValue) → List RowValue
pending_rows vertex e ready = map (row_of vertex e) ready

abbrev pub pending : ℕ → ℤ → List (List ℕ × AccValue) → List Item
pending vertex e ready = map item.Row (pending_rows vertex e ready)

-- the settings and the state of a combine vertex
pub record Combine : Type 0 where
  pub vertex : ℕ
  pub size : ℤ
  pub slide : ℤ
  pub passed : Option ℤ
  pub end : ℤ
  pub held : Table
  pub ready : List (List ℕ × AccValue)

-- what a vertex began with: a mark and frames, or none
pub record Start : Type 0 where
  pub begun : Option ℤ
  pub frames : List FrameValue

-- what it promises after these entries
abbrev pub PromisesAfter : Start → Combine → List CallEntry → List Item → Type 0
PromisesAfter s p taken given = Promises p.vertex p.size p.slide s.begun s.frames p.passed p.held (given ++ pending p.vertex p.end p.ready) (StageInput taken) (items_of taken)

-- each frame that it holds lies in a window that is open after these entries
abbrev pub HeldOpen : Start → Combine → List CallEntry → Type 0
HeldOpen s p taken = IsPolicy p.size p.slide → StageInput taken → Each (λ (f : Place × AccValue). InOpenWindow p.size p.slide (λ e. is_due s.begun e || due_after taken e) f.0.0) p.held

-- between calls nothing is ready, and what passed is the last mark, or the one that it began with where that is later
pub record CombineStands (s : Start) (last : Option ℤ) (p : Combine) (taken : List CallEntry) (given : List Item) : Type 0 where
  pub promises : PromisesAfter s p taken given
  pub range : IsWithin most_row_end p.end
  pub told : last ≡ last_mark taken
  pub put : p.ready ≡ []
  pub tie : Each NotFinish taken → p.passed ≡ later_of s.begun last
  pub ended : StageInput taken → is_finished taken ≡ true → p.held ≡ []
  pub held_open : HeldOpen s p taken

-- within a call for a mark, what passed is at most that mark, or the one that it began with
pub record Marking (s : Start) (last : Option ℤ) (p : Combine) (taken : List CallEntry) (t : ℤ) (given : List Item) : Type 0 where
  pub promises : PromisesAfter s p taken given
  pub range : IsWithin most_row_end p.end
  pub told : last ≡ last_mark taken
  pub bound : StageInput (taken ++ MarkTold t ∷ []) → Passes p.passed (later_of s.begun (Some t))
  pub held_open : HeldOpen s p taken

-- within the finish
pub record Finishing (s : Start) (last : Option ℤ) (p : Combine) (taken : List CallEntry) (given : List Item) : Type 0 where
  pub promises : PromisesAfter s p taken given
  pub range : IsWithin most_row_end p.end
  pub told : last ≡ last_mark taken
  pub held_open : HeldOpen s p taken

abbrev pub CombineAmid : Start → Option ℤ → Combine → List CallEntry → CallEntry → List Item → Type 0
CombineAmid s last p taken (Given port q x) given = CombineStands s last p taken given
CombineAmid s last p taken (MarkTold t) given = Marking s last p taken t given
CombineAmid s last p taken (QueueClosed port q) given = CombineStands s last p taken given
CombineAmid s last p taken Finish given = Finishing s last p taken given

-- what a part of a call does: some rows were put, and what was promised stays promised
pub record Gave (p : Combine) (before : List Item) (q : Combine) (after : List Item) : Type 0 where
  pub put : List Item
  pub puts : after ≡ before ++ put
  pub forgets : Table
  pub held : p.held ≡ forgets ++ q.held
  pub vertex : q.vertex ≡ p.vertex
  pub size : q.size ≡ p.size
  pub slide : q.slide ≡ p.slide
  pub range : IsWithin most_row_end p.end → IsWithin most_row_end q.end
  pub kept : IsKept p.held → IsKept q.held
  pub keeps : (s : Start) (taken : List CallEntry) (given : List Item) → PromisesAfter s p taken given → PromisesAfter s q taken (given ++ put)

-- rows that were ready were put, and the others are still ready
pub record PutsReady (vertex : ℕ) (e : ℤ) (old : List (List ℕ × AccValue)) (before : List Item) (new : List (List ℕ × AccValue)) (after : List Item) : Type 0 where
  pub put : List Item
  pub puts : after ≡ before ++ put
  pub rest : put ++ pending vertex e new ≡ pending vertex e old
