-- What a frame vertex gave and holds, against what it took.
use Rattle.std.specs.Prelude.{◌≡◌, ℕ, ◌+◌, ◌≤◌, length, Bool, true, false, ◌||◌, ℤ, List, [], ◌∷◌, ◌++◌, map, Option}
use Rattle.jet_items.specs.Bag.{SameBag}
use Rattle.jet_items.specs.Frames.{FramesSum}
use Rattle.jet_items.specs.Kinds.{events_of, sides_of, frames_of, rows_of, lates_of, late_events, marks_of}
use Rattle.jet_items.specs.Order.{Each, EachPair, Sound, LateIsBehind, ClosedAfter}
use Rattle.jet_items.specs.Values.{AccValue, FrameValue}
use Rattle.jet_items.specs.declared.item.Item.{Item}
use Rattle.jet_items.specs.declared.item.Item.TheVariants as item
use Rattle.jet_boxes.specs.Entry.{CallEntry, Finish, NotDone, items_of}
use Rattle.jet_window.specs.Idles.{idles_of}
use Rattle.jet_window.specs.FrameTables.{Table, frame_of, FramesRise, IsKept}
use Rattle.jet_window.specs.LateEvents.{late_items, kept_events, FrameSound, LateIsExcused}
use Rattle.jet_window.specs.Tables.{Place}
use Rattle.jet_window.specs.Taken.{is_due, last_mark, due_after, StageInput}

-- the bag law of a frame vertex that holds these frames and began with this mark or none: `told` is what was taken, and in the middle of a call its entry too
pub record FrameBag (vertex : ℕ) (slide : ℤ) (begun : Option ℤ) (held : List FrameValue) (told taken : List CallEntry) (given : List Item) : Type 0 where
  -- an event below the slide's floor of the last mark before it, or of the mark that it began with, is given as late, and late items that were taken pass
  pub lates : lates_of given ≡ late_items vertex slide begun (items_of taken)
  -- each event that was taken is late or kept, once
  pub parts : SameBag (events_of (items_of taken) ++ late_events (items_of taken)) (late_events given ++ kept_events slide begun (items_of taken))
  -- frames that were taken pass, the others are the vertex's own; where none was taken all are its own, in the order given
  pub own : List FrameValue
  pub passed : SameBag (frames_of given) (frames_of (items_of taken) ++ own)
  pub alone : frames_of (items_of taken) ≡ [] → frames_of given ≡ own
  -- a frame is given only once the mark that closes it was told, or the finish
  pub closed : StageInput told → Each (λ f. due_after told f.end ≡ true) own
  -- its own frames rise by end, then key, and after them those held, so none is given a second time
  pub rising : StageInput told → EachPair FramesRise (own ++ held)
  pub vertices : Each (λ f. f.vertex ≡ vertex) own
  -- its own frames and those held sum the kept events, and are no more than these
  pub sums : FramesSum slide (own ++ held) (kept_events slide begun (items_of taken))
  pub few : length own + length held ≤ length (kept_events slide begun (items_of taken))
  -- held are only frames that end above the last mark and the one that it began with, and none right after the finish
  pub above : Each (λ f. (is_due begun f.end || is_due (last_mark taken) f.end) ≡ false) held
  pub ended : (front : List CallEntry) → taken ≡ front ++ Finish ∷ [] → held ≡ []
  -- where what was taken is sound, each late item names an event that is behind or below the mark that it began with
  pub excused : (behind : ℕ → ℕ → Bool) → Sound behind (items_of taken) → Each (LateIsExcused behind begun) given
  -- no event passes; rows, side rows and idle notes pass
  pub events : events_of given ≡ []
  pub rows : rows_of given ≡ rows_of (items_of taken)
  pub sides : sides_of given ≡ sides_of (items_of taken)
  pub idles : idles_of given ≡ idles_of (items_of taken)

-- an event
abbrev pub IsEvent : Item → Type 0
IsEvent (item.Event e) = Unit {0}
IsEvent (item.Side s) = ⊥
IsEvent (item.Frame f) = ⊥
IsEvent (item.Row r) = ⊥
IsEvent (item.Late l) = ⊥
IsEvent item.Idle = ⊥
IsEvent (item.Mark m) = ⊥
IsEvent item.Done = ⊥

-- no event
abbrev pub NoEvent : Item → Type 0
NoEvent (item.Event e) = ⊥
NoEvent (item.Side s) = Unit {0}
NoEvent (item.Frame f) = Unit {0}
NoEvent (item.Row r) = Unit {0}
NoEvent (item.Late l) = Unit {0}
NoEvent item.Idle = Unit {0}
NoEvent (item.Mark m) = Unit {0}
NoEvent item.Done = Unit {0}

-- what a frame vertex stands for, between calls and within one: within a call it gives only frames that it held, so the
-- entry of an unfinished call is told and not counted as taken
pub record FrameStands (vertex : ℕ) (slide : ℤ) (begun last : Option ℤ) (held : Table) (told taken : List CallEntry) (given : List Item) : Type 0 where
  pub tie : last ≡ last_mark taken
  pub excused : (behind : ℕ → ℕ → Bool) → Sound behind (items_of taken) → Each (LateIsExcused behind begun) given
  pub behind_lates : (behind : ℕ → ℕ → Bool) → FrameSound behind begun (items_of taken) → Each (LateIsBehind behind) given
  pub no_events : Each NoEvent given
  pub open_ended : Each NotDone given
  pub marks : marks_of given ≡ marks_of (items_of taken)
  pub marks_due : EachPair ClosedAfter (items_of taken) → Each (λ w. is_due last w ≡ true) (marks_of given)
  pub closed : EachPair ClosedAfter (items_of taken) → EachPair ClosedAfter given
  pub lates : lates_of given ≡ late_items vertex slide begun (items_of taken)
  pub own : List FrameValue
  pub passed : SameBag (frames_of given) (frames_of (items_of taken) ++ own)
  pub alone : frames_of (items_of taken) ≡ [] → frames_of given ≡ own
  pub own_closed : StageInput told → Each (λ f. due_after told f.end ≡ true) own
  pub rising : StageInput told → EachPair FramesRise (own ++ map (frame_of vertex) held)
  pub vertices : Each (λ f. f.vertex ≡ vertex) own
  pub sums : FramesSum slide (own ++ map (frame_of vertex) held) (kept_events slide begun (items_of taken))
  pub few : length own + length held ≤ length (kept_events slide begun (items_of taken))
  pub above : Each (λ (f : Place × AccValue). (is_due begun f.0.0 || is_due last f.0.0) ≡ false) held
  pub ended : (front : List CallEntry) → taken ≡ front ++ Finish ∷ [] → held ≡ []
  pub rows : rows_of given ≡ rows_of (items_of taken)
  pub sides : sides_of given ≡ sides_of (items_of taken)
  pub idles : idles_of given ≡ idles_of (items_of taken)
  pub kept : IsKept held
