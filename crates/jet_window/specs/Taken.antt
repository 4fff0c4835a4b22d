-- What entries that were taken say: the last mark, whether all was ended, and which window ends are due.
use Rattle.std.specs.Prelude.{◌≡◌, Bool, true, false, ◌||◌, ℤ, int_le, List, [], ◌∷◌, Option, Some, None}
use Rattle.jet_items.specs.Frames.{covers}
use Rattle.jet_items.specs.Kinds.{marks_of}
use Rattle.jet_items.specs.Order.{Closed as ClosedItems}
use Rattle.jet_boxes.specs.Entry.{CallEntry, Given, MarkTold, QueueClosed, Finish, items_of, MayAll, AnyQueue}
use Rattle.jet_window.specs.Tables.{is_multiple}

-- the last of some marks, or else this one
abbrev pub last_from : Option ℤ → List ℤ → Option ℤ
last_from o [] = o
last_from o (w ∷ ws) = last_from (Some w) ws

-- the last mark taken
abbrev pub last_mark : List CallEntry → Option ℤ
last_mark taken = last_from None (marks_of (items_of taken))

-- e is at most the time that has passed
abbrev pub is_due : Option ℤ → ℤ → Bool
is_due None e = false
is_due (Some p) e = int_le e p

-- the finish is among the entries
abbrev pub is_finished : List CallEntry → Bool
is_finished [] = false
is_finished (Given port q x ∷ es) = is_finished es
is_finished (MarkTold t ∷ es) = is_finished es
is_finished (QueueClosed port q ∷ es) = is_finished es
is_finished (Finish ∷ es) = true

-- what is due after these entries: what the last mark closed, and all after the finish
abbrev pub due_after : List CallEntry → ℤ → Bool
due_after taken e = is_finished taken || is_due (last_mark taken) e

-- a frame that ends here lies in a window that is not due
abbrev pub InOpenWindow : ℤ → ℤ → (ℤ → Bool) → ℤ → Type 0
InOpenWindow size slide due end = (e : ℤ) × (is_multiple slide e ≡ true) × (covers size e end ≡ true) × (due e ≡ false)

-- what a stage of a window is to take: what a mark closed stays closed, and each entry comes when it may, so nothing after the finish
pub record StageInput (taken : List CallEntry) : Type 0 where
  pub closed : ClosedItems (items_of taken)
  pub comes : MayAll AnyQueue taken
