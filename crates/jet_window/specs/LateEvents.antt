-- Which events come late at a window vertex, and which are kept.
use Rattle.std.specs.Prelude.{◌≡◌, ℕ, Bool, true, false, ◌||◌, cond, ℤ, int_lt, List, [], ◌∷◌, ◌++◌, Option, Some, None}
use Rattle.jet_items.specs.Grid.{floor_to}
use Rattle.jet_items.specs.Kinds.{as_mark}
use Rattle.jet_items.specs.Order.{Each, Sound}
use Rattle.jet_items.specs.Values.{EventValue, LateValue}
use Rattle.jet_items.specs.declared.item.Item.{Item}
use Rattle.jet_items.specs.declared.item.Item.TheVariants as item
use Rattle.jet_window.specs.Taken.{last_from}

-- a time is late: it lies below the greatest multiple of the slide that is at most the last mark
abbrev pub is_late : ℤ → Option ℤ → ℤ → Bool
is_late slide None ts = false
is_late slide (Some w) ts = int_lt ts (floor_to slide w)

-- what each item brings, told the last mark before it
abbrev pub brought : {X : Type 0} → (Option ℤ → Item → List X) → Option ℤ → List Item → List X
brought f last [] = []
brought f last (x ∷ xs) = f last x ++ brought f (last_from last (as_mark x)) xs

-- late by the mark that a vertex began with, or by the last one that it took
abbrev pub comes_late : ℤ → Option ℤ → Option ℤ → ℤ → Bool
comes_late slide begun last ts = is_late slide begun ts || is_late slide last ts

-- a time is below the mark that a vertex began with
abbrev pub is_below : Option ℤ → ℤ → Bool
is_below None ts = false
is_below (Some w) ts = int_lt ts w

-- a late item names an event that is behind or below that mark
abbrev pub LateIsExcused : (ℕ → ℕ → Bool) → Option ℤ → Item → Type 0
LateIsExcused behind begun (item.Event e) = Unit {0}
LateIsExcused behind begun (item.Side s) = Unit {0}
LateIsExcused behind begun (item.Frame f) = Unit {0}
LateIsExcused behind begun (item.Row r) = Unit {0}
LateIsExcused behind begun (item.Late l) = (behind l.event.part l.event.line || is_below begun l.event.ts) ≡ true
LateIsExcused behind begun item.Idle = Unit {0}
LateIsExcused behind begun (item.Mark m) = Unit {0}
LateIsExcused behind begun item.Done = Unit {0}

-- an event below that mark is called behind too
abbrev pub BelowIsBehind : (ℕ → ℕ → Bool) → Option ℤ → Item → Type 0
BelowIsBehind behind begun (item.Event e) = is_below begun e.ts ≡ true → behind e.part e.line ≡ true
BelowIsBehind behind begun (item.Side s) = Unit {0}
BelowIsBehind behind begun (item.Frame f) = Unit {0}
BelowIsBehind behind begun (item.Row r) = Unit {0}
BelowIsBehind behind begun (item.Late l) = Unit {0}
BelowIsBehind behind begun item.Idle = Unit {0}
BelowIsBehind behind begun (item.Mark m) = Unit {0}
BelowIsBehind behind begun item.Done = Unit {0}

-- what a frame vertex is to take, so that it gives what is sound: what is sound, where an event below the mark that it began
-- with is called behind; where it began with none, whatever is sound
pub record FrameSound (behind : ℕ → ℕ → Bool) (begun : Option ℤ) (xs : List Item) : Type 0 where
  pub sound : Sound behind xs
  pub below : Each (BelowIsBehind behind begun) xs

-- an event that is late gives a late item of the vertex; a late item that was taken passes
abbrev pub late_by : ℕ → ℤ → Option ℤ → Option ℤ → Item → List LateValue
late_by vertex slide begun last (item.Event e) = cond (comes_late slide begun last e.ts) (record { vertex = vertex; event = e } ∷ []) []
late_by vertex slide begun last (item.Side s) = []
late_by vertex slide begun last (item.Frame f) = []
late_by vertex slide begun last (item.Row r) = []
late_by vertex slide begun last (item.Late l) = l ∷ []
late_by vertex slide begun last item.Idle = []
late_by vertex slide begun last (item.Mark m) = []
late_by vertex slide begun last item.Done = []

-- the other events are kept
abbrev pub kept_by : ℤ → Option ℤ → Option ℤ → Item → List EventValue
kept_by slide begun last (item.Event e) = cond (comes_late slide begun last e.ts) [] (e ∷ [])
kept_by slide begun last (item.Side s) = []
kept_by slide begun last (item.Frame f) = []
kept_by slide begun last (item.Row r) = []
kept_by slide begun last (item.Late l) = []
kept_by slide begun last item.Idle = []
kept_by slide begun last (item.Mark m) = []
kept_by slide begun last item.Done = []

-- the late items that a vertex gives for these items, and the events that it keeps, where it began with this mark or none
abbrev pub late_items : ℕ → ℤ → Option ℤ → List Item → List LateValue
late_items vertex slide begun xs = brought (late_by vertex slide begun) None xs

abbrev pub kept_events : ℤ → Option ℤ → List Item → List EventValue
kept_events slide begun xs = brought (kept_by slide begun) None xs
