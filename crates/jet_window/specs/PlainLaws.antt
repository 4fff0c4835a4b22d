-- What follows of the rows between marks, for a loop that reads events and closes windows.
use Rattle.std.specs.Prelude.{ℤ, ◌≤ℤ◌, List, [], ◌∷◌, ◌++◌, Option, Some, None, IfSome}
use Rattle.jet_items.specs.Rows.{Window, AreRows}
use Rattle.jet_items.specs.Values.{EventValue, RowValue}
use Rattle.jet_window.specs.Plain.{RowsBetween, RowsUpTo}

-- an event at or above the last mark changes no row of a closed window
abbrev pub ClosedRowsStay : Type 0
ClosedRowsStay = (w : Window) (closed : Option ℤ) (events : List EventValue) (rows : List RowValue) (x : EventValue)
    → IfSome closed (λ mark. mark ≤ℤ x.ts) → RowsUpTo w closed events rows → RowsUpTo w closed (events ++ x ∷ []) rows

-- the rows up to a mark, followed by those between it and a later mark, are the rows up to the later one
abbrev pub RowsFollow : Type 0
RowsFollow = (w : Window) (closed : Option ℤ) (mark : ℤ) (events : List EventValue) (rows more : List RowValue)
    → IfSome closed (λ last. last ≤ℤ mark) → RowsUpTo w closed events rows → RowsBetween w closed (Some mark) events more
    → RowsUpTo w (Some mark) events (rows ++ more)

-- the rows up to a mark, followed by all later ones, are the rows of the window
abbrev pub RowsEnd : Type 0
RowsEnd = (w : Window) (closed : Option ℤ) (events : List EventValue) (rows more : List RowValue)
    → RowsUpTo w closed events rows → RowsBetween w closed None events more
    → AreRows (record { window = w; events = events } ∷ []) (rows ++ more)
