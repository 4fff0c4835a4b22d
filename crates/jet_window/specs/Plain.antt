-- What contracts see of a plain window, and the rows that it closes.
use Rattle.std.specs.Prelude.{◌≡◌, ℕ, Bool, true, ◌&&◌, ℤ, ◌+ℤ◌, int_le, int_lt, List, [], filter, All, Option, Some, None}
use Rattle.std.specs.Option.{option_map_or}
use Rattle.std.specs.List.Sorted.{IsStrictlySortedBy}
use Rattle.jet_items.specs.Grid.{IsEndFor, floor_to}
use Rattle.jet_items.specs.Rows.{Window, IsRowOf, HasRow, row_cmp}
use Rattle.jet_items.specs.Values.{EventValue, RowValue}

-- a window vertex, the last mark that closed windows, and the events that are held
pub record PlainValue : Type 0 where
  pub vertex : ℕ
  pub size : ℤ
  pub slide : ℤ
  pub closed : Option ℤ
  pub events : List EventValue

-- the last window that holds the time ends above the mark, where there is one
abbrev pub is_open : ℤ → ℤ → Option ℤ → ℤ → Bool
is_open size slide closed ts = option_map_or (λ mark. int_lt mark (floor_to slide (ts +ℤ size))) closed true

-- the window took these events since it was made: held are, in order, those with a window that is not closed
abbrev pub HasTaken : PlainValue → List EventValue → Type 0
HasTaken p all = p.events ≡ filter (λ x. is_open p.size p.slide p.closed x.ts) all

-- the end lies above the first mark, where there is one, and at most at the second, where there is one
abbrev pub is_between : Option ℤ → Option ℤ → ℤ → Bool
is_between after upto end = option_map_or (λ mark. int_lt mark end) after true && option_map_or (λ mark. int_le end mark) upto true

-- the rows of the windows over these events that end between two marks
pub record RowsBetween (w : Window) (after upto : Option ℤ) (events : List EventValue) (rows : List RowValue) : Type 0 where
  -- each is the row of such a window
  pub each : All (λ row. IsRowOf w events row × (is_between after upto row.end ≡ true)) rows
  -- each such window that holds an event has a row for the event's key
  pub complete : All (λ x. (end : ℤ) → IsEndFor w.size w.slide x.ts end → is_between after upto end ≡ true → HasRow rows w end x.key) events
  -- they rise strictly, so no row stands twice
  pub rising : IsStrictlySortedBy row_cmp rows

-- the rows of the windows that the last mark closed; none before the first mark
abbrev pub RowsUpTo : Window → Option ℤ → List EventValue → List RowValue → Type 0
RowsUpTo w None events rows = rows ≡ []
RowsUpTo w (Some mark) events rows = RowsBetween w None (Some mark) events rows

-- the window of this vertex and these sizes, under a name
abbrev pub window_named : PlainValue → List ℕ → Window
window_named p name = record { vertex = p.vertex; name = name; size = p.size; slide = p.slide }
