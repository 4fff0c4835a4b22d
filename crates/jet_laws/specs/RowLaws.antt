-- That windows have one list of rows.
use Rattle.std.specs.Prelude.{◌≡◌, ◌≢◌, pos, ◌≤ℤ◌, List, All, AllPairs, IsPermutation}
use Rattle.std.specs.List.{AllZip}
use Rattle.jet_items.specs.Rows.{Inflow, AreRows}
use Rattle.jet_items.specs.Values.{RowValue}

-- no two windows have the same number
abbrev pub AreApart : List Inflow → Type 0
AreApart entered = AllPairs (λ p q. p.window.vertex ≢ q.window.vertex) entered

-- windows of different numbers have no two lists of rows
abbrev pub RowsAreOne : Type 0
RowsAreOne = (entered : List Inflow) (rows other : List RowValue) → AreApart entered
    → AreRows entered rows → AreRows entered other → rows ≡ other

-- the same window, and the same events in some order
abbrev pub IsReordered : Inflow → Inflow → Type 0
IsReordered p q = (p.window ≡ q.window) × IsPermutation p.events q.events

-- rows stay the same in whatever order each window's events come
abbrev pub RowsStayByOrder : Type 0
RowsStayByOrder = (entered other : List Inflow) (rows : List RowValue) → AllZip IsReordered entered other
    → AreRows entered rows → AreRows other rows

-- windows that slide by one or more have rows
abbrev pub RowsExist : Type 0
RowsExist = (entered : List Inflow) → All (λ p. pos 1 ≤ℤ p.window.slide) entered → (rows : List RowValue) × AreRows entered rows
