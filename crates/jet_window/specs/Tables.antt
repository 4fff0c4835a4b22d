-- Tables of rows by end and key, and what an event brings to them.
use Rattle.std.specs.Prelude.{◌≡◌, ℕ, Bool, ◌&&◌, ℤ, pos, ◌+ℤ◌, ◌≤ℤ◌, ◌<ℤ◌, int_le, List, Option, Some, None, IfSome, bytes_eq}
use Rattle.std.specs.BTreeMap.{BTreeMap, get}
use Rattle.std.specs.Int.{int_rem_euclid}
use Rattle.std.specs.declared.cmp.Ordering.{Ordering}
use Rattle.std.specs.Ordering.{nat_cmp, int_cmp, int_eq, ordering_then}
use Rattle.std.specs.Cmp.Lexicographic.{slice_cmp}
use Rattle.jet_items.specs.Frames.{only}
use Rattle.jet_items.specs.Grid.{IsMultiple, in_window}
use Rattle.jet_items.specs.Rows.{first_value}
use Rattle.jet_items.specs.Totals.{joined, one}
use Rattle.jet_items.specs.Values.{EventValue, AccValue, RowValue}
use Rattle.jet_window.specs.Plain.{is_between}

-- where a row is kept: by end, then key bytes
abbrev pub Place : Type 0
Place = ℤ × List ℕ

abbrev pub place_cmp : Place → Place → Ordering
place_cmp x y = ordering_then (int_cmp x.0 y.0) (slice_cmp nat_cmp x.1 y.1)

-- a row, with the values of the one that is there
abbrev pub with_row : Option RowValue → RowValue → RowValue
with_row None row = row
with_row (Some old) row = record row { acc = joined old.acc row.acc }

-- the row of an end and a key, where values are known
abbrev pub row_of : ℕ → ℤ → List ℕ → Option AccValue → Option RowValue
row_of vertex e key None = None
row_of vertex e key (Some acc) = Some (record { vertex = vertex; end = e; key = key; acc = acc })

-- the table has at each end and key the row of what is known there
pub record IsTable (vertex : ℕ) (known : ℤ → List ℕ → Option AccValue) (table : BTreeMap Place RowValue) : Type 0 where
  pub at : (e : ℤ) (key : List ℕ) → get place_cmp table (e, key) ≡ row_of vertex e key (known e key)

abbrev pub is_multiple : ℤ → ℤ → Bool
is_multiple slide e = int_eq (int_rem_euclid e slide) (pos 0)

-- what an event brings to an end and a key, where its value goes to each multiple from the first to the last
abbrev pub stepped : ℤ → ℤ → ℤ → EventValue → ℤ → List ℕ → Option AccValue
stepped slide first last x e key = only (bytes_eq x.key key && (is_multiple slide e && (int_le first e && int_le e last))) (one (first_value x))

-- what an event brings to an end and a key, where it lies in a window that ends there, between two marks
abbrev pub brings : ℤ → ℤ → Option ℤ → Option ℤ → ℤ → List ℕ → EventValue → Option AccValue
brings size slide after upto e key x = only (bytes_eq x.key key && (in_window size e x.ts && (is_multiple slide e && is_between after upto e))) (one (first_value x))

-- r is the first end after the mark of a window that holds ts
pub record IsFirstEnd (slide : ℤ) (after : Option ℤ) (ts r : ℤ) : Type 0 where
  pub multiple : IsMultiple slide r
  pub above : ts <ℤ r
  pub later : IfSome after (λ mark. mark <ℤ r)
  pub least : (e : ℤ) → IsMultiple slide e → ts <ℤ e → IfSome after (λ mark. mark <ℤ e) → r ≤ℤ e

-- no window that holds ts and ends at most at the mark ends after r
pub record IsLastDue (size : ℤ) (upto : Option ℤ) (ts r : ℤ) : Type 0 where
  pub within : r ≤ℤ (ts +ℤ size)
  pub due : IfSome upto (λ mark. r ≤ℤ mark)
  pub greatest : (e : ℤ) → e ≤ℤ (ts +ℤ size) → IfSome upto (λ mark. e ≤ℤ mark) → e ≤ℤ r
