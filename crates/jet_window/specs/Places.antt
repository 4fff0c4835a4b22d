-- Rows by their place: by end, then vertex, then key bytes.
use Rattle.std.specs.Prelude.{◌≡◌, ℕ, ℤ, List, [], ◌∷◌, ◌++◌, map, reverse}
use Rattle.std.specs.List.{flat_map}
use Rattle.std.specs.List.Sorted.{IsPermutation, IsStrictlySortedBy}
use Rattle.std.specs.Map.{keys_of}
use Rattle.std.specs.Ordering.{int_cmp, nat_cmp, ordering_then}
use Rattle.std.specs.declared.cmp.Ordering.{Ordering}
use Rattle.std.specs.Cmp.Lexicographic.{slice_cmp}
use Rattle.jet_items.specs.Order.{Each}
use Rattle.jet_items.specs.Ranges.{IsWithin, most_row_end}
use Rattle.jet_items.specs.Values.{AccValue, RowValue}
use Rattle.jet_window.specs.declared.ordered.Alike.{Alike}

-- end, vertex and key bytes
abbrev pub RowPlace : Type 0
RowPlace = ℤ × ℕ × List ℕ

abbrev pub row_place_cmp : RowPlace → RowPlace → Ordering
row_place_cmp x y = ordering_then (ordering_then (int_cmp x.0 y.0) (nat_cmp x.1 y.1)) (slice_cmp nat_cmp x.2 y.2)

abbrev pub placed : RowPlace → AccValue → RowValue
placed at acc = record { vertex = at.1; end = at.0; key = at.2; acc = acc }

-- the rows of one place, the last that came first
abbrev pub rows_at_place : RowPlace × Alike → List RowValue
rows_at_place e = map (placed e.0) (reverse e.1.more.items ++ e.1.first ∷ [])

abbrev pub rows_in : List (RowPlace × Alike) → List RowValue
rows_in entries = flat_map rows_at_place entries

-- places rise, and rows end where rows may
pub record IsHeldInOrder (entries : List (RowPlace × Alike)) : Type 0 where
  pub rising : IsStrictlySortedBy row_place_cmp (keys_of entries)
  pub ends : Each (λ e. IsWithin most_row_end e.0.0) entries

-- there is this row more
pub record HoldsMore (row : RowValue) (old new : List (RowPlace × Alike)) : Type 0 where
  pub rows : IsPermutation (row ∷ rows_in old) (rows_in new)

-- there are the rows that were there
pub record HoldsSame (old new : List (RowPlace × Alike)) : Type 0 where
  pub rows : rows_in new ≡ rows_in old

-- this row stands first, and the others are left
pub record ComesFirst (row : RowValue) (old new : List (RowPlace × Alike)) : Type 0 where
  pub rows : rows_in old ≡ row ∷ rows_in new
