-- Rows in order.
use Rattle.std.specs.Prelude.{◌≡◌, List, [], ◌∷◌, false, ⊤}
use Rattle.std.specs.List.{AllByRecursion}
use Rattle.std.specs.Ordering.{is_gt}
use Rattle.jet_items.specs.Rows.{row_cmp}
use Rattle.jet_items.specs.Values.{RowValue}

-- no row is greater than a later one
abbrev pub IsInOrder : List RowValue → Type 0
IsInOrder [] = ⊤
IsInOrder (row ∷ rows) = AllByRecursion (λ later. is_gt (row_cmp row later) ≡ false) rows × IsInOrder rows
