-- What contracts see of ordered rows.
use Rattle.std.specs.Prelude.{ℤ, Bool, ◌||◌, false, List, Option, int_le}
use Rattle.std.specs.Option.{option_map_or}
use Rattle.jet_items.specs.Values.{RowValue}

pub record WaitingRows : Type 0 where
  pub rows : List RowValue
  pub passed : Option ℤ
  pub closed : Bool

-- a mark at its end has passed, or all were let out
abbrev pub is_let_out : WaitingRows → RowValue → Bool
is_let_out held row = held.closed || option_map_or (λ t. int_le row.end t) held.passed false
