-- What contracts see of a box.
use Rattle.std.specs.Prelude.{ℕ, List}
use Rattle.jet_items.specs.declared.item.Item.{Item}

-- how many items a box has room for, and those in it, the first one in first
pub record BoxView : Type 0 where
  pub room : ℕ
  pub items : List Item
