-- Frames that are put.
use Rattle.std.specs.Prelude.{◌≡◌, ℕ, ℤ, ◌<ℤ◌, ◌≤ℤ◌, List, ◌++◌, map}
use Rattle.jet_items.specs.Values.{AccValue}
use Rattle.jet_items.specs.Order.{Each}
use Rattle.jet_items.specs.declared.item.Item.{Item}
use Rattle.jet_items.specs.declared.item.Item.TheVariants as item
use Rattle.jet_window.specs.Tables.{Place}
use Rattle.jet_window.specs.FrameTables.{Table, frame_of}

-- some first frames were put, which end at most at t, and the table has the others
pub record Moved (vertex : ℕ) (t : ℤ) (old : Table) (before : List Item) (new : Table) (after : List Item) : Type 0 where
  pub first : Table
  pub closed : Each (λ (f : Place × AccValue). f.0.0 ≤ℤ t) first
  pub held : old ≡ first ++ new
  pub puts : after ≡ before ++ map (λ f. item.Frame (frame_of vertex f)) first

-- every held frame ends above t
abbrev pub StopsAbove : ℤ → Table → Type 0
StopsAbove t table = Each (λ (f : Place × AccValue). t <ℤ f.0.0) table
