-- The rows of one window, by key.
use Rattle.std.specs.Prelude.{◌≡◌, ℕ, ℤ, List, bytes_eq}
use Rattle.std.specs.Ordering.{nat_cmp}
use Rattle.std.specs.Cmp.Lexicographic.{slice_cmp}
use Rattle.std.specs.declared.cmp.Ordering.TheVariants.{Less}
use Rattle.jet_items.specs.Values.{AccValue}
use Rattle.jet_items.specs.Totals.{total}
use Rattle.jet_items.specs.Frames.{only}
use Rattle.jet_items.specs.Order.{EachPair}
use Rattle.jet_window.specs.FrameTables.{Table, held_in}

abbrev pub KeysRise : List (List ℕ × AccValue) → Type 0
KeysRise rows = EachPair (λ (a b : List ℕ × AccValue). slice_cmp nat_cmp a.0 b.0 ≡ Less) rows

-- each key of the window has what the frames bring to it, and keys rise
pub record WindowOf (size e : ℤ) (held : Table) (rows : List (List ℕ × AccValue)) : Type 0 where
  pub each : (key : List ℕ) → total (λ (p : List ℕ × AccValue). only (bytes_eq p.0 key) p.1) rows ≡ total (held_in size e key) held
  pub rising : KeysRise rows
