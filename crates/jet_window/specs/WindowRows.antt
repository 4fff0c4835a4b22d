-- The rows of windows over frames.
use Rattle.std.specs.Prelude.{◌≡◌, ℕ, Bool, cond, ◌&&◌, ℤ, List, [], ◌∷◌, Option, Some, None, bytes_eq}
use Rattle.std.specs.List.{flat_map}
use Rattle.std.specs.Ordering.{int_eq}
use Rattle.std.specs.declared.cmp.Ordering.TheVariants.{Less}
use Rattle.jet_items.specs.Values.{AccValue, FrameValue, RowValue}
use Rattle.jet_items.specs.Totals.{total}
use Rattle.jet_items.specs.Frames.{only, frame_in}
use Rattle.jet_items.specs.Order.{Each, EachPair}
use Rattle.jet_window.specs.Tables.{place_cmp, is_multiple}

-- one element or none
abbrev pub as_list : {X : Type 0} → Option X → List X
as_list None = []
as_list (Some x) = x ∷ []

-- the accumulators of the rows of an end and a key
abbrev pub row_at : ℤ → List ℕ → RowValue → Option AccValue
row_at e key r = only (bytes_eq r.key key && int_eq r.end e) r.acc

abbrev pub rows_at : ℤ → List ℕ → List RowValue → List AccValue
rows_at e key rows = flat_map (λ r. as_list (row_at e key r)) rows

-- rows rise by end, then key
abbrev pub Rises : RowValue → RowValue → Type 0
Rises r s = place_cmp (r.end, r.key) (s.end, s.key) ≡ Less

-- the rows of a vertex over frames, of all windows whose end is due: one for each end and key that has a frame, and no other
pub record RowsAre (vertex : ℕ) (size slide : ℤ) (due : ℤ → Bool) (frames : List FrameValue) (rows : List RowValue) : Type 0 where
  pub each : (e : ℤ) (key : List ℕ) → rows_at e key rows ≡ as_list (cond (is_multiple slide e && due e) (total (frame_in size e key) frames) None)
  pub vertices : Each (λ r. r.vertex ≡ vertex) rows
  pub rising : EachPair Rises rows
