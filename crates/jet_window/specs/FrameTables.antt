-- Tables of accumulators by end and key: what frame and combine vertices hold.
use Rattle.std.specs.Prelude.{◌≡◌, ℕ, ℤ, ◌&&◌, List, Option, Some, None, bytes_eq}
use Rattle.jet_items.specs.Values.{AccValue, FrameValue}
use Rattle.std.specs.declared.cmp.Ordering.TheVariants.{Less}
use Rattle.std.specs.Map.{lookup}
use Rattle.std.specs.BTreeMap.{insert_entry, is_at}
use Rattle.std.specs.Ordering.{int_eq}
use Rattle.jet_items.specs.Totals.{joined}
use Rattle.jet_items.specs.Frames.{only, covers}
use Rattle.jet_items.specs.Order.{Each, EachPair}
use Rattle.jet_items.specs.Ranges.{IsWithin, most_frame_end}
use Rattle.jet_window.specs.Tables.{Place, place_cmp}

-- accumulators by end and key bytes, in their order
abbrev pub Table : Type 0
Table = List (Place × AccValue)

-- what is held as a frame
abbrev pub frame_of : ℕ → Place × AccValue → FrameValue
frame_of vertex f = record { vertex = vertex; end = f.0.0; key = f.0.1; acc = f.1 }

-- what a held frame brings to a window and a key
abbrev pub held_in : ℤ → ℤ → List ℕ → Place × AccValue → Option AccValue
held_in size e key f = only (bytes_eq f.0.1 key && covers size e f.0.0) f.1

-- what a held frame brings to an end and a key
abbrev pub held_at : ℤ → List ℕ → Place × AccValue → Option AccValue
held_at end key f = only (bytes_eq f.0.1 key && int_eq f.0.0 end) f.1

-- frames rise by end, then key
abbrev pub FramesRise : FrameValue → FrameValue → Type 0
FramesRise f g = place_cmp (f.end, f.key) (g.end, g.key) ≡ Less

-- places rise
abbrev pub Ordered : Table → Type 0
Ordered table = EachPair (λ (f g : Place × AccValue). place_cmp f.0 g.0 ≡ Less) table

-- an accumulator, or none, joined with one more
abbrev pub with_acc : Option AccValue → AccValue → AccValue
with_acc None a = a
with_acc (Some b) a = joined b a

-- the table with an accumulator joined in
abbrev pub joined_in : Table → Place → AccValue → Table
joined_in table k a = insert_entry place_cmp table k (with_acc (lookup (is_at (place_cmp k)) table) a)

-- places rise, and their ends are those of frames
pub record IsKept (table : Table) : Type 0 where
  pub ordered : Ordered table
  pub ranges : Each (λ (f : Place × AccValue). IsWithin most_frame_end f.0.0) table
