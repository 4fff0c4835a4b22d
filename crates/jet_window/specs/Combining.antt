-- What a combine vertex holds, against the frames that it took and the rows that it gave.
use Rattle.std.specs.Prelude.{◌≡◌, ℕ, Bool, true, false, ℤ, ◌<ℤ◌, ◌≤ℤ◌, ◌+ℤ◌, ◌-ℤ◌, int_le, List, ◌++◌, Option, Some, None, bytes_eq}
use Rattle.std.specs.List.{flat_map}
use Rattle.std.specs.Ordering.{nat_cmp}
use Rattle.std.specs.Cmp.Lexicographic.{slice_cmp}
use Rattle.std.specs.declared.cmp.Ordering.TheVariants.{Less}
use Rattle.jet_items.specs.Frames.{only, covers, frame_at, frame_in}
use Rattle.jet_items.specs.Order.{Each, EachPair}
use Rattle.jet_items.specs.Totals.{total}
use Rattle.jet_items.specs.Values.{AccValue, FrameValue, RowValue}
use Rattle.jet_window.specs.FrameTables.{Table, IsKept, held_at, held_in}
use Rattle.jet_window.specs.Later.{newly}
use Rattle.jet_window.specs.Tables.{Place, is_multiple}
use Rattle.jet_window.specs.Taken.{is_due, InOpenWindow}
use Rattle.jet_window.specs.WindowRows.{as_list, RowsAre}

-- a row that is still to be given
abbrev pub row_of : ℕ → ℤ → List ℕ × AccValue → RowValue
row_of vertex e p = record { vertex = vertex; end = e; key = p.0; acc = p.1 }

abbrev pub accs_at : List ℕ → List (List ℕ × AccValue) → List AccValue
accs_at key ready = flat_map (λ p. as_list (only (bytes_eq p.0 key) p.1)) ready

-- what was due stays due
pub record Passes (passed next : Option ℤ) : Type 0 where
  pub stays : (d : ℤ) → is_due passed d ≡ true → is_due next d ≡ true

-- the rows are those of the windows that passed after the mark that a vertex began with, and the held frames are enough for the others
pub record Fits (vertex : ℕ) (size slide : ℤ) (begun passed : Option ℤ) (held : Table) (frames : List FrameValue) (rows : List RowValue) : Type 0 where
  pub held_is : (e : ℤ) (key : List ℕ) → is_multiple slide e ≡ true → is_due passed e ≡ false → total (held_in size e key) held ≡ total (frame_in size e key) frames
  pub held_at_is : (end : ℤ) (key : List ℕ) → InOpenWindow size slide (is_due passed) end → total (held_at end key) held ≡ total (frame_at end key) frames
  pub rows_are : RowsAre vertex size slide (newly begun (is_due passed)) frames rows
  pub within : Each (λ r. is_due passed r.end ≡ true) rows

-- the next window is taken up: no window between has a frame, its rows are ready, and the frames that are held on are enough for the later ones
pub record TakesUp (size slide : ℤ) (passed : Option ℤ) (held : Table) (e : ℤ) (ready : List (List ℕ × AccValue)) (rest : Table) : Type 0 where
  pub multiple : is_multiple slide e ≡ true
  pub later : is_due passed e ≡ false
  pub skips : (d : ℤ) (key : List ℕ) → is_multiple slide d ≡ true → is_due passed d ≡ false → d <ℤ e → total (held_in size d key) held ≡ None
  pub ready_is : (key : List ℕ) → accs_at key ready ≡ as_list (total (held_in size e key) held)
  pub rising : EachPair (λ (a b : List ℕ × AccValue). slice_cmp nat_cmp a.0 b.0 ≡ Less) ready
  pub leaves : (d : ℤ) (key : List ℕ) → is_multiple slide d ≡ true → e <ℤ d → total (held_in size d key) rest ≡ total (held_in size d key) held
  pub leaves_at : (end : ℤ) (key : List ℕ) → InOpenWindow size slide (is_due (Some e)) end → total (held_at end key) rest ≡ total (held_at end key) held
  pub kept : IsKept rest

-- no window up to t is left that has a frame
pub record Clear (size slide : ℤ) (passed : Option ℤ) (held : Table) (t : ℤ) : Type 0 where
  pub none : (d : ℤ) (key : List ℕ) → is_multiple slide d ≡ true → is_due passed d ≡ false → d ≤ℤ t → total (held_in size d key) held ≡ None

-- a frame that ends here lies in no window that ends above the mark
abbrev pub IsOver : ℤ → ℤ → Option ℤ → ℤ → Type 0
IsOver size slide begun end = (e : ℤ) → is_multiple slide e ≡ true → is_due begun e ≡ false → covers size e end ≡ false

-- each frame lies in a window that ends above t
abbrev pub OpenAbove : ℤ → ℤ → ℤ → Table → Type 0
OpenAbove size slide t held = Each (λ (f : Place × AccValue). InOpenWindow size slide (λ e. int_le e t) f.0.0) held

-- what is left brings the same to every window that is still open
pub record Forgets (size slide : ℤ) (passed : Option ℤ) (held rest : Table) : Type 0 where
  pub leaves : (d : ℤ) (key : List ℕ) → is_multiple slide d ≡ true → is_due passed d ≡ false → total (held_in size d key) rest ≡ total (held_in size d key) held
  pub leaves_at : (end : ℤ) (key : List ℕ) → InOpenWindow size slide (is_due passed) end → total (held_at end key) rest ≡ total (held_at end key) held
  pub kept : IsKept held → IsKept rest
  -- what is forgotten stood first
  pub first : Table
  pub held_is : held ≡ first ++ rest

-- a vertex may begin with this mark and these frames: they are its own, one for each end and key, end at multiples of the slide,
-- and lie in a window that ends above the mark
pub record MayBegin (vertex : ℕ) (size slide : ℤ) (begun : Option ℤ) (frames : List FrameValue) : Type 0 where
  pub vertices : Each (λ f. f.vertex ≡ vertex) frames
  pub multiples : Each (λ f. is_multiple slide f.end ≡ true) frames
  pub distinct : EachPair (λ f g. f.end ≡ g.end → f.key ≡ g.key → ⊥) frames
  pub open_yet : Each (λ f. is_due begun ((f.end +ℤ size) -ℤ slide) ≡ false) frames

-- the table has of these frames what they join to, and no other ends
pub record TableOf (frames : List FrameValue) (held : Table) : Type 0 where
  pub joins : (size e : ℤ) (key : List ℕ) → total (held_in size e key) held ≡ total (frame_in size e key) frames
  pub joins_at : (end : ℤ) (key : List ℕ) → total (held_at end key) held ≡ total (frame_at end key) frames
  pub opens : (size slide : ℤ) (due : ℤ → Bool) → Each (λ f. InOpenWindow size slide due f.end) frames → Each (λ (f : Place × AccValue). InOpenWindow size slide due f.0.0) held
  pub kept : IsKept held
