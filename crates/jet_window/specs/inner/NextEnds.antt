-- The next window of a combine vertex.
use Rattle.std.specs.Prelude.{◌≡◌, ℕ, ◌+◌, ◌-◌, true, false, ℤ, pos, ◌+ℤ◌, ◌<ℤ◌, ◌≤ℤ◌, int_lt, List, Option, Some, None}
use borrow.Author.Differences.{up, down}
use Rattle.jet_items.specs.Order.{Each}
use Rattle.jet_items.specs.Totals.{total}
use Rattle.jet_items.specs.Values.{AccValue}
use Rattle.jet_items.specs.Ranges.{IsWithin, most_row_end, most_frame_end}
use Rattle.jet_window.specs.FrameTables.{Table, held_in}
use Rattle.jet_window.specs.Tables.{Place, is_multiple}
use Rattle.jet_window.specs.Taken.{is_due, InOpenWindow}

-- e is the least multiple of the slide that is at least `end` and above what passed
pub record IsEndAbove (slide : ℤ) (passed : Option ℤ) (end e : ℤ) : Type 0 where
  pub multiple : is_multiple slide e ≡ true
  pub later : is_due passed e ≡ false
  pub at_least : end ≤ℤ e
  pub least : (d : ℤ) → is_multiple slide d ≡ true → is_due passed d ≡ false → end ≤ℤ d → e ≤ℤ d

-- each held frame lies in a window that ends at e or later
abbrev pub HeldUntil : ℤ → ℤ → ℤ → Table → Type 0
HeldUntil size slide e held = Each (λ (f : Place × AccValue). InOpenWindow size slide (λ d. int_lt d e) f.0.0) held

-- e ends the first window that is open and has a frame
pub record IsNextEnd (size slide : ℤ) (passed : Option ℤ) (held : Table) (e : ℤ) : Type 0 where
  pub multiple : is_multiple slide e ≡ true
  pub later : is_due passed e ≡ false
  pub skips : (d : ℤ) (key : List ℕ) → is_multiple slide d ≡ true → is_due passed d ≡ false → d <ℤ e → total (held_in size d key) held ≡ None
  pub has : (key : List ℕ) × (total (held_in size e key) held ≡ None → ⊥)
  pub reaches : HeldUntil size slide e held
  pub range : IsWithin most_row_end e
  pub low : pos 0 ≤ℤ (e +ℤ pos most_frame_end)

-- how far what passed is from the last end of a row; before the first window farther than any end of a frame, since frames and
-- rows end within little more than 10 ^ 15 on both sides of 0
abbrev pub gap : Option ℤ → ℕ
gap None = 4000000000000000
gap (Some p) = most_row_end + down p - up p
