-- What a frame vertex knows of time is right.
use Rattle.std.proofs.Common.{◌≡◌, Bool, true, false, ℤ, pos, ◌+ℤ◌, ◌-ℤ◌, ◌<ℤ◌, ◌≤ℤ◌, Option, Some, None, refl, arith}
use Rattle.std.specs.Prelude.{◌||◌, int_lt}
use Rattle.std.specs.Int.{int_max}
use Rattle.std.proofs.lemmas.Int.{ints, by_lt_z}
use Rattle.jet_items.specs.Frames.{frame_end}
use Rattle.jet_items.specs.Grid.{IsMultiple, IsFrameEnd, floor_to}
use Rattle.jet_items.specs.Ranges.{IsWithin, most_time, most_frame_end}
use Rattle.jet_items.proofs.GridLemmas.{frame_end_is, multiple_apart, rem_bounds}
use Rattle.jet_window.specs.LateEvents.{comes_late, is_below}
use Rattle.jet_window.specs.Times.{late_floor}

or_false : (b : Bool) → b ≡ (b || false)
or_false true = refl
or_false false = refl

below_greater : (ts a b : ℤ) → int_lt ts (int_max a b) ≡ (int_lt ts a || int_lt ts b)
below_greater ts a b = grind (arith, ints)

-- an event below the floor of both marks is one that comes late
pub below_late : (slide : ℤ) (begun last : Option ℤ) (ts : ℤ) → is_below (late_floor slide begun last) ts ≡ comes_late slide begun last ts
below_late slide None None ts = refl
below_late slide None (Some w) ts = refl
below_late slide (Some b) None ts = or_false (int_lt ts (floor_to slide b))
below_late slide (Some b) (Some w) ts = below_greater ts (floor_to slide b) (floor_to slide w)

-- a time in the frame that ends at a multiple
pub recent_end : (slide recent ts : ℤ) → pos 1 ≤ℤ slide → IsMultiple slide recent → ts <ℤ recent → (recent -ℤ slide) ≤ℤ ts → recent ≡ frame_end slide ts
recent_end slide recent ts low multiple above within =
    let end : IsFrameEnd slide ts (frame_end slide ts) = frame_end_is slide ts low in
    let most : frame_end slide ts ≤ℤ recent = end.least recent multiple above in
    let over : ts <ℤ frame_end slide ts = end.above in
    by_lt_z (frame_end slide ts) recent
    (λ lt. let apart : (frame_end slide ts +ℤ slide) ≤ℤ recent = multiple_apart slide (frame_end slide ts) recent low end.multiple multiple lt in absurd (omega (arith, ints)))
    (λ ge. omega (arith, ints))

pub end_range : (slide ts : ℤ) → pos 1 ≤ℤ slide → slide ≤ℤ pos 1000000000000 → IsWithin most_time ts → IsWithin most_frame_end (frame_end slide ts)
end_range slide ts low high within =
    let bounds = rem_bounds ts slide low in
    let a = within.0 in
    let b = within.1 in
    (omega (arith, ints, bounds), omega (arith, ints, bounds))

pub zero_multiple : (slide : ℤ) → IsMultiple slide (pos 0)
zero_multiple slide = (pos 0, omega (arith, ints))
