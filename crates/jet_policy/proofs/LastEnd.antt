-- The end of the last window that holds a frame.
use Rattle.std.proofs.Common.{◌≡◌, arith, ℤ, pos, negsuc, ◌+ℤ◌, ◌-ℤ◌, ◌≤ℤ◌, ◌<ℤ◌, subst}
use Rattle.std.specs.Int.{int_rem_euclid}
use Rattle.std.proofs.lemmas.Int.{ints}
use borrow.Author.Differences.{product_is}
use Rattle.jet_items.specs.Grid.{IsMultiple, floor_to}
use Rattle.jet_items.proofs.GridLemmas.{floor_is, multiple_less, multiple_apart}
use Rattle.jet_policy.specs.Policy.{IsPolicy, IsLastEnd}

pub multiple_itself : (step : ℤ) → pos 1 ≤ℤ step → IsMultiple step step
multiple_itself (pos n) h = (pos 1, omega (arith, ints, product_is (pos 1) (pos n)))
multiple_itself (negsuc n) h = absurd (omega (arith, ints))

-- a size without a remainder is a multiple
pub multiple_size : (size slide : ℤ) → pos 1 ≤ℤ slide → int_rem_euclid size slide ≡ pos 0 → IsMultiple slide size
multiple_size size slide low whole =
    let floor : floor_to slide size ≡ size = omega (arith, ints, whole) in
    subst (IsMultiple slide) floor (floor_is slide size low).multiple

-- a size is at least a slide
pub slide_le_size : (size slide : ℤ) → IsPolicy size slide → slide ≤ℤ size
slide_le_size size slide policy =
    let itself : IsMultiple slide slide = multiple_itself slide policy.slide_low in
    let some : pos 1 ≤ℤ size = policy.size_low in
    let below : (slide -ℤ slide) <ℤ size = omega (arith, ints) in
    let apart = multiple_apart slide (slide -ℤ slide) size policy.slide_low (multiple_less slide slide slide policy.slide_low itself itself) (multiple_size size slide policy.slide_low policy.whole) below in
    omega (arith, ints, apart)

pub last_end_is : (size slide end : ℤ) → IsPolicy size slide → IsMultiple slide end → IsLastEnd size slide end ((end +ℤ size) -ℤ slide)
last_end_is size slide end policy is =
    let less : IsMultiple slide (slide -ℤ size) = multiple_less slide slide size policy.slide_low (multiple_itself slide policy.slide_low) (multiple_size size slide policy.slide_low policy.whole) in
    let same : end -ℤ (slide -ℤ size) ≡ (end +ℤ size) -ℤ slide = omega (arith, ints) in
    let le : slide ≤ℤ size = slide_le_size size slide policy in
    record {
      multiple = subst (IsMultiple slide) same (multiple_less slide end (slide -ℤ size) policy.slide_low is less);
      holds = (omega (arith, ints), omega (arith, ints));
      last = λ e e_is holds. let p = holds.0 in omega (arith, ints);
    }
