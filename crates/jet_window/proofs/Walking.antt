-- From one end to the next.
use Rattle.std.proofs.Common.{◌≡◌, ◌+◌, ◌-◌, ◌<◌, arith, ℤ, pos, ◌+ℤ◌, ◌-ℤ◌, ◌≤ℤ◌, ◌<ℤ◌, subst, to_z, of_z, w64}
use Rattle.std.proofs.lemmas.Int.{ints}
use borrow.Author.Differences.{up, down}
use Rattle.jet_items.specs.Grid.{IsMultiple}
use Rattle.jet_items.specs.Ranges.{IsWithin, most_time, most_row_end}
use Rattle.jet_items.proofs.GridLemmas.{multiple_less}
use Rattle.jet_policy.proofs.LastEnd.{multiple_itself}

pub end_within : (ts now first last end : ℤ) → IsWithin most_time ts → ts ≡ now → now <ℤ first → last ≤ℤ (now +ℤ pos 1000000000000) → first ≤ℤ end → end ≤ℤ last → IsWithin most_row_end end
end_within ts now first last end within is above stop low high = let a = within.0 in let b = within.1 in (omega (arith, ints), omega (arith, ints))

pub end_next : (end slide : ℤ) → IsWithin most_row_end end → (pos 1 ≤ℤ slide) × (slide ≤ℤ pos 1000000000000) → to_z w64 (of_z w64 (end +ℤ slide)) ≡ end +ℤ slide
end_next end slide within sizes = let a = within.0 in let b = within.1 in let p = sizes.0 in let q = sizes.1 in omega (arith, ints)

pub nearer : (end slide : ℤ) → IsWithin most_row_end end → (pos 1 ≤ℤ slide) × (slide ≤ℤ pos 1000000000000)
    → let next : ℤ = to_z w64 (of_z w64 (end +ℤ slide)) in 4000000000000000 + down next - up next < 4000000000000000 + down end - up end
nearer end slide within sizes = let a = within.0 in let b = within.1 in let p = sizes.0 in let q = sizes.1 in let n = end_next end slide within sizes in omega (arith, ints, n)

pub multiple_next : (slide end : ℤ) → pos 1 ≤ℤ slide → IsMultiple slide end → IsMultiple slide (end +ℤ slide)
multiple_next slide end low is =
    let itself : IsMultiple slide slide = multiple_itself slide low in
    let none : IsMultiple slide (slide -ℤ slide) = multiple_less slide slide slide low itself itself in
    let back : IsMultiple slide ((slide -ℤ slide) -ℤ slide) = multiple_less slide (slide -ℤ slide) slide low none itself in
    let same : end -ℤ ((slide -ℤ slide) -ℤ slide) ≡ end +ℤ slide = omega (arith, ints) in
    subst (IsMultiple slide) same (multiple_less slide end ((slide -ℤ slide) -ℤ slide) low is back)
