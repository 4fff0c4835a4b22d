-- That quotients are floors.
use Rattle.std.proofs.Common.{◌≡◌, ◌≢◌, ℕ, zero, suc, ◌+◌, ◌*◌, ◌<◌, ◌≤◌, arith, ℤ, pos, negsuc, neg_ℤ, ◌+ℤ◌, ◌*ℤ◌, ◌≤ℤ◌, ◌<ℤ◌, refl, sym, subst, false}
use Rattle.std.specs.Prelude.{int_lt, if◌then◌else◌}
use Rattle.std.specs.Ordering.{int_eq}
use Rattle.std.proofs.Math.Nat.{mul-le-mul_right}
use Rattle.std.proofs.lemmas.Bool.{cases_lt}
use Rattle.std.proofs.lemmas.Int.{ints}
use Rattle.std.specs.Int.{int_div_euclid, int_rem_euclid}
use Rattle.jet_expr.specs.Floors.{IsGreatest}
use Rattle.jet_expr.specs.Value.{floor_quotient, floor_remainder}
use borrow.Author.Differences.{up, down, product_is}
use mathlib.Core.Logic.{inl, inr}

-- the remainder and the quotient of a divisor above 0
record Parts (a : ℤ) (n : ℕ) : Type 0 where
  sum : up (int_rem_euclid a (pos n)) + up (int_div_euclid a (pos n)) * n + down a ≡ down (int_div_euclid a (pos n)) * n + up a
  low : down (int_rem_euclid a (pos n)) ≡ 0
  high : up (int_rem_euclid a (pos n)) < n

parts : (a : ℤ) (n : ℕ) → 0 < n → Parts a n
parts (pos a) n h = record { sum = omega arith; low = omega arith; high = omega arith }
parts (negsuc a) n h = record { sum = omega arith; low = omega arith; high = omega arith }

cancel : (x y n : ℕ) → x * n < y * n + n → x ≤ y
cancel x y n h = elim (cases_lt y x) [
  | inl above ↦ absurd (omega (arith, mul-le-mul_right n above))
  | inr below ↦ below
]

whole : (a : ℤ) (n : ℕ) → 0 < n → a ≡ pos n *ℤ int_div_euclid a (pos n) +ℤ int_rem_euclid a (pos n)
whole a n h =
    let p = parts a n h in
    omega (arith, ints, p.sum, p.low, p.high, product_is (pos n) (int_div_euclid a (pos n)))

fits_below : (a : ℤ) (n : ℕ) → 0 < n → (int_div_euclid a (pos n) *ℤ pos n) ≤ℤ a
fits_below a n h =
    let p = parts a n h in
    omega (arith, ints, p.sum, p.low, p.high, product_is (int_div_euclid a (pos n)) (pos n))

no_greater : (a m : ℤ) (n : ℕ) → 0 < n → (m *ℤ pos n) ≤ℤ a → m ≤ℤ int_div_euclid a (pos n)
no_greater a m n h le =
    let p = parts a n h in
    let q = int_div_euclid a (pos n) in
    let apart : (up m + down q) * n < (up q + down m) * n + n = omega (arith, ints, le, p.sum, p.low, p.high, product_is m (pos n)) in
    let near : up m + down q ≤ up q + down m = cancel (up m + down q) (up q + down m) n apart in
    omega (arith, ints, near)

not_zero : (n : ℕ) → int_eq (pos (suc n)) (pos 0) ≡ false
not_zero n = grind (arith, ints)

not_below : (n : ℕ) → int_lt (pos (suc n)) (pos 0) ≡ false
not_below n = grind (arith, ints)

-- a divisor above 0 has the plain quotient and remainder
by_cases : (n : ℕ) (x y z : ℤ) → (if int_eq (pos (suc n)) (pos 0) then x else if int_lt (pos (suc n)) (pos 0) then y else z) ≡ z
by_cases n x y z = rw (not_zero n, not_below n) refl

quotient_is : (a : ℤ) (n : ℕ) → floor_quotient a (pos (suc n)) ≡ int_div_euclid a (pos (suc n))
quotient_is a n = by_cases n _ _ _

remainder_is : (a : ℤ) (n : ℕ) → floor_remainder a (pos (suc n)) ≡ int_rem_euclid a (pos (suc n))
remainder_is a n = by_cases n _ _ _

pub floor_above : (a b : ℤ) → pos 0 <ℤ b → IsGreatest (λ q. (q *ℤ b) ≤ℤ a) (floor_quotient a b)
floor_above a (pos zero) h = absurd (omega (arith, ints, h))
floor_above a (pos (suc n)) h =
    subst (IsGreatest (λ q. (q *ℤ pos (suc n)) ≤ℤ a)) (sym (quotient_is a n)) (record { fits = fits_below a (suc n) (omega arith); greatest = λ m le. no_greater a m (suc n) (omega arith) le })
floor_above a (negsuc n) h = absurd (omega (arith, ints, h))

flip : (q : ℤ) (n : ℕ) → q *ℤ negsuc n ≡ neg_ℤ (q *ℤ pos (suc n))
flip q n = omega (arith, ints, product_is q (pos (suc n)), product_is q (negsuc n))

pub floor_below : (a b : ℤ) → b <ℤ pos 0 → IsGreatest (λ q. a ≤ℤ (q *ℤ b)) (floor_quotient a b)
floor_below a (pos n) h = absurd (omega (arith, ints, h))
floor_below a (negsuc n) h = record {
  fits = omega (arith, ints, fits_below (neg_ℤ a) (suc n) (omega arith), flip (int_div_euclid (neg_ℤ a) (pos (suc n))) n);
  greatest = λ m le. no_greater (neg_ℤ a) m (suc n) (omega arith) (omega (arith, ints, le, flip m n));
}

flip_left : (q : ℤ) (n : ℕ) → negsuc n *ℤ q ≡ neg_ℤ (pos (suc n) *ℤ q)
flip_left q n = omega (arith, ints, product_is (pos (suc n)) q, product_is (negsuc n) q)

pub floor_leaves : (a b : ℤ) → b ≢ pos 0 → a ≡ b *ℤ floor_quotient a b +ℤ floor_remainder a b
floor_leaves a (pos zero) ne = absurd (ne refl)
floor_leaves a (pos (suc n)) ne = rw (quotient_is a n, remainder_is a n) (whole a (suc n) (omega arith))
floor_leaves a (negsuc n) ne =
    omega (arith, ints, whole (neg_ℤ a) (suc n) (omega arith), flip_left (int_div_euclid (neg_ℤ a) (pos (suc n))) n)
