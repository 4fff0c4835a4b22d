-- That the buffers of all links fit into their bytes.
use Rattle.std.proofs.Common.{◌≡◌, ℕ, ◌+◌, ◌*◌, ◌/◌, ◌≤◌, min, max, Bool, true, false, nat_le, subst, sym, refl, arith}
use Rattle.std.proofs.lemmas.Bool.Decides.{nat_tests}
use Rattle.std.proofs.Math.Nat.{mul-div-le, mul-le-mul_left, mul-le-mul_right, le_trans, max-eq_left, max-eq_right}

-- of two numbers that both fit the greater one does
greater_fits : (n a b m : ℕ) (test : Bool) → nat_le a b ≡ test → n * a ≤ m → n * b ≤ m → n * max a b ≤ m
greater_fits n a b m true is h k = subst (λ (x : ℕ). n * x ≤ m) (sym (max-eq_right {n = a} {m = b} (grind (arith, nat_tests, is)))) k
greater_fits n a b m false is h k = subst (λ (x : ℕ). n * x ≤ m) (sym (max-eq_left {n = a} {m = b} (grind (arith, nat_tests, is)))) h

-- no more than fit are taken, or four, which do
pub taken_fit : (n taken m : ℕ) → taken ≤ m / n → n * 4 ≤ m → n * max taken 4 ≤ m
taken_fit n taken m fits four = greater_fits n taken 4 m (nat_le taken 4) refl (le_trans (mul-le-mul_left n fits) (mul-div-le m n)) four

-- the least of three is at most the last
pub least_of_three : (wanted room least inner : ℕ) → least ≡ min wanted inner → inner ≡ min room 65536 → least ≤ room
least_of_three wanted room least inner is was = omega (arith, is, was)

-- four buffers of each link fit
pub four_fit : (links packet : ℕ) → links ≤ 1024 → packet ≤ 65536 → (links * packet) * 4 ≤ 1073741824
four_fit links packet few small =
    let most : links * packet ≤ 67108864 = le_trans (mul-le-mul_left links small) (mul-le-mul_right 65536 few) in
    omega (arith, most)
