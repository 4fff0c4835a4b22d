-- Sums over the numbers below another.
use Rattle.std.proofs.Common.{◌≡◌, ℕ, ◌+◌, ap, add-one}
use Rattle.jet_plan.specs.Rings.{sum_below}

-- one summand more
pub sum_below_more : (n : ℕ) (f : ℕ → ℕ) → sum_below (n + 1) f ≡ sum_below n f + f n
sum_below_more n f = ap (λ m. sum_below m f) (add-one n)
