-- What a floor is.
use Rattle.std.specs.Prelude.{ℤ, ◌≤ℤ◌}

-- q is the greatest whole number that fits
pub record IsGreatest (Fits : ℤ → Type 0) (q : ℤ) : Type 0 where
  pub fits : Fits q
  pub greatest : (m : ℤ) → Fits m → m ≤ℤ q
