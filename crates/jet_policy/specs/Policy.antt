-- What contracts see of a policy.
use Rattle.std.specs.Prelude.{◌≡◌, ℤ, pos, ◌-ℤ◌, ◌*ℤ◌, ◌≤ℤ◌}
use Rattle.std.specs.Int.{int_rem_euclid}
use Rattle.jet_items.specs.Grid.{IsMultiple}

pub record PolicyValue : Type 0 where
  pub size : ℤ
  pub slide : ℤ

-- the size is one to 1024 slides, and both are from 1 to 10 ^ 12
pub record IsPolicy (size slide : ℤ) : Type 0 where
  pub size_low : pos 1 ≤ℤ size
  pub size_high : size ≤ℤ pos 1000000000000
  pub slide_low : pos 1 ≤ℤ slide
  pub slide_high : slide ≤ℤ pos 1000000000000
  pub whole : int_rem_euclid size slide ≡ pos 0
  pub ratio : size ≤ℤ (pos 1024 *ℤ slide)

-- the window that ends at e holds the whole frame that ends at `end`, a slide long
abbrev pub HoldsFrame : ℤ → ℤ → ℤ → ℤ → Type 0
HoldsFrame size slide end e = ((e -ℤ size) ≤ℤ (end -ℤ slide)) × (end ≤ℤ e)

-- r ends the last window that holds the frame
pub record IsLastEnd (size slide end r : ℤ) : Type 0 where
  pub multiple : IsMultiple slide r
  pub holds : HoldsFrame size slide end r
  pub last : (e : ℤ) → IsMultiple slide e → HoldsFrame size slide end e → e ≤ℤ r
