use Rattle.std.proofs.Common.{arith, ◌≡◌, ◌-ℤ◌, to_z-of_z, w64, FitsSigned}
use Rattle.std.proofs.lemmas.Int.{ints}
use Rattle.std.specs.Int.{int_rem_euclid}
use Rattle.jet_items.proofs.GridLemmas.{rem_bounds}
use Rattle.jet_policy.proofs.marker.mark_below.Goals as goal

pub returns : goal.returns
returns c =
    let fits_lag : FitsSigned w64 c.args.lag = c.ranges.lag in
    let fits_grain : FitsSigned w64 c.args.grain = c.ranges.grain in
    let fits_greatest : FitsSigned w64 c.args.greatest = c.ranges.greatest in
    let fits : FitsSigned w64 (c.args.greatest -ℤ c.args.lag) = omega (arith, ints, c.requires.time) in
    let is : c.rem_euclid.result ≡ int_rem_euclid (c.args.greatest -ℤ c.args.lag) c.args.grain = simp to_z-of_z at c.rem_euclid.ensures.value in
    omega (arith, ints, is, c.requires.time, rem_bounds (c.args.greatest -ℤ c.args.lag) c.args.grain c.requires.grain_low)
