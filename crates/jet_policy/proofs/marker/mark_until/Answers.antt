use Rattle.std.proofs.Common.{arith, ◌-ℤ◌}
use Rattle.std.proofs.lemmas.Int.{ints}
use Rattle.jet_items.proofs.GridLemmas.{rem_bounds}
use Rattle.jet_policy.proofs.marker.mark_until.Goals as goal

pub invariant_of-result : goal.invariant_of-result
invariant_of-result c =
    let rem = rem_bounds (c.args.greatest -ℤ c.args.lag) c.args.grain c.requires.marker.grain_low in
    (omega (arith, ints, c.requires.rise, c.requires.marker.time, rem), omega (arith, ints, c.requires.rise, c.requires.marker.time, rem))

pub returns : goal.returns
returns c = omega (arith, ints, c.requires.rise, c.requires.marker.time, rem_bounds (c.args.greatest -ℤ c.args.lag) c.args.grain c.requires.marker.grain_low)
