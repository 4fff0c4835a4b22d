use Rattle.std.proofs.Common.{arith}
use Rattle.std.proofs.lemmas.Int.{ints}
use Rattle.jet_window.proofs.Timing.{zero_multiple}
use Rattle.jet_window.proofs.times.Times.new.Goals as goal

pub invariant_of-result : goal.invariant_of-result
invariant_of-result c = record { policy_is = c.slide-slide.ensures.policy; floor_is = c.floor_of-floor.ensures; multiple = zero_multiple c.args.policy.slide; range = (omega (arith, ints), omega (arith, ints)) }
