use Rattle.std.proofs.Common.{◌≡◌, take}
use Rattle.jet_plan.specs.Growth.{longest_tag}
use Rattle.jet_plan.proofs.measure.longest_tag.Given as goal

abbrev pub invariant-loop-leg : goal.invariant-loop-leg
invariant-loop-leg l = l.longest ≡ longest_tag (take l.leg-index l.legs)
