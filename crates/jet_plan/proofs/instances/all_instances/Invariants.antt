use Rattle.std.proofs.Common.{◌≡◌, ◌≤◌, ◌*◌}
use Rattle.jet_plan.specs.Rings.{sum_below, instances}
use Rattle.jet_plan.proofs.instances.all_instances.Given as goal

abbrev pub invariant-loop-member : goal.invariant-loop-member
invariant-loop-member l = (l.count ≡ sum_below l.member (instances l.vertex)) × (l.count ≤ 255 * l.member)
