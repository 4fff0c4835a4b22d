use Rattle.std.proofs.Common.{◌≡◌, ◌≤◌, ◌*◌}
use Rattle.jet_plan.specs.Rings.{sum_below, instances, local_rings}
use Rattle.jet_plan.proofs.edge_count.all_local_rings.Given as goal

abbrev pub invariant-loop-member : goal.invariant-loop-member
invariant-loop-member l = (l.rings ≡ sum_below l.member (λ m. local_rings l.edge.route (instances l.from m) (instances l.to m))) × (l.rings ≤ 65025 * l.member)
