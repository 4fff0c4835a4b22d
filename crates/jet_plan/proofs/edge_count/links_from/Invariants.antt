use Rattle.std.proofs.Common.{◌≡◌, ◌≤◌, ◌*◌, ◌==◌, if◌then◌else◌}
use Rattle.jet_plan.specs.Rings.{sum_below, instances, link_rings, link_count}
use Rattle.jet_plan.proofs.edge_count.links_from.Given as goal

abbrev pub invariant-loop-other : goal.invariant-loop-other
invariant-loop-other l = (l.rings ≡ sum_below l.other (λ k. if k == l.member then 0 else link_rings (instances l.from l.member) (instances l.to k)))
    × (l.links ≡ sum_below l.other (λ k. if k == l.member then 0 else link_count (instances l.from l.member) (instances l.to k)))
    × (l.rings ≤ 510 * l.other) × (l.links ≤ l.other)
