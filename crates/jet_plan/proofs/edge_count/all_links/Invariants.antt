use Rattle.std.proofs.Common.{◌≡◌, ◌≤◌, ◌*◌, ◌==◌, if◌then◌else◌}
use Rattle.jet_plan.specs.Rings.{sum_below, instances, link_rings, link_count}
use Rattle.jet_plan.proofs.edge_count.all_links.Given as goal

abbrev pub invariant-loop-member : goal.invariant-loop-member
invariant-loop-member l = (l.rings ≡ sum_below l.member (λ m. sum_below l.members (λ k. if k == m then 0 else link_rings (instances l.from m) (instances l.to k))))
    × (l.links ≡ sum_below l.member (λ m. sum_below l.members (λ k. if k == m then 0 else link_count (instances l.from m) (instances l.to k))))
    × (l.rings ≤ 2040 * l.member) × (l.links ≤ 4 * l.member)
