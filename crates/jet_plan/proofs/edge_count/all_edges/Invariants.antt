use Rattle.std.proofs.Common.{◌≡◌, ◌≤◌, ◌*◌, take, sum_by}
use Rattle.jet_plan.specs.Rings.{rings_of, links_of}
use Rattle.jet_plan.proofs.edge_count.all_edges.Given as goal

abbrev pub invariant-loop-edge : goal.invariant-loop-edge
invariant-loop-edge l = (l.rings ≡ sum_by (rings_of l.members l.vertices) (take l.edge-index l.edges))
    × (l.links ≡ sum_by (links_of l.members l.vertices) (take l.edge-index l.edges))
    × (l.rings ≤ 268260 * l.edge-index) × (l.links ≤ 16 * l.edge-index)
