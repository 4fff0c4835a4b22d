use Rattle.std.proofs.Common.{◌≡◌, drop}
use Rattle.serde_json.specs.View.{items_view}
use Rattle.jet_job.specs.Members.{each_at}
use Rattle.jet_job.specs.Edges.{edge_at}
use Rattle.jet_job.proofs.Loops.{with_front}
use Rattle.jet_job.proofs.read.each_edge.Given as goal

abbrev pub invariant-loop-i : goal.invariant-loop-i
invariant-loop-i l = with_front l.edges (each_at edge_at l.i (items_view (drop l.i l.items))) ≡ each_at edge_at 0 (items_view l.items)
