use Rattle.std.proofs.Common.{◌≡◌, drop}
use Rattle.serde_json.specs.View.{items_view}
use Rattle.jet_job.specs.Members.{each_at}
use Rattle.jet_job.specs.Legs.{leg_at}
use Rattle.jet_job.proofs.Loops.{with_front}
use Rattle.jet_job.proofs.legs.each_leg.Given as goal

abbrev pub invariant-loop-i : goal.invariant-loop-i
invariant-loop-i l = with_front l.legs (each_at (leg_at l.vertex) l.i (items_view (drop l.i l.items))) ≡ each_at (leg_at l.vertex) 0 (items_view l.items)
