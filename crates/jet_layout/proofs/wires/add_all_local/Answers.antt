use Rattle.jet_layout.proofs.Ranges.{grown, flat_map_more}
use Rattle.jet_layout.proofs.wires.add_all_local.Goals as goal

pub loop-member-preserved : goal.loop-member-preserved
loop-member-preserved c = grown _ _ _ c.loop-member.invariant c.in_ok-add_local.ensures (flat_map_more _ c.loop-member.member)
