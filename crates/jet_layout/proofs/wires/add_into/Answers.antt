use Rattle.jet_layout.proofs.Ranges.{grown_one, map_more}
use Rattle.jet_layout.proofs.Wiring.{same_wire}
use Rattle.jet_layout.proofs.wires.add_into.Goals as goal

pub loop-producer-preserved : goal.loop-producer-preserved
loop-producer-preserved c = (c.loop-producer.invariant.0, grown_one _ _ _ _ c.loop-producer.invariant.1 c.in_ok-push.ensures (same_wire c.port-giver.ensures c.loop-producer.invariant.0) (map_more _ c.loop-producer.producer))
