use Rattle.jet_layout.proofs.Ranges.{grown_one, map_more}
use Rattle.jet_layout.proofs.Wiring.{same_wire}
use Rattle.jet_layout.proofs.wires.add_producer.Goals as goal

pub loop-consumer-preserved : goal.loop-consumer-preserved
loop-consumer-preserved c = grown_one _ _ _ _ c.loop-consumer.invariant c.in_ok-push-2.ensures (same_wire c.port-giver.ensures c.taker-taker-in-loop-consumer.ensures) (map_more _ c.loop-consumer.consumer)
