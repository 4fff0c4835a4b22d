use Rattle.jet_layout.proofs.Ranges.{grown, flat_map_more}
use Rattle.jet_layout.proofs.wires.add_local.Goals as goal

pub loop-producer-preserved : goal.loop-producer-preserved
loop-producer-preserved c = grown _ _ _ c.loop-producer.invariant c.in_ok-add_producer.ensures (flat_map_more _ c.loop-producer.producer)
