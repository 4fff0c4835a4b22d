use Rattle.jet_layout.proofs.Ranges.{grown_one, map_more}
use Rattle.jet_layout.proofs.files.add_ports.Goals as goal

pub loop-place-preserved : goal.loop-place-preserved
loop-place-preserved c = grown_one _ _ _ _ c.loop-place.invariant c.in_ok-push.ensures c.file_port.ensures (map_more _ c.loop-place.place)
