-- What a frame vertex holds, as the definitions speak of it.
use Rattle.jet_window.specs.declared.frame.FrameP.{FrameP}
use Rattle.jet_window.specs.FrameTables.{Table}

-- the accumulators that it holds, by end and key
abbrev pub held_by : FrameP → Table
held_by p = p.held
