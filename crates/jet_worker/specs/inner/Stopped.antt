-- The stop for a fault of the outside.
use Rattle.jet_file.specs.declared.outside.Out.{Out}
use Rattle.jet_file.specs.declared.outside.Out.TheVariants as out
use Rattle.jet_file.specs.declared.outside.OutFault.{OutFault}
use Rattle.jet_file.specs.declared.outside.OutFault.TheVariants as fault
use Rattle.jet_worker.specs.declared.stop.Call.{Call}
use Rattle.jet_worker.specs.declared.stop.Spot.{Spot}
use Rattle.jet_worker.specs.declared.stop.Spot.TheVariants.{Rows, Notes}
use Rattle.jet_worker.specs.declared.stop.Stop.{Stop}
use Rattle.jet_worker.specs.declared.stop.Stop.TheVariants.{Outside, NoMemory}

-- the place of an output
abbrev pub spot_of : Out → Spot
spot_of out.Rows = Rows
spot_of out.Notes = Notes

-- a failed call stops the run, and so does want of memory
abbrev pub stop_of : OutFault → Call → Spot → Stop
stop_of fault.Failed call spot = Outside call spot
stop_of fault.NoMemory call spot = NoMemory
