-- The answer to the end of a command.
use Rattle.std.specs.Prelude.{Result, Ok, Err}
use Rattle.jet_cli.specs.declared.status.Status.{Status}
use Rattle.jet_cli.specs.declared.status.Status.TheVariants as status
use Rattle.jet_worker.specs.declared.stop.Stop.{Stop}
use Rattle.jet_worker.specs.declared.stop.Stop.TheVariants as stop
use Rattle.jet_cli.specs.declared.halt.Halt.{Halt}
use Rattle.jet_cli.specs.declared.halt.Halt.TheVariants as halt

abbrev pub stopped_status : Stop → Status
stopped_status (stop.BadLine part line why) = status.BadLine part line why
stopped_status (stop.Outside call file) = status.OutsideFault call file
stopped_status stop.NoMemory = status.NoMemory

abbrev pub status_of : {T : Type 0} → Result T Halt → Status
status_of (Ok done) = status.Done
status_of (Err (halt.Refused why)) = status.JobRefused why
status_of (Err (halt.Stopped stop)) = stopped_status stop
