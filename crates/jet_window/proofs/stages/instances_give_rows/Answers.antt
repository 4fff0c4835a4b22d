use Rattle.jet_window.proofs.Staging.{instances_give_rows}
use Rattle.jet_window.proofs.stages.instances_give_rows.Goals as goal

pub returns : goal.returns
returns c = instances_give_rows
