use Rattle.jet_window.proofs.Gathering.{ordered_are_rows}
use Rattle.jet_window.proofs.stages.ordered_are_rows.Goals as goal

pub returns : goal.returns
returns c = ordered_are_rows
