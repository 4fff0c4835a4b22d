use Rattle.jet_window.proofs.Counts.{few_rows}
use Rattle.jet_window.proofs.stages.few_rows.Goals as goal

pub returns : goal.returns
returns c = few_rows
