use Rattle.jet_window.proofs.Staging.{one_row_each}
use Rattle.jet_window.proofs.stages.one_row_each.Goals as goal

pub returns : goal.returns
returns c = one_row_each
