use Rattle.jet_laws.proofs.OneTable.{rows_are_one}
use Rattle.jet_laws.proofs.rows.rows_are_one.Goals as goal

pub returns : goal.returns
returns c = rows_are_one
