use Rattle.jet_laws.proofs.Tables.{rows_exist}
use Rattle.jet_laws.proofs.rows.rows_exist.Goals as goal

pub returns : goal.returns
returns c = rows_exist
