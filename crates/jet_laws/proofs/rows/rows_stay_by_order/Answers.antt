use Rattle.jet_laws.proofs.OneTable.{rows_stay_by_order}
use Rattle.jet_laws.proofs.rows.rows_stay_by_order.Goals as goal

pub returns : goal.returns
returns c = rows_stay_by_order
