use Rattle.jet_window.proofs.Between.{rows_whole}
use Rattle.jet_window.proofs.laws.rows_end.Goals as goal

pub returns : goal.returns
returns c = rows_whole
