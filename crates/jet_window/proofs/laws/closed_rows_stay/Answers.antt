use Rattle.jet_window.proofs.Between.{closed_stay}
use Rattle.jet_window.proofs.laws.closed_rows_stay.Goals as goal

pub returns : goal.returns
returns c = closed_stay
