use Rattle.jet_window.proofs.Between.{follow}
use Rattle.jet_window.proofs.laws.rows_follow.Goals as goal

pub returns : goal.returns
returns c = follow
