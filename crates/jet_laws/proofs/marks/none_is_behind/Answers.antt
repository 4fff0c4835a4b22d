use Rattle.jet_laws.proofs.InTime.{none_is_behind}
use Rattle.jet_laws.proofs.marks.none_is_behind.Goals as goal

pub returns : goal.returns
returns c = none_is_behind
