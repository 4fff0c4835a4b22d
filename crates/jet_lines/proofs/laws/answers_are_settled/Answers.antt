use Rattle.jet_lines.proofs.SettledLemmas.{settled}
use Rattle.jet_lines.proofs.laws.answers_are_settled.Goals as goal

pub returns : goal.returns
returns c = settled
