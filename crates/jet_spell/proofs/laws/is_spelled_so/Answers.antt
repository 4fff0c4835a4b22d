use Rattle.jet_spell.proofs.Items.{spelled_so}
use Rattle.jet_spell.proofs.laws.is_spelled_so.Goals as goal

pub returns : goal.returns
returns c = spelled_so
