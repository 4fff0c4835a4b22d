use Rattle.jet_spell.proofs.Lists.{front_of}
use Rattle.jet_spell.proofs.laws.front_of.Goals as goal

pub returns : goal.returns
returns c = front_of
