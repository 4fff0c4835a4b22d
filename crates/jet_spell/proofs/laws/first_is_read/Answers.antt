use Rattle.jet_spell.proofs.Lists.{first_is_read}
use Rattle.jet_spell.proofs.laws.first_is_read.Goals as goal

pub returns : goal.returns
returns c = first_is_read
