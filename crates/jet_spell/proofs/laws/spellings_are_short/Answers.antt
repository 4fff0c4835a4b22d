use Rattle.jet_spell.proofs.Lengths.{short}
use Rattle.jet_spell.proofs.laws.spellings_are_short.Goals as goal

pub returns : goal.returns
returns c = short
