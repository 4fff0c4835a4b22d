use Rattle.jet_spell.proofs.Items.{one_spelling}
use Rattle.jet_spell.proofs.laws.one_spelling.Goals as goal

pub returns : goal.returns
returns c = one_spelling
