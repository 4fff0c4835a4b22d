use Rattle.jet_spell.proofs.Items.{reads_back}
use Rattle.jet_spell.proofs.laws.reads_back.Goals as goal

pub returns : goal.returns
returns c = reads_back
