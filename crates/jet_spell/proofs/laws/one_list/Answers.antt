use Rattle.jet_spell.proofs.Lists.{one_list}
use Rattle.jet_spell.proofs.laws.one_list.Goals as goal

pub returns : goal.returns
returns c = one_list
