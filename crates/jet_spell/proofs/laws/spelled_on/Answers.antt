use Rattle.std.proofs.Common.{refl}
use Rattle.jet_spell.proofs.Lists.{one_more}
use Rattle.jet_spell.proofs.laws.spelled_on.Goals as goal

pub returns : goal.returns
returns c = record { none = record { fits = tt; spelled = refl }; more = one_more }
