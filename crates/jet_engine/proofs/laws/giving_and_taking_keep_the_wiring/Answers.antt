use Rattle.jet_engine.proofs.Lasting.{wired_outside}
use Rattle.jet_engine.proofs.laws.giving_and_taking_keep_the_wiring.Goals as goal

pub returns : goal.returns
returns c = wired_outside
