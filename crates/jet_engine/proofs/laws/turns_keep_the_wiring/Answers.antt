use Rattle.jet_engine.proofs.Lasting.{turns_keep, wired_still}
use Rattle.jet_engine.proofs.laws.turns_keep_the_wiring.Goals as goal

pub returns-clause-rings : goal.returns-clause-rings
returns-clause-rings c = turns_keep

pub returns-clause-wired : goal.returns-clause-wired
returns-clause-wired c = wired_still
