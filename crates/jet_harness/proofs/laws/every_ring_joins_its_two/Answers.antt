use Rattle.jet_harness.proofs.Placing.{joined}
use Rattle.jet_harness.proofs.laws.every_ring_joins_its_two.Goals as goal

pub returns : goal.returns
returns c = λ cs capacity rings j n ch at. joined cs capacity rings c.args.harness.now j n ch at
