use Rattle.jet_harness.proofs.Placing.{one_at_giver, one_at_taker, sends, receives}
use Rattle.jet_harness.proofs.laws.every_end_is_of_one_ring.Goals as goal

pub returns-clause-givers : goal.returns-clause-givers
returns-clause-givers c = λ cs capacity rings j g d lt. one_at_giver cs capacity rings c.args.harness.now j g d lt

pub returns-clause-takers : goal.returns-clause-takers
returns-clause-takers c = λ cs capacity rings j t q lt. one_at_taker cs capacity rings c.args.harness.now j t q lt

pub returns-clause-sends : goal.returns-clause-sends
returns-clause-sends c = λ cs capacity rings j g. sends cs capacity rings c.args.harness.now j g

pub returns-clause-receives : goal.returns-clause-receives
returns-clause-receives c = λ cs capacity rings j t. receives cs capacity rings c.args.harness.now j t
