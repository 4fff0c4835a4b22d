use Rattle.jet_crew.proofs.Listing.{of_workers, of_list}
use Rattle.jet_crew.proofs.laws.one_list_keeps_as_workers_do.Goals as goal

pub returns-clause-workers : goal.returns-clause-workers
returns-clause-workers g c = of_workers g.T.Turns.keeps c.args.workers.now c.args.order.now

pub returns-clause-list : goal.returns-clause-list
returns-clause-list g c = of_list g.T.Turns.keeps c.args.workers.now c.args.order.now
