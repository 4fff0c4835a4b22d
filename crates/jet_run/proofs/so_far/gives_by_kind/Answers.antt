use Rattle.jet_run.proofs.Gives.{gives, sent}
use Rattle.jet_run.proofs.so_far.gives_by_kind.Goals as goal

pub returns-clause-entered : goal.returns-clause-entered
returns-clause-entered c = λ runs came gave k. gives c.args.tasklet.now came gave runs (c.law_gives_so_far.ensures.bag came gave k)

pub returns-clause-sent : goal.returns-clause-sent
returns-clause-sent c = λ runs came gave k. sent c.args.tasklet.now came gave runs k (c.law_gives_so_far.ensures.bag came gave k)
