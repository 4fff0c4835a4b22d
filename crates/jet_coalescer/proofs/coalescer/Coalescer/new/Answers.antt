use Rattle.std.proofs.Common.{refl}
use Rattle.jet_coalescer.proofs.Rising.{new_told, new_heard, new_fits}
use Rattle.jet_coalescer.proofs.coalescer.Coalescer.new.Goals as goal

pub returns-clause-told : goal.returns-clause-told
returns-clause-told c = new_told c.args.n _ c.in_ok-queues.ensures refl

pub returns-clause-heard : goal.returns-clause-heard
returns-clause-heard c = new_heard c.args.n _ c.in_ok-queues.ensures refl

pub invariant_of-result : goal.invariant_of-result
invariant_of-result c = new_fits c.args.n _ c.in_ok-queues.ensures
