use Rattle.std.specs.Vec.Iter.{into_iter_items}
use Rattle.jet_deploy.proofs.Dealt.{IsDealing}
use Rattle.jet_deploy.proofs.dealing.deal.Given as goal

abbrev pub invariant-loop-task : goal.invariant-loop-task
invariant-loop-task g l = IsDealing l.members l.each l.sites l.workers.items l.order.items l.turns.next l.yielded (into_iter_items l.task-iterator) l.fn.tasks.items
