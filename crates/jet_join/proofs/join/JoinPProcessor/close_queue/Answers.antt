use Rattle.std.proofs.Common.{refl}
use Rattle.jet_boxes.specs.Entry.{QueueClosed}
use Rattle.jet_join.proofs.Calling.{none_call}
use Rattle.jet_join.proofs.join.JoinPProcessor.close_queue.Goals as goal

pub returns-clause-call : goal.returns-clause-call
returns-clause-call c = none_call c.args.self.now (QueueClosed c.args.port c.args.queue) c.args.out.now (λ rows. refl) refl
