use Rattle.std.proofs.Common.{refl}
use Rattle.jet_boxes.specs.Entry.{Finish}
use Rattle.jet_join.proofs.Calling.{none_call}
use Rattle.jet_join.proofs.join.JoinPProcessor.finish.Goals as goal

pub returns-clause-call : goal.returns-clause-call
returns-clause-call c = none_call c.args.self.now Finish c.args.out.now (λ rows. refl) refl
