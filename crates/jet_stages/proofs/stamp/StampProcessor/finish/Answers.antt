use Rattle.jet_stages.proofs.Stamps.{finish_passes}
use Rattle.jet_stages.proofs.stamp.StampProcessor.finish.Goals as goal

pub returns-clause-call : goal.returns-clause-call
returns-clause-call c = finish_passes c.args.self.now c.args.out.now
