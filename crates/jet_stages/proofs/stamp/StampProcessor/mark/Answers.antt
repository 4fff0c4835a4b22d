use Rattle.jet_stages.proofs.Stamps.{mark_passes}
use Rattle.jet_stages.proofs.stamp.StampProcessor.mark.Goals as goal

pub returns-clause-call : goal.returns-clause-call
returns-clause-call c = mark_passes c.args.self.now c.args.mark c.args.out.now
