use Rattle.std.proofs.Common.{Bool}
use Rattle.jet_ring.specs.Ring.{sent}
use Rattle.jet_feed.proofs.StepLemmas.{reads_inside}
use Rattle.jet_feed.proofs.feed.Feed.step.Goals as goal

pub returns-in-Err-clause-bad : goal.returns-in-Err-clause-bad
returns-in-Err-clause-bad g c = c.in-Err.ensures.bad (g.O.Outside.told c.args.out.now) (sent c.args.tx.now)

pub returns-in-Err-clause-told : goal.returns-in-Err-clause-told
returns-in-Err-clause-told g c = reads_inside Bool c.args.self.now c.in-Err.stop (g.O.Outside.told c.args.out.now) c.in-Err.ensures.inside
