use Rattle.std.proofs.Common.{IsTrue}
use Rattle.jet_feed.proofs.tests.feed_through.Given as goal

abbrev pub invariant-loop : goal.invariant-loop
invariant-loop g l = IsTrue (g.O.Outside.opened l.out l.feed.file)
