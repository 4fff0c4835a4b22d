use Rattle.jet_feed.proofs.BadLemmas.{bad_cut}
use Rattle.jet_feed.proofs.feed.Feed.cut.Goals as goal

pub returns-in-Bad-clause-bad : goal.returns-in-Bad-clause-bad
returns-in-Bad-clause-bad c = λ told items. bad_cut c.args.self.now c.in-Bad.line c.in-Bad.why c.next.new.self told items c.requires.read c.in-Bad.ensures
