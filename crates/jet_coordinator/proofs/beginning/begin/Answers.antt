use Rattle.jet_flow.specs.Inflows.{windows}
use Rattle.jet_coordinator.proofs.BeginLemmas.{stops_with_feeds}
use Rattle.jet_coordinator.proofs.beginning.begin.Goals as goal

pub returns-in-Ok-over_feeds-clause-fit : goal.returns-in-Ok-over_feeds-clause-fit
returns-in-Ok-over_feeds-clause-fit g c = c.in-Ok-over_feeds.ensures.fit (g.O.Outside.opened c.open_feeds.new.out) c.in-Ok.ensures.fit

pub returns-in-Ok-over_feeds-clause-begun : goal.returns-in-Ok-over_feeds-clause-begun
returns-in-Ok-over_feeds-clause-begun g c = λ check is.
    c.in-Ok-over_feeds.ensures.begun check (g.O.Outside.opened c.args.out.now) (g.O.Outside.opened c.open_feeds.new.out) (g.O.Outside.told c.args.out.now) (g.O.Outside.told c.open_feeds.new.out) is (c.in-Ok.ensures.fed check is)

pub returns-in-Err-over_feeds-clause-stop : goal.returns-in-Err-over_feeds-clause-stop
returns-in-Err-over_feeds-clause-stop g c = λ check is.
    stops_with_feeds check (windows c.args.plan.now.dag) (g.O.Outside.opened c.args.out.now) (g.O.Outside.opened c.open_feeds.new.out) c.in-Ok.feeds.items (g.O.Outside.told c.args.out.now) (g.O.Outside.told c.open_feeds.new.out) (c.in-Ok.ensures.fed check is)
