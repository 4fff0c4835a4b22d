use Rattle.std.proofs.Common.{◌∙◌}
use Rattle.std.proofs.lemmas.List.{with_items_is}
use Rattle.std.specs.Vec.{with_items}
use Rattle.jet_coordinator.proofs.Steps.{fed_on_lent, stops_fed_lent}
use Rattle.jet_coordinator.proofs.run.Running.feed.Goals as goal

pub returns-in-Ok-clause-came : goal.returns-in-Ok-clause-came
returns-in-Ok-clause-came g c =
    fed_on_lent c.args.self.now (with_items c.args.self.now.job.feeds c.feed_all.new.txs) (with_items c.args.self.now.feeds c.feed_all.new.feeds) c.deref_mut-2.result.now c.feed_all.new.txs c.deref_mut.result.now c.feed_all.new.feeds _
    (g.O.Outside.told c.args.out.now) (g.O.Outside.told c.feed_all.new.out) c.deref_mut-2.ensures.value c.deref_mut.ensures.value
    (with_items_is c.args.self.now.job.feeds c.feed_all.new.txs (c.feed_all.auto.txs ∙ c.deref_mut-2.ensures.len)) (with_items_is c.args.self.now.feeds c.feed_all.new.feeds (c.feed_all.auto.feeds ∙ c.deref_mut.ensures.len))
    c.in-Ok.ensures.told c.in-Ok.ensures.fed

pub returns-in-Err-clause-stop : goal.returns-in-Err-clause-stop
returns-in-Err-clause-stop g c =
    stops_fed_lent c.args.self.now c.deref_mut-2.result.now c.deref_mut.result.now c.in-Err.stop (g.O.Outside.told c.args.out.now) (g.O.Outside.told c.feed_all.new.out) c.deref_mut-2.ensures.value c.deref_mut.ensures.value c.in-Err.ensures.told c.in-Err.ensures.bad
