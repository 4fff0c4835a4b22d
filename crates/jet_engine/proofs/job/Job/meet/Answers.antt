use Rattle.std.proofs.Common.{◌≡◌, ◌<◌, List, map, length, sym, ◌∙◌, subst, arith}
use Rattle.std.proofs.lemmas.List.{with_items_is}
use Rattle.jet_items.specs.declared.item.Item.{Item}
use Rattle.jet_conveyor.specs.Conveyor.{view}
use Rattle.jet_ring.specs.declared.ends.Tx.{Tx}
use Rattle.jet_ring.specs.Ring.{tx_view}
use Rattle.jet_crew.specs.Gather.{gather}
use Rattle.jet_engine.specs.Wiring.{IsWired}
use Rattle.jet_engine.proofs.Keeping.{lawful_still, same_count}
use Rattle.jet_engine.proofs.job.Job.meet.Goals as goal

pub returns-clause-ready : goal.returns-clause-ready
returns-clause-ready c =
    let old = c.args.self.now in
    let ts = gather old.workers.items old.order.items in
    let us = gather c.meet_all.new.workers.items old.order.items in
    let feeds = with_items_is old.feeds c.meet_all.new.txs (c.meet_all.auto.txs ∙ c.deref_mut.ensures.len) in
    let count = same_count old.workers.items c.meet_all.new.workers.items c.meet_all.ensures.epochs in
    let a = c.requires.ready.some.0 in
    let b = c.requires.ready.some.1 in
    record {
      some = (omega (arith, a, count), omega (arith, b, count));
      placed = c.meet_all.ensures.placed;
      lawful = lawful_still ts us c.meet_all.ensures.tasklets c.requires.ready.lawful;
      wired = subst (λ (txs : List (Tx Item)). IsWired us (map tx_view txs) (view c.meet_all.new.sink) old.wiring) (sym feeds) c.meet_all.ensures.wired;
    }
