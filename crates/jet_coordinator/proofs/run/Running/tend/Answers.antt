use Rattle.jet_coordinator.proofs.Steps.{if_err_then, on_ok_then, on_then, stop_then}
use Rattle.jet_coordinator.proofs.run.Running.tend.Goals as goal

pub feed-requires : goal.feed-requires
feed-requires g c = record { fit = c.meet.ensures.fit (g.O.Outside.opened c.args.out.now) c.requires.fit }

pub returns-in-Ok-clause-came : goal.returns-in-Ok-clause-came
returns-in-Ok-clause-came g c =
    let t = g.O.Outside.told c.args.out.now in
    let fed = on_then c.args.self.now c.meet.new.self c.feed.new.self t t (g.O.Outside.told c.feed.new.out) (c.meet.ensures.came t) c.in-Ok.ensures.came in
    on_ok_then c.drain.result c.drain.ensures.came (on_then c.args.self.now c.feed.new.self c.drain.new.self t (g.O.Outside.told c.feed.new.out) (g.O.Outside.told c.drain.new.out) fed)

pub returns-in-Ok-clause-stop : goal.returns-in-Ok-clause-stop
returns-in-Ok-clause-stop g c =
    let t = g.O.Outside.told c.args.out.now in
    let fed = on_then c.args.self.now c.meet.new.self c.feed.new.self t t (g.O.Outside.told c.feed.new.out) (c.meet.ensures.came t) c.in-Ok.ensures.came in
    if_err_then c.drain.result c.drain.ensures.stop (λ stop. stop_then c.args.self.now c.feed.new.self stop t (g.O.Outside.told c.feed.new.out) (g.O.Outside.told c.drain.new.out) fed)

pub returns-in-Err-clause-stop : goal.returns-in-Err-clause-stop
returns-in-Err-clause-stop g c =
    let t = g.O.Outside.told c.args.out.now in
    stop_then c.args.self.now c.meet.new.self c.in-Err.stop t t (g.O.Outside.told c.feed.new.out) (c.meet.ensures.came t) c.in-Err.ensures.stop
