use Rattle.std.proofs.Common.{length, arith, refl, sym, ap, ◌∙◌, Some, length-set}
use Rattle.std.proofs.lemmas.Option.{slice_get_read, get_or_from_slice_get, slice_get_within}
use Rattle.std.specs.Vec.{with_item}
use Rattle.jet_crew.specs.declared.worker.Worker.{Worker}
use Rattle.jet_crew.specs.Gather.{gather}
use Rattle.jet_crew.proofs.Spots.{gather-set, lookup-set_same, lookup-set_other, covered-set, reads, worker_there, slot_there, epochs-set}
use Rattle.jet_crew.proofs.spot.trade.Goals as goal

pub index_mut-worker-requires : goal.index_mut-worker-requires
index_mut-worker-requires g c =
    let s = c.index-spot.result.now in
    let r = reads c.args.workers.now.items c.args.order.now.items c.args.k s c.requires.placed.filled (omega arith) c.index-spot.ensures in
    let h = worker_there c.args.workers.now.items s.worker s.slot r.0 r.1 in
    omega arith

pub index_mut-requires : goal.index_mut-requires
index_mut-requires g c =
    let ws = c.args.workers.now.items in
    let s = c.index-spot.result.now in
    let old = c.index_mut-worker.result.now in
    let r = reads ws c.args.order.now.items c.args.k s c.requires.placed.filled (omega arith) c.index-spot.ensures in
    let h = worker_there ws s.worker s.slot r.0 r.1 in
    let w = slice_get_read ws _ s.worker old refl h c.index_mut-worker.ensures.value in
    let i = slice_get_within old.tasks.items s.slot r.0 (slot_there ws s.worker s.slot r.0 old r.1 w) in
    omega arith

pub returns-clause-tasks : goal.returns-clause-tasks
returns-clause-tasks g c =
    let ws = c.args.workers.now.items in
    let ss = c.args.order.now.items in
    let s = c.index-spot.result.now in
    let old = c.index_mut-worker.result.now in
    let r = reads ws ss c.args.k s c.requires.placed.filled (omega arith) c.index-spot.ensures in
    let h = worker_there ws s.worker s.slot r.0 r.1 in
    let w = slice_get_read ws _ s.worker old refl h c.index_mut-worker.ensures.value in
    let i = slice_get_within old.tasks.items s.slot r.0 (slot_there ws s.worker s.slot r.0 old r.1 w) in
    gather-set ws _ s
    (λ u o. lookup-set_other ws s.worker s.slot u.worker u.slot old _ c.swap.new.x w refl o)
    ss c.args.k c.args.task.now c.requires.placed.filled c.requires.placed.apart (omega arith) (sym c.index-spot.ensures)
    (lookup-set_same ws s.worker s.slot old _ c.swap.new.x w refl i ∙ ap Some c.swap.ensures.x_after)

pub returns-clause-taken : goal.returns-clause-taken
returns-clause-taken g c =
    let ws = c.args.workers.now.items in
    let ss = c.args.order.now.items in
    let s = c.index-spot.result.now in
    let old = c.index_mut-worker.result.now in
    let r = reads ws ss c.args.k s c.requires.placed.filled (omega arith) c.index-spot.ensures in
    let h = worker_there ws s.worker s.slot r.0 r.1 in
    let w = slice_get_read ws _ s.worker old refl h c.index_mut-worker.ensures.value in
    let at = slot_there ws s.worker s.slot r.0 old r.1 w in
    get_or_from_slice_get (gather ws ss) c.args.k r.0 c.swap.new.y r.2 ∙ (sym (get_or_from_slice_get old.tasks.items s.slot r.0 c.index_mut.result.now at) ∙ (sym c.index_mut.ensures.value ∙ sym c.swap.ensures.y_after))

pub returns-clause-placed : goal.returns-clause-placed
returns-clause-placed g c =
    let ws = c.args.workers.now.items in
    let ss = c.args.order.now.items in
    let s = c.index-spot.result.now in
    let old : Worker g.row.T.Denot = c.index_mut-worker.result.now in
    let new : Worker g.row.T.Denot = record old { tasks = with_item old.tasks s.slot c.swap.new.x } in
    let r = reads ws ss c.args.k s c.requires.placed.filled (omega arith) c.index-spot.ensures in
    let h = worker_there ws s.worker s.slot r.0 r.1 in
    let w = slice_get_read ws _ s.worker old refl h c.index_mut-worker.ensures.value in
    let e = returns-clause-tasks g c in
    record {
      filled = ap length e ∙ (length-set (gather ws ss) c.args.k c.args.task.now ∙ c.requires.placed.filled);
      apart = c.requires.placed.apart;
      covered = covered-set ws ss s.worker s.slot old new c.swap.new.x r.0 c.requires.placed w refl r.1;
    }

pub returns-clause-epochs : goal.returns-clause-epochs
returns-clause-epochs g c =
    let ws = c.args.workers.now.items in
    let s = c.index-spot.result.now in
    let old : Worker g.row.T.Denot = c.index_mut-worker.result.now in
    let new : Worker g.row.T.Denot = record old { tasks = with_item old.tasks s.slot c.swap.new.x } in
    let r = reads ws c.args.order.now.items c.args.k s c.requires.placed.filled (omega arith) c.index-spot.ensures in
    let h = worker_there ws s.worker s.slot r.0 r.1 in
    epochs-set ws s.worker old new (slice_get_read ws _ s.worker old refl h c.index_mut-worker.ensures.value) refl
