use Rattle.std.proofs.Common.{◌≡◌, [], ◌∷◌, ◌++◌, List, Some, length, refl, sym, ap, ◌∙◌, subst, set, arith}
use Rattle.std.specs.List.{slice_get}
use Rattle.std.proofs.lemmas.Option.{slice_get_read}
use Rattle.jet_crew.specs.declared.spot.Spot.{Spot}
use Rattle.jet_crew.specs.declared.worker.Worker.{Worker}
use Rattle.jet_crew.specs.Gather.{gather, Placed}
use Rattle.jet_crew.proofs.Spots.{epochs-set}
use Rattle.jet_crew.proofs.Placing.{list_more, placed_more, placed_same, same_some}
use Rattle.jet_crew.proofs.spot.place.Goals as goal

pub returns-in_err-push-clause-placed : goal.returns-in_err-push-clause-placed
returns-in_err-push-clause-placed g c =
    let ws = c.args.workers.now.items in
    let i = c.args.worker in
    let w : Worker g.row.T.Denot = c.index_mut.result.now in
    let v : Worker g.row.T.Denot = record { tasks = c.push.new.self; end = w.end; epochs = w.epochs } in
    let at : slice_get ws i ≡ Some w = slice_get_read ws _ i w refl (omega arith) c.index_mut.ensures.value in
    subst (λ (ss : List Spot). Placed (set ws i v) ss) (sym c.try_reserve.ensures.items) (placed_same ws c.args.order.now.items i w v c.requires.placed at c.in_err-push.ensures.items)

pub returns-in_err-push-clause-epochs : goal.returns-in_err-push-clause-epochs
returns-in_err-push-clause-epochs g c =
    let ws = c.args.workers.now.items in
    let w : Worker g.row.T.Denot = c.index_mut.result.now in
    let v : Worker g.row.T.Denot = record { tasks = c.push.new.self; end = w.end; epochs = w.epochs } in
    epochs-set ws c.args.worker w v (slice_get_read ws _ c.args.worker w refl (omega arith) c.index_mut.ensures.value) refl

pub returns-clause-tasks : goal.returns-clause-tasks
returns-clause-tasks g c =
    let ws = c.args.workers.now.items in
    let ss = c.args.order.now.items in
    let i = c.args.worker in
    let w : Worker g.row.T.Denot = c.index_mut.result.now in
    let v : Worker g.row.T.Denot = record { tasks = c.push.new.self; end = w.end; epochs = w.epochs } in
    let s : Spot = record { worker = i; slot = c.len-slot.result } in
    let at : slice_get ws i ≡ Some w = slice_get_read ws _ i w refl (omega arith) c.index_mut.ensures.value in
    let was : slice_get ws i ≡ Some c.index.result.now = slice_get_read ws _ i c.index.result.now refl (omega arith) c.index.ensures in
    let same = ap (λ (u : Worker g.row.T.Denot). length u.tasks.items) (same_some c.index.result.now w (sym was ∙ at)) in
    let long = c.len-slot.ensures in
    let more : c.push_reserved.new.self.items ≡ ss ++ s ∷ [] = c.push_reserved.ensures.items ∙ ap (λ (us : List Spot). us ++ s ∷ []) c.try_reserve.ensures.items in
    ap (λ (us : List Spot). gather (set ws i v) us) more
    ∙ list_more ws ss i w v c.requires.placed at c.args.task c.in_ok-push.ensures.items s refl (omega (arith, same, long))

pub returns-clause-placed : goal.returns-clause-placed
returns-clause-placed g c =
    let ws = c.args.workers.now.items in
    let ss = c.args.order.now.items in
    let i = c.args.worker in
    let w : Worker g.row.T.Denot = c.index_mut.result.now in
    let v : Worker g.row.T.Denot = record { tasks = c.push.new.self; end = w.end; epochs = w.epochs } in
    let s : Spot = record { worker = i; slot = c.len-slot.result } in
    let at : slice_get ws i ≡ Some w = slice_get_read ws _ i w refl (omega arith) c.index_mut.ensures.value in
    let was : slice_get ws i ≡ Some c.index.result.now = slice_get_read ws _ i c.index.result.now refl (omega arith) c.index.ensures in
    let same = ap (λ (u : Worker g.row.T.Denot). length u.tasks.items) (same_some c.index.result.now w (sym was ∙ at)) in
    let long = c.len-slot.ensures in
    let more : c.push_reserved.new.self.items ≡ ss ++ s ∷ [] = c.push_reserved.ensures.items ∙ ap (λ (us : List Spot). us ++ s ∷ []) c.try_reserve.ensures.items in
    subst (λ (us : List Spot). Placed (set ws i v) us) (sym more)
    (placed_more ws ss i w v c.requires.placed at c.args.task c.in_ok-push.ensures.items s refl (omega (arith, same, long)))

pub returns-clause-epochs : goal.returns-clause-epochs
returns-clause-epochs g c =
    let ws = c.args.workers.now.items in
    let w : Worker g.row.T.Denot = c.index_mut.result.now in
    let v : Worker g.row.T.Denot = record { tasks = c.push.new.self; end = w.end; epochs = w.epochs } in
    epochs-set ws c.args.worker w v (slice_get_read ws _ c.args.worker w refl (omega arith) c.index_mut.ensures.value) refl
