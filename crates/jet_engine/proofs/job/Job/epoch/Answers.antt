use denote.Param.Send.{sendable}
use Rattle.std.proofs.Common.{◌≡◌, List, map, length, sym, ap, ◌∙◌, subst}
use Rattle.std.specs.List.{All}
use Rattle.std.specs.Vec.{with_items}
use Rattle.std.proofs.lemmas.List.{with_items_is}
use Rattle.jet_tasklet.specs.declared.any.AnyTasklet.{AnyTasklet}
use Rattle.jet_tasklet.specs.Any.{AnyIsLawful}
use Rattle.jet_tasklet.specs.Crew.{TaskSaid}
use Rattle.jet_tasklet.specs.Turns.{AnyWent}
use Rattle.jet_tasklet.proofs.Crossing.{any_send}
use Rattle.jet_crew.specs.declared.end.EpochEnd.{EpochEnd}
use Rattle.jet_crew.specs.declared.spot.Spot.{Spot}
use Rattle.jet_crew.specs.declared.worker.Worker.{Worker}
use Rattle.jet_crew.specs.Epoch.{AllKeep, EpochOver}
use Rattle.jet_crew.specs.Gather.{gather, Placed}
use Rattle.jet_crew.specs.Turns.{Together}
use Rattle.jet_engine.proofs.Keeping.{ready_after}
use Rattle.jet_engine.proofs.job.Job.epoch.Goals as goal

pub epoch-end-requires-send-T : goal.epoch-end-requires-send-T
epoch-end-requires-send-T g c κs within = search (sendable, any_send) depth 20

pub returns-clause-ready : goal.returns-clause-ready
returns-clause-ready g c =
    let old = c.args.self.now in
    let order = old.order.items in
    let vs = c.epoch-end.new.workers in
    let value = c.deref_mut.ensures.value in
    let is = with_items_is old.workers vs (c.epoch-end.auto.workers ∙ c.deref_mut.ensures.len) in
    let was : Placed c.deref_mut.result.now order = subst (λ (ws : List (Worker AnyTasklet)). Placed ws order) (sym value) c.requires.ready.placed in
    let over : EpochOver AnyWent TaskSaid c.epoch-end.result (gather old.workers.items order) (gather vs order) =
    subst (λ (ws : List (Worker AnyTasklet)). EpochOver AnyWent TaskSaid c.epoch-end.result (gather ws order) (gather vs order)) value (c.epoch-end.ensures.over order was) in
    let kept : All (AllKeep AnyIsLawful) c.deref-3.result.now = subst (λ (ws : List (Worker AnyTasklet)). All (AllKeep AnyIsLawful) ws) (sym (c.deref-3.ensures.value ∙ is)) c.epoch-end.ensures.kept in
    let listed : All AnyIsLawful (gather vs order) =
    subst (λ (ws : List (Worker AnyTasklet)). All AnyIsLawful (gather ws order)) (c.deref-3.ensures.value ∙ is)
    (subst (λ (ss : List Spot). All AnyIsLawful (gather c.deref-3.result.now ss)) c.deref-4.ensures.value (c.one_list_keeps_as_workers_do-2.ensures.list kept)) in
    let ready = ready_after old vs (with_items old.workers vs).items c.epoch-end.result c.requires.ready is (c.epoch-end.ensures.worked.count ∙ ap (λ (ws : List (Worker AnyTasklet)). length ws) value) (c.epoch-end.ensures.placed order was) listed over in
    record { some = ready.0; placed = ready.1; lawful = ready.2; wired = ready.3 }

pub returns-clause-answer : goal.returns-clause-answer
returns-clause-answer g c =
    let old = c.args.self.now in
    let is = with_items_is old.workers c.epoch-end.new.workers (c.epoch-end.auto.workers ∙ c.deref_mut.ensures.len) in
    subst (λ (ws : List (Worker AnyTasklet)). Together (map (λ w. w.end) ws) c.epoch-end.result) (sym is) c.epoch-end.ensures.answer
