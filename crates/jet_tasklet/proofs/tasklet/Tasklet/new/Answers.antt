use Rattle.std.proofs.Common.{◌≡◌, ℕ, ◌<◌, ◌≤◌, List, [], map, length, arith, replicate, refl, sym, ◌∙◌, ap, subst}
use Rattle.std.proofs.lemmas.List.{length-map, take_all}
use Rattle.jet_boxes.specs.Held.{BoxView}
use Rattle.jet_boxes.specs.declared.port.Port.TheVariants.{Stream}
use Rattle.jet_coalescer.specs.Low.{HasHeard, unheard}
use Rattle.jet_router.specs.Router.{view}
use Rattle.jet_tasklet.specs.declared.input.Input.{Input}
use Rattle.jet_tasklet.specs.Inputs.{InputView, inputs_view, queue_count}
use Rattle.jet_tasklet.proofs.Ports.{length_views}
use Rattle.jet_tasklet.proofs.Fresh.{new_keeps}
use Rattle.jet_tasklet.proofs.tasklet.Tasklet.new.Goals as goal

pub returns : goal.returns
returns g c =
    let items : c.in_ok-outbox.outbox.items ≡ [] = ap (λ (h : BoxView). h.items) c.in_ok-outbox.ensures in
    let roomy : 1 ≤ c.in_ok-outbox.outbox.room = subst (λ (n : ℕ). 1 ≤ n) (sym (ap (λ (h : BoxView). h.room) c.in_ok-outbox.ensures)) c.requires.room in
    let lent : length c.deref.result.now ≡ length c.args.inputs.items = ap (λ (xs : List Input). length xs) c.deref.ensures.value in
    let all : length (inputs_view c.deref.result.now) ≤ c.len.result = omega (arith, lent, length_views c.deref.result.now, c.len.ensures, c.args.inputs.ok.0) in
    let count : c.count_queues-queues.result ≡ queue_count Stream (inputs_view c.args.inputs.items) = c.count_queues-queues.ensures ∙ (ap (λ (vs : List InputView). queue_count Stream vs) (take_all c.len.result (inputs_view c.deref.result.now) all) ∙ ap (λ (xs : List Input). queue_count Stream (inputs_view xs)) c.deref.ensures.value) in
    let heard_is : HasHeard c.in_ok-coalescer.coalescer (replicate (queue_count Stream (inputs_view c.args.inputs.items)) unheard) = subst (λ (n : ℕ). HasHeard c.in_ok-coalescer.coalescer (replicate n unheard)) count c.in_ok-coalescer.ensures.heard in
    let long = length-map c.args.outputs.items view in
    let one = c.requires.some in
    let some : 0 < length (map view c.args.outputs.items) = omega (arith, long, one) in
    record {
      keeps = new_keeps g.P.Processor.stands g.P.Processor.amid g.P.Processor.takes _ (map view c.args.outputs.items) refl items roomy c.requires.new c.requires.takes c.requires.few c.requires.unread some c.requires.dests c.requires.unsent c.in_ok-outputs.ensures heard_is;
      room = ap (λ (h : BoxView). h.room) c.in_ok-outbox.ensures;
      processor = refl;
      inputs = refl;
      outputs = c.in_ok-outputs.ensures;
    }
