use Rattle.std.proofs.Common.{◌≡◌, ◌<◌, ℕ, map, length, refl, rules, sym, subst}
use Rattle.std.specs.Prelude.{Some, slice_get}
use Rattle.jet_router.specs.declared.router.Router.{Router}
use Rattle.jet_router.specs.Router as router
use Rattle.jet_tasklet.specs.declared.any.AnyTasklet.{AnyTasklet}
use Rattle.jet_tasklet.specs.declared.output.Output.{Output}
use Rattle.jet_wire.specs.Lending.{router_of, with_router}
use Rattle.jet_wire.specs.Receiver.{receiver_view, ReceiverStays}
use Rattle.jet_tasklet.specs.Any.{AnyKeeps, any_with_output}
use Rattle.jet_tasklet.specs.Kinds.{outputs_of, RunsProcessor}
use Rattle.jet_tasklet.proofs.AnyMeeting.{output_lent, router_lent, router_keeps}
use Rattle.jet_tasklet.proofs.any.AnyTasklet.output.Goals as goal

pub returns-in-Stamp : goal.returns-in-Stamp
returns-in-Stamp c = ((refl, λ w. rw c.in-Stamp.is refl), record { writes_back = tt; value = search rules; meets = output_lent c.args.self.now c.args.n c.output.result.now (subst RunsProcessor (sym c.in-Stamp.is) tt) (search rules) })

pub returns-in-Map : goal.returns-in-Map
returns-in-Map c = ((refl, λ w. rw c.in-Map.is refl), record { writes_back = tt; value = search rules; meets = output_lent c.args.self.now c.args.n c.output-in-Map.result.now (subst RunsProcessor (sym c.in-Map.is) tt) (search rules) })

pub returns-in-Filter : goal.returns-in-Filter
returns-in-Filter c = ((refl, λ w. rw c.in-Filter.is refl), record { writes_back = tt; value = search rules; meets = output_lent c.args.self.now c.args.n c.output-in-Filter.result.now (subst RunsProcessor (sym c.in-Filter.is) tt) (search rules) })

pub returns-in-Flat : goal.returns-in-Flat
returns-in-Flat c = ((refl, λ w. rw c.in-Flat.is refl), record { writes_back = tt; value = search rules; meets = output_lent c.args.self.now c.args.n c.output-in-Flat.result.now (subst RunsProcessor (sym c.in-Flat.is) tt) (search rules) })

pub returns-in-Join : goal.returns-in-Join
returns-in-Join c = ((refl, λ w. rw c.in-Join.is refl), record { writes_back = tt; value = search rules; meets = output_lent c.args.self.now c.args.n c.output-in-Join.result.now (subst RunsProcessor (sym c.in-Join.is) tt) (search rules) })

pub returns-in-Frame : goal.returns-in-Frame
returns-in-Frame c = ((refl, λ w. rw c.in-Frame.is refl), record { writes_back = tt; value = search rules; meets = output_lent c.args.self.now c.args.n c.output-in-Frame.result.now (subst RunsProcessor (sym c.in-Frame.is) tt) (search rules) })

pub returns-in-Combine : goal.returns-in-Combine
returns-in-Combine c = ((refl, λ w. rw c.in-Combine.is refl), record { writes_back = tt; value = search rules; meets = output_lent c.args.self.now c.args.n c.output-in-Combine.result.now (subst RunsProcessor (sym c.in-Combine.is) tt) (search rules) })

pub returns-in-Receive : goal.returns-in-Receive
returns-in-Receive c =
    let r = c.in-Receive.receiver in
    let n = c.args.n in
    let was : Router = c.router.result.now in
    let lent : was ≡ router_of r = rw c.in-Receive.is at c.router.ensures.value in
    let value = router_lent r n was (subst (λ (t : AnyTasklet). n < length (outputs_of t)) c.in-Receive.is c.requires) lent in (
      (refl, λ w. rw c.in-Receive.is refl),
      record {
        writes_back = tt;
        value = subst (λ (t : AnyTasklet). slice_get (map (λ (o : Output). o.router) (outputs_of t)) n ≡ Some was) (sym c.in-Receive.is) value;
        meets = λ came gave d w k met.
            let meets : (v : Router) (e : ℕ) → router.Refreshed (router.view (router_of r)) (router.view v) e → ReceiverStays (receiver_view r) (receiver_view (with_router r v)) = rw c.in-Receive.is at c.router.ensures.meets in
            let stays = meets w d (subst (λ (x : Router). router.Refreshed (router.view x) (router.view w) d) lent met) in
            subst (λ (t : AnyTasklet). AnyKeeps (any_with_output t n was w) came gave) (sym c.in-Receive.is) (router_keeps r w came gave stays (subst (λ (t : AnyTasklet). AnyKeeps t came gave) c.in-Receive.is k));
      },
    )
