use Rattle.std.proofs.Common.{◌≡◌, List, length, drop, refl, sym, ◌∙◌, ap, subst}
use Rattle.std.specs.Prelude.{Result, Bool}
use Rattle.std.specs.Vec.{with_items}
use Rattle.jet_items.specs.declared.item.Item.{Item}
use Rattle.jet_items.specs.declared.no_memory.NoMemory.{NoMemory}
use Rattle.jet_tasklet.specs.declared.arrival.Arrival.{Arrival}
use Rattle.jet_tasklet.specs.declared.input.Input.{Input}
use Rattle.jet_tasklet.specs.declared.step.Step.TheVariants as step
use Rattle.jet_tasklet.specs.declared.step.Pending.TheVariants as call
use Rattle.jet_tasklet.specs.Inputs.{inputs_view}
use Rattle.jet_tasklet.specs.Taking.{Stands, TookAt, arrival_of}
use Rattle.jet_tasklet.proofs.Keeping.{items_back, step_after}
use Rattle.jet_tasklet.proofs.Lasting.{turned_took}
use Rattle.jet_tasklet.proofs.Popped.{took_one}
use Rattle.jet_tasklet.proofs.Spots.{may_hand, hand_goes, step_kept, said_anyway, said_of_none, took_lent}
use Rattle.jet_tasklet.proofs.tasklet.Tasklet.hand_over.Goals as goal
use Rattle.jet_tasklet.proofs.tasklet.Tasklet.hand_over.Goals.{After-skip, After-skip-2}

pub accept-made-requires : goal.accept-made-requires
accept-made-requires g c =
    let x : Item = c.front-item.result.now in
    let here : Stands (inputs_view c.args.self.now.inputs.items) c.args.spot.now x = subst (λ (xs : List Input). Stands (inputs_view xs) c.args.spot.now x) c.deref.ensures.value c.front-item.ensures in
    may_hand g.P.Processor.stands g.P.Processor.amid g.P.Processor.takes g.met.P.Processor.begins c.args.self.now c.args.spot.now x c.requires.free c.requires.keeps here (c.requires.is_data x here)

pub returns-then-not-has_ended : goal.returns-then-not-has_ended
returns-then-not-has_ended g c =
    let t = c.args.self.now in
    let x : Item = c.front-item.result.now in
    let a : Arrival = arrival_of c.args.spot.now x in
    let here : Stands (inputs_view t.inputs.items) c.args.spot.now x = subst (λ (xs : List Input). Stands (inputs_view xs) c.args.spot.now x) c.deref.ensures.value c.front-item.ensures in
    let lent : Stands (inputs_view c.deref_mut.result.now) c.args.spot.now x = subst (λ (xs : List Input). Stands (inputs_view xs) c.args.spot.now x) (sym c.deref_mut.ensures.value) here in
    let after = with_items t.inputs c.skip.new.inputs in
    let back : after.items ≡ c.skip.new.inputs = items_back t.inputs.len c.skip.new.inputs (drop (length c.skip.new.inputs) t.inputs.items) (c.skip.auto.inputs ∙ c.deref_mut.ensures.len) in
    let at : TookAt (inputs_view t.inputs.items) (inputs_view after.items) c.args.spot.now x = took_lent t.inputs.items c.deref_mut.result.now c.skip.new.inputs after.items c.args.spot.now x c.deref_mut.ensures.value back (c.skip.ensures x lent) in
    let took = at.took in
    let did = c.accept-made.ensures in
    record {
      keeps = hand_goes g.P.Processor.stands g.P.Processor.amid g.P.Processor.takes g.met.P.Processor.begins g.P.Processor.same g.P.Processor.frugal g.met.P.Processor.takes_stays t after a c.accept-made.new.self c.accept-made.new.out c.accept-made.result _ c.requires.free took c.requires.next.builds c.requires.next.opens (c.requires.is_data x here) did (ap (λ b. step.Make (call.Accept b)) c.arrival_at.ensures ∙ sym (step_kept c.accept-made.result (call.Accept a) (c.has_ended.ensures.none c.if-not-has_ended.true)));
      turned = turned_took g.P.Processor.same t _ a.port a did.settings did.room took refl;
      wants = did.wants;
      pending = said_anyway c.accept-made.result _ tt;
      count = took_one (inputs_view t.inputs.items) (inputs_view after.items) a.port a c.requires.keeps.keeps.takes_in.even took;
      took = (x, at);
      next = refl;
      outputs = refl;
    }

pub returns : goal.returns
returns g c =
    let t = c.args.self.now in
    let x : Item = c.front-item.result.now in
    let a : Arrival = arrival_of c.args.spot.now x in
    let here : Stands (inputs_view t.inputs.items) c.args.spot.now x = subst (λ (xs : List Input). Stands (inputs_view xs) c.args.spot.now x) c.deref.ensures.value c.front-item.ensures in
    let lent : Stands (inputs_view c.deref_mut-2.result.now) c.args.spot.now x = subst (λ (xs : List Input). Stands (inputs_view xs) c.args.spot.now x) (sym c.deref_mut-2.ensures.value) here in
    let after = with_items t.inputs c.skip-2.new.inputs in
    let back : after.items ≡ c.skip-2.new.inputs = items_back t.inputs.len c.skip-2.new.inputs (drop (length c.skip-2.new.inputs) t.inputs.items) (c.skip-2.auto.inputs ∙ c.deref_mut-2.ensures.len) in
    let at : TookAt (inputs_view t.inputs.items) (inputs_view after.items) c.args.spot.now x = took_lent t.inputs.items c.deref_mut-2.result.now c.skip-2.new.inputs after.items c.args.spot.now x c.deref_mut-2.ensures.value back (c.skip-2.ensures x lent) in
    let took = at.took in
    let did = c.accept-made.ensures in
    record {
      keeps = hand_goes g.P.Processor.stands g.P.Processor.amid g.P.Processor.takes g.met.P.Processor.begins g.P.Processor.same g.P.Processor.frugal g.met.P.Processor.takes_stays t after a c.accept-made.new.self c.accept-made.new.out c.accept-made.result _ c.requires.free took c.requires.next.builds c.requires.next.opens (c.requires.is_data x here) did (c.requires.free ∙ sym (ap (λ (r : Result Bool NoMemory). step_after r (call.Accept a)) (c.has_ended.ensures.yes c.if-not-has_ended.false)));
      turned = turned_took g.P.Processor.same t _ a.port a did.settings did.room took refl;
      wants = did.wants;
      pending = said_of_none c.accept-made.result _ (c.has_ended.ensures.yes c.if-not-has_ended.false);
      count = took_one (inputs_view t.inputs.items) (inputs_view after.items) a.port a c.requires.keeps.keeps.takes_in.even took;
      took = (x, at);
      next = refl;
      outputs = refl;
    }
