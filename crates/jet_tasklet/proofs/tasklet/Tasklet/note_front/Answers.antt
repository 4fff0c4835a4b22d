use Rattle.std.proofs.Common.{◌≡◌, List, [], ◌∷◌, true, false, length, drop, refl, sym, ◌∙◌, subst}
use Rattle.std.specs.Vec.{with_items}
use Rattle.jet_items.specs.declared.item.Item.{Item}
use Rattle.jet_boxes.specs.declared.port.Port.TheVariants.{Stream, Build}
use Rattle.jet_tasklet.specs.declared.arrival.Arrival.{Arrival}
use Rattle.jet_tasklet.specs.declared.input.Input.{Input}
use Rattle.jet_tasklet.specs.Inputs.{inputs_view, all_done}
use Rattle.jet_tasklet.specs.Taking.{Stands, Took, TookAt}
use Rattle.jet_tasklet.proofs.Coming.{may_note}
use Rattle.jet_tasklet.proofs.Keeping.{take_keeps, goes_came, items_back}
use Rattle.jet_tasklet.proofs.Lasting.{turned_took}
use Rattle.jet_tasklet.proofs.Popped.{took_one}
use Rattle.jet_tasklet.proofs.Spots.{took_lent}
use Rattle.jet_tasklet.proofs.tasklet.Tasklet.note_front.Goals as goal

pub note-self-requires : goal.note-self-requires
note-self-requires g c =
    let t = c.args.self.now in
    let x : Item = c.front.result.now in
    let a : Arrival = c.arrival_at-arrival.result in
    let lent : Stands (inputs_view c.deref_mut.result.now) c.args.spot.now x = subst (λ (xs : List Input). Stands (inputs_view xs) c.args.spot.now x) (c.deref.ensures.value ∙ sym c.deref_mut.ensures.value) c.front.ensures in
    let at : TookAt (inputs_view t.inputs.items) (inputs_view c.skip.new.inputs) c.args.spot.now x = took_lent t.inputs.items c.deref_mut.result.now c.skip.new.inputs c.skip.new.inputs c.args.spot.now x c.deref_mut.ensures.value refl (c.skip.ensures x lent) in
    let took : Took (inputs_view t.inputs.items) (inputs_view c.skip.new.inputs) a.port a = subst (λ (b : Arrival). Took (inputs_view t.inputs.items) (inputs_view c.skip.new.inputs) b.port b) (sym c.arrival_at-arrival.ensures) at.took in
    may_note (inputs_view t.inputs.items) (inputs_view c.skip.new.inputs) a took t.coalescer c.requires.keeps.came c.requires.keeps.keeps.takes_in

pub returns : goal.returns
returns g c =
    let t = c.args.self.now in
    let x : Item = c.front.result.now in
    let a : Arrival = c.arrival_at-arrival.result in
    let lent : Stands (inputs_view c.deref_mut.result.now) c.args.spot.now x = subst (λ (xs : List Input). Stands (inputs_view xs) c.args.spot.now x) (c.deref.ensures.value ∙ sym c.deref_mut.ensures.value) c.front.ensures in
    let after = with_items t.inputs c.skip.new.inputs in
    let back : after.items ≡ c.skip.new.inputs = items_back t.inputs.len c.skip.new.inputs (drop (length c.skip.new.inputs) t.inputs.items) (c.skip.auto.inputs ∙ c.deref_mut.ensures.len) in
    let at : TookAt (inputs_view t.inputs.items) (inputs_view after.items) c.args.spot.now x = took_lent t.inputs.items c.deref_mut.result.now c.skip.new.inputs after.items c.args.spot.now x c.deref_mut.ensures.value back (c.skip.ensures x lent) in
    let took : Took (inputs_view t.inputs.items) (inputs_view after.items) a.port a = subst (λ (b : Arrival). Took (inputs_view t.inputs.items) (inputs_view after.items) b.port b) (sym c.arrival_at-arrival.ensures) at.took in
    let builds : a.port ≡ Stream → all_done Build (inputs_view t.inputs.items) ≡ true = subst (λ (b : Arrival). b.port ≡ Stream → all_done Build (inputs_view t.inputs.items) ≡ true) (sym c.arrival_at-arrival.ensures) c.requires.next.builds in
    let opens : a.port ≡ Build → all_done Build (inputs_view t.inputs.items) ≡ false = subst (λ (b : Arrival). b.port ≡ Build → all_done Build (inputs_view t.inputs.items) ≡ false) (sym c.arrival_at-arrival.ensures) c.requires.next.opens in
    record {
      keeps = goes_came g.P.Processor.stands g.P.Processor.amid g.P.Processor.takes t _ (a ∷ []) refl (λ came gave k. take_keeps g.P.Processor.stands g.P.Processor.amid g.P.Processor.takes g.met.P.Processor.begins t after a c.note-self.new.coalescer c.note-self.result came gave c.requires.free took builds opens c.note-self.ensures k);
      turned = turned_took g.P.Processor.same t _ a.port a (g.met.P.Processor.same_refl t.processor) refl took refl;
      count = took_one (inputs_view t.inputs.items) (inputs_view after.items) a.port a c.requires.keeps.keeps.takes_in.even took;
      took = (x, at);
      next = refl;
      outputs = refl;
    }
