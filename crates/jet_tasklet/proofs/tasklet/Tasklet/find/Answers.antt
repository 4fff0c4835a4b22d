use Rattle.std.proofs.Common.{◌≡◌, List, length, drop, true, false, refl, sym, ◌∙◌, ap, subst}
use Rattle.std.specs.Prelude.{IfSome, IfNone}
use Rattle.std.specs.Vec.{with_items}
use Rattle.jet_tasklet.specs.declared.input.Input.{Input}
use Rattle.jet_tasklet.specs.Inputs.{InputView, inputs_view, all_done}
use Rattle.jet_items.specs.declared.item.Item.{Item}
use Rattle.jet_boxes.specs.declared.port.Port.TheVariants.{Stream, Build}
use Rattle.jet_tasklet.specs.Taking.{Looked, Stands, NoneToTake}
use Rattle.jet_tasklet.proofs.Keeping.{items_back}
use Rattle.jet_tasklet.proofs.Meeting.{IsAlike, alike_keeps}
use Rattle.jet_tasklet.proofs.Spots.{found_alike, found_goes, found_count, found_next, found_none, turned_so}
use Rattle.jet_tasklet.specs.Fairness.{IsFirst}
use Rattle.jet_tasklet.proofs.Fairness.{found_in_turn}
use Rattle.jet_tasklet.proofs.tasklet.Tasklet.find.Goals as goal

pub returns : goal.returns
returns g c =
    let xs : List Input = c.args.self.now.inputs.items in
    let vs : List InputView = inputs_view xs in
    let after = with_items c.args.self.now.inputs c.find-found.new.inputs in
    let ws : List InputView = inputs_view after.items in
    let back : after.items ≡ c.find-found.new.inputs = items_back c.args.self.now.inputs.len c.find-found.new.inputs (drop (length c.find-found.new.inputs) xs) (c.find-found.auto.inputs ∙ c.deref_mut.ensures.len) in
    let old : inputs_view c.deref_mut.result.now ≡ vs = ap inputs_view c.deref_mut.ensures.value in
    let new : ws ≡ inputs_view c.find-found.new.inputs = ap inputs_view back in
    let looked : IfSome c.find-found.result (λ s. Looked vs ws) = subst (λ (us : List InputView). IfSome c.find-found.result (λ s. Looked vs us)) (sym new) (subst (λ (us : List InputView). IfSome c.find-found.result (λ s. Looked us (inputs_view c.find-found.new.inputs))) old c.find-found.ensures.looked) in
    let nothing : IfNone c.find-found.result (ws ≡ vs) = subst (λ (us : List InputView). IfNone c.find-found.result (us ≡ vs)) (sym new) (subst (λ (us : List InputView). IfNone c.find-found.result (inputs_view c.find-found.new.inputs ≡ us)) old c.find-found.ensures.nothing) in
    let alike : IsAlike vs ws = found_alike c.find-found.result vs ws looked nothing in
    record {
      keeps = record { stays = λ came gave k. alike_keeps vs ws alike g.P.Processor.stands g.P.Processor.amid g.P.Processor.takes c.args.self.now _ came gave refl refl refl k };
      turned = turned_so g.P.Processor.same c.args.self.now _ (g.met.P.Processor.same_refl c.args.self.now.processor) refl (found_goes c.find-found.result vs ws looked nothing) refl;
      rest = refl;
      count = found_count c.find-found.result vs ws looked nothing;
      spot = found_next c.find-found.result vs ws alike
          (subst (λ (us : List InputView). IfSome c.find-found.result (λ s. (x : Item) × Stands us s x)) (sym new) c.find-found.ensures.stands)
          (subst (λ (us : List InputView). IfSome c.find-found.result (λ s. s.port ≡ Stream → all_done Build us ≡ true)) old c.find-found.ensures.builds)
          (subst (λ (us : List InputView). IfSome c.find-found.result (λ s. s.port ≡ Build → all_done Build us ≡ false)) old c.find-found.ensures.open);
      in_turn = found_in_turn c.find-found.result vs ws c.args.self.now.next c.turn_after-self.result
          (subst (λ (us : List InputView). IfSome c.find-found.result (λ s. IsFirst us c.args.self.now.next s)) old c.find-found.ensures.first)
          looked c.turn_after-self.ensures.moved;
      next = c.turn_after-self.ensures.stays;
      none = found_none c.find-found.result vs ws nothing (subst (λ (us : List InputView). IfNone c.find-found.result (NoneToTake us)) old c.find-found.ensures.cause);
    }
