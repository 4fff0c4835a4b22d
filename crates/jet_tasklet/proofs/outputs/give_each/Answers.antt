use Rattle.std.proofs.Common.{◌≡◌, ◌<◌, ℕ, true, false, inl, inr, List, length, get_or, set, refl, arith}
use Rattle.jet_items.specs.declared.item.Item.{Item}
use Rattle.jet_items.specs.Order.{Each}
use Rattle.jet_router.specs.Deals.{IsFull}
use Rattle.jet_tasklet.specs.declared.output.Output.{Output}
use Rattle.jet_tasklet.specs.Outputs.{OutputView, output_view, outputs_view, InGift, sent_count}
use Rattle.jet_router.specs.Router as router
use Rattle.jet_tasklet.proofs.Lasting.{zip_refl, output_stays, outputs_trans, outputs_set}
use Rattle.jet_tasklet.specs.Turned.{OutputGoes}
use Rattle.jet_tasklet.proofs.Pushed.{sum_set, says_or, says_part}
use Rattle.jet_tasklet.proofs.Owing.{some_set, or_left, or_right}
use Rattle.jet_tasklet.proofs.Stepping.{each_at, each_set, each_take_set}
use Rattle.jet_tasklet.proofs.outputs.give_each.Goals as goal

pub give-pushed-requires : goal.give-pushed-requires
give-pushed-requires c =
    let x : Item = c.args.item.now in
    let xs : List Output = c.loop-place.outputs in
    let gave : List Item = c.requires.0 in
    (gave, each_at output_view (InGift gave x) xs c.loop-place.place c.index-outputs-place.result (omega arith) (c.loop-place.invariant.gives gave c.requires.1))

pub loop-place-init : goal.loop-place-init
loop-place-init c = record { gives = λ gave h. h; full = tt; goes = zip_refl OutputGoes output_stays (outputs_view c.args.outputs.now); waits = λ h. inr h; pushed = refl }

pub loop-place-preserved : goal.loop-place-preserved
loop-place-preserved c =
    let x : Item = c.args.item.now in
    let xs : List Output = c.loop-place.outputs in
    let i : ℕ = c.loop-place.place in
    let lt : i < length xs = omega arith in record {
      gives = λ gave h.
          let before : Each (InGift gave x) (outputs_view xs) = c.loop-place.invariant.gives gave h in
          each_set output_view (InGift gave x) xs i c.give-pushed.new.self before (c.give-pushed.ensures.gives gave (each_at output_view (InGift gave x) xs i c.index-outputs-place.result lt before));
      full = each_take_set output_view (λ (o : OutputView). o.had ≡ false → IsFull o.router x) xs i c.give-pushed.new.self lt c.loop-place.invariant.full c.give-pushed.ensures.full;
      goes = outputs_trans (outputs_view c.args.outputs.now) (outputs_view xs) (outputs_view (set xs i c.give-pushed.new.self)) c.loop-place.invariant.goes
          (outputs_set output_view xs i c.index-outputs-place.result c.give-pushed.new.self lt c.give-pushed.ensures.goes);
      waits = λ h. elim (c.loop-place.invariant.waits h) [
        | inl was ↦ inl (or_left c.loop-place.pushed c.give-pushed.result was)
        | inr some ↦ elim (some_set output_view (c.give-pushed.result ≡ true) xs i c.index-outputs-place.result c.give-pushed.new.self lt c.give-pushed.ensures.waits some) [
          | inl now ↦ inl (or_right c.loop-place.pushed c.give-pushed.result now)
          | inr still ↦ inr still
        ]
      ];
      pushed =
          let f : OutputView → ℕ = λ o. router.sent_count o.router in
          let sum = sum_set output_view f xs i c.give-pushed.new.self c.index-outputs-place.result lt in
          says_or c.loop-place.pushed c.give-pushed.result (sent_count (outputs_view c.args.outputs.now)) (sent_count (outputs_view xs)) (sent_count (outputs_view (set xs i c.give-pushed.new.self))) c.loop-place.invariant.pushed
          (says_part c.give-pushed.result (f (output_view (get_or xs i c.index-outputs-place.result))) (f (output_view c.give-pushed.new.self)) (sent_count (outputs_view xs)) (sent_count (outputs_view (set xs i c.give-pushed.new.self))) c.give-pushed.ensures.pushed sum);
    }
