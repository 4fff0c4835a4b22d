use Rattle.std.proofs.Common.{◌≡◌, true, false, List, take}
use Rattle.std.specs.Prelude.{◌⊎◌}
use Rattle.jet_items.specs.declared.item.Item.{Item}
use Rattle.jet_items.specs.Order.{Each}
use Rattle.std.specs.List.{AllZip}
use Rattle.jet_router.specs.Deals.{IsFull}
use Rattle.jet_tasklet.specs.Turned.{OutputGoes}
use Rattle.jet_tasklet.specs.Outputs.{outputs_view, InGift, SomeWaits, Says, sent_count}
use Rattle.jet_tasklet.proofs.outputs.give_each.Given as goal

abbrev pub invariant-loop-place : goal.invariant-loop-place
invariant-loop-place l = record {
  gives : (gave : List Item) → Each (InGift gave l.item) (outputs_view l.initial.outputs) → Each (InGift gave l.item) (outputs_view l.outputs);
  full : Each (λ o. o.had ≡ false → IsFull o.router l.item) (outputs_view (take l.place l.outputs));
  goes : AllZip OutputGoes (outputs_view l.initial.outputs) (outputs_view l.outputs);
  waits : SomeWaits (outputs_view l.initial.outputs) → (l.pushed ≡ true) ⊎ SomeWaits (outputs_view l.outputs);
  pushed : Says l.pushed (sent_count (outputs_view l.initial.outputs)) (sent_count (outputs_view l.outputs));
}
