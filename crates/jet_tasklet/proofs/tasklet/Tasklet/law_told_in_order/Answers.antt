use Rattle.std.proofs.Common.{ℕ, zero, suc, ◌<◌, ◌≤◌, List, [], inl, inr, sym, subst, arith}
use Rattle.std.specs.Prelude.{◌⊎◌}
use Rattle.jet_items.specs.declared.item.Item.{Item}
use Rattle.jet_items.specs.Order.{Sound, Closed}
use Rattle.jet_items.proofs.Orders.{Sound-front, Closed-front}
use Rattle.jet_boxes.specs.declared.port.Port.{Port}
use Rattle.jet_boxes.specs.declared.port.Port.TheVariants.{Stream}
use Rattle.jet_tasklet.specs.declared.arrival.Arrival.{Arrival}
use Rattle.jet_tasklet.specs.Trace.{of_queue}
use Rattle.jet_tasklet.specs.Inputs.{InputView, inputs_view, queue_count}
use Rattle.jet_tasklet.specs.Keeps.{Came}
use Rattle.jet_coalescer.specs.declared.coalescer.Coalescer.{Coalescer}
use Rattle.jet_tasklet.specs.Sending.{EachReceived}
use Rattle.jet_tasklet.proofs.Sounding.{told_sound, told_closed}
use Rattle.jet_tasklet.proofs.Sending.{told_fronts, none_outside}
use Rattle.jet_tasklet.proofs.tasklet.Tasklet.law_told_in_order.Goals as goal

within : (a b : ℕ) → (a < b) ⊎ (b ≤ a)
within zero zero = inr (omega arith)
within zero (suc b) = inl (omega arith)
within (suc a) zero = inr (omega arith)
within (suc a) (suc b) = elim (within a b) [ inl h ↦ inl (omega (arith, h)) | inr h ↦ inr (omega (arith, h)) ]

-- what holds of what was received holds of what came, of each number of a queue
of_all : (Q : List Item → Type 0) → Q [] → (vs : List InputView) (co : Coalescer) (came : List Arrival) → Came vs co came → EachReceived Q vs → (port : Port) (q : ℕ) → Q (of_queue port q came)
of_all Q none vs co came h all port q =
    elim (within q (queue_count port vs)) [
      | inl lt ↦ subst Q (h.received_is port q lt) (all port q lt)
      | inr le ↦ subst Q (sym (none_outside (λ p. queue_count p vs) port q came h.in_order.inside le)) none
    ]

pub returns : goal.returns
returns g c =
    let vs : List InputView = inputs_view c.args.self.now.inputs.items in
    record {
      sound = λ behind came gave k all.
          told_fronts (Sound behind) (λ xs ys s. Sound-front behind xs ys s) c.args.self.now.step (queue_count Stream vs) came
          (told_sound behind (λ p. queue_count p vs) came k.takes_in.in_order (of_all (Sound behind) (record { after = tt; lates = tt }) vs c.args.self.now.coalescer came k.takes_in all));
      closed = λ came gave k all.
          told_fronts Closed (λ xs ys s. Closed-front xs ys s) c.args.self.now.step (queue_count Stream vs) came
          (told_closed (λ p. queue_count p vs) came k.takes_in.in_order (λ q. of_all Closed (record { after = tt }) vs c.args.self.now.coalescer came k.takes_in all Stream q));
    }
