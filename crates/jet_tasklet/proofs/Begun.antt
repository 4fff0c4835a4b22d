-- What a frame vertex that began with a mark is told is as it asks for, where what its queues received is.
use Rattle.std.proofs.Common.{ℕ, Bool, ℤ, List, Option}
use Rattle.jet_items.specs.Order.{Sound}
use Rattle.jet_boxes.specs.Entry.{items_of}
use Rattle.jet_coalescer.specs.declared.coalescer.Coalescer.{Coalescer}
use Rattle.jet_window.specs.LateEvents.{BelowIsBehind, FrameSound}
use Rattle.jet_boxes.specs.declared.port.Port.TheVariants.{Stream}
use Rattle.jet_tasklet.specs.declared.arrival.Arrival.{Arrival}
use Rattle.jet_tasklet.specs.declared.step.Step.{Step}
use Rattle.jet_tasklet.specs.Inputs.{InputView, queue_count}
use Rattle.jet_tasklet.specs.Keeps.{Came, told}
use Rattle.jet_tasklet.specs.Sending.{EachFront, EachReceived}
use Rattle.jet_tasklet.proofs.Stamping.{told_each}

pub frame_told : (behind : ℕ → ℕ → Bool) (begun : Option ℤ) (vs : List InputView) (co : Coalescer) (s : Step) (came : List Arrival) → Came vs co came
    → (EachReceived (Sound behind) vs → EachFront (λ taken. Sound behind (items_of taken)) (told s (queue_count Stream vs) came))
    → EachReceived (FrameSound behind begun) vs → EachFront (λ taken. FrameSound behind begun (items_of taken)) (told s (queue_count Stream vs) came)
frame_told behind begun vs co s came h sound fed taken more is = record {
  sound = sound (λ port q lt. (fed port q lt).sound) taken more is;
  below = told_each (BelowIsBehind behind begun) (λ m. tt) vs co s came h (λ port q lt. (fed port q lt).below) taken more is;
}
