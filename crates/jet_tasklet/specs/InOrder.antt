-- In which order items may come.
use Rattle.std.specs.Prelude.{◌≡◌, ℕ, ◌<◌, true, false, List}
use Rattle.jet_items.specs.Done.{is_done}
use Rattle.jet_items.specs.Order.{Each, EachPair}
use Rattle.jet_boxes.specs.declared.port.Port.{Port}
use Rattle.jet_boxes.specs.declared.port.Port.TheVariants.{Stream, Build}
use Rattle.jet_tasklet.specs.declared.arrival.Arrival.{Arrival}
use Rattle.jet_tasklet.specs.Trace.{is_from}

-- b may come after a: nothing comes from a queue after its Done, and nothing from a build queue after an item of the stream
abbrev pub MayFollow : Arrival → Arrival → Type 0
MayFollow a b = (is_done a.item ≡ true → is_from b.port b.queue a ≡ false) × (a.port ≡ Stream → b.port ≡ Build → ⊥)

-- each item came from one of the queues, of which each port has this many, and after those that it may follow
pub record InOrder (queues : Port → ℕ) (came : List Arrival) : Type 0 where
  pub inside : Each (λ a. a.queue < queues a.port) came
  pub follows : EachPair MayFollow came
