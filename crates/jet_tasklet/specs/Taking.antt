-- One item that stands at a spot of the inputs of a tasklet, one that was taken from there, and none.
use Rattle.std.specs.Prelude.{◌≡◌, ℕ, ◌+◌, ◌<◌, Bool, true, false, List, [], ◌∷◌, length, get_or, set, take}
use Rattle.jet_boxes.specs.declared.port.Port.{Port}
use Rattle.jet_boxes.specs.declared.port.Port.TheVariants.{Stream, Build}
use Rattle.jet_conveyor.specs.Conveyor as conveyor
use mathlib.Core.List.{IsPrefix}
use Rattle.jet_items.specs.declared.item.Item.{Item}
use Rattle.jet_tasklet.specs.declared.arrival.Arrival.{Arrival}
use Rattle.jet_tasklet.specs.declared.inputs.Spot.{Spot}
use Rattle.jet_tasklet.specs.Trace.{same_port}
use Rattle.jet_tasklet.specs.Inputs.{InputView, queue_count, all_done, NoneKnownAt}

-- the input at `place` gave an item of its queue `within`, and no other input changed
pub record Took (before after : List InputView) (port : Port) (a : Arrival) : Type 0 where
  pub place : ℕ
  pub within : ℕ
  pub was : InputView
  pub now : conveyor.View
  pub inside : place < length before
  pub at : was ≡ get_or before place was
  pub to_port : same_port was.port port ≡ true
  pub port_is : a.port ≡ port
  pub queue_is : a.queue ≡ queue_count port (take place before) + within
  pub is_queue : within < length was.queues.rings
  pub took : conveyor.TookFrom was.queues now within a.item
  pub seen : conveyor.SeesMore was.queues now
  pub after_is : after ≡ set before place (record { port = was.port; queues = now })

-- the queue with this number of the port is not done; it is the queue `within` of the input at `place`
pub record OpenQueue (inputs : List InputView) (port : Port) (queue : ℕ) : Type 0 where
  pub place : ℕ
  pub within : ℕ
  pub was : InputView
  pub inside : place < length inputs
  pub at : was ≡ get_or inputs place was
  pub to_port : same_port was.port port ≡ true
  pub queue_is : queue ≡ queue_count port (take place inputs) + within
  pub is_queue : within < length was.queues.rings
  pub is_open : conveyor.is_done_at was.queues within ≡ false

-- x stands at the spot: it is the first known item of a queue that is not done
pub record Stands (inputs : List InputView) (s : Spot) (x : Item) : Type 0 where
  pub was : InputView
  pub inside : s.place < length inputs
  pub at : was ≡ get_or inputs s.place was
  pub to_port : same_port was.port s.port ≡ true
  pub queue_is : s.queue ≡ queue_count s.port (take s.place inputs) + s.within
  pub is_queue : s.within < length was.queues.rings
  pub is_open : conveyor.is_done_at was.queues s.within ≡ false
  pub first : IsPrefix (x ∷ []) (conveyor.known_at was.queues s.within)

-- an item stands at the spot, and it may come: one of the stream only once every build queue is done
pub record IsNext (inputs : List InputView) (s : Spot) : Type 0 where
  pub stands : (x : Item) × Stands inputs s x
  pub builds : s.port ≡ Stream → all_done Build inputs ≡ true
  pub opens : s.port ≡ Build → all_done Build inputs ≡ false

-- the item at a spot, as it comes
abbrev pub arrival_of : Spot → Item → Arrival
arrival_of s x = record { port = s.port; queue = s.queue; item = x }

-- the item was taken from the spot
pub record TookAt (before after : List InputView) (s : Spot) (x : Item) : Type 0 where
  pub took : Took before after s.port (arrival_of s x)
  pub place_is : took.place ≡ s.place
  pub within_is : took.within ≡ s.within

-- more items of one queue may be known, and all else is as it was: nothing was taken
pub record Looked (before after : List InputView) : Type 0 where
  pub place : ℕ
  pub within : ℕ
  pub was : InputView
  pub now : conveyor.View
  pub inside : place < length before
  pub at : was ≡ get_or before place was
  pub same : conveyor.Refreshed was.queues now within
  pub seen : conveyor.SeesMore was.queues now
  pub after_is : after ≡ set before place (record { port = was.port; queues = now })

-- no queue that may be polled now has a known item: those of the stream only once every build queue is done
abbrev pub NoneToTakeIf : Bool → List InputView → Type 0
NoneToTakeIf true inputs = NoneKnownAt Stream inputs
NoneToTakeIf false inputs = NoneKnownAt Build inputs

abbrev pub NoneToTake : List InputView → Type 0
NoneToTake inputs = NoneToTakeIf (all_done Build inputs) inputs
