-- In which order the items of several inputs are taken: each input in its turn, and each queue of an input in its own.
use Rattle.std.specs.Prelude.{◌≡◌, ℕ, zero, suc, ◌+◌, ◌<◌, ◌≤◌, ◌⊎◌, true, List, length, Some, slice_get}
use Rattle.jet_boxes.specs.declared.port.Port.{Port}
use Rattle.jet_conveyor.specs.Conveyor as conveyor
use Rattle.jet_items.specs.declared.item.Item.{Item}
use Rattle.jet_tasklet.specs.declared.inputs.Spot.{Spot}
use Rattle.jet_tasklet.specs.declared.tasklet.Tasklet.{Tasklet}
use Rattle.jet_tasklet.specs.Inputs.{InputView, inputs_view}
use Rattle.jet_tasklet.specs.Taking.{IsNext, Looked, TookAt}
use Rattle.jet_tasklet.specs.Trace.{same_port}

-- no input of a port, of those from the place `from` to the place `to`, has an item
abbrev pub NoneBetween : Port → List InputView → ℕ → ℕ → Type 0
NoneBetween port inputs from to = (k : ℕ) → from ≤ k → k < to → (v : InputView) → slice_get inputs k ≡ Some v → same_port v.port port ≡ true → conveyor.NoneKnown v.queues 0 (length v.queues.rings)

-- no queue of the input of a spot that comes before its own in turn has an item
abbrev pub QueueInTurn : List InputView → Spot → Type 0
QueueInTurn inputs s = (v : InputView) → slice_get inputs s.place ≡ Some v → conveyor.InTurn v.queues s.within

-- the spot is the first in turn: neither an input of its port that comes before its own, from the place `next` on and then
-- from the first, has an item, nor a queue that comes before its own
pub record IsFirst (inputs : List InputView) (next : ℕ) (s : Spot) : Type 0 where
  pub inputs_before : ((next ≤ s.place) × NoneBetween s.port inputs next s.place) ⊎ ((s.place < next) × NoneBetween s.port inputs next (length inputs) × NoneBetween s.port inputs 0 s.place)
  pub queues_before : QueueInTurn inputs s

-- the inputs of a tasklet, and the place of the one that has the turn
pub record Turns : Type 0 where
  pub inputs : List InputView
  pub next : ℕ

abbrev pub turns_of : {P : Type 0} → Tasklet P → Turns
turns_of t = record { inputs = inputs_view t.inputs.items; next = t.next }

-- an item was found at the spot, of those that may come the first in turn, and the input behind its own has the turn
pub record FoundInTurn (a b : Turns) (s : Spot) : Type 0 where
  pub first : IsFirst a.inputs a.next s
  pub sees : Looked a.inputs b.inputs
  pub next : b.next ≡ s.place + 1

-- an item was found in turn, and taken
pub record TookInTurn (a b : Turns) : Type 0 where
  pub spot : Spot
  pub item : Item
  pub seen : Turns
  pub found : FoundInTurn a seen spot
  pub may : IsNext seen.inputs spot
  pub took : TookAt seen.inputs b.inputs spot item
  pub next : b.next ≡ seen.next

-- so many items were taken one after the other, each in its turn
abbrev pub TookInTurns : ℕ → Turns → Turns → Type 0
TookInTurns zero a b = b ≡ a
TookInTurns (suc n) a b = (c : Turns) × TookInTurn a c × TookInTurns n c b

-- whatever was taken was taken in its turn
pub record TookFairly {P : Type 0} (a b : Tasklet P) : Type 0 where
  pub count : ℕ
  pub took : TookInTurns count (turns_of a) (turns_of b)
