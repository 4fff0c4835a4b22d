-- How a tasklet stands in a turn, and why it may have nothing to do.
use Rattle.std.specs.Prelude.{◌≡◌, ℕ, ◌<◌, ◌&&◌, ◌⊎◌, Bool, true, false, List, [], ◌∷◌, ◌++◌, length}
use Rattle.jet_items.specs.declared.item.Item.{Item}
use Rattle.jet_boxes.specs.Held.{BoxView}
use Rattle.jet_boxes.specs.declared.port.Port.TheVariants.{Stream, Build}
use Rattle.jet_tasklet.specs.Inputs.{InputView, inputs_view, all_done, received_count}
use Rattle.jet_tasklet.specs.Outputs.{OutputView, outputs_view, SomeBlocked, sent_count}
use Rattle.jet_tasklet.specs.Steps.{finale}
use Rattle.jet_tasklet.specs.Taking.{NoneToTake}
use Rattle.jet_tasklet.specs.declared.step.Step.{Step}
use Rattle.jet_tasklet.specs.declared.step.Step.TheVariants as step
use Rattle.jet_tasklet.specs.declared.step.Pending.{Pending}
use Rattle.jet_tasklet.specs.declared.step.Pending.TheVariants as call
use Rattle.jet_tasklet.specs.declared.tasklet.Tasklet.{Tasklet}

-- nothing is pending
abbrev pub is_free : Step → Bool
is_free step.Poll = true
is_free (step.Make c) = false
is_free step.End = false
is_free step.Ended = true

-- how many calls and puts are pending at most
abbrev pub rank_of : Pending → ℕ
rank_of (call.Accept a) = 1
rank_of (call.Close port q then) = 2
rank_of (call.Tell t) = 1
rank_of call.Finish = 2

abbrev pub rank : Step → ℕ
rank step.Poll = 0
rank (step.Make c) = rank_of c
rank step.End = 1
rank step.Ended = 0

-- the outbox was given out after the last item
abbrev pub HasEnded : {P : Type 0} → Tasklet P → Type 0
HasEnded t = (t.step ≡ step.Ended) × (t.outbox.items ≡ [])

-- each queue of both ports is done
abbrev pub all_ended : List InputView → Bool
all_ended inputs = all_done Build inputs && all_done Stream inputs

abbrev pub IsFull : BoxView → Type 0
IsFull held = length held.items ≡ held.room

-- the front of the outbox is owed to a destination that has no known free slot
abbrev pub IsOwed : List Item → List OutputView → Type 0
IsOwed [] outputs = ⊥
IsOwed (x ∷ xs) outputs = SomeBlocked x outputs

abbrev pub IsBlocked : {P : Type 0} → Tasklet P → Type 0
IsBlocked t = IsOwed t.outbox.items (outputs_view t.outputs.items)

-- the outbox is empty, nothing is pending, some input queue is not done, and no queue that may be polled has a known item
pub record IsStarved {P : Type 0} (t : Tasklet P) : Type 0 where
  pub sent : t.outbox.items ≡ []
  pub free : t.step ≡ step.Poll
  pub waits : all_ended (inputs_view t.inputs.items) ≡ false
  pub none : NoneToTake (inputs_view t.inputs.items)

-- nothing was taken or given on, the outbox has some items more, and the finish was not begun; what has ended since put its Done
pub record Worked {P : Type 0} (a b : Tasklet P) : Type 0 where
  pub inputs : inputs_view b.inputs.items ≡ inputs_view a.inputs.items
  pub next : b.next ≡ a.next
  pub outputs : b.outputs ≡ a.outputs
  pub room : b.outbox.room ≡ a.outbox.room
  pub puts : (put : List Item) × (b.outbox.items ≡ a.outbox.items ++ put)
  pub finale_kept : finale b.step ≡ finale a.step
  pub ended : b.step ≡ step.Ended → (a.step ≡ step.Ended) ⊎ (length a.outbox.items < length b.outbox.items)

-- no item can be taken: the outbox is full, the tasklet has put Done, or no queue has an item for it
abbrev pub TakesNone : {P : Type 0} → Tasklet P → Type 0
TakesNone t = IsFull t.outbox ⊎ ((t.step ≡ step.Ended) ⊎ ((t.step ≡ step.Poll) × NoneToTake (inputs_view t.inputs.items)))

-- the finish is pending, which it is where nothing was and each queue is done, or all is as it was
abbrev pub BeginsFinish : {P : Type 0} → Tasklet P → Tasklet P → Type 0
BeginsFinish a b = (b ≡ record a { step = step.Make call.Finish }) ⊎ ((b ≡ a) × (a.step ≡ step.Poll → all_ended (inputs_view a.inputs.items) ≡ false))

-- some items entered a list at its end, and none left it
pub record Enters (before after : List Item) : Type 0 where
  pub put : List Item
  pub some : 0 < length put
  pub is : after ≡ before ++ put

-- an item was pushed into a ring or popped from one, or entered an outbox that none left
abbrev pub Moves : {P : Type 0} → Tasklet P → Tasklet P → Type 0
Moves a b = (sent_count (outputs_view a.outputs.items) < sent_count (outputs_view b.outputs.items)) ⊎ ((received_count (inputs_view a.inputs.items) < received_count (inputs_view b.inputs.items)) ⊎ Enters a.outbox.items b.outbox.items)

-- none was
pub record IsStill {P : Type 0} (a b : Tasklet P) : Type 0 where
  pub sent : sent_count (outputs_view b.outputs.items) ≡ sent_count (outputs_view a.outputs.items)
  pub inputs : inputs_view b.inputs.items ≡ inputs_view a.inputs.items
  pub outbox : b.outbox.items ≡ a.outbox.items
