-- What a tasklet keeps, whatever its processor.
use Rattle.std.specs.Prelude.{◌≡◌, ℕ, ◌<◌, ◌≤◌, ◌^◌, true, false, List, [], ◌++◌, length, get_or}
use mathlib.Core.List.{IsPrefix}
use Rattle.jet_items.specs.declared.item.Item.{Item}
use Rattle.jet_items.specs.Order.{Each}
use Rattle.jet_boxes.specs.declared.port.Port.{Port}
use Rattle.jet_boxes.specs.declared.port.Port.TheVariants.{Stream, Build}
use Rattle.jet_boxes.specs.Entry.{CallEntry}
use Rattle.jet_coalescer.specs.declared.coalescer.Coalescer.{Coalescer}
use Rattle.jet_coalescer.specs.Low.{HasHeard}
use Rattle.jet_router.specs.Router as router
use Rattle.jet_tasklet.specs.declared.arrival.Arrival.{Arrival}
use Rattle.jet_tasklet.specs.declared.step.Step.{Step}
use Rattle.jet_tasklet.specs.declared.step.Step.TheVariants as step
use Rattle.jet_tasklet.specs.declared.step.Pending.TheVariants as call
use Rattle.jet_tasklet.specs.declared.tasklet.Tasklet.{Tasklet}
use Rattle.jet_tasklet.specs.Trace.{of_queue, has_ended, heard, entries}
use Rattle.jet_tasklet.specs.InOrder.{InOrder}
use Rattle.jet_tasklet.specs.Inputs.{InputView, inputs_view, received, dones, queue_count, all_done}
use Rattle.jet_tasklet.specs.Outputs.{outputs_view, Giving, AreOwed}
use Rattle.jet_tasklet.specs.Steps.{Working, finale}

abbrev pub IsBuild : Arrival → Type 0
IsBuild a = a.port ≡ Build

-- each queue has one list of each kind
pub record IsEven (v : InputView) : Type 0 where
  pub received : length v.queues.received ≡ length v.queues.rings
  pub done : length v.queues.done ≡ length v.queues.rings

-- these items, each with its port and queue, came in this order: what each queue received is what came of it, the queue
-- is done where that holds Done, the coalescer heard it, and nothing of a stream queue came before every build queue was
-- done
pub record Came (inputs : List InputView) (coalescer : Coalescer) (came : List Arrival) : Type 0 where
  pub even : Each IsEven inputs
  pub few : (port : Port) → queue_count port inputs < 2 ^ 32
  pub received_is : (port : Port) (q : ℕ) → q < queue_count port inputs → get_or (received port inputs) q [] ≡ of_queue port q came
  pub done_is : (port : Port) (q : ℕ) → q < queue_count port inputs → get_or (dones port inputs) q true ≡ has_ended (of_queue port q came)
  pub in_order : InOrder (λ port. queue_count port inputs) came
  pub builds : all_done Build inputs ≡ false → Each IsBuild came
  pub heard_is : HasHeard coalescer (heard (queue_count Stream inputs) came)

-- the tasklet has nothing more to take once the finish is told
abbrev pub IsOver : Step → List InputView → Type 0
IsOver step.Poll inputs = Unit {0}
IsOver (step.Make (call.Accept a)) inputs = Unit {0}
IsOver (step.Make (call.Close port q then)) inputs = Unit {0}
IsOver (step.Make (call.Tell t)) inputs = Unit {0}
IsOver (step.Make call.Finish) inputs = (port : Port) → all_done port inputs ≡ true
IsOver step.End inputs = (port : Port) → all_done port inputs ≡ true
IsOver step.Ended inputs = (port : Port) → all_done port inputs ≡ true

-- all that the processor is told once these items came and this is done next
abbrev pub told : Step → ℕ → List Arrival → List CallEntry
told next n came = entries n came ++ finale next

-- the tasklet took these items, its processor stands for what follows from them, each output was given these items whole,
-- of those that the processor gave, and some output has not had the front of the outbox
pub record Keeps {P : Type 0} (stands : P → List CallEntry → List Item → Type 0) (amid : P → List CallEntry → CallEntry → List Item → Type 0) (takes : P → Port → ℕ → Type 0) (t : Tasklet P) (came : List Arrival) (gave : List Item) : Type 0 where
  pub takes_in : Came (inputs_view t.inputs.items) t.coalescer came
  pub gives_out : Giving gave t.outbox.items (outputs_view t.outputs.items)
  pub works : Working stands amid takes t.processor t.step (told t.step (queue_count Stream (inputs_view t.inputs.items)) came) (gave ++ t.outbox.items)
  pub takes_all : (port : Port) (q : ℕ) → q < queue_count port (inputs_view t.inputs.items) → takes t.processor port q
  pub over : IsOver t.step (inputs_view t.inputs.items)
  pub room : 1 ≤ t.outbox.room
  pub owed : AreOwed (outputs_view t.outputs.items)

-- there are items that came and that were given of which the tasklet keeps this
pub record IsLawful {P : Type 0} (stands : P → List CallEntry → List Item → Type 0) (amid : P → List CallEntry → CallEntry → List Item → Type 0) (takes : P → Port → ℕ → Type 0) (t : Tasklet P) : Type 0 where
  pub came : List Arrival
  pub gave : List Item
  pub keeps : Keeps stands amid takes t came gave

-- all that ever entered the outbox: what was given from it, and what waits in it
abbrev pub entered : {P : Type 0} → List Item → Tasklet P → List Item
entered gave t = gave ++ t.outbox.items

-- whatever came and was given before, nothing came and nothing was given since, and the tasklet keeps the same
pub record Stays {P : Type 0} (stands : P → List CallEntry → List Item → Type 0) (amid : P → List CallEntry → CallEntry → List Item → Type 0) (takes : P → Port → ℕ → Type 0) (a b : Tasklet P) : Type 0 where
  pub stays : (came : List Arrival) (gave : List Item) → Keeps stands amid takes a came gave → Keeps stands amid takes b came gave

-- whatever came and was given before, more may have come and been given since, and the tasklet keeps the same: all that
-- had entered its outbox was given or still waits there, in its order
pub record Goes {P : Type 0} (stands : P → List CallEntry → List Item → Type 0) (amid : P → List CallEntry → CallEntry → List Item → Type 0) (takes : P → Port → ℕ → Type 0) (a b : Tasklet P) : Type 0 where
  pub goes : (came : List Arrival) (gave : List Item) → Keeps stands amid takes a came gave → (more : List Arrival) × (given : List Item) × Keeps stands amid takes b (came ++ more) (gave ++ given) × IsPrefix (entered gave a) (entered (gave ++ given) b)

-- nothing was received of these queues, and none is done
pub record IsUnread (v : InputView) : Type 0 where
  pub even : IsEven v
  pub received : Each (λ xs. xs ≡ []) v.queues.received
  pub done : Each (λ d. d ≡ false) v.queues.done

-- nothing was sent by this router, and no item is in hand
pub record IsUnsent (v : router.View) : Type 0 where
  pub free : v.busy ≡ false
  pub sents : Each (λ xs. xs ≡ []) (router.sents v)
