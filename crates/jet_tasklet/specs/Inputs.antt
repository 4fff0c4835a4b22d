-- What a contract sees of the inputs of a tasklet.
use Rattle.std.specs.Prelude.{◌≡◌, ℕ, Bool, true, cond, List, [], map, length, sum_by}
use Rattle.std.specs.List.{flat_map, list_all}
use Rattle.jet_items.specs.declared.item.Item.{Item}
use Rattle.jet_boxes.specs.declared.port.Port.{Port}
use Rattle.jet_conveyor.specs.Conveyor as conveyor
use Rattle.jet_ring.specs.Ring.{Ring}
use Rattle.jet_items.specs.Order.{Each}
use Rattle.jet_tasklet.specs.declared.input.Input.{Input}
use Rattle.jet_tasklet.specs.Trace.{same_port}

-- the port of an input, and what a contract sees of its conveyor
pub record InputView : Type 0 where
  pub port : Port
  pub queues : conveyor.View

abbrev pub input_view : Input → InputView
input_view i = record { port = i.port; queues = conveyor.view i.conveyor }

abbrev pub inputs_view : List Input → List InputView
inputs_view inputs = map input_view inputs

-- a list for each queue of a port, through all inputs of that port in order
abbrev pub of_port : {X : Type 0} → (conveyor.View → List X) → Port → List InputView → List X
of_port f port inputs = flat_map (λ i. cond (same_port i.port port) (f i.queues) []) inputs

-- the ring of each queue of a port, what was received of it and whether it is done
abbrev pub rings : Port → List InputView → List Ring
rings port inputs = of_port (λ v. v.rings) port inputs

abbrev pub received : Port → List InputView → List (List Item)
received port inputs = of_port (λ v. v.received) port inputs

abbrev pub dones : Port → List InputView → List Bool
dones port inputs = of_port (λ v. v.done) port inputs

-- how many queues a port has
abbrev pub queue_count : Port → List InputView → ℕ
queue_count port inputs = length (rings port inputs)

-- each queue of a port is done
abbrev pub all_done : Port → List InputView → Bool
all_done port inputs = list_all (λ d. d) (dones port inputs)

-- no queue of a port that is not done has a known item
abbrev pub NoneKnownAt : Port → List InputView → Type 0
NoneKnownAt port inputs = Each (λ i. same_port i.port port ≡ true → conveyor.NoneKnown i.queues 0 (length i.queues.rings)) inputs

-- how many items were received of all queues
abbrev pub received_count : List InputView → ℕ
received_count inputs = sum_by (λ i. sum_by (λ xs. length xs) i.queues.received) inputs
