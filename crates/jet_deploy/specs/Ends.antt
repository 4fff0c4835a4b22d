-- The inputs and outputs of a tasklet, made over the ends of rings that are there for it.
use Rattle.std.specs.Prelude.{◌≡◌, ℕ, ◌+◌, ◌<◌, ◌≤◌, ◌^◌, Bool, true, false, List, [], ◌∷◌, map, length, replicate, if◌then◌else◌}
use Rattle.jet_items.specs.declared.item.Item.{Item}
use Rattle.jet_boxes.specs.declared.port.Port.{Port}
use Rattle.jet_conveyor.specs.Conveyor as conveyor
use Rattle.jet_harness.specs.declared.channel.Giver.{Giver}
use Rattle.jet_harness.specs.declared.channel.Giver.TheVariants.{Output}
use Rattle.jet_harness.specs.declared.harness.Harness.{Harness}
use Rattle.jet_harness.specs.Harness.{txs_of, rxs_of}
use Rattle.jet_layout.specs.declared.joint.Joint.{Joint}
use Rattle.jet_layout.specs.declared.wire.Taker.{Taker}
use Rattle.jet_layout.specs.declared.wire.Taker.TheVariants.{Input}
use Rattle.jet_layout.specs.Destinations.{destination_count, HasOutputs}
use Rattle.jet_layout.specs.Tables.{table}
use Rattle.jet_plan.specs.declared.route.Route.{Route}
use Rattle.jet_plan.specs.declared.route.Route.TheVariants.{Unicast, Isolated, Partitioned, Broadcast}
use Rattle.jet_plan.specs.Kinds.{is_partitioned}
use Rattle.jet_ring.specs.Ring.{TxView, RxView}
use Rattle.jet_router.specs.declared.aim.Route as aim
use Rattle.jet_router.specs.declared.aim.Route.TheVariants as aims
use Rattle.jet_router.specs.Dest.{fresh}
use Rattle.jet_router.specs.Router as router
use Rattle.jet_tasklet.specs.Inputs.{InputView}

-- the input of this number of a tasklet as what takes the items of rings, and the output as what gives them
abbrev pub input_at : ℕ → ℕ → Taker
input_at task n = Input (record { task = task; number = n })

abbrev pub output_at : ℕ → ℕ → Giver
output_at task n = Output (record { task = task; number = n })

-- a conveyor over these ends, none of them done
abbrev pub conveyor_over : List (RxView Item) → conveyor.View
conveyor_over rxs = record {
  rings = map (λ r. r.ring) rxs;
  received = map (λ r. r.received) rxs;
  known = map (λ r. r.known) rxs;
  done = replicate (length rxs) false;
  cursor = 0;
}

-- an input that leads to this port, over these ends
abbrev pub input_over : Port → List (RxView Item) → InputView
input_over port rxs = record { port = port; queues = conveyor_over rxs }

-- the inputs of a tasklet, with numbers from n on, that lead to these ports: each over the ends that are there for it
abbrev pub inputs_from : Harness → ℕ → ℕ → List Port → List InputView
inputs_from h task n [] = []
inputs_from h task n (p ∷ ps) = input_over p (rxs_of h (input_at task n)) ∷ inputs_from h task (n + 1) ps

-- the way of a router: an isolated producer has one destination, to which any item goes
abbrev pub aim_of : Route → aim.Route
aim_of Unicast = aims.Unicast
aim_of Isolated = aims.Unicast
aim_of Partitioned = aims.Partitioned
aim_of Broadcast = aims.Broadcast

-- the router of an edge on a member m over these ends, which has given nothing
abbrev pub router_over : ℕ → Joint → Bool → ℕ → List (TxView Item) → router.View
router_over members j across m txs = record {
  route = aim_of j.route;
  table = if is_partitioned j.route then table members j across m else [];
  dests = map fresh txs;
  busy = false;
  turn = 0;
}

-- the outputs of a tasklet on member m, with numbers from n on, that are these edges: each over the ends that are there for it
abbrev pub outputs_from : Harness → ℕ → ℕ → ℕ → ℕ → List Joint → List router.View
outputs_from h task members m n [] = []
outputs_from h task members m n (j ∷ js) = router_over members j j.distributed m (txs_of h (output_at task n)) ∷ outputs_from h task members m (n + 1) js

-- so many ends fit an output of an edge on a member m: there are some, and where items go by their keys one for each destination
pub record Fits (members : ℕ) (j : Joint) (across : Bool) (m n : ℕ) : Type 0 where
  pub some : 0 < n
  pub few : n < 2 ^ 32
  pub instances : 1 ≤ j.to.parallelism
  pub here : is_partitioned j.route ≡ true → HasOutputs j across m
  pub each : is_partitioned j.route ≡ true → n ≡ destination_count members j across m

-- those of the outputs of a tasklet, with numbers from n on, fit these edges
abbrev pub FitAll : Harness → ℕ → ℕ → ℕ → ℕ → List Joint → Type 0
FitAll h task members m n [] = Unit {0}
FitAll h task members m n (j ∷ js) = Fits members j j.distributed m (length (txs_of h (output_at task n))) × FitAll h task members m (n + 1) js
