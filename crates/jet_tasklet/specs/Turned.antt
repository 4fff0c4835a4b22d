-- What a turn leaves as it was, and what it can only add to.
use Rattle.std.specs.Prelude.{◌≡◌, ℕ, [], get_or}
use Rattle.std.specs.List.{AllZip}
use mathlib.Core.List.{IsPrefix}
use Rattle.jet_conveyor.specs.Conveyor as conveyor
use Rattle.jet_router.specs.Router as router
use Rattle.jet_tasklet.specs.Inputs.{InputView, inputs_view}
use Rattle.jet_tasklet.specs.Outputs.{OutputView, outputs_view}
use Rattle.jet_tasklet.specs.declared.tasklet.Tasklet.{Tasklet}

-- an input has the same port and the same rings; of each queue, what was received before is the front of what is, and what was received or known still is
pub record InputGoes (a b : InputView) : Type 0 where
  pub port : b.port ≡ a.port
  pub rings : b.queues.rings ≡ a.queues.rings
  pub received : (q : ℕ) → IsPrefix (conveyor.received_at a.queues q) (conveyor.received_at b.queues q)
  pub still_known : conveyor.SeesMore a.queues b.queues

-- an output has the same route and the same rings; of each destination, what was sent before is the front of what is, and what was sent and what may still be sent is as much together
pub record OutputGoes (a b : OutputView) : Type 0 where
  pub same : router.SameRouter a.router b.router
  pub sent : (k : ℕ) → IsPrefix (get_or (router.sents a.router) k []) (get_or (router.sents b.router) k [])
  pub still_free : router.reaches b.router ≡ router.reaches a.router

-- the processor has the same settings and the outbox the same room, and each input and each output has gone on so
pub record Turned {P : Type 0} (same : P → P → Type 0) (a b : Tasklet P) : Type 0 where
  pub settings : same a.processor b.processor
  pub room : b.outbox.room ≡ a.outbox.room
  pub inputs : AllZip InputGoes (inputs_view a.inputs.items) (inputs_view b.inputs.items)
  pub outputs : AllZip OutputGoes (outputs_view a.outputs.items) (outputs_view b.outputs.items)
