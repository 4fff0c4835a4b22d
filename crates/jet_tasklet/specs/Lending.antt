-- What a tasklet ends as once a part that was lent comes back.
use Rattle.std.specs.Prelude.{ℕ, false, slice_index_or}
use Rattle.std.specs.Vec.{with_item}
use Rattle.jet_boxes.specs.declared.port.Port.TheVariants.{Stream}
use Rattle.jet_conveyor.specs.declared.conveyor.Conveyor.{Conveyor}
use Rattle.jet_router.specs.declared.router.Router.{Router}
use Rattle.jet_tasklet.specs.declared.tasklet.Tasklet.{Tasklet}

-- t with the conveyor of the input n changed to w; `was` is the conveyor as it was
abbrev pub with_input : {P : Type 0} → Tasklet P → ℕ → Conveyor → Conveyor → Tasklet P
with_input t n was w = record t { inputs = with_item t.inputs n (record (slice_index_or t.inputs.items n (record { port = Stream; conveyor = was })) { conveyor = w }) }

-- the same of the router of the output n
abbrev pub with_output : {P : Type 0} → Tasklet P → ℕ → Router → Router → Tasklet P
with_output t n was w = record t { outputs = with_item t.outputs n (record (slice_index_or t.outputs.items n (record { router = was; had = false })) { router = w }) }
