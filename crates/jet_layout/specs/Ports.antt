-- The outputs and inputs of the tasklets of a job.
use Rattle.std.specs.Prelude.{◌≡◌, ◌≢◌, ℕ, ◌<◌, ◌≤◌, ◌==◌, ◌&&◌, Bool, true, false, List, count_by, filter, bytes_eq, slice_get, Some, if◌then◌else◌}
use Rattle.std.specs.List.{Contains}
use Rattle.std.specs.Option.{option_map_or}
use Rattle.jet_plan.specs.declared.dag.Dag.{Dag}
use Rattle.jet_plan.specs.declared.edge.Edge.{Edge}
use Rattle.jet_plan.specs.declared.vertex.Vertex.{Vertex}
use Rattle.jet_plan.specs.Ends.{edges_from}
use Rattle.jet_plan.specs.Kinds.{reads_files, is_isolated}
use Rattle.jet_layout.specs.declared.joint.Joint.{Joint}
use Rattle.jet_layout.specs.declared.task.Link.{Link}
use Rattle.jet_layout.specs.declared.task.Task.{Task}
use Rattle.jet_layout.specs.declared.task.Task.TheVariants.{Run, Send, Receive}
use Rattle.jet_layout.specs.declared.wire.Port.{Port}
use Rattle.jet_layout.specs.declared.wire.Taker.TheVariants.{Input}
use Rattle.jet_layout.specs.declared.wire.Wire.{Wire}
use Rattle.jet_layout.specs.Destinations.{destination_count}
use Rattle.jet_layout.specs.Joints.{count}

-- how many edges go into a vertex
abbrev pub edges_to : List Edge → List ℕ → ℕ
edges_to edges name = count_by (λ e. bytes_eq e.to name) edges

-- the inputs of an instance of a vertex: the one for its files, or one for each edge into it
abbrev pub vertex_inputs : Dag → Vertex → ℕ
vertex_inputs dag v = if reads_files v.kind then 1 else edges_to dag.edges v.name

-- how many outputs a tasklet has: an instance one for each edge out of its vertex, and what receives from a link one
abbrev pub outputs_of : Dag → Task → ℕ
outputs_of dag (Run i) = option_map_or (λ v. edges_from dag.edges v.name) (slice_get dag.vertices i.vertex) 0
outputs_of dag (Send l) = 0
outputs_of dag (Receive l) = 1

-- how many inputs it has
abbrev pub inputs_of : Dag → Task → ℕ
inputs_of dag (Run i) = option_map_or (vertex_inputs dag) (slice_get dag.vertices i.vertex) 0
inputs_of dag (Send l) = 1
inputs_of dag (Receive l) = 0

-- there is a tasklet with this output, and with this input
pub record HasOutput (dag : Dag) (tasks : List Task) (p : Port) : Type 0 where
  pub task : Task
  pub at : slice_get tasks p.task ≡ Some task
  pub below : p.number < outputs_of dag task

pub record HasInput (dag : Dag) (tasks : List Task) (p : Port) : Type 0 where
  pub task : Task
  pub at : slice_get tasks p.task ≡ Some task
  pub below : p.number < inputs_of dag task

-- a wire leads from an output to an input of another tasklet, or to the sink
pub record HasPorts (dag : Dag) (tasks : List Task) (w : Wire) : Type 0 where
  pub giver : HasOutput dag tasks w.giver
  pub taker : (p : Port) → w.taker ≡ Input p → HasInput dag tasks p
  pub apart : (p : Port) → w.taker ≡ Input p → w.giver.task ≢ p.task

-- of joints those whose edge leads from the vertex of this name, in their order
abbrev pub joints_out : Dag → List Joint → List ℕ → List Joint
joints_out dag joints name = filter (λ j. option_map_or (λ e. bytes_eq e.from name) (slice_get dag.edges j.edge) false) joints

-- the wire is one of the output with the number n of the tasklet with the number k
abbrev pub gives_at : ℕ → ℕ → Wire → Bool
gives_at k n w = k == w.giver.task && n == w.giver.number

-- how many wires that output has
abbrev pub wire_count : List Wire → ℕ → ℕ → ℕ
wire_count wires k n = count_by (gives_at k n) wires

-- Output n of the tasklet k, which is a producer of the joint on member m, has its wires: one for each destination, or one alone
-- where it always gives to the same consumer.
pub record HasWires (width : ℕ) (wires : List Wire) (k n m : ℕ) (j : Joint) : Type 0 where
  pub some : 0 < wire_count wires k n
  pub each : is_isolated j.route ≡ false → wire_count wires k n ≡ destination_count width j j.distributed m
  pub one : is_isolated j.route ≡ true → wire_count wires k n ≡ 1
  pub producers : 0 < count j.from m
  pub consumers : 1 ≤ j.to.parallelism

-- The receiver of a link, which is the tasklet k, has its wires: one for each of the consumers that the edge of the link has on
-- its member, of which there are some.
pub record IsHeard (width : ℕ) (joints : List Joint) (wires : List Wire) (k : ℕ) (x : Link) : Type 0 where
  pub joint : Joint
  pub at : slice_get joints x.edge ≡ Some joint
  pub edge : joint.edge ≡ x.edge
  pub some : 0 < wire_count wires k 0
  pub each : wire_count wires k 0 ≡ destination_count width joint false x.to
  pub here : 0 < count joint.to x.to
  pub consumers : 1 ≤ joint.to.parallelism

-- a wire leads to the input with the number n of the tasklet with the number k
abbrev pub IsFed : List Wire → ℕ → ℕ → Type 0
IsFed wires k n = (w : Wire) × Contains wires w × (w.taker ≡ Input (record { task = k; number = n }))
