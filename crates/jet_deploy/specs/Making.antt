-- The tasklets of a job, each made over the ends of rings that are there for it.
use Rattle.std.specs.Prelude.{◌≡◌, ◌≢◌, ℕ, ◌+◌, ◌≤◌, ◌<◌, Bool, false, bytes_eq, ℤ, List, [], ◌∷◌, map, length, Some, slice_get, if◌then◌else◌}
use Rattle.std.specs.Option.{option_map_or}
use Rattle.jet_boxes.specs.declared.port.Port.{Port}
use Rattle.jet_boxes.specs.declared.port.Port.TheVariants.{Stream, Build}
use Rattle.jet_harness.specs.declared.channel.Giver.TheVariants.{File}
use Rattle.jet_harness.specs.declared.harness.Harness.{Harness}
use Rattle.jet_harness.specs.Harness.{txs_of, rxs_of, fresh_tx, fresh_rx}
use Rattle.jet_layout.specs.declared.joint.Joint.{Joint}
use Rattle.jet_layout.specs.declared.task.Instance.{Instance}
use Rattle.jet_layout.specs.declared.task.Link.{Link}
use Rattle.jet_layout.specs.declared.task.Task.{Task}
use Rattle.jet_layout.specs.declared.task.Task.TheVariants.{Run, Send, Receive}
use Rattle.jet_layout.specs.declared.wire.Taker.TheVariants.{Sink}
use Rattle.jet_layout.specs.Ports.{joints_out}
use Rattle.jet_plan.specs.declared.dag.Dag.{Dag}
use Rattle.jet_plan.specs.declared.edge.Edge.{Edge}
use Rattle.jet_plan.specs.declared.vertex.Vertex.{Vertex}
use Rattle.jet_plan.specs.Graph.{edges_into}
use Rattle.jet_plan.specs.Kinds.{reads_files, is_sink}
use Rattle.jet_ring.specs.Ring.{Ring}
use Rattle.jet_run.specs.Flows.{IsFor}
use Rattle.jet_tasklet.specs.declared.any.AnyTasklet.{AnyTasklet}
use Rattle.jet_tasklet.specs.Any.{AnyKeeps}
use Rattle.jet_tasklet.specs.Meeting.{AreLinkEnds}
use Rattle.jet_tasklet.specs.Outputs.{ready}
use Rattle.jet_tasklet.specs.Views.{ins, outs}
use Rattle.jet_deploy.specs.Ends.{input_at, output_at, input_over, inputs_from, router_over, outputs_from, Fits, FitAll}
use Rattle.jet_deploy.specs.Instances.{HasMore}

-- the port to which the items of an edge go
abbrev pub port_of : Edge → Port
port_of e = if e.build then Build else Stream

-- the ports of the inputs of a vertex: that of its files, or those of the edges into it
abbrev pub vertex_ports : Dag → Vertex → List Port
vertex_ports dag v = if reads_files v.kind then Stream ∷ [] else map port_of (edges_into v.name dag.edges)

-- tests whether the edge of a joint leads from the vertex of a name
abbrev pub leads_from : List Edge → List ℕ → Joint → Bool
leads_from edges name j = option_map_or (λ e. bytes_eq e.from name) (slice_get edges j.edge) false

-- what is given to tasklets to be made of: the job, the number of its members, its edges by the instances at their ends, and
-- the unit of its watermarks
pub record Ground : Type 0 where
  pub dag : Dag
  pub members : ℕ
  pub joints : List Joint
  pub grain : ℤ

-- the tasklet k runs an instance of a vertex: it has an input for each edge in or for the files, and an output for each edge out
pub record IsInstance (g : Ground) (h : Harness) (k : ℕ) (i : Instance) (t : AnyTasklet) : Type 0 where
  pub vertex : Vertex
  pub there : slice_get g.dag.vertices i.vertex ≡ Some vertex
  pub kind : IsFor vertex.kind t
  pub more : HasMore g.dag g.grain i.vertex vertex vertex.kind t
  pub inputs : ins t ≡ inputs_from h k 0 (vertex_ports g.dag vertex)
  pub outputs : outs t ≡ map ready (outputs_from h k g.members i.member 0 (joints_out g.dag g.joints vertex.name))

-- it sends over a link
pub record IsSending (h : Harness) (k : ℕ) (t : AnyTasklet) : Type 0 where
  pub inputs : ins t ≡ input_over Stream (rxs_of h (input_at k 0)) ∷ []
  pub outputs : outs t ≡ []

-- it receives from a link, whose items it gives on as the edge of the link does
pub record IsReceiving (g : Ground) (h : Harness) (k : ℕ) (l : Link) (t : AnyTasklet) : Type 0 where
  pub joint : Joint
  pub at : slice_get g.joints l.edge ≡ Some joint
  pub inputs : ins t ≡ []
  pub outputs : outs t ≡ ready (router_over g.members joint false l.to (txs_of h (output_at k 0))) ∷ []

-- it is the tasklet k of a layout
abbrev pub IsMade : Ground → Harness → ℕ → Task → AnyTasklet → Type 0
IsMade g h k (Run i) t = IsInstance g h k i t
IsMade g h k (Send l) t = IsSending h k t
IsMade g h k (Receive l) t = IsReceiving g h k l t

-- each tasklet of a layout is made, and has taken and given nothing; what sends over a link and what receives from it are the two ends of one
pub record AreMade (g : Ground) (h : Harness) (tasks : List Task) (ts : List AnyTasklet) : Type 0 where
  pub made : (k : ℕ) (task : Task) (t : AnyTasklet) → slice_get tasks k ≡ Some task → slice_get ts k ≡ Some t → IsMade g h k task t
  pub keeps : (k : ℕ) (t : AnyTasklet) → slice_get ts k ≡ Some t → AnyKeeps t [] []
  pub linked : (k : ℕ) (l : Link) (t u : AnyTasklet) → slice_get tasks k ≡ Some (Send l) → slice_get ts k ≡ Some t → slice_get ts (k + 1) ≡ Some u → AreLinkEnds t u

-- nothing went through the rings whose ends are there for the tasklet k, and they are not many
pub record HasFreshEnds (h : Harness) (k : ℕ) : Type 0 where
  pub rxs : (n : ℕ) → (rs : List Ring) × (rxs_of h (input_at k n) ≡ map fresh_rx rs) × (length rs ≤ 2000000)
  pub txs : (n : ℕ) → (rs : List Ring) × (txs_of h (output_at k n) ≡ map fresh_tx rs)

-- no ends but those of the tasklets before k were taken
pub record Remains (k : ℕ) (a b : Harness) : Type 0 where
  pub rxs : (t n : ℕ) → k ≤ t → rxs_of b (input_at t n) ≡ rxs_of a (input_at t n)
  pub txs : (t n : ℕ) → k ≤ t → txs_of b (output_at t n) ≡ txs_of a (output_at t n)
  pub files : txs_of b File ≡ txs_of a File
  pub sink : rxs_of b Sink ≡ rxs_of a Sink

-- the vertex of an instance and its outputs: the ends that are there fit the edges out of it
pub record CanRun (g : Ground) (h : Harness) (k : ℕ) (i : Instance) : Type 0 where
  pub vertex : Vertex
  pub there : slice_get g.dag.vertices i.vertex ≡ Some vertex
  pub no_sink : is_sink vertex.kind ≡ false
  pub member : i.member < g.members
  pub some : 0 < length (joints_out g.dag g.joints vertex.name)
  pub few : length (joints_out g.dag g.joints vertex.name) ≤ 64
  pub fit : FitAll h k g.members i.member 0 (joints_out g.dag g.joints vertex.name)
  pub fresh : HasFreshEnds h k

-- the edge of a link: the ends that are there for the receiver k + 1 fit it
pub record CanLink (g : Ground) (h : Harness) (k : ℕ) (l : Link) : Type 0 where
  pub joint : Joint
  pub at : slice_get g.joints l.edge ≡ Some joint
  pub member : l.to < g.members
  pub fit : Fits g.members joint false l.to (length (txs_of h (output_at (k + 1) 0)))
  pub from : HasFreshEnds h k
  pub to : HasFreshEnds h (k + 1)

-- All tasks can be made: what receives from a link stands behind what sends over it, and the ends that are there fit each of them.
pub record CanMake (g : Ground) (h : Harness) (tasks : List Task) : Type 0 where
  pub runs : (k : ℕ) (i : Instance) → slice_get tasks k ≡ Some (Run i) → CanRun g h k i
  pub links : (k : ℕ) (l : Link) → slice_get tasks k ≡ Some (Send l) → CanLink g h k l
  pub behind : (k : ℕ) (l : Link) → slice_get tasks k ≡ Some (Send l) → slice_get tasks (k + 1) ≡ Some (Receive l)
  pub before : (k : ℕ) (l : Link) → slice_get tasks (k + 1) ≡ Some (Receive l) → slice_get tasks k ≡ Some (Send l)
  pub first : (l : Link) → slice_get tasks 0 ≢ Some (Receive l)
