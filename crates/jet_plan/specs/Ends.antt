-- The inputs and outputs that a vertex may have.
use Rattle.std.specs.Prelude.{ℕ, ◌==◌, nat_lt, Bool, not, ◌&&◌, List, count_by, bytes_eq}
use Rattle.jet_plan.specs.declared.edge.Edge.{Edge}
use Rattle.jet_plan.specs.declared.vertex.Vertex.{Vertex}
use Rattle.jet_plan.specs.declared.kind.Kind.{Kind}
use Rattle.jet_plan.specs.declared.kind.Kind.TheVariants.{Source, Side, Join, Accumulate, Combine, Sink}
use Rattle.jet_plan.specs.Kinds.{is_sink}

abbrev pub sinks : List Vertex → ℕ
sinks vertices = count_by (λ v. is_sink v.kind) vertices

-- how many build edges go into a vertex, and how many stream edges
abbrev pub builds_into : List Edge → List ℕ → ℕ
builds_into edges name = count_by (λ e. bytes_eq e.to name && e.build) edges

abbrev pub streams_into : List Edge → List ℕ → ℕ
streams_into edges name = count_by (λ e. bytes_eq e.to name && not e.build) edges

-- how many edges go out of a vertex
abbrev pub edges_from : List Edge → List ℕ → ℕ
edges_from edges name = count_by (λ e. bytes_eq e.from name) edges

-- the numbers of stream and of build inputs that each kind may have
abbrev pub may_have_inputs : Kind → ℕ → ℕ → Bool
may_have_inputs (Source files lag) streams builds = streams == 0 && builds == 0
may_have_inputs (Side file) streams builds = streams == 0 && builds == 0
may_have_inputs (Join mode rekey fields) streams builds = nat_lt 0 streams && builds == 1
may_have_inputs Combine streams builds = streams == 1 && builds == 0
may_have_inputs _ streams builds = nat_lt 0 streams && builds == 0

-- the number of outputs that each kind may have
abbrev pub may_have_outputs : Kind → ℕ → Bool
may_have_outputs Sink n = n == 0
may_have_outputs (Accumulate size slide) n = n == 1
may_have_outputs Combine n = n == 1
may_have_outputs _ n = nat_lt 0 n

abbrev pub has_wrong_inputs : List Edge → Vertex → Bool
has_wrong_inputs edges v = not (may_have_inputs v.kind (streams_into edges v.name) (builds_into edges v.name))

abbrev pub has_wrong_outputs : List Edge → Vertex → Bool
has_wrong_outputs edges v = not (may_have_outputs v.kind (edges_from edges v.name))
