-- The edges of a job by the instances at their ends.
use Rattle.std.specs.Prelude.{ℕ, ◌+◌, ◌*◌, ◌==◌, ◌||◌, List, [], ◌∷◌, ◌++◌, count_by, take, position, bytes_eq, slice_index_or, false, Option, option_map, if◌then◌else◌}
use Rattle.std.specs.Option.{option_map_or, option_and_then}
use Rattle.jet_plan.specs.declared.dag.Dag.{Dag}
use Rattle.jet_plan.specs.declared.edge.Edge.{Edge}
use Rattle.jet_plan.specs.declared.vertex.Vertex.{Vertex}
use Rattle.jet_plan.specs.Kinds.{is_side, is_sink}
use Rattle.jet_plan.specs.Names.{has_name}
use Rattle.jet_layout.specs.declared.end.EdgeEnd.{EdgeEnd}
use Rattle.jet_layout.specs.declared.joint.Joint.{Joint}
use Rattle.jet_layout.specs.declared.wire.Port.{Port}
use Rattle.jet_layout.specs.declared.wire.Taker.{Taker}
use Rattle.jet_layout.specs.declared.wire.Taker.TheVariants.{Input, Sink}
use Rattle.jet_layout.specs.Tasks.{task_count}

-- how many of the instances at an end stand on a member
abbrev pub count : EdgeEnd → ℕ → ℕ
count e m = if e.single then (if m == 0 then 1 else 0) else e.parallelism

-- the output or input of instance i on member m
abbrev pub port : EdgeEnd → ℕ → ℕ → Port
port e m i = record { task = e.first + m * e.parallelism + i; number = e.number }

-- what takes the items for it
abbrev pub taker : EdgeEnd → ℕ → ℕ → Taker
taker e m i = if e.sink then Sink else Input (port e m i)

-- a vertex whose first tasklet has this number, as an end of an edge that is its output or input of that number
abbrev pub end_of : ℕ → Vertex → ℕ → EdgeEnd
end_of first v number = record { first = first; parallelism = v.parallelism; single = is_side v.kind || is_sink v.kind; sink = is_sink v.kind; number = number }

-- the vertices so, each with the number of its first tasklet
abbrev pub vertex_ends : ℕ → ℕ → List Vertex → List EdgeEnd
vertex_ends members first [] = []
vertex_ends members first (x ∷ xs) = end_of first x 0 ∷ vertex_ends members (first + task_count members x) xs

-- which output of its giver, and which input of its taker, the edge with the number n is
abbrev pub output_number : List Edge → ℕ → Edge → ℕ
output_number edges n e = count_by (λ f. bytes_eq f.from e.from) (take n edges)

abbrev pub input_number : List Edge → ℕ → Edge → ℕ
input_number edges n e = count_by (λ f. bytes_eq f.to e.to) (take n edges)

-- an end without instances
abbrev pub nothing : EdgeEnd
nothing = record { first = 0; parallelism = 0; single = false; sink = false; number = 0 }

-- an end as the output or input of this number
abbrev pub numbered : EdgeEnd → ℕ → EdgeEnd
numbered e number = record { first = e.first; parallelism = e.parallelism; single = e.single; sink = e.sink; number = number }

-- the edge with the number n, between the vertices with the numbers u and v
abbrev pub joint : List Edge → List EdgeEnd → ℕ → Edge → ℕ → ℕ → Joint
joint edges ends n e u v = record {
  edge = n;
  from = numbered (slice_index_or ends u nothing) (output_number edges n e);
  to = numbered (slice_index_or ends v nothing) (input_number edges n e);
  route = e.route;
  distributed = e.distributed;
}

-- the same where the vertices are told by their names; a valid job has no edge that names none
abbrev pub joint_of : List Vertex → List Edge → List EdgeEnd → ℕ → Edge → Option Joint
joint_of vertices edges ends n e = option_and_then (λ u. option_map (joint edges ends n e u) (position (has_name e.to) vertices)) (position (has_name e.from) vertices)

-- the edges with numbers from n on
abbrev pub joints_from : List Vertex → List Edge → List EdgeEnd → ℕ → List Edge → List Joint
joints_from vertices edges ends n [] = []
joints_from vertices edges ends n (e ∷ es) = option_map_or (λ j. j ∷ []) (joint_of vertices edges ends n e) [] ++ joints_from vertices edges ends (n + 1) es

abbrev pub joints : ℕ → Dag → List Joint
joints members dag = joints_from dag.vertices dag.edges (vertex_ends members 0 dag.vertices) 0 dag.edges
