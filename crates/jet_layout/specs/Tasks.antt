-- The tasklets of a deployed job, in their order: the instances of the vertices, vertex by vertex and member by member, and then
-- for each link the one that sends and the one that receives.
use Rattle.std.specs.Prelude.{ℕ, ◌+◌, List, [], ◌∷◌, ◌++◌, map, if◌then◌else◌}
use Rattle.std.specs.List.{flat_map, range_with_len}
use Rattle.jet_plan.specs.declared.vertex.Vertex.{Vertex}
use Rattle.jet_plan.specs.Kinds.{is_sink}
use Rattle.jet_plan.specs.Rings.{instances, all_instances}
use Rattle.jet_layout.specs.declared.task.Link.{Link}
use Rattle.jet_layout.specs.declared.task.Task.{Task}
use Rattle.jet_layout.specs.declared.task.Task.TheVariants.{Run, Send, Receive}

-- the member on which a tasklet stands
abbrev pub member_of : Task → ℕ
member_of (Run i) = i.member
member_of (Send l) = l.from
member_of (Receive l) = l.to

-- the instances of the vertex with the number v on member m
abbrev pub member_tasks : ℕ → Vertex → ℕ → List Task
member_tasks v vertex m = map (λ i. Run (record { vertex = v; member = m; number = i })) (range_with_len 0 (instances vertex m))

-- those on all members; the coordinator takes the place of the sink
abbrev pub vertex_tasks : ℕ → ℕ → Vertex → List Task
vertex_tasks members v vertex = if is_sink vertex.kind then [] else flat_map (member_tasks v vertex) (range_with_len 0 members)

-- how many these are
abbrev pub task_count : ℕ → Vertex → ℕ
task_count members vertex = if is_sink vertex.kind then 0 else all_instances members vertex

-- those of vertices with the numbers from v on
abbrev pub instance_tasks : ℕ → ℕ → List Vertex → List Task
instance_tasks members v [] = []
instance_tasks members v (x ∷ xs) = vertex_tasks members v x ++ instance_tasks members (v + 1) xs

-- the two ends of a link
abbrev pub link_tasks : Link → List Task
link_tasks l = Send l ∷ Receive l ∷ []
