-- Which input takes each file.
use Rattle.std.specs.Prelude.{ℕ, ◌/◌, ◌%◌, Bool, true, false, List, [], ◌∷◌, ◌++◌, map, if◌then◌else◌}
use Rattle.std.specs.List.{range_with_len}
use Rattle.jet_plan.specs.declared.dag.Dag.{Dag}
use Rattle.jet_plan.specs.declared.kind.Kind.{Kind}
use Rattle.jet_plan.specs.declared.vertex.Vertex.{Vertex}
use Rattle.jet_plan.specs.Kinds.{is_side, file_count}
use Rattle.jet_layout.specs.declared.end.EdgeEnd.{EdgeEnd}
use Rattle.jet_layout.specs.declared.wire.Port.{Port}
use Rattle.jet_layout.specs.Joints.{port, vertex_ends}

-- The file at a place in the list of its vertex goes to the member that the remainder of the place by the members names, and the
-- quotient deals it to the instances there in turn.
abbrev pub file_port : EdgeEnd → ℕ → ℕ → Port
file_port e members place = port e (place % members) ((place / members) % e.parallelism)

-- those of so many files of a vertex
abbrev pub file_ports : ℕ → EdgeEnd → ℕ → List Port
file_ports members e n = map (file_port e members) (range_with_len 0 n)

-- how many files a vertex has, of side vertices or of the others
abbrev pub chosen_files : Bool → Kind → ℕ
chosen_files true k = if is_side k then file_count k else 0
chosen_files false k = if is_side k then 0 else file_count k

-- the inputs that take the files of vertices, of side vertices or of the others
abbrev pub files_from : Bool → ℕ → List EdgeEnd → List Vertex → List Port
files_from sides members [] vertices = []
files_from sides members (e ∷ es) [] = []
files_from sides members (e ∷ es) (x ∷ xs) = file_ports members e (chosen_files sides x.kind) ++ files_from sides members es xs

-- those of all files by their numbers: the files of the sources, and then the side files
abbrev pub files : ℕ → Dag → List Port
files members dag = let ends = vertex_ends members 0 dag.vertices in files_from false members ends dag.vertices ++ files_from true members ends dag.vertices
