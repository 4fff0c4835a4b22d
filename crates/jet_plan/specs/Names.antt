-- Vertices by their names.
use Rattle.std.specs.Prelude.{◌≡◌, ℕ, Bool, false, not, ◌&&◌, List, take, position, bytes_eq, Option}
use Rattle.std.specs.List.{list_any, enumerate_from}
use Rattle.jet_plan.specs.declared.edge.Edge.{Edge}
use Rattle.jet_plan.specs.declared.vertex.Vertex.{Vertex}
use Rattle.jet_plan.specs.declared.kind.Kind.{Kind}
use Rattle.jet_plan.specs.declared.dag.Dag.{Dag}

abbrev pub has_name : List ℕ → Vertex → Bool
has_name name v = bytes_eq v.name name

-- a vertex with its number has the name of an earlier one
abbrev pub is_double : List Vertex → ℕ × Vertex → Bool
is_double vertices p = list_any (has_name p.1.name) (take p.0 vertices)

-- the number of the first vertex with the name of an earlier one
abbrev pub first_double : List Vertex → Option ℕ
first_double vertices = position (is_double vertices) (enumerate_from 0 vertices)

-- an edge names no vertex at one end
abbrev pub has_unknown_end : List Vertex → Edge → Bool
has_unknown_end vertices e = not (list_any (has_name e.from) vertices && list_any (has_name e.to) vertices)

-- each edge goes from a vertex to a vertex
abbrev pub AreKnown : List Vertex → List Edge → Type 0
AreKnown vertices edges = list_any (has_unknown_end vertices) edges ≡ false

-- the vertex of this name is of such a kind
abbrev pub end_is : Dag → (Kind → Bool) → List ℕ → Bool
end_is dag p name = list_any (λ v. has_name name v && p v.kind) dag.vertices
