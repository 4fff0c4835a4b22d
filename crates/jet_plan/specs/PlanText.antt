-- The text of a plan.
use Rattle.std.specs.Prelude.{ℕ, List, [], ◌∷◌, ◌++◌, flat_map, decimal, codes}
use Rattle.std.specs.List.{enumerate_from}
use Rattle.jet_items.specs.LineText.{line_text}
use Rattle.jet_plan.specs.declared.vertex.Vertex.{Vertex}
use Rattle.jet_plan.specs.declared.edge.Edge.{Edge}
use Rattle.jet_plan.specs.declared.dag.Dag.{Dag}
use Rattle.jet_plan.specs.declared.settings.Settings.{Settings}
use Rattle.jet_plan.specs.Kinds.{kind_word, route_word}
use Rattle.jet_plan.specs.Rings.{members, all_instances, rings_of, links_of, tasklets, rings, slots, links}

-- the line of a vertex with its number: its name, kind and instances
abbrev pub vertex_line : ℕ → ℕ × Vertex → List ℕ
vertex_line members p = line_text (codes "vertex" ∷ decimal p.0 ∷ p.1.name ∷ kind_word p.1.kind ∷ decimal (all_instances members p.1) ∷ [])

-- the line of an edge with its number: its ends, route, rings and links
abbrev pub edge_line : ℕ → List Vertex → ℕ × Edge → List ℕ
edge_line members vertices p = line_text (codes "edge" ∷ decimal p.0 ∷ p.1.from ∷ p.1.to ∷ route_word p.1.route
    ∷ decimal (rings_of members vertices p.1) ∷ decimal (links_of members vertices p.1) ∷ [])

abbrev pub total_line : Dag → Settings → List ℕ
total_line dag s = line_text (codes "total" ∷ decimal (tasklets dag s) ∷ decimal (rings dag s) ∷ decimal (slots dag s) ∷ decimal (links dag s) ∷ [])

-- the lines of vertices and of edges, which are numbered from n on
abbrev pub vertex_lines : ℕ → ℕ → List Vertex → List ℕ
vertex_lines members n vertices = flat_map (vertex_line members) (enumerate_from n vertices)

abbrev pub edge_lines : ℕ → List Vertex → ℕ → List Edge → List ℕ
edge_lines members vertices n edges = flat_map (edge_line members vertices) (enumerate_from n edges)

-- a line for each vertex, a line for each edge, and the total
abbrev pub plan_text : Dag → Settings → List ℕ
plan_text dag s = vertex_lines (members s) 0 dag.vertices ++ (edge_lines (members s) dag.vertices 0 dag.edges ++ total_line dag s)
