-- The window that a named window stands for.
use Rattle.std.specs.Prelude.{ℕ, List, filter}
use Rattle.std.specs.List.{flat_map}
use Rattle.jet_flow.specs.Inflows as inflows
use Rattle.jet_items.specs.Rows.{Window}
use Rattle.jet_plan.specs.declared.dag.Dag.{Dag}
use Rattle.jet_plan.specs.declared.edge.Edge.{Edge}
use Rattle.jet_plan.specs.Names.{has_name}
use Rattle.jet_sink.specs.declared.windows.NamedWindow.{NamedWindow}

abbrev pub window_of : NamedWindow → Window
window_of w = record { vertex = w.vertex; name = w.name; size = w.policy.size; slide = w.policy.slide }

-- the windows of combine vertex n that come along an edge
abbrev pub windows_along : Dag → ℕ → List ℕ → Edge → List Window
windows_along dag n name e = flat_map (λ v. inflows.window_of n name v.kind) (filter (has_name e.from) dag.vertices)
