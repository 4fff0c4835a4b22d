use Rattle.std.proofs.Common.{◌≡◌, ◌++◌, map, take}
use Rattle.std.specs.Prelude.{filter, flat_map}
use Rattle.jet_flow.specs.Inflows as inflows
use Rattle.jet_plan.specs.Names.{has_name}
use Rattle.jet_sink.specs.Naming.{window_of}
use Rattle.jet_sink.proofs.plan.push_from.Given as goal

abbrev pub invariant-loop-vertex : goal.invariant-loop-vertex
invariant-loop-vertex l = map window_of l.windows.items ≡ map window_of l.initial.windows.items ++ flat_map (λ v. inflows.window_of l.number l.name v.kind) (filter (has_name l.from) (take l.vertex-index l.vertices))
