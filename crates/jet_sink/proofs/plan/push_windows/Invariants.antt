use Rattle.std.proofs.Common.{◌≡◌, ◌++◌, map, take}
use Rattle.std.specs.Prelude.{filter, flat_map, bytes_eq}
use Rattle.jet_sink.specs.Naming.{window_of, windows_along}
use Rattle.jet_sink.proofs.plan.push_windows.Given as goal

abbrev pub invariant-loop-edge : goal.invariant-loop-edge
invariant-loop-edge l = map window_of l.windows.items ≡ map window_of l.initial.windows.items ++ flat_map (windows_along l.dag l.number l.name) (filter (λ e. bytes_eq e.to l.name) (take l.edge-index l.edge-items))
