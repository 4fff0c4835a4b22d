use Rattle.std.proofs.Common.{◌≡◌, map, take}
use Rattle.std.specs.List.{flat_map, enumerate_from}
use Rattle.jet_flow.specs.Inflows as inflows
use Rattle.jet_sink.specs.Naming.{window_of}
use Rattle.jet_sink.proofs.windows.Windows.new.Given as goal

abbrev pub invariant-loop-number : goal.invariant-loop-number
invariant-loop-number l = map window_of l.windows.items ≡ flat_map (inflows.windows_at l.dag) (take l.number (enumerate_from 0 l.vertex-items))
