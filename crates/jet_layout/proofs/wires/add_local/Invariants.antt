use Rattle.std.proofs.Common.{◌≡◌, ◌++◌}
use Rattle.std.specs.List.{flat_map, range_with_len}
use Rattle.jet_layout.specs.Wires.{producer_wires}
use Rattle.jet_layout.proofs.wires.add_local.Given as goal

abbrev pub invariant-loop-producer : goal.invariant-loop-producer
invariant-loop-producer l = l.wires ≡ l.fn.wires ++ flat_map (producer_wires l.joint l.member) (range_with_len 0 l.producer)
