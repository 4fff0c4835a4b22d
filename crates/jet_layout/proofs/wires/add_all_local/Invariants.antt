use Rattle.std.proofs.Common.{◌≡◌, ◌++◌}
use Rattle.std.specs.List.{flat_map, range_with_len}
use Rattle.jet_layout.specs.Wires.{local_wires}
use Rattle.jet_layout.proofs.wires.add_all_local.Given as goal

abbrev pub invariant-loop-member : goal.invariant-loop-member
invariant-loop-member l = l.wires ≡ l.fn.wires ++ flat_map (local_wires l.joint) (range_with_len 0 l.member)
