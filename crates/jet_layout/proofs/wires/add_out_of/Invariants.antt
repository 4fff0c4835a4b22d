use Rattle.std.proofs.Common.{◌≡◌, ◌++◌, map}
use Rattle.std.specs.List.{range_with_len}
use Rattle.jet_layout.specs.Joints.{taker}
use Rattle.jet_layout.proofs.wires.add_out_of.Given as goal

abbrev pub invariant-loop-consumer : goal.invariant-loop-consumer
invariant-loop-consumer l = l.wires ≡ l.fn.wires ++ map (λ k. record { giver = record { task = l.receiver; number = 0 }; taker = taker l.joint.to l.link.to k }) (range_with_len 0 l.consumer)
