use Rattle.std.proofs.Common.{◌≡◌, ◌++◌, map}
use Rattle.std.specs.List.{range_with_len}
use Rattle.jet_layout.specs.Joints.{port, taker}
use Rattle.jet_layout.proofs.wires.add_producer.Given as goal

abbrev pub invariant-loop-consumer : goal.invariant-loop-consumer
invariant-loop-consumer l = l.wires ≡ l.fn.wires ++ map (λ k. record { giver = port l.joint.from l.member l.producer; taker = taker l.joint.to l.member k }) (range_with_len 0 l.consumer)
