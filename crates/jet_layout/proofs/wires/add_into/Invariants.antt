use Rattle.std.proofs.Common.{◌≡◌, ◌++◌, map}
use Rattle.std.specs.List.{range_with_len}
use Rattle.jet_layout.specs.declared.wire.Taker.TheVariants.{Input}
use Rattle.jet_layout.specs.Joints.{port}
use Rattle.jet_layout.proofs.wires.add_into.Given as goal

abbrev pub invariant-loop-producer : goal.invariant-loop-producer
invariant-loop-producer l = (l.taker ≡ Input (record { task = l.sender; number = 0 }))
    × (l.wires ≡ l.fn.wires ++ map (λ i. record { giver = port l.joint.from l.link.from i; taker = Input (record { task = l.sender; number = 0 }) }) (range_with_len 0 l.producer))
