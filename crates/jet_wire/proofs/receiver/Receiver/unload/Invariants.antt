use Rattle.std.proofs.Common.{length}
use Rattle.jet_wire.specs.Receiver.{receiver_view, bytes_left}
use Rattle.jet_wire.specs.ReceiverSteps.{Deals}
use Rattle.jet_wire.proofs.receiver.Receiver.unload.Given as goal

abbrev pub invariant-loop : goal.invariant-loop
invariant-loop l = Deals (receiver_view l.fn.self) (receiver_view l.self)

abbrev pub decreases-loop : goal.decreases-loop
decreases-loop l = length (bytes_left (receiver_view l.self))
