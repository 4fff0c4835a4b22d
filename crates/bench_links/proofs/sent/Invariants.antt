use Rattle.jet_ring.specs.Ring.{tx_ring}
use Rattle.jet_link.specs.Sending.{SameSend}
use Rattle.jet_wire.specs.Edge.{TakesFrom}
use Rattle.jet_wire.specs.Sender.{sender_view}
use Rattle.bench_links.proofs.sent.Given as goal

abbrev pub invariant-loop : goal.invariant-loop
invariant-loop l = TakesFrom (tx_ring l.near.source) (sender_view l.near.sender) × SameSend (sender_view l.initial.near.sender).end (sender_view l.near.sender).end
