use Rattle.jet_link.proofs.Fresh.{new_sender}
use Rattle.jet_link.proofs.new_link.link.Goals as goal

pub invariant_of-sender : goal.invariant_of-sender
invariant_of-sender c = record { right = new_sender c.args.shape c.in_ok-stock.stock c.in_ok-packets.packets c.in_ok-acks.acked c.requires c.in_ok-stock.ensures c.in_ok-packets.ensures.sender.0 c.in_ok-acks.ensures.receiver.0 }
