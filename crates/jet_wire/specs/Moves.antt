-- How many packets and acknowledgements pass over a link, beside the items.
use Rattle.std.specs.Prelude.{◌+◌, ◌*◌, ◌≤◌, List, length}
use Rattle.jet_items.specs.declared.item.Item.{Item}
use Rattle.jet_link.specs.Meeting.{BothMet}
use Rattle.jet_wire.specs.Passing.{Taken}
use Rattle.jet_wire.specs.Receiver.{ReceiverView}
use Rattle.jet_wire.specs.Sender.{SenderView, SenderKeeps}

-- no more packets were pushed than items were sent in them
abbrev pub FewPackets : SenderView → Type 0
FewPackets v = (came : List Taken) (sent : List Item) → SenderKeeps v came sent → length v.end.packets.sent ≤ length sent

-- of two that have met: packets and acknowledgements were pushed and popped four times for each item at most
abbrev pub MovesLittle : SenderView → ReceiverView → Type 0
MovesLittle s r = (came : List Taken) (sent : List Item) → SenderKeeps s came sent → BothMet s.end r.end
    → (length s.end.packets.sent + length r.end.packets.received) + (length r.end.acks.sent + length s.end.acks.received) ≤ 4 * length sent
