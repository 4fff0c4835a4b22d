-- What holds of each end of a link, over the parts of which it is made.
use Rattle.std.specs.Prelude.{◌≡◌, ℕ, ◌+◌, ◌*◌, ◌<◌, ◌≤◌, Bool, cond, get_or, List, map, length, Option, Some, None}
use Rattle.std.specs.Option.{ForSome}
use Rattle.jet_pool.specs.Pool.{BufValue, StockValue}
use Rattle.jet_spell.specs.Packets.{IsSpelled}
use Rattle.jet_ring.specs.Ring as ring
use Rattle.jet_ring.specs.declared.ends.Tx.{Tx}
use Rattle.jet_ring.specs.declared.ends.Rx.{Rx}
use Rattle.jet_link.specs.declared.packet.Packet.{Packet}
use Rattle.jet_link.specs.declared.ack.Ack.{Ack}
use Rattle.jet_link.specs.declared.counts.Counts.{Counts}
use Rattle.jet_link.specs.declared.shape.LinkShape.{LinkShape}
use Rattle.jet_link.specs.Shape.{IsShape}
use Rattle.jet_link.specs.Link.{PacketView, AckView, SendState, RecvState, SendsRight, RecvsRight, no_packet}

abbrev pub packet_view : Packet → PacketView
packet_view p = record { room = p.buf.room; size = length p.buf.bytes }

abbrev pub ack_view : Ack → AckView
ack_view a = record { room = a.buf.room; processed = a.processed; offer = a.offer }

abbrev pub count_of : {X : Type 0} → Option X → ℕ
count_of None = 0
count_of (Some x) = 1

abbrev pub send_of : Counts → ℕ → Option BufValue → List Packet → List Ack → SendState
send_of counts inside work pushed taken =
    record {
      pushed = map packet_view pushed;
      taken = map ack_view taken;
      sent = counts.sent;
      acked = counts.acked;
      limit = counts.limit;
      inside = inside;
      work = count_of work;
    }

abbrev pub view_of : Counts → StockValue → Option BufValue → Tx Packet → Rx Ack → SendState
view_of counts stock work packets acks = send_of counts stock.inside work (ring.sent packets) (ring.received acks)

-- the end that sends: its stock and the buffer in work are the link's, and `outstanding` counts the packets that are not acknowledged
pub record IsSendEnd (l : LinkShape) (counts : Counts) (stock : StockValue) (work : Option BufValue) (packets : Tx Packet) (acks : Rx Ack) (outstanding : ℕ) : Type 0 where
  pub shape : IsShape l
  pub right : SendsRight l (view_of counts stock work packets acks)
  pub n : stock.n ≡ l.buffers
  pub room : stock.room ≡ l.packet
  pub work_room : ForSome work (λ b. b.room ≡ l.packet)
  pub spelled : ForSome work (λ b. IsSpelled b.bytes)
  pub between : outstanding + length (ring.received acks) ≡ length (ring.sent packets)

abbrev pub recv_from : List Packet → List Ack → Option Packet → Bool → ℕ → ℕ → ℕ → RecvState
recv_from received gave held whole processed offer grant =
    record {
      received = map packet_view received;
      gave = map ack_view gave;
      holds = count_of held;
      whole = cond whole 1 0;
      processed = processed;
      offer = offer;
      grant = grant;
    }

abbrev pub recv_of : Rx Packet → Tx Ack → Option Packet → Bool → ℕ → ℕ → ℕ → RecvState
recv_of packets acks held whole processed offer grant = recv_from (ring.received packets) (ring.sent acks) held whole processed offer grant

-- the end that receives: the packet in hand is the first that was received and not acknowledged, and the bytes of the period come of one packet a turn
pub record IsRecvEnd (l : LinkShape) (packets : Rx Packet) (acks : Tx Ack) (held : Option Packet) (whole : Bool) (processed offer grant part turns : ℕ) : Type 0 where
  pub shape : IsShape l
  pub right : RecvsRight l (recv_of packets acks held whole processed offer grant)
  pub in_hand : ForSome held (λ p. get_or (map packet_view (ring.received packets)) (length (ring.sent acks)) no_packet ≡ packet_view p)
  pub period : turns < l.period
  pub few : part ≤ (turns + 1) * 65536
