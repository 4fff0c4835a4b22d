-- What a contract sees of the two ends of a link.
use Rattle.std.specs.Prelude.{ℕ, Bool, Option}
use Rattle.jet_pool.specs.Pool.{BufValue}
use Rattle.jet_ring.specs.Ring.{TxView, RxView, tx_view, rx_view}
use Rattle.jet_link.specs.declared.packet.Packet.{Packet}
use Rattle.jet_link.specs.declared.ack.Ack.{Ack}
use Rattle.jet_link.specs.declared.counts.Counts.{Counts}
use Rattle.jet_link.specs.declared.shape.LinkShape.{LinkShape}
use Rattle.jet_link.specs.declared.send_end.SendEnd.{SendEnd}
use Rattle.jet_link.specs.declared.recv_end.RecvEnd.{RecvEnd}
use Rattle.jet_link.specs.Link.{SendState, RecvState}
use Rattle.jet_link.specs.Ends.{send_of, recv_from}

-- of the end that sends: its counts, the buffers in the stock, the buffer that is being filled, and its ends of the two rings
pub record SendView : Type 0 where
  pub shape : LinkShape
  pub counts : Counts
  pub inside : ℕ
  pub work : Option BufValue
  pub packets : TxView Packet
  pub acks : RxView Ack

abbrev pub send_view : SendEnd → SendView
send_view e =
    record {
      shape = e.shape;
      counts = e.counts;
      inside = e.stock.inside;
      work = e.work;
      packets = tx_view e.packets;
      acks = rx_view e.acks;
    }

-- of the end that receives: its ends of the two rings, the packet in hand and whether all its items were given, its counts, the grant, and the bytes and the turns of the period
pub record RecvView : Type 0 where
  pub shape : LinkShape
  pub packets : RxView Packet
  pub acks : TxView Ack
  pub held : Option Packet
  pub whole : Bool
  pub processed : ℕ
  pub offer : ℕ
  pub grant : ℕ
  pub part : ℕ
  pub turns : ℕ

abbrev pub recv_view : RecvEnd → RecvView
recv_view e =
    record {
      shape = e.shape;
      packets = rx_view e.packets;
      acks = tx_view e.acks;
      held = e.held;
      whole = e.whole;
      processed = e.processed;
      offer = e.offer;
      grant = e.grant;
      part = e.part;
      turns = e.turns;
    }

-- their counts, and the sizes of what they passed
abbrev pub send_state : SendView → SendState
send_state v = send_of v.counts v.inside v.work v.packets.sent v.acks.received

abbrev pub recv_state : RecvView → RecvState
recv_state v = recv_from v.packets.received v.acks.sent v.held v.whole v.processed v.offer v.grant
