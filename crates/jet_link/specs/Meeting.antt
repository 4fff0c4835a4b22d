-- A meeting of the two ends of a link: of both its rings.
use Rattle.std.specs.Prelude.{◌≡◌, ◌+◌, ◌≤◌, [], ◌++◌, map, length, None, false}
use mathlib.Core.List.{IsPrefix}
use Rattle.jet_ring.specs.Ring.{TxView, RxView}
use Rattle.jet_link.specs.declared.shape.LinkShape.{LinkShape}
use Rattle.jet_link.specs.Link.{LinkMet, in_flight}
use Rattle.jet_link.specs.Ends.{packet_view, ack_view, count_of}
use Rattle.jet_link.specs.Views.{SendView, RecvView, send_state, recv_state}

-- the two ends of one link
pub record IsLink (s : SendView) (r : RecvView) : Type 0 where
  pub shape : s.shape ≡ r.shape
  pub packets : s.packets.ring ≡ r.packets.ring
  pub acks : r.acks.ring ≡ s.acks.ring

-- an end of a ring was in a meeting: it is an end of the same ring, nothing was sent or received, and it knows no less than before
pub record TxMet {T : Type 0} (a b : TxView T) : Type 0 where
  pub ring_kept : b.ring ≡ a.ring
  pub sent : b.sent ≡ a.sent
  pub still_free : length a.sent + a.free ≤ length b.sent + b.free

pub record RxMet {T : Type 0} (a b : RxView T) : Type 0 where
  pub ring_kept : b.ring ≡ a.ring
  pub received : b.received ≡ a.received
  pub still_known : IsPrefix (a.received ++ a.known) (b.received ++ b.known)

-- the end that sends was in a meeting: what it knows of its two rings may have grown, and nothing else changed
pub record SendMet (a b : SendView) : Type 0 where
  pub packets : TxMet a.packets b.packets
  pub acks : RxMet a.acks b.acks
  pub is : b ≡ record a { packets = b.packets; acks = b.acks }

-- and the end that receives
pub record RecvMet (a b : RecvView) : Type 0 where
  pub packets : RxMet a.packets b.packets
  pub acks : TxMet a.acks b.acks
  pub is : b ≡ record a { packets = b.packets; acks = b.acks }

-- of both rings every item that was sent is received or known, and every other slot is known to be free; and so the definition of links holds
pub record BothMet (s : SendView) (r : RecvView) : Type 0 where
  pub packets : r.packets.received ++ r.packets.known ≡ s.packets.sent
  pub acks : s.acks.received ++ s.acks.known ≡ r.acks.sent
  pub packet_slots : s.packets.free + length r.packets.known ≡ s.packets.ring.cap
  pub ack_slots : r.acks.free + length s.acks.known ≡ r.acks.ring.cap
  pub link : LinkMet s.shape (send_state s) (recv_state r) (map packet_view r.packets.known) (map ack_view s.acks.known)

-- nothing is on the way, neither a packet nor an acknowledgement: every byte that was sent is acknowledged, and every buffer is at the end that sends
pub record IsEmptied (s : SendView) (r : RecvView) : Type 0 where
  pub known : r.packets.known ≡ []
  pub held : r.held ≡ None
  pub acks_known : s.acks.known ≡ []
  pub flight : in_flight (send_state s) ≡ 0
  pub buffers : s.inside + count_of s.work ≡ s.shape.buffers

-- so it is where the two met and as many bytes are acknowledged as were sent
abbrev pub EmptiesOnceAcked : SendView → RecvView → Type 0
EmptiesOnceAcked s r = BothMet s r → s.counts.acked ≡ s.counts.sent → IsEmptied s r

-- an end of a new link
pub record IsNewSend (l : LinkShape) (v : SendView) : Type 0 where
  pub shape : v.shape ≡ l
  pub counts : v.counts ≡ record { sent = 0; acked = 0; limit = l.window }
  pub inside : v.inside ≡ l.buffers
  pub work : v.work ≡ None
  pub pushed : v.packets.sent ≡ []
  pub taken : v.acks.received ≡ []

pub record IsNewRecv (l : LinkShape) (v : RecvView) : Type 0 where
  pub shape : v.shape ≡ l
  pub received : v.packets.received ≡ []
  pub gave : v.acks.sent ≡ []
  pub held : v.held ≡ None
  pub whole : v.whole ≡ false
  pub processed : v.processed ≡ 0
  pub offer : v.offer ≡ l.window
  pub grant : v.grant ≡ l.window
  pub part : v.part ≡ 0
  pub turns : v.turns ≡ 0
