-- What the calls of the end that receives do.
use Rattle.std.specs.Prelude.{◌≡◌, ℕ, ◌+◌, ◌*◌, ◌<◌, ◌≤◌, min, max, List, [], ◌∷◌, ◌++◌, length, Option, Some, None, true, false}
use mathlib.Core.List.{IsPrefix}
use Rattle.jet_link.specs.declared.ack.Ack.{Ack}
use Rattle.jet_link.specs.declared.packet.Packet.{Packet}
use Rattle.jet_link.specs.Link.{kept, whole_processed, whole_offer}
use Rattle.jet_link.specs.Views.{RecvView, recv_state}

-- the same link: the ends of the two rings stay theirs
pub record SameRecv (a b : RecvView) : Type 0 where
  pub shape : b.shape ≡ a.shape
  pub packets : b.packets.ring ≡ a.packets.ring
  pub acks : b.acks.ring ≡ a.acks.ring

-- the bytes of the packet in hand
abbrev pub held_bytes : Option Packet → List ℕ
held_bytes None = []
held_bytes (Some p) = p.buf.bytes

abbrev pub held_size : Option Packet → ℕ
held_size held = length (held_bytes held)

-- the grant lies between the least and the greatest
pub record IsGranted (v : RecvView) : Type 0 where
  pub low : v.shape.window ≤ v.grant
  pub high : v.grant ≤ v.shape.peak

-- the oldest packet was taken in hand
pub record Received (a b : RecvView) : Type 0 where
  pub packet : Packet
  pub received : b.packets.received ≡ a.packets.received ++ packet ∷ []
  pub oldest : IsPrefix a.packets.known (packet ∷ b.packets.known)
  pub is : b ≡ record a { packets = b.packets; held = Some packet }

-- the bytes processed and the bytes that may be sent in all, as whole numbers, are as they were
pub record SameCounts (a b : RecvView) : Type 0 where
  pub processed : whole_processed (recv_state b) ≡ whole_processed (recv_state a)
  pub offer : whole_offer b.shape (recv_state b) ≡ whole_offer a.shape (recv_state a)

-- all items of the packet in hand were given, and its bytes count as processed, in the period too
pub record Counted (a b : RecvView) : Type 0 where
  pub processed : whole_processed (recv_state b) ≡ whole_processed (recv_state a) + held_size a.held
  pub is : b ≡ record a { whole = true; processed = kept (a.processed + held_size a.held); part = a.part + held_size a.held }

-- the packet in hand was acknowledged: its buffer goes back with the bytes processed and the offer, which is first raised to the grant ahead of these where that is more
pub record Acknowledged (a b : RecvView) : Type 0 where
  pub packet : Packet
  pub ack : Ack
  pub was : a.held ≡ Some packet
  pub buf : ack.buf ≡ packet.buf
  pub processed : ack.processed ≡ b.processed
  pub offer : ack.offer ≡ b.offer
  pub raised : whole_offer b.shape (recv_state b) ≡ max (whole_offer a.shape (recv_state a)) (whole_processed (recv_state a) + a.grant)
  pub slot : a.acks.free ≡ b.acks.free + 1
  pub is : b ≡ record a {
    acks = record a.acks { sent = a.acks.sent ++ ack ∷ []; free = b.acks.free };
    held = None;
    whole = false;
    offer = b.offer;
  }

-- at the end of a period the grant becomes the multiple of the bytes of the period, held within window and peak
abbrev pub next_grant : RecvView → ℕ
next_grant v = min (max (v.part * v.shape.multiplier) v.shape.window) v.shape.peak

pub record EndedTurn (a b : RecvView) : Type 0 where
  pub within : a.turns + 1 < a.shape.period → b ≡ record a { turns = a.turns + 1 }
  pub ends : a.turns + 1 ≡ a.shape.period → b ≡ record a { grant = next_grant a; part = 0; turns = 0 }
  pub some : a.turns < a.shape.period
