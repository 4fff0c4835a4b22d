-- What the calls of the end that sends do.
use Rattle.std.specs.Prelude.{◌≡◌, ◌+◌, ◌≤◌, ◌<◌, [], ◌∷◌, ◌++◌, length, Option, Some, None, ◌⊎◌}
use mathlib.Core.List.{IsPrefix}
use Rattle.jet_items.specs.declared.item.Item.{Item}
use Rattle.jet_spell.specs.Spelling.{spelling}
use Rattle.jet_pool.specs.Pool.{BufValue, empty_buf}
use Rattle.jet_link.specs.declared.ack.Ack.{Ack}
use Rattle.jet_link.specs.declared.packet.Packet.{Packet}
use Rattle.jet_link.specs.Ends.{count_of}
use Rattle.jet_link.specs.Link.{kept, whole_sent, whole_acked, whole_limit, in_flight, room_left}
use Rattle.jet_link.specs.Views.{SendView, send_state}

-- the same link: the ends of the two rings stay theirs
pub record SameSend (a b : SendView) : Type 0 where
  pub shape : b.shape ≡ a.shape
  pub packets : b.packets.ring ≡ a.packets.ring
  pub acks : b.acks.ring ≡ a.acks.ring

-- the bytes sent are those of the packets pushed, at most a packet above the greatest grant of them are in flight, and the limit lies between the least and the greatest grant ahead of those acknowledged
pub record IsBounded (v : SendView) : Type 0 where
  pub sent : v.counts.sent ≡ kept (whole_sent (send_state v))
  pub flight : in_flight (send_state v) ≤ v.shape.peak + v.shape.packet
  pub low : v.shape.window ≤ room_left (send_state v)
  pub high : room_left (send_state v) ≤ v.shape.peak

-- packets may have been filled and pushed, and nothing was taken: no buffer is lost, and the bytes acknowledged and the limit stay
pub record Packs (a b : SendView) : Type 0 where
  pub same : SameSend a b
  pub acks : b.acks ≡ a.acks
  pub sent : IsPrefix a.packets.sent b.packets.sent
  pub reach : length b.packets.sent + b.packets.free ≡ length a.packets.sent + a.packets.free
  pub buffers : b.inside + count_of b.work + length b.packets.sent ≡ a.inside + count_of a.work + length a.packets.sent
  pub acked : b.counts.acked ≡ a.counts.acked
  pub limit : b.counts.limit ≡ a.counts.limit
  pub all_acked : whole_acked (send_state b) ≡ whole_acked (send_state a)
  pub all_allowed : whole_limit (send_state b) ≡ whole_limit (send_state a)

-- acknowledgements were taken and nothing else was done: the bytes acknowledged and the limit never fall
pub record TookAcks (a b : SendView) : Type 0 where
  pub same : SameSend a b
  pub work : b.work ≡ a.work
  pub packets : b.packets ≡ a.packets
  pub more : IsPrefix a.acks.received b.acks.received
  pub still_known : IsPrefix (a.acks.received ++ a.acks.known) (b.acks.received ++ b.acks.known)
  pub sent : b.counts.sent ≡ a.counts.sent
  pub acked : whole_acked (send_state a) ≤ whole_acked (send_state b)
  pub limit : whole_limit (send_state a) ≤ whole_limit (send_state b)

-- that was one acknowledgement
pub record TookAck (a b : SendView) : Type 0 where
  pub took : TookAcks a b
  pub one : (x : Ack) × (b.acks.received ≡ a.acks.received ++ x ∷ [])

-- no acknowledgement that may be taken is known: fewer may be taken than packets were pushed
abbrev pub NoneToTake : SendView → Type 0
NoneToTake v = (length v.packets.sent ≤ length v.acks.received) ⊎ (v.acks.known ≡ [])

-- no packet may begin: the bytes sent are not below the limit, or no buffer is in the stock
abbrev pub MayNotBegin : SendView → Type 0
MayNotBegin v = (room_left (send_state v) ≤ in_flight (send_state v)) ⊎ (v.inside ≡ 0)

-- a buffer went from the stock into work, where the bytes sent were below the limit
pub record Began (a b : SendView) : Type 0 where
  pub below : in_flight (send_state a) < room_left (send_state a)
  pub one : a.inside ≡ b.inside + 1
  pub is : b ≡ record a { inside = b.inside; work = Some (empty_buf a.shape.packet) }

-- the buffer in work was pushed as a packet, and its bytes count as sent
pub record Pushed (a b : SendView) : Type 0 where
  pub packet : Packet
  pub was : a.work ≡ Some packet.buf
  pub slot : a.packets.free ≡ b.packets.free + 1
  pub is : b ≡ record a {
    counts = record a.counts { sent = kept (a.counts.sent + length packet.buf.bytes) };
    work = None;
    packets = record a.packets { sent = a.packets.sent ++ packet ∷ []; free = b.packets.free };
  }

-- the buffer that was in work was empty and went back into the stock
pub record PutBack (a b : SendView) : Type 0 where
  pub was : (buf : BufValue) × (a.work ≡ Some buf) × (buf.bytes ≡ [])
  pub is : b ≡ record a { inside = a.inside + 1; work = None }

-- a buffer is in work, and a byte is in it
abbrev pub HasBytes : Option BufValue → Type 0
HasBytes None = ⊥
HasBytes (Some b) = 0 < length b.bytes

-- the item does not fit behind what is in work
abbrev pub DoesNotFit : Option BufValue → Item → Type 0
DoesNotFit None x = Unit {0}
DoesNotFit (Some b) x = b.room < length b.bytes + length (spelling x)

-- the item was written behind what is in work
pub record Written (a b : SendView) (x : Item) : Type 0 where
  pub buf : BufValue
  pub was : a.work ≡ Some buf
  pub is : b ≡ record a { work = Some (record buf { bytes = buf.bytes ++ spelling x }) }
