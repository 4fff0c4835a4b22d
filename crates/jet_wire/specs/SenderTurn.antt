-- What a turn of a sender leaves as it was, what it can only add to, and why it may have nothing to do.
use Rattle.std.specs.Prelude.{◌≡◌, ◌⊎◌, ℕ, ◌+◌, ◌≤◌, true, ◌++◌, All, length, sum_by, None}
use mathlib.Core.List.{IsPrefix}
use Rattle.jet_conveyor.specs.Conveyor as conveyor
use Rattle.jet_link.specs.Ends.{count_of}
use Rattle.jet_link.specs.Link.{whole_acked, whole_limit}
use Rattle.jet_link.specs.Sending.{SameSend, NoneToTake, MayNotBegin, HasBytes}
use Rattle.jet_link.specs.Views.{SendView, send_state}
use Rattle.jet_wire.specs.Sender.{SenderView, queue_count}

-- the end of the link has gone on: what was pushed and taken before is the front of what is, what may still be pushed and what was known is no less, and the bytes acknowledged and the limit did not fall
pub record EndGoes (a b : SendView) : Type 0 where
  pub same : SameSend a b
  pub sent : IsPrefix a.packets.sent b.packets.sent
  pub still_free : length b.packets.sent + b.packets.free ≡ length a.packets.sent + a.packets.free
  pub taken : IsPrefix a.acks.received b.acks.received
  pub still_known : IsPrefix (a.acks.received ++ a.acks.known) (b.acks.received ++ b.acks.known)
  pub acked : whole_acked (send_state a) ≤ whole_acked (send_state b)
  pub limit : whole_limit (send_state a) ≤ whole_limit (send_state b)

-- and so have its queues: their rings are the same, what was received before is the front of what is, and what was received or known still is
pub record QueuesGo (a b : conveyor.View) : Type 0 where
  pub rings : b.rings ≡ a.rings
  pub received : (q : ℕ) → IsPrefix (conveyor.received_at a q) (conveyor.received_at b q)
  pub still_known : conveyor.SeesMore a b

pub record SenderTurned (a b : SenderView) : Type 0 where
  pub queues : QueuesGo a.queues b.queues
  pub end : EndGoes a.end b.end

-- how many items were popped from the queues
abbrev pub received_count : conveyor.View → ℕ
received_count v = sum_by (λ xs. length xs) v.received

-- how many items, packets and acknowledgements were popped and pushed
abbrev pub move_count : SenderView → ℕ
move_count v = received_count v.queues + (length v.end.packets.sent + length v.end.acks.received)

-- none was: the queues, both rings and the counts are as they were, and no buffer left the stock but into work
pub record SenderIsStill (a b : SenderView) : Type 0 where
  pub queues : b.queues ≡ a.queues
  pub packets : b.end.packets ≡ a.end.packets
  pub acks : b.end.acks ≡ a.end.acks
  pub counts : b.end.counts ≡ a.end.counts
  pub buffers : b.end.inside + count_of b.end.work ≡ a.end.inside + count_of a.end.work

-- each queue is done and nothing is held, so that the Done of all was pushed
pub record SentAll (v : SenderView) : Type 0 where
  pub done : All (λ d. d ≡ true) v.queues.done
  pub hand : v.hand ≡ None
  pub work : v.end.work ≡ None

-- and every acknowledgement has come in
pub record SenderHasEnded (v : SenderView) : Type 0 where
  pub all : SentAll v
  pub acked : v.end.counts.acked ≡ v.end.counts.sent

-- nothing is held, no queue that is not done has a known item, and some queue is not done or Done was pushed
pub record SenderIsStarved (v : SenderView) : Type 0 where
  pub hand : v.hand ≡ None
  pub work : v.end.work ≡ None
  pub none : conveyor.NoneKnown v.queues 0 (queue_count v)
  pub waits : (All (λ d. d ≡ true) v.queues.done → ⊥) ⊎ SentAll v

-- a packet is ready to go, and no slot of the ring is known to be free
pub record SenderIsFull (v : SenderView) : Type 0 where
  pub work : HasBytes v.end.work
  pub full : v.end.packets.free ≡ 0

-- no buffer is in work, and no packet may begin
pub record SenderIsBarred (v : SenderView) : Type 0 where
  pub work : v.end.work ≡ None
  pub barred : MayNotBegin v.end

-- why a sender has nothing to do: no acknowledgement is left known that it may take, and no packet may begin, or the one that is ready finds no slot, or there is nothing to send
pub record SenderRests (v : SenderView) : Type 0 where
  pub acks : NoneToTake v.end
  pub cause : SenderIsBarred v ⊎ (SenderIsFull v ⊎ SenderIsStarved v)
