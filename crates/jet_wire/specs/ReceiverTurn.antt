-- What a turn of a receiver leaves as it was, what it can only add to, and why it may have nothing to do.
use Rattle.std.specs.Prelude.{◌≡◌, ◌⊎◌, ℕ, ◌+◌, ◌<◌, max, true, [], ◌++◌, length, get_or, None, IsSome}
use mathlib.Core.List.{IsPrefix}
use Rattle.jet_items.specs.declared.item.Item.{Item}
use Rattle.jet_router.specs.Deals.{IsFull}
use Rattle.jet_router.specs.Router as router
use Rattle.jet_link.specs.Link.{whole_processed, whole_offer}
use Rattle.jet_link.specs.Receiving.{SameRecv, next_grant}
use Rattle.jet_link.specs.Views.{RecvView, recv_state}
use Rattle.jet_wire.specs.Receiver.{ReceiverView, IsNext}

-- the end of the link has gone on: what was received and acknowledged before is the front of what is, and what was known and what may still be acknowledged is no less
pub record RecvGoes (a b : RecvView) : Type 0 where
  pub same : SameRecv a b
  pub received : IsPrefix a.packets.received b.packets.received
  pub still_known : IsPrefix (a.packets.received ++ a.packets.known) (b.packets.received ++ b.packets.known)
  pub gave : IsPrefix a.acks.sent b.acks.sent
  pub still_free : length b.acks.sent + b.acks.free ≡ length a.acks.sent + a.acks.free

-- and so has the router
pub record RouterGoes (a b : router.View) : Type 0 where
  pub same : router.SameRouter a b
  pub sent : (k : ℕ) → IsPrefix (get_or (router.sents a) k []) (get_or (router.sents b) k [])
  pub still_free : router.reaches b ≡ router.reaches a

pub record ReceiverTurned (a b : ReceiverView) : Type 0 where
  pub end : RecvGoes a.end b.end
  pub router : RouterGoes a.router b.router

-- the turn counts once in its period, with the bytes of the packet whose items were all given in it: before the end of the period the grant stays, and at the end it follows what was processed in the period
pub record CountsTurn (a b : RecvView) : Type 0 where
  pub bytes : ℕ
  pub processed : whole_processed (recv_state b) ≡ whole_processed (recv_state a) + bytes
  pub within : a.turns + 1 < a.shape.period → (b.turns ≡ a.turns + 1) × (b.part ≡ a.part + bytes) × (b.grant ≡ a.grant)
  pub ends : a.turns + 1 ≡ a.shape.period → (b.turns ≡ 0) × (b.part ≡ 0) × (b.grant ≡ next_grant (record a { part = a.part + bytes }))

-- no packet was acknowledged, and the offer stays
pub record OffersSame (a b : RecvView) : Type 0 where
  pub acks : length b.acks.sent ≡ length a.acks.sent
  pub offer : whole_offer b.shape (recv_state b) ≡ whole_offer a.shape (recv_state a)

-- one was, and the offer is raised to the grant ahead of the bytes processed where that is more
pub record OffersMore (a b : RecvView) : Type 0 where
  pub acks : length b.acks.sent ≡ length a.acks.sent + 1
  pub offer : whole_offer b.shape (recv_state b) ≡ max (whole_offer a.shape (recv_state a)) (whole_processed (recv_state b) + a.grant)

abbrev pub Offers : RecvView → RecvView → Type 0
Offers a b = OffersSame a b ⊎ OffersMore a b

-- how many items, packets and acknowledgements were popped and pushed
abbrev pub moved_count : ReceiverView → ℕ
moved_count v = router.sent_count v.router + (length v.end.packets.received + length v.end.acks.sent)

-- none was: both rings of the link, the packet in hand and the place reached in it are as they were, and no more items were sent; the bytes of the period and the grant may change
pub record ReceiverIsStill (a b : ReceiverView) : Type 0 where
  pub sent : router.sent_count b.router ≡ router.sent_count a.router
  pub packets : b.end.packets ≡ a.end.packets
  pub acks : b.end.acks ≡ a.end.acks
  pub held : b.end.held ≡ a.end.held
  pub at : b.at ≡ a.at
  pub ended : b.ended ≡ a.ended

-- Done was given, and its packet was acknowledged
pub record ReceiverHasEnded (v : ReceiverView) : Type 0 where
  pub done : v.ended ≡ true
  pub held : v.end.held ≡ None

-- the next item of the packet in hand is owed to a destination that has no known free slot
pub record ReceiverIsBlocked (v : ReceiverView) : Type 0 where
  pub held : IsSome v.end.held
  pub next : Item
  pub is : IsNext v next
  pub full : IsFull v.router next

-- all items of the packet in hand were given, and no slot of the ring of acknowledgements is known to be free
pub record ReceiverIsFull (v : ReceiverView) : Type 0 where
  pub whole : v.end.whole ≡ true
  pub full : v.end.acks.free ≡ 0

-- nothing is left half done: no packet is in hand, or its next item is owed, or it is counted and may not be acknowledged yet
abbrev pub IsUnloaded : ReceiverView → Type 0
IsUnloaded v = (v.end.held ≡ None) ⊎ (ReceiverIsBlocked v ⊎ ReceiverIsFull v)

-- no packet is in hand, and none is known
pub record ReceiverIsStarved (v : ReceiverView) : Type 0 where
  pub held : v.end.held ≡ None
  pub none : v.end.packets.known ≡ []

-- why a receiver has nothing to do
abbrev pub ReceiverRests : ReceiverView → Type 0
ReceiverRests v = ReceiverIsBlocked v ⊎ (ReceiverIsFull v ⊎ ReceiverIsStarved v)
