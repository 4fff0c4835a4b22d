-- The steps of a receiver's turn.
use Rattle.std.specs.Prelude.{◌≡◌, ℕ, ◌+◌, ◌≤◌, List, ◌++◌}
use Rattle.jet_items.specs.declared.item.Item.{Item}
use Rattle.jet_router.specs.Deals.{IsFull}
use Rattle.jet_router.specs.Router.{sent_count}
use Rattle.jet_link.specs.Link.{whole_processed}
use Rattle.jet_link.specs.Views.{RecvView, recv_state}
use Rattle.jet_wire.specs.Receiver.{ReceiverView, IsNext, ReceiverKeeps, ReceiverStays}
use Rattle.jet_wire.specs.ReceiverTurn.{RecvGoes, RouterGoes, OffersSame, Offers}

-- items of the packet in hand may have been given, and nothing else was done; where none was pushed, none was given
pub record Deals (a b : ReceiverView) : Type 0 where
  pub end : b.end ≡ a.end
  pub router : RouterGoes a.router b.router
  pub more : sent_count a.router ≤ sent_count b.router
  pub gives : (given : List Item) → ReceiverKeeps a given → (more : List Item) × ReceiverKeeps b (given ++ more)
  pub stays : sent_count b.router ≡ sent_count a.router → ReceiverStays a b
  pub place : sent_count b.router ≡ sent_count a.router → (b.at ≡ a.at) × (b.ended ≡ a.ended)

-- the next item is owed to a destination that has no known free slot
abbrev pub IsOwed : ReceiverView → Type 0
IsOwed v = (x : Item) × IsNext v x × IsFull v.router x

-- the end of the link did something, and nothing was given
pub record Receives (a b : ReceiverView) : Type 0 where
  pub router_same : b.router ≡ a.router
  pub end : RecvGoes a.end b.end
  pub stays : ReceiverStays a b

-- no packet and no acknowledgement moved
pub record IsUnmoved (a b : ReceiverView) : Type 0 where
  pub packets : b.end.packets ≡ a.end.packets
  pub acks : b.end.acks ≡ a.end.acks
  pub held : b.end.held ≡ a.end.held
  pub at : b.at ≡ a.at
  pub ended : b.ended ≡ a.ended

-- the bytes of a packet may have been counted, in the period too, and nothing was acknowledged
pub record CountsBytes (a b : RecvView) : Type 0 where
  pub bytes : ℕ
  pub processed : whole_processed (recv_state b) ≡ whole_processed (recv_state a) + bytes
  pub part : b.part ≡ a.part + bytes
  pub turns : b.turns ≡ a.turns
  pub grant : b.grant ≡ a.grant
  pub shape : b.shape ≡ a.shape
  pub offers : OffersSame a b

-- a packet may have been acknowledged, and nothing was counted
pub record MayAck (a b : RecvView) : Type 0 where
  pub processed : whole_processed (recv_state b) ≡ whole_processed (recv_state a)
  pub part : b.part ≡ a.part
  pub turns : b.turns ≡ a.turns
  pub grant : b.grant ≡ a.grant
  pub shape : b.shape ≡ a.shape
  pub offers : Offers a b
