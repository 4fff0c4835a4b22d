-- What a tasklet that is an end of a link keeps, in the words of tasklets: what came to it, each item with its port and queue, and what it gave.
use Rattle.std.specs.Prelude.{◌≡◌, ℕ, ◌⊎◌, true, All, List, ◌++◌, map, None}
use Rattle.jet_items.specs.declared.item.Item.{Item}
use Rattle.jet_boxes.specs.declared.port.Port.TheVariants.{Stream}
use Rattle.jet_link.specs.Packets.{packed}
use Rattle.jet_link.specs.Receiving.{IsGranted}
use Rattle.jet_link.specs.Sending.{NoneToTake}
use Rattle.jet_spell.specs.Spelling.{spellings}
use Rattle.jet_wire.specs.Noting.{items_in}
use Rattle.jet_wire.specs.Passing.{Taken, has_ended, passed}
use Rattle.jet_wire.specs.Receiver.{ReceiverView, ReceiverKeeps, IsPaced, IsNext, bytes_left}
use Rattle.jet_wire.specs.ReceiverTurn.{ReceiverIsBlocked, ReceiverIsFull, CountsTurn, Offers}
use Rattle.jet_wire.specs.Sender.{SenderView, SenderKeeps, queue_count, work_bytes}
use Rattle.jet_wire.specs.SenderTurn.{SenderIsBarred, SenderIsFull, SenderIsStarved}
use Rattle.jet_tasklet.specs.declared.arrival.Arrival.{Arrival}
use Rattle.jet_tasklet.specs.Outputs.{InGift, ready}

-- an item that a sender took from a queue of its one input
abbrev pub taken_at : Taken → Arrival
taken_at a = record { port = Stream; queue = a.queue; item = a.item }

-- an item that a receiver took from its packets
abbrev pub unpacked : Item → Arrival
unpacked x = record { port = Stream; queue = 0; item = x }

-- these items came to a sender from its queues, and it sent these over its link
pub record SendKeeps (v : SenderView) (came : List Arrival) (gave : List Item) : Type 0 where
  pub taken : List Taken
  pub came_is : came ≡ map taken_at taken
  pub keeps : SenderKeeps v taken gave

-- these items came to a receiver over its link, and it gave them
pub record ReceiveKeeps (v : ReceiverView) (came : List Arrival) (gave : List Item) : Type 0 where
  pub came_is : came ≡ map unpacked gave
  pub keeps : ReceiverKeeps v gave
  pub paced : IsPaced v

-- what an end of a link keeps of the items that came to it and that it gave
abbrev pub Law : Type 0 → Type 1
Law V = V → List Arrival → List Item → Type 0

-- there are items that came and that were given of which the end keeps this
pub record LinkIsLawful {V : Type 0} (law : Law V) (v : V) : Type 0 where
  pub came : List Arrival
  pub gave : List Item
  pub keeps : law v came gave

-- whatever came and was given before, nothing came and nothing was given since, and the end keeps the same
pub record LinkStays {V : Type 0} (law : Law V) (a b : V) : Type 0 where
  pub stays : (came : List Arrival) (gave : List Item) → law a came gave → law b came gave

-- whatever came and was given before, more may have come and been given since, and the end keeps the same
pub record LinkGoes {V : Type 0} (law : Law V) (a b : V) : Type 0 where
  pub goes : (came : List Arrival) (gave : List Item) → law a came gave → (more : List Arrival) × (given : List Item) × law b (came ++ more) (gave ++ given)

-- no packet may begin, or the one that is ready finds no slot; and no acknowledgement is left known that may be taken
pub record SendIsBlocked (v : SenderView) : Type 0 where
  pub acks : NoneToTake v.end
  pub cause : SenderIsBarred v ⊎ SenderIsFull v

-- there is nothing to send; and no acknowledgement is left known that may be taken
pub record SendIsStarved (v : SenderView) : Type 0 where
  pub acks : NoneToTake v.end
  pub starved : SenderIsStarved v

-- an item is owed to a destination, or an acknowledgement to the sender, and there is no known free slot for it
abbrev pub ReceiveIsBlocked : ReceiverView → Type 0
ReceiveIsBlocked v = ReceiverIsBlocked v ⊎ ReceiverIsFull v

-- a sender holds nothing that is unsent
pub record SendIsAtRest (v : SenderView) : Type 0 where
  pub hand : v.hand ≡ None
  pub work : v.end.work ≡ None

-- a receiver holds no packet
abbrev pub ReceiveIsAtRest : ReceiverView → Type 0
ReceiveIsAtRest v = v.end.held ≡ None

-- an arrival as a sender takes it from a queue
abbrev pub taken_of : Arrival → Taken
taken_of a = record { queue = a.queue; item = a.item }

-- what is passed on of what came from n queues: data as it came, the marks of all queues together, and Done at their end
abbrev pub passed_on : ℕ → List Arrival → List Item
passed_on n came = passed n (map taken_of came)

-- what a sender sent over its link, the items that stand in the packet in work, and the one in hand are what is passed on of what came
pub record SendsSoFar (v : SenderView) (came : List Arrival) (gave : List Item) : Type 0 where
  pub sent : packed v.end.packets.sent ≡ spellings gave
  pub written : List Item
  pub work : work_bytes v.end.work ≡ spellings written
  pub passes : gave ++ written ++ items_in v.hand ≡ passed_on (queue_count v) came

-- what a receiver gave is what came over its link, its router was given just these items whole, and the next one may be in hand there; its packets are spelled so up to the place reached
pub record GivesOn (v : ReceiverView) (came : List Arrival) (gave : List Item) : Type 0 where
  pub came_is : came ≡ map unpacked gave
  pub next : Item
  pub gift : InGift gave next (ready v.router)
  pub is_next : v.router.busy ≡ true → IsNext v next
  pub bytes : packed v.end.packets.received ≡ spellings gave ++ bytes_left v
  pub done : v.ended ≡ has_ended gave

-- a turn of a receiver counts once in its period, with the bytes that it processed; the grant lies between window and peak; and the offer stays, or is raised to the grant ahead of what was processed
pub record CountsOnce (a b : ReceiverView) : Type 0 where
  pub granted : IsGranted b.end
  pub counted : CountsTurn a.end b.end
  pub offers : Offers a.end b.end

-- all but the queues of a sender is as it was
pub record SameSend (a b : SenderView) : Type 0 where
  pub lows : b.lows ≡ a.lows
  pub hand : b.hand ≡ a.hand
  pub end : b.end ≡ a.end

-- all but the router of a receiver is as it was
pub record SameReceive (a b : ReceiverView) : Type 0 where
  pub end : b.end ≡ a.end
  pub at : b.at ≡ a.at
  pub ended : b.ended ≡ a.ended
