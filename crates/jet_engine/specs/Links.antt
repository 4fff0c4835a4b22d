-- Links between the tasklets of a list, and their meetings.
use Rattle.std.specs.Prelude.{◌≡◌, ◌≢◌, List, Some, set, slice_get}
use Rattle.jet_items.specs.declared.item.Item.{Item}
use Rattle.jet_wire.specs.Receiver.{ReceiverView, receiver_view}
use Rattle.jet_wire.specs.Sender.{SenderView, sender_view}
use Rattle.jet_tasklet.specs.declared.any.AnyTasklet.{AnyTasklet}
use Rattle.jet_tasklet.specs.declared.arrival.Arrival.{Arrival}
use Rattle.jet_tasklet.specs.Any.{AnyKeeps}
use Rattle.jet_tasklet.specs.Kinds.{OfKinds}
use Rattle.jet_tasklet.specs.Meeting.{AreLinkEnds, HaveMetByLink, AnyLinkMet}
use Rattle.jet_tasklet.specs.Views.{ins, outs, waiting, step_of}
use Rattle.jet_engine.specs.declared.places.LinkAt.{LinkAt}

-- two tasklets of the list are the ends of one link
pub record AreLinked (ts : List AnyTasklet) (l : LinkAt) : Type 0 where
  pub sender : AnyTasklet
  pub receiver : AnyTasklet
  pub at_sender : slice_get ts l.sender ≡ Some sender
  pub at_receiver : slice_get ts l.receiver ≡ Some receiver
  pub apart : l.sender ≢ l.receiver
  pub joined : AreLinkEnds sender receiver

-- and these have met
pub record HaveLinkMet (ts : List AnyTasklet) (l : LinkAt) : Type 0 where
  pub sender : AnyTasklet
  pub receiver : AnyTasklet
  pub at_sender : slice_get ts l.sender ≡ Some sender
  pub at_receiver : slice_get ts l.receiver ≡ Some receiver
  pub met : HaveMetByLink sender receiver

-- The two ends of a link met: nothing changed but what they know of the link.
pub record LinkMet (ts us : List AnyTasklet) (l : LinkAt) : Type 0 where
  pub sender : AnyTasklet
  pub sender_now : AnyTasklet
  pub receiver : AnyTasklet
  pub receiver_now : AnyTasklet
  pub at_sender : slice_get ts l.sender ≡ Some sender
  pub at_receiver : slice_get ts l.receiver ≡ Some receiver
  pub others : us ≡ set (set ts l.sender sender_now) l.receiver receiver_now
  pub sender_met : AnyLinkMet sender sender_now
  pub receiver_met : AnyLinkMet receiver receiver_now

-- two links have no tasklet in common
pub record AreLinksApart (l m : LinkAt) : Type 0 where
  pub senders : l.sender ≢ m.sender
  pub receivers : l.receiver ≢ m.receiver
  pub from : l.sender ≢ m.receiver
  pub to : l.receiver ≢ m.sender

-- of an end of a link all but what it knows of the other end is as it was
pub record SameSending (a b : SenderView) : Type 0 where
  pub lows : b.lows ≡ a.lows
  pub hand : b.hand ≡ a.hand

pub record SameReceiving (a b : ReceiverView) : Type 0 where
  pub at : b.at ≡ a.at
  pub ended : b.ended ≡ a.ended

-- two tasklets have the same processor, or are the same end of a link but for what it knows
abbrev pub HaveSameWork : AnyTasklet → AnyTasklet → Type 0
HaveSameWork t u = OfKinds (λ P k a b. b.processor ≡ a.processor) (λ a b. SameSending (sender_view a) (sender_view b)) (λ a b. SameReceiving (receiver_view a) (receiver_view b)) t u

-- Nothing came to a tasklet and nothing was given, and it is as it was but for what it knows of its link.
pub record LinkLooked (t u : AnyTasklet) : Type 0 where
  pub keeps : (came : List Arrival) (gave : List Item) → AnyKeeps t came gave → AnyKeeps u came gave
  pub inputs : ins u ≡ ins t
  pub outputs : outs u ≡ outs t
  pub outbox : waiting u ≡ waiting t
  pub step : step_of u ≡ step_of t
  pub work : HaveSameWork t u
