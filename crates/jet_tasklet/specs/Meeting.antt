-- A meeting of the two ends of one ring.
use Rattle.std.specs.Prelude.{◌≡◌, ℕ, ◌+◌, ◌≤◌, List, ◌++◌, Some, length, set, slice_get}
use Rattle.jet_items.specs.declared.item.Item.{Item}
use Rattle.jet_ring.specs.Ring.{Ring, TxView, RxView}
use Rattle.jet_conveyor.specs.Conveyor as conveyor
use Rattle.jet_router.specs.Router as router
use Rattle.jet_boxes.specs.declared.port.Port.{Port}
use Rattle.jet_boxes.specs.Entry.{CallEntry}
use Rattle.jet_tasklet.specs.declared.arrival.Arrival.{Arrival}
use Rattle.jet_tasklet.specs.declared.tasklet.Tasklet.{Tasklet}
use Rattle.jet_tasklet.specs.declared.any.AnyTasklet.{AnyTasklet}
use Rattle.jet_tasklet.specs.Inputs.{InputView, inputs_view}
use Rattle.jet_tasklet.specs.Outputs.{OutputView, outputs_view}
use Rattle.jet_tasklet.specs.Kinds.{OfKinds, OfLink}
use Rattle.jet_tasklet.specs.Keeps.{Stays}
use Rattle.jet_tasklet.specs.Links.{SameSend, SameReceive}
use Rattle.jet_link.specs.Meeting.{IsLink, BothMet, SendMet, RecvMet}
use Rattle.jet_wire.specs.Receiver.{ReceiverView, receiver_view}
use Rattle.jet_wire.specs.Sender.{SenderView, sender_view}
use Rattle.jet_tasklet.specs.Any.{AnyKeeps}
use Rattle.jet_tasklet.specs.Views.{ins, outs, waiting, step_of}

-- the destination d of the output o has this end
pub record HasEnd (outputs : List OutputView) (o d : ℕ) (end : TxView Item) : Type 0 where
  pub output : OutputView
  pub at : slice_get outputs o ≡ Some output
  pub is : slice_get (router.txs output.router) d ≡ Some end

-- the queue q has this end
pub record IsQueue (queues : conveyor.View) (q : ℕ) (end : RxView Item) : Type 0 where
  pub ring : slice_get queues.rings q ≡ Some end.ring
  pub received : conveyor.received_at queues q ≡ end.received
  pub known : conveyor.known_at queues q ≡ end.known

-- the queue q of the input i has this end
pub record HasQueue (inputs : List InputView) (i q : ℕ) (end : RxView Item) : Type 0 where
  pub input : InputView
  pub at : slice_get inputs i ≡ Some input
  pub is : IsQueue input.queues q end

-- of one ring every item that was sent is received or known, and every other slot is known to be free
pub record EndsMet (tx : TxView Item) (rx : RxView Item) : Type 0 where
  pub ring : rx.ring ≡ tx.ring
  pub all : rx.received ++ rx.known ≡ tx.sent
  pub free : tx.free + length rx.known ≡ tx.ring.cap
  pub slots : (2 ≤ tx.ring.cap) × (tx.ring.cap ≤ 65536)

-- a destination and a queue are the two ends of one ring
abbrev pub AreJoined : List OutputView → ℕ → ℕ → List InputView → ℕ → ℕ → Type 0
AreJoined outputs o d inputs i q = (tx : TxView Item) × (rx : RxView Item) × HasEnd outputs o d tx × HasQueue inputs i q rx × (rx.ring ≡ tx.ring)

-- they have met
abbrev pub HaveMet : List OutputView → ℕ → ℕ → List InputView → ℕ → ℕ → Type 0
HaveMet outputs o d inputs i q = (tx : TxView Item) × (rx : RxView Item) × HasEnd outputs o d tx × HasQueue inputs i q rx × EndsMet tx rx

-- of the outputs, the destination d of the output o met, and nothing else changed
pub record OutputMet (before after : List OutputView) (o d : ℕ) : Type 0 where
  pub was : OutputView
  pub now : OutputView
  pub at : slice_get before o ≡ Some was
  pub others : after ≡ set before o now
  pub had : now.had ≡ was.had
  pub met : router.Refreshed was.router now.router d

-- of the inputs, the queue q of the input i met, and nothing else changed
pub record InputMet (before after : List InputView) (i q : ℕ) : Type 0 where
  pub was : InputView
  pub now : InputView
  pub at : slice_get before i ≡ Some was
  pub others : after ≡ set before i now
  pub port : now.port ≡ was.port
  pub met : conveyor.Refreshed was.queues now.queues q

-- a destination of a tasklet met: nothing came or was given, and nothing but that end changed
pub record GiverMet {P : Type 0} (stands : P → List CallEntry → List Item → Type 0) (amid : P → List CallEntry → CallEntry → List Item → Type 0) (takes : P → Port → ℕ → Type 0) (a b : Tasklet P) (o d : ℕ) : Type 0 where
  pub keeps : Stays stands amid takes a b
  pub outputs : OutputMet (outputs_view a.outputs.items) (outputs_view b.outputs.items) o d
  pub rest : b ≡ record a { outputs = b.outputs }

-- a queue of a tasklet met
pub record TakerMet {P : Type 0} (stands : P → List CallEntry → List Item → Type 0) (amid : P → List CallEntry → CallEntry → List Item → Type 0) (takes : P → Port → ℕ → Type 0) (a b : Tasklet P) (i q : ℕ) : Type 0 where
  pub keeps : Stays stands amid takes a b
  pub inputs : InputMet (inputs_view a.inputs.items) (inputs_view b.inputs.items) i q
  pub rest : b ≡ record a { inputs = b.inputs }

-- two tasklets have the same processor, or are the same end of a link but for its queues or its router
abbrev pub HaveSameProcessor : AnyTasklet → AnyTasklet → Type 0
HaveSameProcessor t u = OfKinds (λ P k a b. b.processor ≡ a.processor) (λ a b. SameSend (sender_view a) (sender_view b)) (λ a b. SameReceive (receiver_view a) (receiver_view b)) t u

-- the same of a tasklet of any kind
pub record AnyGiverMet (t u : AnyTasklet) (o d : ℕ) : Type 0 where
  pub keeps : (came : List Arrival) (gave : List Item) → AnyKeeps t came gave → AnyKeeps u came gave
  pub outputs : OutputMet (outs t) (outs u) o d
  pub inputs : ins u ≡ ins t
  pub outbox : waiting u ≡ waiting t
  pub step : step_of u ≡ step_of t
  pub processor : HaveSameProcessor t u

pub record AnyTakerMet (t u : AnyTasklet) (i q : ℕ) : Type 0 where
  pub keeps : (came : List Arrival) (gave : List Item) → AnyKeeps t came gave → AnyKeeps u came gave
  pub inputs : InputMet (ins t) (ins u) i q
  pub outputs : outs u ≡ outs t
  pub outbox : waiting u ≡ waiting t
  pub step : step_of u ≡ step_of t
  pub processor : HaveSameProcessor t u

-- two tasklets are the two ends of one link: a sender and a receiver
abbrev pub AreLinkEnds : AnyTasklet → AnyTasklet → Type 0
AreLinkEnds t u = OfLink (λ s r. IsLink (sender_view s).end (receiver_view r).end) t u

-- they have met: of both rings of the link all that was sent is received or known, every other slot is known to be free, and the definition of links holds
abbrev pub HaveMetByLink : AnyTasklet → AnyTasklet → Type 0
HaveMetByLink t u = OfLink (λ s r. BothMet (sender_view s).end (receiver_view r).end) t u

-- a sender met its receiver: what its end of the link knows may have grown, and nothing else changed
pub record SendLinkMet (a b : SenderView) : Type 0 where
  pub end : SendMet a.end b.end
  pub rest : b ≡ record a { end = b.end }

-- and a receiver its sender
pub record ReceiveLinkMet (a b : ReceiverView) : Type 0 where
  pub end : RecvMet a.end b.end
  pub rest : b ≡ record a { end = b.end }

-- a tasklet that is an end of a link met the other: nothing came or was given, and nothing but the end of the link changed
pub record AnyLinkMet (t u : AnyTasklet) : Type 0 where
  pub keeps : (came : List Arrival) (gave : List Item) → AnyKeeps t came gave → AnyKeeps u came gave
  pub inputs : ins u ≡ ins t
  pub outputs : outs u ≡ outs t
  pub end : OfKinds (λ P k a b. ⊥) (λ a b. SendLinkMet (sender_view a) (sender_view b)) (λ a b. ReceiveLinkMet (receiver_view a) (receiver_view b)) t u
