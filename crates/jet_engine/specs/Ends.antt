-- The ends of rings at their places in a list of tasklets, and when the two ends of a ring have met.
use Rattle.std.specs.Prelude.{◌≡◌, ◌≢◌, ℕ, List, Some, slice_get}
use Rattle.jet_items.specs.declared.item.Item.{Item}
use Rattle.jet_ring.specs.Ring.{TxView, RxView}
use Rattle.jet_conveyor.specs.Conveyor.{View}
use Rattle.jet_tasklet.specs.declared.any.AnyTasklet.{AnyTasklet}
use Rattle.jet_tasklet.specs.Meeting.{HasEnd, IsQueue, HasQueue, EndsMet}
use Rattle.jet_tasklet.specs.Views.{ins, outs}
use Rattle.jet_engine.specs.declared.places.DestAt.{DestAt}
use Rattle.jet_engine.specs.declared.places.QueueAt.{QueueAt}
use Rattle.jet_engine.specs.declared.places.Junction.{Junction}

-- at this place stands the sending end of a ring
pub record HasDestAt (ts : List AnyTasklet) (p : DestAt) (tx : TxView Item) : Type 0 where
  pub tasklet : AnyTasklet
  pub at : slice_get ts p.task ≡ Some tasklet
  pub end : HasEnd (outs tasklet) p.output p.dest tx

-- and at this one the receiving end
pub record HasQueueAt (ts : List AnyTasklet) (p : QueueAt) (rx : RxView Item) : Type 0 where
  pub tasklet : AnyTasklet
  pub at : slice_get ts p.task ≡ Some tasklet
  pub end : HasQueue (ins tasklet) p.input p.queue rx

-- a junction joins the two ends of one ring, of two tasklets
pub record IsJoined (ts : List AnyTasklet) (j : Junction) : Type 0 where
  pub tx : TxView Item
  pub rx : RxView Item
  pub giver : HasDestAt ts j.giver tx
  pub taker : HasQueueAt ts j.taker rx
  pub ring : rx.ring ≡ tx.ring
  pub apart : j.giver.task ≢ j.taker.task

-- its two ends have met: all that was sent is received or known, and every other slot is known to be free
pub record HasMet (ts : List AnyTasklet) (j : Junction) : Type 0 where
  pub tx : TxView Item
  pub rx : RxView Item
  pub giver : HasDestAt ts j.giver tx
  pub taker : HasQueueAt ts j.taker rx
  pub met : EndsMet tx rx

-- the ring of an end outside leads to this queue
pub record IsFed (ts : List AnyTasklet) (tx : TxView Item) (p : QueueAt) : Type 0 where
  pub rx : RxView Item
  pub taker : HasQueueAt ts p rx
  pub ring : rx.ring ≡ tx.ring

-- and its two ends have met
pub record HasFed (ts : List AnyTasklet) (tx : TxView Item) (p : QueueAt) : Type 0 where
  pub rx : RxView Item
  pub taker : HasQueueAt ts p rx
  pub met : EndsMet tx rx

-- the ring of this destination leads to a queue of a conveyor outside
pub record IsDrained (ts : List AnyTasklet) (p : DestAt) (queues : View) (q : ℕ) : Type 0 where
  pub tx : TxView Item
  pub rx : RxView Item
  pub giver : HasDestAt ts p tx
  pub taker : IsQueue queues q rx
  pub ring : rx.ring ≡ tx.ring

-- and its two ends have met
pub record HasDrained (ts : List AnyTasklet) (p : DestAt) (queues : View) (q : ℕ) : Type 0 where
  pub tx : TxView Item
  pub rx : RxView Item
  pub giver : HasDestAt ts p tx
  pub taker : IsQueue queues q rx
  pub met : EndsMet tx rx
