-- What a meeting leaves as it was: all but what the ends of rings know of their other ends.
use Rattle.std.specs.Prelude.{◌≡◌, ◌≢◌, List}
use Rattle.std.specs.List.{Contains}
use Rattle.jet_items.specs.declared.item.Item.{Item}
use Rattle.jet_ring.specs.Ring.{TxView, RxView}
use Rattle.jet_router.specs.Router.{SameRouter, sents, hads}
use Rattle.jet_tasklet.specs.declared.any.AnyTasklet.{AnyTasklet}
use Rattle.jet_tasklet.specs.declared.arrival.Arrival.{Arrival}
use Rattle.jet_tasklet.specs.Any.{AnyKeeps}
use Rattle.jet_tasklet.specs.Inputs.{InputView}
use Rattle.jet_tasklet.specs.Meeting.{HaveSameProcessor}
use Rattle.jet_tasklet.specs.Outputs.{OutputView}
use Rattle.jet_tasklet.specs.Views.{ins, outs, waiting, step_of}
use Rattle.jet_crew.specs.Epoch.{Placewise}
use Rattle.jet_engine.specs.declared.places.DestAt.{DestAt}
use Rattle.jet_engine.specs.declared.places.QueueAt.{QueueAt}
use Rattle.jet_engine.specs.declared.places.Junction.{Junction}
use Rattle.jet_engine.specs.Ends.{HasDestAt, HasQueueAt}

-- of an input all but the items that are known
pub record SameInput (a b : InputView) : Type 0 where
  pub port : b.port ≡ a.port
  pub rings : b.queues.rings ≡ a.queues.rings
  pub received : b.queues.received ≡ a.queues.received
  pub done : b.queues.done ≡ a.queues.done
  pub cursor : b.queues.cursor ≡ a.queues.cursor

-- of an output all but the slots that are known to be free
pub record SameOutput (a b : OutputView) : Type 0 where
  pub had : b.had ≡ a.had
  pub router : SameRouter a.router b.router
  pub sent : sents b.router ≡ sents a.router
  pub hads_same : hads b.router ≡ hads a.router
  pub busy : b.router.busy ≡ a.router.busy
  pub turn : b.router.turn ≡ a.router.turn

-- Nothing came to a tasklet and nothing was given, and it is as it was but for what its ends know.
pub record Looked (t u : AnyTasklet) : Type 0 where
  pub keeps : (came : List Arrival) (gave : List Item) → AnyKeeps t came gave → AnyKeeps u came gave
  pub inputs : Placewise SameInput (ins t) (ins u)
  pub outputs : Placewise SameOutput (outs t) (outs u)
  pub outbox : waiting u ≡ waiting t
  pub step : step_of u ≡ step_of t
  pub processor : HaveSameProcessor t u

-- The ends at these places met others, and every other end knows what it knew.
pub record Met (ts us : List AnyTasklet) (dests : List DestAt) (queues : List QueueAt) : Type 0 where
  pub looked : Placewise Looked ts us
  pub other_dests : (p : DestAt) (tx : TxView Item) → (Contains dests p → ⊥) → HasDestAt ts p tx → HasDestAt us p tx
  pub other_queues : (p : QueueAt) (rx : RxView Item) → (Contains queues p → ⊥) → HasQueueAt ts p rx → HasQueueAt us p rx

-- two junctions have no end in common
pub record AreApart (i j : Junction) : Type 0 where
  pub givers : i.giver ≢ j.giver
  pub takers : i.taker ≢ j.taker
