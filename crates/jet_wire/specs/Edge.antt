-- A distributed edge for tests: a ring into a sender, a link, and a ring out of its receiver.
use Rattle.std.specs.Prelude.{◌≡◌, Some, slice_get}
use Rattle.jet_ring.specs.Ring.{Ring}
use Rattle.jet_router.specs.Router as router
use Rattle.jet_link.specs.Meeting.{IsLink}
use Rattle.jet_wire.specs.Receiver.{ReceiverView, ReceiverIsLawful}
use Rattle.jet_wire.specs.Sender.{SenderView, IsLawful}

-- the sender's first queue is this ring, and it keeps its law
pub record TakesFrom (from : Ring) (s : SenderView) : Type 0 where
  pub lawful : IsLawful s
  pub queue : slice_get s.queues.rings 0 ≡ Some from

-- the receiver's first destination is this ring, and it keeps its law
pub record GivesInto (r : ReceiverView) (to : Ring) : Type 0 where
  pub lawful : ReceiverIsLawful r
  pub dest : slice_get (router.rings r.router) 0 ≡ Some to

-- both hold the two ends of one link
pub record IsEdge (from : Ring) (s : SenderView) (r : ReceiverView) (to : Ring) : Type 0 where
  pub takes : TakesFrom from s
  pub link : IsLink s.end r.end
  pub gives : GivesInto r to
