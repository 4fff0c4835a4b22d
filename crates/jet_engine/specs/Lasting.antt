-- What turns leave of the ends of a tasklet: each is of the ring, or of the link, that it was of.
use Rattle.std.specs.Prelude.{◌≡◌, List, map}
use Rattle.jet_ring.specs.Ring.{Ring}
use Rattle.jet_router.specs.Router as router
use Rattle.jet_wire.specs.Receiver.{receiver_view}
use Rattle.jet_wire.specs.Sender.{sender_view}
use Rattle.jet_link.specs.Sending.{SameSend}
use Rattle.jet_link.specs.Receiving.{SameRecv}
use Rattle.jet_tasklet.specs.declared.any.AnyTasklet.{AnyTasklet}
use Rattle.jet_tasklet.specs.Kinds.{OfKinds}
use Rattle.jet_tasklet.specs.Views.{ins, outs}

-- the rings of its inputs, and those of its outputs
abbrev pub input_rings : AnyTasklet → List (List Ring)
input_rings t = map (λ i. i.queues.rings) (ins t)

abbrev pub output_rings : AnyTasklet → List (List Ring)
output_rings t = map (λ o. router.rings o.router) (outs t)

-- where they are ends of links, they are the same end of the same link
abbrev pub HaveSameLink : AnyTasklet → AnyTasklet → Type 0
HaveSameLink t u = OfKinds (λ P k a b. Unit {0}) (λ a b. SameSend (sender_view a).end (sender_view b).end) (λ a b. SameRecv (receiver_view a).end (receiver_view b).end) t u

-- each end is of the ring, or of the link, that it was of
pub record KeepsRings (t u : AnyTasklet) : Type 0 where
  pub inputs : input_rings u ≡ input_rings t
  pub outputs : output_rings u ≡ output_rings t
  pub link : HaveSameLink t u
