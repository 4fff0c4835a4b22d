-- Tasklets in a chain, each with one queue and one destination, for tests.
use Rattle.std.specs.Prelude.{◌≡◌, List, [], ◌∷◌, map, length, Option, Some, None, slice_get}
use Rattle.jet_items.specs.Order.{Each}
use Rattle.jet_ring.specs.Ring.{Ring}
use Rattle.jet_router.specs.Router as router
use Rattle.jet_tasklet.specs.declared.any.AnyTasklet.{AnyTasklet}
use Rattle.jet_tasklet.specs.Inputs.{InputView, inputs_view}
use Rattle.jet_tasklet.specs.Outputs.{OutputView, outputs_view}
use Rattle.jet_tasklet.specs.Kinds.{inputs_of, outputs_of}
use Rattle.jet_tasklet.specs.Any.{AnyIsLawful}

-- the ring of the first queue of the first input, and that of the first destination of the first output
abbrev pub ring_in : List InputView → Option Ring
ring_in [] = None
ring_in (v ∷ vs) = slice_get v.queues.rings 0

abbrev pub ring_out : List OutputView → Option Ring
ring_out [] = None
ring_out (o ∷ os) = slice_get (router.rings o.router) 0

pub record Ends : Type 0 where
  pub takes : Option Ring
  pub gives : Option Ring

abbrev pub ends_of : AnyTasklet → Ends
ends_of t = record { takes = ring_in (inputs_view (inputs_of t)); gives = ring_out (outputs_view (outputs_of t)) }

abbrev pub all_ends : List AnyTasklet → List Ends
all_ends ts = map ends_of ts

-- each takes from the ring that the one before it gives into: the first from one ring, and what the last gives goes into another
abbrev pub AreLinked : Ring → List Ends → Ring → Type 0
AreLinked from [] to = from ≡ to
AreLinked from (e ∷ es) to = (next : Ring) × (e.takes ≡ Some from) × (e.gives ≡ Some next) × AreLinked next es to

-- two tasklets of which the one gives into the ring that the other takes from
abbrev pub AreJoined : Ends → Ends → Type 0
AreJoined a b = (ring : Ring) × (a.gives ≡ Some ring) × (b.takes ≡ Some ring)

-- three tasklets that keep their laws and are linked
pub record IsChain (from : Ring) (ts : List AnyTasklet) (to : Ring) : Type 0 where
  pub three : length ts ≡ 3
  pub lawful : Each AnyIsLawful ts
  pub linked : AreLinked from (all_ends ts) to
