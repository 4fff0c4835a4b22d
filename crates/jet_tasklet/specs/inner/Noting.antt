-- What a tasklet notes of an item that came.
use Rattle.std.specs.Prelude.{◌≡◌, ℕ, ℤ, List, [], ◌∷◌, ◌++◌, Option, Some, None, length}
use Rattle.jet_boxes.specs.declared.port.Port.{Port}
use Rattle.jet_boxes.specs.declared.port.Port.TheVariants.{Stream, Build}
use Rattle.jet_coalescer.specs.declared.change.Change.{Change}
use Rattle.jet_coalescer.specs.declared.change.Change.TheVariants as change
use Rattle.jet_coalescer.specs.declared.coalescer.Coalescer.{Coalescer}
use Rattle.jet_coalescer.specs.Low.{History, HasHeard, with_done, all_done, low, change_of}
use Rattle.jet_tasklet.specs.declared.arrival.Arrival.{Arrival}
use Rattle.jet_tasklet.specs.declared.step.Step.{Step}
use Rattle.jet_tasklet.specs.Trace.{heard, asks}
use Rattle.jet_tasklet.specs.Steps.{owed, finale}

-- the watermark that a Done raised, if it did
abbrev pub raised_to : Change → Option ℤ
raised_to change.Unchanged = None
raised_to (change.Raised t) = Some t
raised_to change.AllDone = None

-- a coalescer that had heard of some queues has heard the Done of one, and answers the new watermark where it rose and a queue is left
abbrev pub EndsQueue : Coalescer → Coalescer → Port → ℕ → Option ℤ → Type 0
EndsQueue before after Stream q raised = (told : List History) → HasHeard before told → HasHeard after (with_done told q) × (raised ≡ raised_to (change_of (all_done (with_done told q)) (low told) (low (with_done told q))))
EndsQueue before after Build q raised = (after ≡ before) × (raised ≡ None)

-- a coalescer that had heard all that came has heard the item too, and what the tasklet does next is what the item asks
pub record Notes (before after : Coalescer) (a : Arrival) (next : Step) : Type 0 where
  pub hears : (came : List Arrival) → HasHeard before (heard (length before.queues) came) → HasHeard after (heard (length before.queues) (came ++ a ∷ []))
  pub asked : (came : List Arrival) → HasHeard before (heard (length before.queues) came) → owed next ≡ asks (length before.queues) came a
  pub goes_on : finale next ≡ []
