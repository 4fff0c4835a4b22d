-- What is shown of a tasklet of any kind, kind by kind.
use Rattle.std.proofs.Common.{◌≡◌, ℕ, ◌<◌, Bool, true, false, List, [], ◌∷◌, ◌++◌, get_or}
use Rattle.jet_items.specs.declared.item.Item.{Item}
use Rattle.jet_items.specs.declared.item.Item.TheVariants as item
use Rattle.jet_items.specs.Bag.{SameBag}
use Rattle.jet_items.specs.Kinds.{data_of}
use Rattle.jet_items.specs.Order.{Sound, Closed as ClosedItems}
use Rattle.jet_boxes.specs.Entry.{items_of}
use Rattle.jet_boxes.specs.declared.port.Port.TheVariants.{Stream, Build}
use Rattle.jet_coalescer.specs.Low.{low}
use Rattle.jet_tasklet.specs.declared.arrival.Arrival.{Arrival}
use Rattle.jet_tasklet.specs.declared.any.AnyTasklet.{AnyTasklet}
use Rattle.jet_tasklet.specs.Any.{AnyKeeps, AnyHasEnded}
use Rattle.jet_tasklet.specs.AnyOver.{any_told_of, AnyKeepsBag, AnyKeepsMarks, AnySoFar, AnyMarksSoFar, AnyOver, AnySoundIf, AnyClosedIf, IsFedSound, IsFedClosed}
use Rattle.jet_tasklet.specs.Inputs.{inputs_view, received, dones, queue_count}
use Rattle.jet_tasklet.specs.Kinds.{inputs_of, outputs_of, RunsProcessor}
use Rattle.jet_tasklet.specs.Merging.{data_received, last_told}
use Rattle.jet_tasklet.specs.Outputs.{outputs_view}
use Rattle.jet_tasklet.specs.Sending.{EachSent}
use Rattle.jet_tasklet.specs.Trace.{histories}

abbrev pub KeepsTheBag : AnyTasklet → Type 0
KeepsTheBag t = RunsProcessor t → (came : List Arrival) (gave : List Item) → AnyKeeps t came gave → AnyKeepsBag t came gave

abbrev pub KeepsTheMarks : AnyTasklet → Type 0
KeepsTheMarks t = RunsProcessor t → (came : List Arrival) (gave : List Item) → AnyKeeps t came gave → AnyKeepsMarks t came gave

abbrev pub TakesAll : AnyTasklet → Type 0
TakesAll t = RunsProcessor t → (came : List Arrival) (gave : List Item) → AnyKeeps t came gave
    → SameBag (data_of (items_of (any_told_of t came))) (data_received Stream (inputs_view (inputs_of t)) ++ data_received Build (inputs_view (inputs_of t)))

abbrev pub TakesMarks : AnyTasklet → Type 0
TakesMarks t = RunsProcessor t → (came : List Arrival) (gave : List Item) → AnyKeeps t came gave
    → (q : ℕ) → q < queue_count Stream (inputs_view (inputs_of t)) → get_or (dones Stream (inputs_view (inputs_of t))) q true ≡ false
    → last_told (any_told_of t came) ≡ low (histories (queue_count Stream (inputs_view (inputs_of t))) (λ q. get_or (received Stream (inputs_view (inputs_of t))) q []))

abbrev pub SendsSound : AnyTasklet → Type 0
SendsSound t = (behind : ℕ → ℕ → Bool) (came : List Arrival) (gave : List Item) → AnyKeeps t came gave → AnySoundIf behind t came → EachSent (Sound behind) (outputs_view (outputs_of t))

abbrev pub SendsClosed : AnyTasklet → Type 0
SendsClosed t = (came : List Arrival) (gave : List Item) → AnyKeeps t came gave → AnyClosedIf t came → EachSent ClosedItems (outputs_view (outputs_of t))

-- of what a tasklet was fed follows what its processor asks for, or for a stamp what it sends
abbrev pub TellsSound : AnyTasklet → Type 0
TellsSound t = (behind : ℕ → ℕ → Bool) (came : List Arrival) (gave : List Item) → AnyKeeps t came gave → IsFedSound behind t → AnySoundIf behind t came

abbrev pub TellsClosed : AnyTasklet → Type 0
TellsClosed t = (came : List Arrival) (gave : List Item) → AnyKeeps t came gave → IsFedClosed t → AnyClosedIf t came

abbrev pub PassesSound : AnyTasklet → Type 0
PassesSound t = RunsProcessor t → (behind : ℕ → ℕ → Bool) (came : List Arrival) (gave : List Item) → AnyKeeps t came gave → IsFedSound behind t → EachSent (Sound behind) (outputs_view (outputs_of t))

abbrev pub PassesClosed : AnyTasklet → Type 0
PassesClosed t = RunsProcessor t → (came : List Arrival) (gave : List Item) → AnyKeeps t came gave → IsFedClosed t → EachSent ClosedItems (outputs_view (outputs_of t))

abbrev pub GivesSoFar : AnyTasklet → Type 0
GivesSoFar t = (came : List Arrival) (gave : List Item) → AnyKeeps t came gave → AnySoFar t came gave

abbrev pub GivesMarksSoFar : AnyTasklet → Type 0
GivesMarksSoFar t = (came : List Arrival) (gave : List Item) → AnyKeeps t came gave → AnyMarksSoFar t came gave

abbrev pub EndsSo : AnyTasklet → Type 0
EndsSo t = RunsProcessor t → (came : List Arrival) (gave : List Item) → AnyKeeps t came gave → AnyHasEnded t → (given : List Item) × (gave ≡ given ++ item.Done ∷ []) × AnyOver t came given
