-- What tasklets of any kind have told and given, and what is asked so that their lists are in order: the words of each kind, by cases.
use Rattle.std.specs.Prelude.{ℕ, Bool, List, [], ◌++◌}
use Rattle.jet_items.specs.declared.item.Item.{Item}
use Rattle.jet_items.specs.Order.{Each, Sound, Closed as ClosedItems}
use Rattle.jet_boxes.specs.declared.port.Port.TheVariants.{Stream}
use Rattle.jet_boxes.specs.Entry.{CallEntry}
use Rattle.jet_stages.specs.Stamp.{IsNoResult}
use Rattle.jet_tasklet.specs.declared.arrival.Arrival.{Arrival}
use Rattle.jet_window.specs.LateEvents.{FrameSound}
use Rattle.jet_tasklet.specs.declared.any.AnyTasklet.{AnyTasklet}
use Rattle.jet_tasklet.specs.declared.any.AnyTasklet.TheVariants as any
use Rattle.jet_tasklet.specs.Any.{AnyKeeps}
use Rattle.jet_tasklet.specs.Inputs.{inputs_view, queue_count}
use Rattle.jet_tasklet.specs.Keeps.{Keeps}
use Rattle.jet_tasklet.specs.Kinds.{OfKind, OfProcessor, seen}
use Rattle.jet_tasklet.specs.Links.{passed_on, SendsSoFar, GivesOn}
use Rattle.jet_tasklet.specs.Meeting.{HaveMetByLink}
use Rattle.jet_tasklet.specs.Outputs.{outputs_view}
use Rattle.jet_tasklet.specs.Over.{told_of, SoFar, Over}
use Rattle.jet_tasklet.specs.Sending.{EachReceived, EachFront}
use Rattle.jet_tasklet.specs.StampInOrder.{AreFromFiles}
use Rattle.jet_tasklet.specs.Views.{ins}
use Rattle.jet_wire.specs.Receiver.{receiver_view}
use Rattle.jet_wire.specs.Sender.{sender_view}

-- all that the processor is told of the items that came; an end of a link has none
abbrev pub any_told_of : AnyTasklet → List Arrival → List CallEntry
any_told_of t came = seen (λ P u. told_of u came) (λ s. []) (λ r. []) t

-- the law of its data holds of all that the processor was told, less what is pending; and that of its marks
abbrev pub AnyKeepsBag : AnyTasklet → List Arrival → List Item → Type 0
AnyKeepsBag t came gave = OfProcessor (λ P k u. Keeps k.bag k.bag_amid k.takes u came gave) t

abbrev pub AnyKeepsMarks : AnyTasklet → List Arrival → List Item → Type 0
AnyKeepsMarks t came gave = OfProcessor (λ P k u. Keeps k.marks k.marks_amid k.takes u came gave) t

-- what the processor has given so far, by the law of its data; and by that of its marks. What an end of a link gave is what it passes on of the items that came, and what it still holds
abbrev pub AnySoFar : AnyTasklet → List Arrival → List Item → Type 0
AnySoFar t came gave = OfKind (λ P k u. SoFar (k.bag u.processor) (k.bag_amid u.processor) (inputs_view u.inputs.items) (told_of u came) (gave ++ u.outbox.items)) (λ s. SendsSoFar (sender_view s) came gave) (λ r. GivesOn (receiver_view r) came gave) t

abbrev pub AnyMarksSoFar : AnyTasklet → List Arrival → List Item → Type 0
AnyMarksSoFar t came gave = OfKind (λ P k u. SoFar (k.marks u.processor) (k.marks_amid u.processor) (inputs_view u.inputs.items) (told_of u came) (gave ++ u.outbox.items)) (λ s. SendsSoFar (sender_view s) came gave) (λ r. GivesOn (receiver_view r) came gave) t

-- the tasklet is over and its processor gave these items, by both laws
abbrev pub AnyOver : AnyTasklet → List Arrival → List Item → Type 0
AnyOver t came given = OfProcessor (λ P k u. Over (k.bag u.processor) (inputs_view u.inputs.items) (outputs_view u.outputs.items) (told_of u came) given × k.marks u.processor (told_of u came) given) t

-- it holds of what came to a sender, of what that sent and of what the receiver gave, wherever the two are the ends of one link that have met
abbrev pub OverLink : AnyTasklet → AnyTasklet → (List Arrival → List Item → List Item → Type 0) → Type 0
OverLink t u C = (came over : List Arrival) (sent given : List Item) → HaveMetByLink t u → AnyKeeps t came sent → AnyKeeps u over given → C came sent given

-- all that a sender passes on of what came from its queues
abbrev pub any_passed_on : AnyTasklet → List Arrival → List Item
any_passed_on t came = passed_on (queue_count Stream (ins t)) came

-- what the processor asks for holds of each front of what it is told
abbrev pub AnySoundIf : (ℕ → ℕ → Bool) → AnyTasklet → List Arrival → Type 0
AnySoundIf behind t came = OfProcessor (λ P k u. EachFront (k.sound_if u.processor behind) (told_of u came)) t

abbrev pub AnyClosedIf : AnyTasklet → List Arrival → Type 0
AnyClosedIf t came = OfProcessor (λ P k u. EachFront (k.closed_if u.processor) (told_of u came)) t

-- what each queue received is sound; the queues of a stamp, which are told no marks, received the events of files; events
-- below the mark that a frame vertex began with are called behind
abbrev pub IsFedSound : (ℕ → ℕ → Bool) → AnyTasklet → Type 0
IsFedSound behind (any.Stamp t) = AreFromFiles t.processor.lag t.processor.grain behind (inputs_view t.inputs.items)
IsFedSound behind (any.Frame t) = EachReceived (FrameSound behind t.processor.times.begun) (inputs_view t.inputs.items)
IsFedSound behind t = EachReceived (Sound behind) (ins t)

-- what each queue received is closed; the queues of a stamp received no frame and no row
abbrev pub IsFedClosed : AnyTasklet → Type 0
IsFedClosed (any.Stamp t) = EachReceived (Each IsNoResult) (inputs_view t.inputs.items)
IsFedClosed t = EachReceived ClosedItems (ins t)
