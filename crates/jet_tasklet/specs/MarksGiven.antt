-- Which marks a tasklet gives, and which one stands last while it rests.
use Rattle.std.specs.Prelude.{◌≡◌, ℕ, zero, suc, ◌<◌, Bool, true, false, if◌then◌else◌, ℤ, ◌≤ℤ◌, List, [], ◌∷◌, ◌++◌, map, length, Option, None, Some, get_or}
use Rattle.std.specs.List.{Contains, flat_map, last_or, reduce}
use Rattle.std.specs.Option.{IsSomeAnd}
use Rattle.std.specs.Int.{int_max}
use Rattle.jet_items.specs.declared.item.Item.{Item}
use Rattle.jet_items.specs.Kinds.{events_of, marks_of}
use Rattle.jet_items.specs.Marks.{mark_of}
use Rattle.jet_items.specs.Values.{EventValue}
use Rattle.jet_boxes.specs.Entry.{CallEntry, items_of}
use Rattle.jet_boxes.specs.declared.port.Port.TheVariants.{Stream}
use Rattle.jet_coalescer.specs.Low.{least}
use Rattle.jet_coalescer.specs.Notes.{last_said}
use Rattle.jet_stages.specs.Stamp.{IsLow, idle_in}
use Rattle.jet_tasklet.specs.declared.arrival.Arrival.{Arrival}
use Rattle.jet_tasklet.specs.Keeps.{told}
use Rattle.jet_tasklet.specs.declared.any.AnyTasklet.{AnyTasklet}
use Rattle.jet_tasklet.specs.declared.any.AnyTasklet.TheVariants as any
use Rattle.jet_tasklet.specs.declared.step.Step.TheVariants as step
use Rattle.jet_tasklet.specs.declared.tasklet.Tasklet.{Tasklet}
use Rattle.jet_tasklet.specs.Inputs.{InputView, inputs_view, received, dones, queue_count}
use Rattle.jet_tasklet.specs.Kinds.{OfKind}
use Rattle.jet_tasklet.specs.Links.{SendIsAtRest, ReceiveIsAtRest}
use Rattle.jet_tasklet.specs.Views.{ins}
use Rattle.jet_wire.specs.Receiver.{receiver_view}
use Rattle.jet_wire.specs.Sender.{sender_view}

-- what a processor gives for what it takes has the same marks, in their order
abbrev pub PassMarks : (List CallEntry → List Item → Type 0) → Type 0
PassMarks marks = (taken : List CallEntry) (given : List Item) → marks taken given → marks_of given ≡ marks_of (items_of taken)

-- a stream queue received the mark
pub record IsReceived (inputs : List InputView) (t : ℤ) : Type 0 where
  pub queue : ℕ
  pub exists : queue < queue_count Stream inputs
  pub stands : Contains (marks_of (get_or (received Stream inputs) queue [])) t

-- it is the mark of the events that a stream queue received up to some place
pub record IsOfFront (lag grain : ℤ) (inputs : List InputView) (t : ℤ) : Type 0 where
  pub queue : ℕ
  pub exists : queue < queue_count Stream inputs
  pub front : List EventValue
  pub rest : List EventValue
  pub parts : events_of (get_or (received Stream inputs) queue []) ≡ front ++ rest
  pub has : mark_of lag grain (map (λ e. e.ts) front) ≡ Some t

-- a tasklet may give it: a stamp the marks of its files' events, and all others the marks that their queues received
abbrev pub AnyMayGive : AnyTasklet → ℤ → Type 0
AnyMayGive (any.Stamp t) m = IsOfFront t.processor.lag t.processor.grain (inputs_view t.inputs.items) m
AnyMayGive t m = IsReceived (ins t) m

-- nothing is pending and nothing waits in the outbox
pub record IsAtRest {P : Type 0} (t : Tasklet P) : Type 0 where
  pub sent : t.outbox.items ≡ []
  pub free : t.step ≡ step.Poll

-- an end of a link holds nothing
abbrev pub AnyIsAtRest : AnyTasklet → Type 0
AnyIsAtRest t = OfKind (λ P k u. IsAtRest u) (λ s. SendIsAtRest (sender_view s)) (λ r. ReceiveIsAtRest (receiver_view r)) t

-- the last mark of a list, if there is one
abbrev pub last_mark : List Item → Option ℤ
last_mark xs = last_or None (marks_of xs)

-- the greatest mark that a list holds, if there is one
abbrev pub greatest_mark : List Item → Option ℤ
greatest_mark xs = reduce int_max (marks_of xs)

-- what the queues below n that are not done have
abbrev pub of_open : ℕ → (ℕ → Bool) → (ℕ → Option ℤ) → List (Option ℤ)
of_open zero done mark = []
of_open (suc n) done mark = if done 0 then of_open n (λ q. done (suc q)) (λ q. mark (suc q)) else mark 0 ∷ of_open n (λ q. done (suc q)) (λ q. mark (suc q))

-- the least of the greatest marks that the stream queues received which are not done
abbrev pub low_received : List InputView → Option ℤ
low_received inputs = least (of_open (queue_count Stream inputs) (λ q. get_or (dones Stream inputs) q true) (λ q. greatest_mark (get_or (received Stream inputs) q [])))

-- a stream queue is not done
pub record HasOpen (inputs : List InputView) : Type 0 where
  pub queue : ℕ
  pub exists : queue < queue_count Stream inputs
  pub still : get_or (dones Stream inputs) queue true ≡ false

-- each stream queue that is not done received a mark that is not below s
abbrev pub AllReached : List InputView → ℤ → Type 0
AllReached inputs s = (q : ℕ) → q < queue_count Stream inputs → get_or (dones Stream inputs) q true ≡ false → IsSomeAnd (greatest_mark (get_or (received Stream inputs) q [])) (λ m. s ≤ℤ m)

-- the mark of the events that a stream queue received
abbrev pub file_mark : ℤ → ℤ → List InputView → ℕ → Option ℤ
file_mark lag grain inputs q = mark_of lag grain (map (λ e. e.ts) (events_of (get_or (received Stream inputs) q [])))

-- an idle note of a stream queue was received, and no event of it since
abbrev pub is_idle_at : List InputView → ℕ → Bool
is_idle_at inputs q = last_said (flat_map idle_in (get_or (received Stream inputs) q []))

-- a stream queue is neither done nor idle
pub record HasAwake (inputs : List InputView) : Type 0 where
  pub queue : ℕ
  pub exists : queue < queue_count Stream inputs
  pub still : get_or (dones Stream inputs) queue true ≡ false
  pub awake : is_idle_at inputs queue ≡ false

-- the mark of each stream queue that is neither done nor idle is there and not below s
abbrev pub FilesReached : ℤ → ℤ → List InputView → ℤ → Type 0
FilesReached lag grain inputs s = (q : ℕ) → q < queue_count Stream inputs → get_or (dones Stream inputs) q true ≡ false → is_idle_at inputs q ≡ false → IsSomeAnd (file_mark lag grain inputs q) (λ m. s ≤ℤ m)

-- each stream queue that is not done has reached s: a stamp, which has a marker for each of its queues and waits for one of them, by the events that those received which are not idle, and all others by their marks
abbrev pub AnyAllReached : AnyTasklet → ℤ → Type 0
AnyAllReached (any.Stamp t) s = (length t.processor.markers.items ≡ queue_count Stream (inputs_view t.inputs.items)) × HasAwake (inputs_view t.inputs.items) × FilesReached t.processor.lag t.processor.grain (inputs_view t.inputs.items) s
AnyAllReached t s = AllReached (ins t) s

abbrev pub IsLowIf : ℕ → ℤ → ℤ → List CallEntry → Option ℤ → Type 0
IsLowIf n lag grain taken None = ⊥
IsLowIf n lag grain taken (Some t) = IsLow n lag grain taken t

-- what the last mark is to be: of a stamp to which these items came the watermark of what it was told, and of all others the least of the greatest marks received
abbrev pub AnyIsLow : AnyTasklet → List Arrival → Option ℤ → Type 0
AnyIsLow (any.Stamp t) came low = IsLowIf (length t.processor.markers.items) t.processor.lag t.processor.grain (told step.Poll (queue_count Stream (inputs_view t.inputs.items)) came) low
AnyIsLow t came low = low_received (ins t) ≡ low
