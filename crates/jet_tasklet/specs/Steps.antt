-- What a tasklet still has to tell its processor.
use Rattle.std.specs.Prelude.{◌≡◌, ℕ, ℤ, List, [], ◌∷◌, ◌++◌, Option, Some, None}
use Rattle.jet_items.specs.declared.item.Item.{Item}
use Rattle.jet_items.specs.declared.item.Item.TheVariants as item
use Rattle.jet_boxes.specs.declared.port.Port.{Port}
use Rattle.jet_boxes.specs.Entry.{CallEntry, Given, MarkTold, QueueClosed, Finish, MayCome}
use Rattle.jet_tasklet.specs.declared.step.Pending.{Pending}
use Rattle.jet_tasklet.specs.declared.step.Pending.TheVariants as call
use Rattle.jet_tasklet.specs.declared.step.Step.{Step}
use Rattle.jet_tasklet.specs.declared.step.Step.TheVariants as step
use Rattle.jet_tasklet.specs.Trace.{tells}

-- the entry that a call is for
abbrev pub entry_of : Pending → CallEntry
entry_of (call.Accept a) = Given a.port a.queue a.item
entry_of (call.Close port q then) = QueueClosed port q
entry_of (call.Tell t) = MarkTold t
entry_of call.Finish = Finish

-- what follows it of the same item
abbrev pub then_of : Pending → List CallEntry
then_of (call.Accept a) = []
then_of (call.Close port q then) = tells then
then_of (call.Tell t) = []
then_of call.Finish = []

-- the entries of the item in hand that the processor has not wholly taken
abbrev pub owed : Step → List CallEntry
owed step.Poll = []
owed (step.Make c) = entry_of c ∷ then_of c
owed step.End = []
owed step.Ended = []

abbrev pub told_next : Option ℤ → Step
told_next None = step.Poll
told_next (Some t) = step.Make (call.Tell t)

-- what is done once a call has answered true
abbrev pub next_of : Pending → Step
next_of (call.Accept a) = step.Poll
next_of (call.Close port q then) = told_next then
next_of (call.Tell t) = step.Poll
next_of call.Finish = step.End

abbrev pub finale_of : Pending → List CallEntry
finale_of (call.Accept a) = []
finale_of (call.Close port q then) = []
finale_of (call.Tell t) = []
finale_of call.Finish = Finish ∷ []

-- the finish stands behind all other entries, from the time on when it is to be told
abbrev pub finale : Step → List CallEntry
finale step.Poll = []
finale (step.Make c) = finale_of c
finale step.End = Finish ∷ []
finale step.Ended = Finish ∷ []

-- the processor has taken all entries but those that the tasklet still has to tell, the first of which it is in the
-- middle of; Done is put once all were taken
abbrev pub Working : {P : Type 0} → (P → List CallEntry → List Item → Type 0) → (P → List CallEntry → CallEntry → List Item → Type 0) → (P → Port → ℕ → Type 0) → P → Step → List CallEntry → List Item → Type 0
Working stands amid takes p step.Poll entries given = stands p entries given
Working stands amid takes p (step.Make c) entries given = (taken : List CallEntry) × (entries ≡ taken ++ entry_of c ∷ then_of c) × amid p taken (entry_of c) given × MayCome (takes p) taken (entry_of c)
Working stands amid takes p step.End entries given = stands p entries given
Working stands amid takes p step.Ended entries given = (front : List Item) × (given ≡ front ++ item.Done ∷ []) × stands p entries front
