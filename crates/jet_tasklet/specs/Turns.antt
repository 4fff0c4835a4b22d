-- Turns in a row: what they leave, what their answers say together, and how many items moved.
use Rattle.std.specs.Prelude.{◌≡◌, ◌⊎◌, ℕ, ◌+◌, ◌<◌, List, ◌++◌, length, map}
use mathlib.Core.List.{IsPrefix}
use Rattle.jet_items.specs.declared.item.Item.{Item}
use Rattle.jet_boxes.specs.declared.port.Port.{Port}
use Rattle.jet_boxes.specs.Entry.{CallEntry}
use Rattle.jet_ring.specs.Ring.{TxView}
use Rattle.jet_router.specs.Router as router
use Rattle.jet_tasklet.specs.declared.arrival.Arrival.{Arrival}
use Rattle.jet_wire.specs.declared.progress.Progress.{Progress}
use Rattle.jet_wire.specs.declared.progress.Progress.TheVariants as progress
use Rattle.jet_tasklet.specs.declared.tasklet.Tasklet.{Tasklet}
use Rattle.jet_tasklet.specs.declared.any.AnyTasklet.{AnyTasklet}
use Rattle.jet_tasklet.specs.Fairness.{TookFairly}
use Rattle.jet_tasklet.specs.Inputs.{InputView, inputs_view, received_count}
use Rattle.jet_tasklet.specs.Outputs.{OutputView, outputs_view, sent_count}
use Rattle.jet_tasklet.specs.Keeps.{Keeps, Stays, Goes}
use Rattle.jet_tasklet.specs.Turned.{Turned}
use Rattle.jet_tasklet.specs.Turning.{HasEnded, IsBlocked, IsStarved, Moves, IsStill}
use Rattle.jet_tasklet.specs.Any.{AnyKeeps, AnyStays, AnyGoes, AnyTurned, AnyTookFairly, AnyMoves, AnyIsStill, AnyHasEnded, AnyIsBlocked, AnyIsStarved}
use Rattle.jet_tasklet.specs.Kinds.{seen}
use Rattle.jet_tasklet.specs.Views.{waiting}
use Rattle.jet_wire.specs.Receiver.{receiver_view}
use Rattle.jet_wire.specs.ReceiverTurn.{moved_count as receiver_moves}
use Rattle.jet_wire.specs.Sender.{sender_view}
use Rattle.jet_wire.specs.SenderTurn.{move_count as sender_moves}

-- the tasklet has gone on, its ends stay those of their rings, and what it took was taken in its turn
pub record Went {P : Type 0} (stands : P → List CallEntry → List Item → Type 0) (amid : P → List CallEntry → CallEntry → List Item → Type 0) (takes : P → Port → ℕ → Type 0) (same : P → P → Type 0) (a b : Tasklet P) : Type 0 where
  pub goes : Goes stands amid takes a b
  pub turned : Turned same a b
  pub fair : TookFairly a b

-- nothing moved, nothing came and nothing was given
pub record Rests {P : Type 0} (stands : P → List CallEntry → List Item → Type 0) (amid : P → List CallEntry → CallEntry → List Item → Type 0) (takes : P → Port → ℕ → Type 0) (a b : Tasklet P) : Type 0 where
  pub still : IsStill a b
  pub stays : Stays stands amid takes a b

-- Moved: something moved. Idle: the tasklet rests, blocked or starved. Done: it rests, and has ended
abbrev pub Said : {P : Type 0} → (P → List CallEntry → List Item → Type 0) → (P → List CallEntry → CallEntry → List Item → Type 0) → (P → Port → ℕ → Type 0) → Progress → Tasklet P → Tasklet P → Type 0
Said stands amid takes progress.Moved a b = Moves a b
Said stands amid takes progress.Idle a b = Rests stands amid takes a b × (IsBlocked b ⊎ IsStarved b)
Said stands amid takes progress.Done a b = Rests stands amid takes a b × HasEnded b

-- what the answers of two turns in a row say together
abbrev pub joined : Progress → Progress → Progress
joined progress.Moved then = progress.Moved
joined progress.Idle then = then
joined progress.Done then = then

-- the ends of all destinations
abbrev pub txs_of : List OutputView → List (List (TxView Item))
txs_of outputs = map (λ o. router.txs o.router) outputs

-- every end of every ring is as it was, with what it knows, and so is the outbox
pub record SameEnds (inputs : List InputView) (outputs : List OutputView) (outbox : List Item) (inputs_now : List InputView) (outputs_now : List OutputView) (outbox_now : List Item) : Type 0 where
  pub inputs_same : inputs_now ≡ inputs
  pub txs_same : txs_of outputs_now ≡ txs_of outputs
  pub outbox_same : outbox_now ≡ outbox

-- how many items were popped from rings, pushed into rings, and entered the outbox
abbrev pub move_count : List InputView → List OutputView → List Item → ℕ
move_count inputs outputs entered = received_count inputs + (sent_count outputs + length entered)

-- the count has risen where something moved, and else it is the same
abbrev pub Counts : Progress → ℕ → ℕ → Type 0
Counts progress.Moved before after = before < after
Counts progress.Idle before after = after ≡ before
Counts progress.Done before after = after ≡ before

-- after turns with this answer in all, whatever came and was given before: what came and was given since, the tasklet keeps
-- it, all that had entered the outbox still counts, and the count of moves says what the answer does
pub record Counted {P : Type 0} (stands : P → List CallEntry → List Item → Type 0) (amid : P → List CallEntry → CallEntry → List Item → Type 0) (takes : P → Port → ℕ → Type 0) (says : Progress) (a b : Tasklet P) (came : List Arrival) (gave : List Item) : Type 0 where
  pub more : List Arrival
  pub given : List Item
  pub keeps : Keeps stands amid takes b (came ++ more) (gave ++ given)
  pub entered : IsPrefix (gave ++ a.outbox.items) ((gave ++ given) ++ b.outbox.items)
  pub counts : Counts says (move_count (inputs_view a.inputs.items) (outputs_view a.outputs.items) (gave ++ a.outbox.items)) (move_count (inputs_view b.inputs.items) (outputs_view b.outputs.items) ((gave ++ given) ++ b.outbox.items))

-- ---- the same of a tasklet of any kind
pub record AnyWent (t u : AnyTasklet) : Type 0 where
  pub goes : AnyGoes t u
  pub turned : AnyTurned t u
  pub fair : AnyTookFairly t u

pub record AnyRests (t u : AnyTasklet) : Type 0 where
  pub still : AnyIsStill t u
  pub stays : AnyStays t u

abbrev pub AnySaid : Progress → AnyTasklet → AnyTasklet → Type 0
AnySaid progress.Moved t u = AnyMoves t u
AnySaid progress.Idle t u = AnyRests t u × (AnyIsBlocked u ⊎ AnyIsStarved u)
AnySaid progress.Done t u = AnyRests t u × AnyHasEnded u

-- how many items, packets and acknowledgements moved: of a tasklet which gave these items, and of an end of a link
abbrev pub any_move_count : AnyTasklet → List Item → ℕ
any_move_count t gave = seen (λ P u. move_count (inputs_view u.inputs.items) (outputs_view u.outputs.items) (gave ++ u.outbox.items)) (λ s. sender_moves (sender_view s)) (λ r. receiver_moves (receiver_view r)) t

pub record AnyCounted (says : Progress) (t u : AnyTasklet) (came : List Arrival) (gave : List Item) : Type 0 where
  pub more : List Arrival
  pub given : List Item
  pub keeps : AnyKeeps u (came ++ more) (gave ++ given)
  pub entered : IsPrefix (gave ++ waiting t) ((gave ++ given) ++ waiting u)
  pub counts : Counts says (any_move_count t gave) (any_move_count u (gave ++ given))
