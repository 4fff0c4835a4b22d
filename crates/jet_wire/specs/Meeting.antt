-- A sender and a receiver whose ends have met.
use Rattle.std.specs.Prelude.{◌≡◌, true, All, List, [], ◌∷◌, ◌++◌, None}
use mathlib.Core.List.{IsPrefix}
use Rattle.jet_items.specs.declared.item.Item.{Item}
use Rattle.jet_conveyor.specs.Conveyor.{EndsIn}
use Rattle.jet_link.specs.Meeting.{BothMet, IsEmptied}
use Rattle.jet_wire.specs.Passing.{Taken, has_ended, passed}
use Rattle.jet_wire.specs.Receiver.{ReceiverView, bytes_left, IsNext, ReceiverKeeps}
use Rattle.jet_wire.specs.ReceiverTurn.{ReceiverHasEnded}
use Rattle.jet_wire.specs.Sender.{SenderView, queue_count, work_bytes, SenderKeeps}
use Rattle.jet_wire.specs.SenderTurn.{SenderHasEnded}

-- what the receiver gave is a front of what the sender sent
abbrev pub GivesWhatWasSent : SenderView → ReceiverView → Type 0
GivesWhatWasSent s r = (came : List Taken) (sent given : List Item) → SenderKeeps s came sent → ReceiverKeeps r given → BothMet s.end r.end → IsPrefix given sent

-- and so it is with the next item, which may be in hand at the router
abbrev pub GivesNext : SenderView → ReceiverView → Type 0
GivesNext s r = (came : List Taken) (sent given : List Item) → SenderKeeps s came sent → ReceiverKeeps r given → BothMet s.end r.end → (x : Item) → IsNext r x → IsPrefix (given ++ x ∷ []) sent

-- and all of it, where no packet is known and nothing is left of the one in hand
abbrev pub GivesAll : SenderView → ReceiverView → Type 0
GivesAll s r = (came : List Taken) (sent given : List Item) → SenderKeeps s came sent → ReceiverKeeps r given → BothMet s.end r.end
    → r.end.packets.known ≡ [] → bytes_left r ≡ [] → given ≡ sent

-- the receiver gave all that is passed on of what came to the sender: every queue is done, the sender holds nothing, and no packet is on the way
pub record IsOver (s : SenderView) (r : ReceiverView) (came : List Taken) (sent given : List Item) : Type 0 where
  pub passed_all : given ≡ passed (queue_count s) came
  pub sent_all : given ≡ sent
  pub done : All (λ d. d ≡ true) s.queues.done
  pub hand : s.hand ≡ None
  pub work : work_bytes s.end.work ≡ []
  pub known : r.end.packets.known ≡ []

-- so it is where the receiver has ended
abbrev pub IsOverAtEnd : SenderView → ReceiverView → Type 0
IsOverAtEnd s r = (came : List Taken) (sent given : List Item) → SenderKeeps s came sent → ReceiverKeeps r given → BothMet s.end r.end → ReceiverHasEnded r → IsOver s r came sent given

-- Done stands nowhere but at the end of what the receiver gave, and there only where every queue of the sender is done
abbrev pub GivesDoneLast : SenderView → ReceiverView → Type 0
GivesDoneLast s r = (came : List Taken) (sent given : List Item) → SenderKeeps s came sent → ReceiverKeeps r given → BothMet s.end r.end
    → EndsIn (has_ended given) given × (has_ended given ≡ true → All (λ d. d ≡ true) s.queues.done)

-- where the sender has ended, so has the receiver
abbrev pub EndsAfter : SenderView → ReceiverView → Type 0
EndsAfter s r = (came : List Taken) (sent given : List Item) → SenderKeeps s came sent → ReceiverKeeps r given → BothMet s.end r.end → SenderHasEnded s → ReceiverHasEnded r

-- and the link is empty
abbrev pub IsEmptyAtEnd : SenderView → ReceiverView → Type 0
IsEmptyAtEnd s r = BothMet s.end r.end → SenderHasEnded s → IsEmptied s.end r.end
