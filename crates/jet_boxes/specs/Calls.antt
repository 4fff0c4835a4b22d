-- What a call of a processor does, whichever of the four it is, made for the first time or again.
use Rattle.std.specs.Prelude.{◌≡◌, ℕ, Bool, true, false, List, [], ◌∷◌, ◌++◌, length, Result, Ok, Err, OnErr}
use Rattle.jet_items.specs.declared.item.Item.{Item}
use Rattle.jet_items.specs.declared.no_memory.NoMemory.{NoMemory}
use Rattle.jet_boxes.specs.declared.port.Port.{Port}
use Rattle.jet_boxes.specs.Entry.{CallEntry, MayCome}
use Rattle.jet_boxes.specs.Held.{BoxView}

-- what stands after a call for an entry: after true all is taken, after false or want of memory the call is still to be ended
abbrev pub Outcome : {S : Type 0} → (S → List CallEntry → List Item → Type 0) → (S → List CallEntry → CallEntry → List Item → Type 0) → S → List CallEntry → CallEntry → List Item → Result Bool NoMemory → Type 0
Outcome stands amid new taken entry given (Ok true) = stands new (taken ++ entry ∷ []) given
Outcome stands amid new taken entry given (Ok false) = amid new taken entry given
Outcome stands amid new taken entry given (Err e) = amid new taken entry given

-- a call for an entry: it puts some items, answers false only where the box is full and want of memory only where the
-- processor is not frugal, and keeps what the processor stands for
pub record Call {S : Type 0} (stands : S → List CallEntry → List Item → Type 0) (amid : S → List CallEntry → CallEntry → List Item → Type 0) (same : S → S → Type 0) (frugal : Bool) (old : S) (entry : CallEntry) (before : BoxView) (result : Result Bool NoMemory) (new : S) (after : BoxView) : Type 0 where
  pub put : List Item
  pub settings : same old new
  pub room : after.room ≡ before.room
  pub puts : after.items ≡ before.items ++ put
  pub full : result ≡ Ok false → length after.items ≡ after.room
  pub wants : OnErr result (frugal ≡ false)
  pub keeps : (taken : List CallEntry) (given : List Item) → amid old taken entry given → Outcome stands amid new taken entry (given ++ put) result

-- there is a history in which this call may be made, for the first time or again
abbrev pub MayCall : {S : Type 0} → (S → List CallEntry → CallEntry → List Item → Type 0) → (Port → ℕ → Type 0) → S → CallEntry → Type 0
MayCall amid takes old entry = (taken : List CallEntry) × (given : List Item) × amid old taken entry given × MayCome takes taken entry
