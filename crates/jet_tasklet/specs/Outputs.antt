-- What a contract sees of the outputs of a tasklet.
use Rattle.std.specs.Prelude.{◌≡◌, Bool, true, false, cond, List, [], ◌∷◌, ◌++◌, ◌⊎◌, map, ℕ, ◌<◌, sum_by, get_or, length}
use Rattle.jet_items.specs.declared.item.Item.{Item}
use Rattle.jet_items.specs.Order.{Each}
use Rattle.jet_router.specs.Router as router
use Rattle.jet_router.specs.Deals.{Deal, Dealt, items_dealt, IsFull}
use Rattle.jet_tasklet.specs.declared.output.Output.{Output}

-- what a contract sees of the router of an output, and whether the output has had the item at the front of the outbox
pub record OutputView : Type 0 where
  pub router : router.View
  pub had : Bool

abbrev pub output_view : Output → OutputView
output_view o = record { router = router.view o.router; had = o.had }

abbrev pub outputs_view : List Output → List OutputView
outputs_view outputs = map output_view outputs

-- the output was given these items whole, and x next where it has had that
pub record InGift (gave : List Item) (x : Item) (o : OutputView) : Type 0 where
  pub deals : List Deal
  pub dealt : Dealt o.router deals
  pub items : items_dealt deals ≡ cond o.had (gave ++ x ∷ []) gave
  pub hand : o.router.busy ≡ true → router.IsInHand o.router x
  pub whole : o.had ≡ true → o.router.busy ≡ false

-- the output was given these items whole, and no item is in hand
pub record Gave (gave : List Item) (o : OutputView) : Type 0 where
  pub deals : List Deal
  pub dealt : Dealt o.router deals
  pub items : items_dealt deals ≡ gave
  pub free : o.router.busy ≡ false
  pub ready : o.had ≡ false

-- an output that has had nothing of an item
abbrev pub ready : router.View → OutputView
ready v = record { router = v; had = false }

-- all outputs were given these items whole, and the first of those that wait in the outbox may be in hand
abbrev pub Giving : List Item → List Item → List OutputView → Type 0
Giving gave [] outputs = Each (Gave gave) outputs
Giving gave (x ∷ xs) outputs = Each (InGift gave x) outputs

-- an output has not had x, which is still owed to a destination that has no known free slot
abbrev pub IsBlocked : Item → OutputView → Type 0
IsBlocked x o = (o.had ≡ false) × IsFull o.router x

abbrev pub SomeBlocked : Item → List OutputView → Type 0
SomeBlocked x [] = ⊥
SomeBlocked x (o ∷ os) = IsBlocked x o ⊎ SomeBlocked x os

abbrev pub HasDest : router.View → Type 0
HasDest v = 0 < length (router.rings v)

-- an output has not had the front of the outbox, and where that is in hand, a destination has not had it
pub record Waits (o : OutputView) : Type 0 where
  pub waits : o.had ≡ false
  pub dest : HasDest o.router
  pub owes : o.router.busy ≡ true → (k : ℕ) × (get_or (router.hads o.router) k true ≡ false)

abbrev pub SomeWaits : List OutputView → Type 0
SomeWaits [] = ⊥
SomeWaits (o ∷ os) = Waits o ⊎ SomeWaits os

-- each output has a destination, and some output has not had the front of the outbox
pub record AreOwed (outputs : List OutputView) : Type 0 where
  pub dests : Each (λ o. HasDest o.router) outputs
  pub some : SomeWaits outputs

-- how many items all destinations were sent
abbrev pub sent_count : List OutputView → ℕ
sent_count outputs = sum_by (λ o. router.sent_count o.router) outputs

-- the answer says whether a count rose, and else it is the same
abbrev pub Says : Bool → ℕ → ℕ → Type 0
Says true before after = before < after
Says false before after = after ≡ before
