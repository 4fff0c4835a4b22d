-- What a contract sees of one destination of a router.
use Rattle.std.specs.Prelude.{◌≡◌, get_or, map, ◌-◌, take, length, ℕ, zero, suc, List, [], ◌∷◌, ◌++◌, Bool, true, false}
use Rattle.jet_ring.specs.Ring.{TxView, tx_view}
use Rattle.jet_items.specs.declared.item.Item.{Item}
use Rattle.jet_router.specs.declared.dest.Dest.{Dest}

-- its end of the ring, and whether it has the item in hand
pub record DestView : Type 0 where
  pub tx : TxView Item
  pub had : Bool

abbrev pub dest_view : Dest → DestView
dest_view d = record { tx = tx_view d.tx; had = d.had }

-- an end after it was offered x
abbrev pub offered_if : Item → TxView Item → ℕ → TxView Item
offered_if x t zero = t
offered_if x t (suc n) = record { ring = t.ring; sent = t.sent ++ x ∷ []; free = n }

abbrev pub takes_if : ℕ → Bool
takes_if zero = false
takes_if (suc n) = true

abbrev pub served_unless : Item → TxView Item → Bool → DestView
served_unless x t true = record { tx = t; had = true }
served_unless x t false = record { tx = offered_if x t t.free; had = takes_if t.free }

-- a destination after it was offered x, which it takes unless it has it or knows no free slot
abbrev pub served : Item → DestView → DestView
served x d = served_unless x d.tx d.had

-- without the item in hand
abbrev pub unserved : DestView → DestView
unserved d = record { tx = d.tx; had = false }

-- what was sent, less the item in hand where it was sent
abbrev pub settled_by : Bool → List Item → List Item
settled_by true sent = take (length sent - 1) sent
settled_by false sent = sent

-- where a destination has had the item in hand, that is x
abbrev pub HasInHand : Item → DestView → Type 0
HasInHand x d = d.had ≡ true → d.tx.sent ≡ settled_by true d.tx.sent ++ x ∷ []

-- a destination that has no item in hand
abbrev pub fresh : TxView Item → DestView
fresh t = record { tx = t; had = false }

-- where nothing is in hand, no destination has it
abbrev pub starts : Bool → List DestView → List DestView
starts true ds = ds
starts false ds = map unserved ds

-- the same of all destinations, by whether each has had the item and by what it was sent
abbrev pub HandIs : Item → List Bool → List (List Item) → Type 0
HandIs x hads sents = (k : ℕ) → get_or hads k false ≡ true → get_or sents k [] ≡ settled_by true (get_or sents k []) ++ x ∷ []
