-- What a router sent over a whole run, by the items that it was given.
use Rattle.std.specs.Prelude.{◌≡◌, ℕ, ◌<◌, ◌==◌, Bool, true, false, cond, List, [], ◌∷◌, ◌++◌, Option, Some, None, map, length, get_or}
use Rattle.std.specs.List.{flat_map, AllByRecursion}
use Rattle.jet_items.specs.declared.item.Item.{Item}
use Rattle.jet_router.specs.declared.Given.{Given}
use Rattle.jet_router.specs.declared.Given.TheVariants.{All, Again}
use Rattle.jet_router.specs.declared.aim.Aim.{Aim}
use Rattle.jet_router.specs.declared.aim.Aim.TheVariants.{Each, Any, Only}
use Rattle.jet_router.specs.Router.{View, aim, settled, hads, frees, NoneFree}

-- an item that was given whole, and the destination that it was sent to where it was not sent to each
pub record Deal : Type 0 where
  pub item : Item
  pub to : Option ℕ

abbrev pub reaches_dest : ℕ → Option ℕ → Bool
reaches_dest k None = true
reaches_dest k (Some d) = d == k

-- what one destination was sent, in order
abbrev pub sent_by : ℕ → List Deal → List Item
sent_by k deals = flat_map (λ d. cond (reaches_dest k d.to) (d.item ∷ []) []) deals

abbrev pub items_dealt : List Deal → List Item
items_dealt deals = map (λ d. d.item) deals

-- an item that goes to each was sent to each, and one that goes to one destination to one of those that there are
abbrev pub FitsAim : ℕ → Aim → Option ℕ → Type 0
FitsAim n Each to = to ≡ None
FitsAim n Any to = (k : ℕ) × (k < n) × (to ≡ Some k)
FitsAim n (Only k) to = to ≡ Some k

-- a router that was given these items whole: each went by its route, and what is settled with a destination is what reached it
pub record Dealt (v : View) (deals : List Deal) : Type 0 where
  pub by_route : AllByRecursion (λ d. FitsAim (length v.dests) (aim v d.item) d.to) deals
  pub sent_is : (k : ℕ) → k < length v.dests → get_or (settled v) k [] ≡ sent_by k deals

-- after All one more item was given whole
abbrev pub DealtAfter : Given → View → List Deal → Item → Type 0
DealtAfter All v deals x = (to : Option ℕ) × Dealt v (deals ++ record { item = x; to = to } ∷ [])
DealtAfter Again v deals x = Dealt v deals

-- an item is still owed to a destination, which knows of no free slot; data for any is owed to all
abbrev pub IsStuck : Aim → View → Type 0
IsStuck Each v = (k : ℕ) × (k < length v.dests) × (get_or (hads v) k true ≡ false) × (get_or (frees v) k 0 ≡ 0)
IsStuck Any v = NoneFree v 0 (length v.dests)
IsStuck (Only d) v = (d < length v.dests) × (get_or (frees v) d 0 ≡ 0)

abbrev pub IsFull : View → Item → Type 0
IsFull v x = IsStuck (aim v x) v
