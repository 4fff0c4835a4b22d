-- What a contract sees of a router.
use Rattle.std.specs.Prelude.{◌≡◌, ◌≢◌, ℕ, ◌+◌, ◌-◌, ◌<◌, ◌≤◌, List, [], ◌∷◌, ◌++◌, map, Bool, true, false, get_or, set, length, ◌⊎◌, sum_by}
use Rattle.jet_ring.specs.Ring as ring
use Rattle.jet_items.specs.declared.item.Item.{Item}
use Rattle.jet_router.specs.declared.aim.Route.{Route}
use Rattle.jet_router.specs.declared.aim.Aim.{Aim}
use Rattle.jet_router.specs.declared.aim.Aim.TheVariants.{Each}
use Rattle.jet_router.specs.declared.router.Router.{Router}
use Rattle.jet_items.specs.Partition.{item_key}
use Rattle.jet_router.specs.Aim.{aim_of}
use Rattle.jet_router.specs.Dest.{DestView, dest_view, settled_by, HandIs, fresh}

-- its route, with the table of a partitioned one; its destinations; whether an item is in hand that not each destination has had; and the destination that is tried first
pub record View : Type 0 where
  pub route : Route
  pub table : List ℕ
  pub dests : List DestView
  pub busy : Bool
  pub turn : ℕ

abbrev pub view : Router → View
view r = record { route = r.route; table = r.table.items; dests = map dest_view r.dests.items; busy = r.busy; turn = r.turn }

-- where an item goes
abbrev pub aim : View → Item → Aim
aim v x = aim_of v.route v.table (item_key x)

-- of each destination its end, the ring of the end, what was sent there, how many slots are known to be free there, and how far it reaches
abbrev pub txs : View → List (ring.TxView Item)
txs v = map (λ d. d.tx) v.dests

abbrev pub rings : View → List ring.Ring
rings v = map (λ t. t.ring) (txs v)

abbrev pub sents : View → List (List Item)
sents v = map (λ t. t.sent) (txs v)

abbrev pub frees : View → List ℕ
frees v = map (λ t. t.free) (txs v)

abbrev pub reaches : View → List ℕ
reaches v = map (λ t. length t.sent + t.free) (txs v)

-- how many items were sent in all, and how many more can be before the next meetings
abbrev pub sent_count : View → ℕ
sent_count v = sum_by (λ t. length t.sent) (txs v)

abbrev pub free_count : View → ℕ
free_count v = sum_by (λ t. t.free) (txs v)

-- whether each destination has had the item in hand
abbrev pub hads : View → List Bool
hads v = map (λ d. d.had) v.dests

-- what was sent to each destination, less the item in hand
abbrev pub settled_if : Bool → List DestView → List (List Item)
settled_if true ds = map (λ d. settled_by d.had d.tx.sent) ds
settled_if false ds = map (λ t. t.sent) (map (λ d. d.tx) ds)

abbrev pub settled : View → List (List Item)
settled v = settled_if v.busy v.dests

-- x is in hand: it goes to each destination, and those that have had the item in hand have had x last
abbrev pub IsInHand : View → Item → Type 0
IsInHand v x = (aim v x ≡ Each) × HandIs x (hads v) (sents v)

-- no destination from `from` to `to` knew of a free slot
abbrev pub NoneFree : View → ℕ → ℕ → Type 0
NoneFree v from to = (k : ℕ) → from ≤ k → k < to → get_or (frees v) k 0 ≡ 0

-- no destination that is tried before d, from the turn on and then from 0, knew of a free slot
abbrev pub TriedFirst : View → ℕ → Type 0
TriedFirst v d = ((v.turn ≤ d) × NoneFree v v.turn d) ⊎ ((d < v.turn) × NoneFree v v.turn (length v.dests) × NoneFree v 0 d)

-- x was sent to the destination d alone, which knew of a free slot, and the one after it is tried first next time
pub record SentTo (a b : View) (d : ℕ) (x : Item) : Type 0 where
  pub inside : d < length a.dests
  pub room : 0 < get_or (frees a) d 0
  pub sent : sents b ≡ set (sents a) d (get_or (sents a) d [] ++ x ∷ [])
  pub free : frees b ≡ set (frees a) d (get_or (frees a) d 0 - 1)
  pub busy : b.busy ≡ a.busy
  pub turn : b.turn ≡ d + 1

-- x stands once more with each destination, behind what was settled there
pub record GaveEach (a b : View) (x : Item) : Type 0 where
  pub sent : sents b ≡ map (λ s. s ++ x ∷ []) (settled a)
  pub busy : b.busy ≡ false
  pub turn : b.turn ≡ a.turn

-- exactly the destinations that have had x have it, behind what was settled; it is owed to the others, of which there is one at least, and which all knew of no free slot; where it was in hand before, each destination that had had it still has
pub record Owes (a b : View) (x : Item) : Type 0 where
  pub settled_kept : settled b ≡ settled a
  pub in_hand : IsInHand b x
  pub kept : (k : ℕ) → a.busy ≡ true → get_or (hads a) k false ≡ true → get_or (hads b) k false ≡ true
  pub busy : b.busy ≡ true
  pub some : (k : ℕ) × (k < length b.dests) × (get_or (hads b) k true ≡ false)
  pub full : (k : ℕ) → k < length b.dests → get_or (hads b) k true ≡ false → get_or (frees a) k 0 ≡ 0
  pub turn : b.turn ≡ a.turn

-- a router over these ends that has given nothing
pub record IsNew (v : View) (by : Route) (entries : List ℕ) (ends : List (ring.TxView Item)) : Type 0 where
  pub route : v.route ≡ by
  pub table : v.table ≡ entries
  pub dests : v.dests ≡ map fresh ends
  pub busy : v.busy ≡ false
  pub turn : v.turn ≡ 0

-- nothing of the route changed, and each end stays an end of its ring
pub record SameRouter (a b : View) : Type 0 where
  pub route : b.route ≡ a.route
  pub table : b.table ≡ a.table
  pub rings_kept : rings b ≡ rings a

-- the end of the destination d met its other end: what is known to be free there may have changed, and nothing else
pub record Refreshed (a b : View) (d : ℕ) : Type 0 where
  pub same : SameRouter a b
  pub sent : sents b ≡ sents a
  pub had : hads b ≡ hads a
  pub others : (k : ℕ) → k ≢ d → get_or (frees b) k 0 ≡ get_or (frees a) k 0
  pub busy : b.busy ≡ a.busy
  pub turn : b.turn ≡ a.turn
