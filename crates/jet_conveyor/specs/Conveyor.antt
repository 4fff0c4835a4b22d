-- What a contract sees of a conveyor.
use Rattle.std.specs.Prelude.{◌≡◌, ◌≢◌, ℕ, ◌+◌, ◌<◌, ◌≤◌, List, [], ◌∷◌, ◌++◌, map, Bool, true, false, get_or, set, length, replicate, ◌⊎◌, All}
use mathlib.Core.List.{IsPrefix}
use Rattle.jet_ring.specs.Ring as ring
use Rattle.jet_ring.specs.declared.ends.Rx.{Rx}
use Rattle.jet_items.specs.declared.item.Item.{Item}
use Rattle.jet_items.specs.Done.{is_done}
use Rattle.jet_conveyor.specs.declared.conveyor.Conveyor.{Conveyor}

-- for each queue its ring, what was received, what is known to be there and whether it is done; and the queue that the next poll looks at first
pub record View : Type 0 where
  pub rings : List ring.Ring
  pub received : List (List Item)
  pub known : List (List Item)
  pub done : List Bool
  pub cursor : ℕ

abbrev pub view : Conveyor → View
view c =
    record {
      rings = map ring.rx_ring c.queues.items;
      received = map ring.received c.queues.items;
      known = map ring.known_items c.queues.items;
      done = c.closed.items;
      cursor = c.next;
    }

abbrev pub received_at : View → ℕ → List Item
received_at v q = get_or v.received q []

abbrev pub known_at : View → ℕ → List Item
known_at v q = get_or v.known q []

-- a number that is no queue counts as done
abbrev pub is_done_at : View → ℕ → Bool
is_done_at v q = get_or v.done q true

-- a conveyor over these ends that has taken nothing
pub record IsNew (v : View) (queues : List (Rx Item)) : Type 0 where
  pub rings : v.rings ≡ map ring.rx_ring queues
  pub received : v.received ≡ map ring.received queues
  pub known : v.known ≡ map ring.known_items queues
  pub done : v.done ≡ replicate (length queues) false
  pub cursor : v.cursor ≡ 0

-- more items of the queue q may be known, since its ends met or its receiver looked, and nothing was sent or taken
pub record Refreshed (a b : View) (q : ℕ) : Type 0 where
  pub rings : b.rings ≡ a.rings
  pub received : b.received ≡ a.received
  pub others : (k : ℕ) → k ≢ q → known_at b k ≡ known_at a k
  pub done : b.done ≡ a.done
  pub cursor : b.cursor ≡ a.cursor

-- the queue is not done, and an item of it is known
pub record HasItem (v : View) (q : ℕ) : Type 0 where
  pub is_open : is_done_at v q ≡ false
  pub some : 0 < length (known_at v q)

-- a look at the queue q found an item, and it may have found several: nothing was taken, and no other queue changes
pub record Found (a b : View) (q : ℕ) : Type 0 where
  pub item : HasItem b q
  pub known : IsPrefix (known_at a q) (known_at b q)
  pub same : Refreshed a b q

-- the item x was taken from the queue q, which was not done: the first one known there, where one was known
pub record TookFrom (a b : View) (q : ℕ) (x : Item) : Type 0 where
  pub rings : b.rings ≡ a.rings
  pub was_open : is_done_at a q ≡ false
  pub received : b.received ≡ set a.received q (received_at a q ++ x ∷ [])
  pub known : IsPrefix (known_at a q) (x ∷ known_at b q)
  pub others : (k : ℕ) → k ≢ q → known_at b k ≡ known_at a k
  pub done : b.done ≡ set a.done q (is_done x)
  pub cursor : b.cursor ≡ q + 1

-- none of the queues from `from` to `to` that are not done had a known item
abbrev pub NoneKnown : View → ℕ → ℕ → Type 0
NoneKnown v from to = (k : ℕ) → from ≤ k → k < to → is_done_at v k ≡ false → known_at v k ≡ []

-- no queue that comes before q in turn, from the cursor on and then from 0, had a known item without being done
abbrev pub InTurn : View → ℕ → Type 0
InTurn v q =
    ((v.cursor ≤ q) × NoneKnown v v.cursor q)
    ⊎ ((q < v.cursor) × NoneKnown v v.cursor (length v.rings) × NoneKnown v 0 q)

-- what a queue's end has seen, received or not, is never forgotten
abbrev pub SeesMore : View → View → Type 0
SeesMore a b = (k : ℕ) → IsPrefix (received_at a k ++ known_at a k) (received_at b k ++ known_at b k)

-- items that end in Done, or that have none: Done stands nowhere but at the end
abbrev pub EndsIn : Bool → List Item → Type 0
EndsIn false items = All (λ x. is_done x ≡ false) items
EndsIn true items = (front : List Item) × (last : Item) × (items ≡ front ++ last ∷ []) × (is_done last ≡ true) × All (λ x. is_done x ≡ false) front

-- what was received of each queue ends in Done exactly where the queue is done, and nothing was received after it
abbrev pub IsClosed : View → Type 0
IsClosed v = (k : ℕ) → k < length v.rings → EndsIn (is_done_at v k) (received_at v k)
