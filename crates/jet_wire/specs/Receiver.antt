-- What a receiver keeps, whatever it was given.
use Rattle.std.specs.Prelude.{◌≡◌, ℕ, ◌*◌, ◌<◌, ◌≤◌, Bool, true, false, List, [], ◌++◌, drop, length, map, get_or, IsSome}
use Rattle.std.specs.List.{AllByRecursion, list_any}
use Rattle.jet_items.specs.Done.{is_done}
use Rattle.jet_items.specs.Fits.{ItemFits}
use Rattle.jet_items.specs.declared.item.Item.{Item}
use Rattle.jet_spell.specs.Begins.{BeginsWith}
use Rattle.jet_spell.specs.Packets.{IsSpelled}
use Rattle.jet_spell.specs.Spelling.{spellings}
use Rattle.jet_router.specs.Deals.{Deal, Dealt, items_dealt}
use Rattle.jet_router.specs.Dest.{DestView}
use Rattle.jet_router.specs.Router as router
use Rattle.jet_link.specs.Packets.{packed}
use Rattle.jet_link.specs.Receiving.{held_bytes}
use Rattle.jet_link.specs.Views.{RecvView, recv_view}
use Rattle.jet_wire.specs.declared.receiver.Receiver.{Receiver}

-- what a contract sees of a receiver: its end of the link, its router, how many bytes of the packet in hand were given, and whether Done was
pub record ReceiverView : Type 0 where
  pub end : RecvView
  pub router : router.View
  pub at : ℕ
  pub ended : Bool

abbrev pub receiver_view : Receiver → ReceiverView
receiver_view r = record { end = recv_view r.end; router = router.view r.router; at = r.at; ended = r.ended }

-- the bytes of the packet in hand that were not given
abbrev pub bytes_left : ReceiverView → List ℕ
bytes_left v = drop v.at (held_bytes v.end.held)

-- x is the next item of the packet in hand
abbrev pub IsNext : ReceiverView → Item → Type 0
IsNext v x = (n : ℕ) × BeginsWith x n (bytes_left v)

-- a destination has not had the item in hand
abbrev pub SomeNotHad : List DestView → Type 0
SomeNotHad dests = (k : ℕ) × (k < length dests) × (get_or (map (λ d. d.had) dests) k true ≡ false)

-- these items were given to the router whole, in this order, and they are those of the packets received, up to the place reached in the one in hand; what is in hand at the router is the next one
pub record ReceiverKeeps (v : ReceiverView) (given : List Item) : Type 0 where
  pub deals : List Deal
  pub dealt : Dealt v.router deals
  pub items : items_dealt deals ≡ given
  pub fits : AllByRecursion ItemFits given
  pub bytes : packed v.end.packets.received ≡ spellings given ++ bytes_left v
  pub inside : v.at ≤ length (held_bytes v.end.held)
  pub spelled : IsSpelled (bytes_left v)
  pub hand : v.router.busy ≡ true → (x : Item) × IsNext v x × router.IsInHand v.router x
  pub owed : v.router.busy ≡ true → SomeNotHad v.router.dests
  pub dests : 0 < length v.router.dests
  pub whole : v.end.whole ≡ true → IsSome v.end.held × (bytes_left v ≡ [])
  pub done : v.ended ≡ list_any is_done given

-- the bytes of a period are those of one packet a turn at most
abbrev pub IsPaced : ReceiverView → Type 0
IsPaced v = v.end.part ≤ v.end.turns * 65536

-- there are items of which the receiver keeps this
pub record ReceiverIsLawful (v : ReceiverView) : Type 0 where
  pub given : List Item
  pub keeps : ReceiverKeeps v given
  pub paced : IsPaced v

-- whatever was given before, nothing was given since, and the receiver keeps the same
pub record ReceiverStays (a b : ReceiverView) : Type 0 where
  pub stays : (given : List Item) → ReceiverKeeps a given → ReceiverKeeps b given

-- whatever was given before, more may have been given since, and the receiver keeps the same
pub record Gives (a b : ReceiverView) : Type 0 where
  pub gives : (given : List Item) → ReceiverKeeps a given → (more : List Item) × ReceiverKeeps b (given ++ more)

-- nothing was sent by this router, which has a destination, and no item is in hand
pub record IsUnsent (v : router.View) : Type 0 where
  pub free : v.busy ≡ false
  pub sents : (k : ℕ) → k < length v.dests → get_or (router.sents v) k [] ≡ []
  pub dests : 0 < length v.dests
