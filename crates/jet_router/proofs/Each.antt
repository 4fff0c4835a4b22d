-- A list of destinations to each of which an item was offered.
use Rattle.std.proofs.Common.{◌≡◌, ℕ, zero, suc, ◌+◌, ◌<◌, ◌≤◌, List, [], ◌∷◌, ◌++◌, map, length, get_or, Bool, true, false, refl, ap, ap₂, arith, All}
use Rattle.std.proofs.lemmas.Bool.{false≢true}
use Rattle.std.proofs.lemmas.List.Elements.{All-head, All-tail, All-map, All-cons, All-nil}
use mathlib.Core.List.{IsPrefix}
use Rattle.jet_items.specs.declared.item.Item.{Item}
use Rattle.jet_ring.specs.Ring.{TxView}
use Rattle.jet_router.specs.Dest.{DestView, served, unserved, settled_by, HasInHand, HandIs, starts}
use Rattle.jet_router.specs.Router.{settled_if}
use Rattle.jet_router.proofs.Serving.{sent_of_served, settled_of_served, ring_of_served, full_if_owed, hand_of_served, reach_of_served, had_of_served, free_of_served, more_of_served}

abbrev pub ends : List DestView → List (TxView Item)
ends ds = map (λ d. d.tx) ds

-- nothing is lost of the ends where nothing was in hand
pub ends-starts : (b : Bool) (ds : List DestView) → ends (starts b ds) ≡ ends ds
ends-starts true ds = refl
ends-starts false [] = refl
ends-starts false (d ∷ ds) = ap (λ w. d.tx ∷ w) (ends-starts false ds)

pub in_hand-starts : (x : Item) (b : Bool) (ds : List DestView) → (b ≡ true → All (HasInHand x) ds) → All (HasInHand x) (starts b ds)
in_hand-starts x true ds h = h refl
in_hand-starts x false ds h = All-map (HasInHand x) unserved ds (λ k d lt e. absurd (false≢true e))

module _ (x : Item) where
  pub all_sent :
      (ds : List DestView) → All (HasInHand x) ds → All (λ d. d.had ≡ true) (map (served x) ds)
      → map (λ t. t.sent) (ends (map (served x) ds)) ≡ map (λ s. s ++ x ∷ []) (map (λ d. settled_by d.had d.tx.sent) ds)
  all_sent [] h e = refl
  all_sent (d ∷ ds) h e =
      ap₂ (λ s w. s ∷ w)
      (sent_of_served x d (All-head (HasInHand x) d ds h) (All-head (λ (d : DestView). d.had ≡ true) (served x d) (map (served x) ds) e))
      (all_sent ds (All-tail (HasInHand x) d ds h) (All-tail (λ (d : DestView). d.had ≡ true) (served x d) (map (served x) ds) e))

  pub settled_kept : (ds : List DestView) → map (λ d. settled_by d.had d.tx.sent) (map (served x) ds) ≡ map (λ d. settled_by d.had d.tx.sent) ds
  settled_kept [] = refl
  settled_kept (d ∷ ds) = ap₂ (λ s w. s ∷ w) (settled_of_served x d) (settled_kept ds)

  pub rings_kept : (ds : List DestView) → map (λ t. t.ring) (ends (map (served x) ds)) ≡ map (λ t. t.ring) (ends ds)
  rings_kept [] = refl
  rings_kept (d ∷ ds) = ap₂ (λ s w. s ∷ w) (ring_of_served x d) (rings_kept ds)

  pub in_hand_kept : (ds : List DestView) → All (HasInHand x) ds → All (HasInHand x) (map (served x) ds)
  in_hand_kept ds h = All-map (HasInHand x) (served x) ds (λ k d lt. hand_of_served x (get_or ds k d) (h k d lt))

  pub fewer_free : (ds : List DestView) (k : ℕ) → get_or (map (λ t. t.free) (ends (map (served x) ds))) k 0 ≤ get_or (map (λ t. t.free) (ends ds)) k 0
  fewer_free [] k = omega arith
  fewer_free (a ∷ ds) zero = free_of_served x a
  fewer_free (a ∷ ds) (suc k) = fewer_free ds k

  pub more_sent : (ds : List DestView) (k : ℕ) → IsPrefix (get_or (map (λ t. t.sent) (ends ds)) k []) (get_or (map (λ t. t.sent) (ends (map (served x) ds))) k [])
  more_sent [] k = ([], refl)
  more_sent (a ∷ ds) zero = more_of_served x a
  more_sent (a ∷ ds) (suc k) = more_sent ds k

  pub had_kept :
      (ds : List DestView) (k : ℕ) → get_or (map (λ d. d.had) ds) k false ≡ true → get_or (map (λ d. d.had) (map (served x) ds)) k false ≡ true
  had_kept [] k e = e
  had_kept (a ∷ ds) zero e = had_of_served x a e
  had_kept (a ∷ ds) (suc k) e = had_kept ds k e

  pub owed_full :
      (ds : List DestView) (k : ℕ) → get_or (map (λ d. d.had) (map (served x) ds)) k true ≡ false → get_or (map (λ t. t.free) (ends ds)) k 0 ≡ 0
  owed_full [] k e = refl
  owed_full (a ∷ ds) zero e = full_if_owed x a e
  owed_full (a ∷ ds) (suc k) e = owed_full ds k e

  pub reaches_kept : (ds : List DestView) → map (λ t. length t.sent + t.free) (ends (map (served x) ds)) ≡ map (λ t. length t.sent + t.free) (ends ds)
  reaches_kept [] = refl
  reaches_kept (d ∷ ds) = ap₂ (λ s w. s ∷ w) (reach_of_served x d) (reaches_kept ds)

  -- what is in hand, of each destination and of the lists of their parts
  pub each_hand : (ds : List DestView) → HandIs x (map (λ d. d.had) ds) (map (λ t. t.sent) (ends ds)) → All (HasInHand x) ds
  each_hand [] h k d lt e = absurd (omega arith)
  each_hand (a ∷ ds) h zero d lt e = h zero e
  each_hand (a ∷ ds) h (suc k) d lt e = each_hand ds (λ i. h (suc i)) k d (omega arith) e

  pub hand_of_each : (ds : List DestView) → All (HasInHand x) ds → HandIs x (map (λ d. d.had) ds) (map (λ t. t.sent) (ends ds))
  hand_of_each [] h k e = absurd (false≢true e)
  hand_of_each (a ∷ ds) h zero e = All-head (HasInHand x) a ds h e
  hand_of_each (a ∷ ds) h (suc k) e = hand_of_each ds (All-tail (HasInHand x) a ds h) k e

owed_here : (d : DestView) (ds : List DestView) → (All (λ d. d.had ≡ true) (d ∷ ds) → ⊥)
    → ((All (λ d. d.had ≡ true) ds → ⊥) → (k : ℕ) × (k < length ds) × (get_or (map (λ d. d.had) ds) k true ≡ false))
    → (b : Bool) → d.had ≡ b → (k : ℕ) × (k < length (d ∷ ds)) × (get_or (map (λ d. d.had) (d ∷ ds)) k true ≡ false)
owed_here d ds h rest false e = (0, omega arith, e)
owed_here d ds h rest true e =
    let r = rest (λ all. h (All-cons (λ (d : DestView). d.had ≡ true) d ds e all)) in (suc r.0, omega (arith, r.1), r.2)

-- where not each destination has had the item in hand, it is owed to one
pub some_owed : (ds : List DestView) → (All (λ d. d.had ≡ true) ds → ⊥) → (k : ℕ) × (k < length ds) × (get_or (map (λ d. d.had) ds) k true ≡ false)
some_owed [] h = absurd (h (All-nil (λ (d : DestView). d.had ≡ true)))
some_owed (d ∷ ds) h = owed_here d ds h (some_owed ds) d.had refl

-- what was settled, with and without an item in hand
pub settled-starts : (b : Bool) (ds : List DestView) → settled_if b ds ≡ map (λ d. settled_by d.had d.tx.sent) (starts b ds)
settled-starts true ds = refl
settled-starts false [] = refl
settled-starts false (d ∷ ds) = ap (λ w. d.tx.sent ∷ w) (settled-starts false ds)
