-- No item leaves the outbox without a push.
use Rattle.std.proofs.Common.{◌≡◌, ℕ, zero, suc, ◌+◌, ◌-◌, ◌<◌, ◌≤◌, Bool, true, false, ◌||◌, List, [], ◌∷◌, ◌++◌, map, length, get_or, set, take, inl, inr, refl, sym, ◌∙◌, ap, subst, arith, length-append}
use Rattle.std.specs.Prelude.{All, sum_by, ◌⊎◌, Option, Some, None, slice_index}
use Rattle.jet_items.specs.Partition.{key_partition}
use Rattle.std.specs.List.{AllZip}
use Rattle.std.proofs.lemmas.List.{length-map, length-take-le}
use Rattle.std.proofs.lemmas.List.Elements.{All-head, All-tail}
use Rattle.jet_items.specs.declared.item.Item.{Item}
use Rattle.jet_items.specs.Order.{Each}
use Rattle.jet_ring.specs.Ring.{TxView, Ring}
use Rattle.jet_router.specs.declared.Given.{Given}
use Rattle.jet_router.specs.declared.Given.TheVariants as given
use Rattle.jet_router.specs.declared.aim.Route.{Route}
use Rattle.jet_router.specs.declared.aim.Route.TheVariants.{Unicast, Broadcast, Partitioned}
use Rattle.jet_router.specs.Aim.{aim_of}
use Rattle.jet_router.specs.declared.router.Router.{Router}
use Rattle.jet_router.specs.Router as router
use Rattle.jet_router.specs.Router.{View}
use Rattle.jet_router.specs.Dest.{DestView, settled_by}
use Rattle.jet_router.specs.declared.aim.Aim.{Aim}
use Rattle.jet_router.specs.declared.aim.Aim.TheVariants as aims
use Rattle.jet_router.specs.Gives.{Gives}
use Rattle.jet_router.specs.Deals.{IsStuck}
use Rattle.jet_tasklet.specs.declared.output.Output.{Output}
use Rattle.jet_tasklet.specs.Outputs.{OutputView, outputs_view, InGift, Gave, Giving, IsBlocked, SomeBlocked, HasDest, Waits, SomeWaits, AreOwed, Says}
use Rattle.jet_tasklet.specs.inner.Leaving.{IsStopped}
use Rattle.jet_tasklet.specs.Turned.{OutputGoes}
use Rattle.jet_tasklet.proofs.Giving.{is_all}
use Rattle.std.proofs.lemmas.List.Sums.{sum_by-cons}
use Rattle.jet_tasklet.proofs.Popped.{sum_put}

-- ---- what was sent to all destinations together
abbrev size : List (List Item) → ℕ
size ls = sum_by (λ (xs : List Item). length xs) ls

size_lead : (xs : List Item) (ls : List (List Item)) → size (xs ∷ ls) ≡ length xs + size ls
size_lead xs ls = sum_by-cons (λ (ys : List Item). length ys) xs ls

size_sent : (ts : List (TxView Item)) → size (map (λ t. t.sent) ts) ≡ sum_by (λ (t : TxView Item). length t.sent) ts
size_sent [] = refl
size_sent (t ∷ ts) =
    let left = size_lead t.sent (map (λ t. t.sent) ts) in
    let right = sum_by-cons (λ (u : TxView Item). length u.sent) t ts in
    let rest = size_sent ts in
    omega (arith, left, right, rest)

-- one item more behind what is settled is no less than what was sent, and more where the item was not sent yet
settled_more : (x : Item) (had : Bool) (xs : List Item) → length xs ≤ length (settled_by had xs ++ x ∷ [])
settled_more x true xs =
    let n = length-append (take (length xs - 1) xs) (x ∷ []) in
    let m = length-take-le (length xs - 1) xs (omega arith) in
    omega (arith, n, m)
settled_more x false xs = let n = length-append xs (x ∷ []) in omega (arith, n)

unsent_more : (x : Item) (had : Bool) (xs : List Item) → had ≡ false → length xs < length (settled_by had xs ++ x ∷ [])
unsent_more x true xs e = absurd (cc)
unsent_more x false xs e = let n = length-append xs (x ∷ []) in omega (arith, n)

abbrev sents_of : List DestView → List (List Item)
sents_of ds = map (λ t. t.sent) (map (λ d. d.tx) ds)

abbrev given_of : Item → List DestView → List (List Item)
given_of x ds = map (λ s. s ++ x ∷ []) (map (λ d. settled_by d.had d.tx.sent) ds)

all_more : (x : Item) (ds : List DestView) → size (sents_of ds) ≤ size (given_of x ds)
all_more x [] = omega arith
all_more x (d ∷ ds) =
    let left = size_lead d.tx.sent (sents_of ds) in
    let right = size_lead (settled_by d.had d.tx.sent ++ x ∷ []) (given_of x ds) in
    let one = settled_more x d.had d.tx.sent in
    let rest = all_more x ds in
    omega (arith, left, right, one, rest)

one_more : (x : Item) (ds : List DestView) (k : ℕ) → get_or (map (λ d. d.had) ds) k true ≡ false → size (sents_of ds) < size (given_of x ds)
one_more x [] k e = absurd (cc)
one_more x (d ∷ ds) zero e =
    let left = size_lead d.tx.sent (sents_of ds) in
    let right = size_lead (settled_by d.had d.tx.sent ++ x ∷ []) (given_of x ds) in
    let one = unsent_more x d.had d.tx.sent e in
    let rest = all_more x ds in
    omega (arith, left, right, one, rest)
one_more x (d ∷ ds) (suc k) e =
    let left = size_lead d.tx.sent (sents_of ds) in
    let right = size_lead (settled_by d.had d.tx.sent ++ x ∷ []) (given_of x ds) in
    let one = settled_more x d.had d.tx.sent in
    let rest = one_more x ds k e in
    omega (arith, left, right, one, rest)

each_more : (x : Item) (ls : List (List Item)) → size (map (λ s. s ++ x ∷ []) ls) ≡ size ls + length ls
each_more x [] = omega arith
each_more x (xs ∷ ls) =
    let left = size_lead (xs ++ x ∷ []) (map (λ s. s ++ x ∷ []) ls) in
    let right = size_lead xs ls in
    let one = length-append xs (x ∷ []) in
    let rest = each_more x ls in
    omega (arith, left, right, one, rest)

-- ---- one gift of a router
module _ (a b : View) where
  dests_count : HasDest a → 0 < length (router.sents a)
  dests_count h =
      let m = length-map (router.txs a) (λ (t : TxView Item). t.ring) in
      let n = length-map (router.txs a) (λ (t : TxView Item). t.sent) in
      omega (arith, m, n, h)

  sizes : size (router.sents a) < size (router.sents b) → router.sent_count a < router.sent_count b
  sizes lt =
      let m = size_sent (router.txs a) in
      let n = size_sent (router.txs b) in
      omega (arith, m, n, lt)

  settled_size : (x : Item) (u : Bool) → HasDest a → (u ≡ true → (k : ℕ) × (get_or (router.hads a) k true ≡ false)) → size (router.sents a) < size (map (λ s. s ++ x ∷ []) (router.settled_if u a.dests))
  settled_size x true h owes = let o = owes refl in one_more x a.dests o.0 o.1
  settled_size x false h owes =
      let n = dests_count h in
      let m = each_more x (router.sents a) in
      omega (arith, n, m)

  -- an item that was given to each destination was pushed
  gave_each : (x : Item) → HasDest a → (a.busy ≡ true → (k : ℕ) × (get_or (router.hads a) k true ≡ false)) → router.GaveEach a b x → router.sent_count a < router.sent_count b
  gave_each x h owes g = sizes (subst (λ (ls : List (List Item)). size (router.sents a) < size ls) (sym g.sent) (settled_size x a.busy h owes))

  -- and so was one that was sent to one alone
  sent_to : (d : ℕ) (x : Item) → router.SentTo a b d x → router.sent_count a < router.sent_count b
  sent_to d x s =
      let inside = s.inside in
      let m = length-map a.dests (λ (e : DestView). e.tx) in
      let n = length-map (router.txs a) (λ (t : TxView Item). t.sent) in
      let old : List Item = get_or (router.sents a) d [] in
      let sum = sum_put (λ (xs : List Item). length xs) (router.sents a) d (old ++ x ∷ []) [] (omega (arith, inside, m, n)) in
      let one = length-append old (x ∷ []) in
      let now : size (router.sents b) ≡ size (set (router.sents a) d (old ++ x ∷ [])) = ap size s.sent in
      sizes (omega (arith, sum, one, now))

  owes_still : (x : Item) (had : Bool) → router.rings b ≡ router.rings a → router.Owes a b x → Waits (record { router = a; had = had }) → Waits (record { router = b; had = false })
  owes_still x had same g o = record {
    waits = refl;
    dest = subst (λ (rs : List Ring). 0 < length rs) (sym same) o.dest;
    owes = λ e. (g.some.0, g.some.2);
  }

  waits_still : (had : Bool) → b ≡ a → Waits (record { router = a; had = had }) → Waits (record { router = b; had = false })
  waits_still had same o = subst (λ (v : View). Waits (record { router = v; had = false })) (sym same) (record { waits = refl; dest = o.dest; owes = o.owes })

  -- an output that waited was pushed an item, or waits still
  pub given_waits : (r : Given) (by : Route) (table : List ℕ) (key : Option (List ℕ)) (x : Item) (had : Bool) → router.rings b ≡ router.rings a → Gives (aim_of by table key) r a b x → Waits (record { router = a; had = had }) → (router.sent_count a < router.sent_count b) ⊎ Waits (record { router = b; had = is_all r })
  given_waits given.All by table None x had same g o = inl (gave_each x o.dest o.owes g)
  given_waits given.All Unicast table (Some key) x had same g o = inl (sent_to g.0 x g.1)
  given_waits given.All Broadcast table (Some key) x had same g o = inl (gave_each x o.dest o.owes g)
  given_waits given.All Partitioned table (Some key) x had same g o = inl (sent_to (slice_index table (key_partition key)) x g)
  given_waits given.Again by table None x had same g o = inr (owes_still x had same g o)
  given_waits given.Again Unicast table (Some key) x had same g o = inr (waits_still had g.0 o)
  given_waits given.Again Broadcast table (Some key) x had same g o = inr (owes_still x had same g o)
  given_waits given.Again Partitioned table (Some key) x had same g o = inr (waits_still had g.0 o)

  -- what goes to one destination was sent exactly where it was given whole
  pub gift_says : (r : Given) (w : Aim) (x : Item) → (w ≡ aims.Each → ⊥) → Gives w r a b x → Says (is_all r) (router.sent_count a) (router.sent_count b)
  gift_says r aims.Each x no_each g = absurd (no_each refl)
  gift_says given.All aims.Any x no_each g = sent_to g.0 x g.1
  gift_says given.All (aims.Only d) x no_each g = sent_to d x g
  gift_says given.Again aims.Any x no_each g = ap (λ (v : router.View). router.sent_count v) g.0
  gift_says given.Again (aims.Only d) x no_each g = ap (λ (v : router.View). router.sent_count v) g.0

pub says_true : (p : Bool) (m n : ℕ) → Says p m n → m < n → p ≡ true
says_true true m n h lt = refl
says_true false m n h lt = let is : n ≡ m = h in absurd (omega (arith, is, lt))

-- ---- all outputs
pub some_set : {A : Type 0} (see : A → OutputView) (R : Type 0) (xs : List A) (i : ℕ) (d y : A) → i < length xs → (Waits (see (get_or xs i d)) → R ⊎ Waits (see y)) → SomeWaits (map see xs) → R ⊎ SomeWaits (map see (set xs i y))
some_set see R [] i d y lt step h = absurd h
some_set see R (x ∷ xs) zero d y lt step h = elim h [
  | inl first ↦ elim (step first) [ inl r ↦ inl r | inr w ↦ inr (inl w) ]
  | inr rest ↦ inr (inr rest)
]
some_set see R (x ∷ xs) (suc i) d y lt step h = elim h [
  | inl first ↦ inr (inl first)
  | inr rest ↦ elim (some_set see R xs i d y (omega (arith, lt)) step rest) [ inl r ↦ inl r | inr w ↦ inr (inr w) ]
]

pub or_left : (a b : Bool) → a ≡ true → (a || b) ≡ true
or_left true b e = refl
or_left false b e = absurd (cc)

pub or_right : (a b : Bool) → b ≡ true → (a || b) ≡ true
or_right true b e = refl
or_right false b e = e

-- where all have had the item, none waits
pub none_waits : (os : List Output) → All (λ o. o.had ≡ true) os → SomeWaits (outputs_view os) → ⊥
none_waits [] had h = h
none_waits (o ∷ os) had h = elim h [
  | inl w ↦ let not : o.had ≡ false = w.waits in let is : o.had ≡ true = All-head (λ (p : Output). p.had ≡ true) o os had in absurd (cc)
  | inr rest ↦ none_waits os (All-tail (λ (p : Output). p.had ≡ true) o os had) rest
]

-- ---- after a gift
dests_after : (os ps : List OutputView) → Each (λ o. HasDest o.router) os → AllZip OutputGoes os ps → Each (λ o. HasDest o.router) ps
dests_after [] [] h z = tt
dests_after [] (p ∷ ps) h z = absurd z
dests_after (o ∷ os) [] h z = absurd z
dests_after (o ∷ os) (p ∷ ps) h z =
    let goes : OutputGoes o p = z.0 in
    (subst (λ (rs : List Ring). 0 < length rs) (sym goes.same.rings_kept) h.0, dests_after os ps h.1 z.1)

ready_waits : (gave : List Item) (p : OutputView) → HasDest p.router → Gave gave p → Waits p
ready_waits gave p dest g = record { waits = g.ready; dest = dest; owes = λ e. let free = g.free in absurd (cc (e, free)) }

blocked_waits : (gave : List Item) (x : Item) (p : OutputView) → HasDest p.router → InGift gave x p → IsBlocked x p → Waits p
blocked_waits gave x p dest g blocked = record {
  waits = blocked.0;
  dest = dest;
  owes = λ e.
      let stuck = subst (λ w. IsStuck w p.router) (g.hand e).0 blocked.1 in
      (stuck.0, stuck.2);
}

some_blocked : (gave : List Item) (x : Item) (ps : List OutputView) → Each (λ o. HasDest o.router) ps → Each (InGift gave x) ps → SomeBlocked x ps → SomeWaits ps
some_blocked gave x [] dests g h = absurd h
some_blocked gave x (p ∷ ps) dests g h = elim h [
  | inl first ↦ inl (blocked_waits gave x p dests.0 g.0 first)
  | inr rest ↦ inr (some_blocked gave x ps dests.1 g.1 rest)
]

some_after : (os ps : List OutputView) (gave items : List Item) → SomeWaits os → AllZip OutputGoes os ps → Each (λ o. HasDest o.router) ps → IsStopped items ps → Giving gave items ps → SomeWaits ps
some_after os [] gave [] h z dests stops g = none_from os h z
  where
    none_from : (os : List OutputView) → SomeWaits os → AllZip OutputGoes os [] → ⊥
    none_from [] k y = k
    none_from (o ∷ os) k y = y
some_after os (p ∷ ps) gave [] h z dests stops g = inl (ready_waits gave p dests.0 g.0)
some_after os ps gave (x ∷ items) h z dests stops g = some_blocked gave x ps dests g stops

pub owed_after : (os ps : List OutputView) (gave items : List Item) → AreOwed os → AllZip OutputGoes os ps → IsStopped items ps → Giving gave items ps → AreOwed ps
owed_after os ps gave items h z stops g =
    let dests = dests_after os ps h.dests z in
    record { dests = dests; some = some_after os ps gave items h.some z dests stops g }

-- ---- after a meeting
waits_met : (a b : View) (d : ℕ) (had : Bool) → router.Refreshed a b d → Waits (record { router = a; had = had }) → Waits (record { router = b; had = had })
waits_met a b d had r w = record {
  waits = w.waits;
  dest = subst (λ (rs : List Ring). 0 < length rs) (sym r.same.rings_kept) w.dest;
  owes = λ e. subst (λ (hs : List Bool). (k : ℕ) × (get_or hs k true ≡ false)) (sym r.had) (w.owes (sym r.busy ∙ e));
}

some_met : (os : List Output) (i d : ℕ) (other : Output) (w : Router) → i < length os → router.Refreshed (router.view (get_or os i other).router) (router.view w) d → SomeWaits (outputs_view os) → SomeWaits (outputs_view (set os i (record { router = w; had = (get_or os i other).had })))
some_met [] i d other w lt r h = absurd h
some_met (o ∷ os) zero d other w lt r h = elim h [
  | inl first ↦ inl (waits_met (router.view o.router) (router.view w) d o.had r first)
  | inr rest ↦ inr rest
]
some_met (o ∷ os) (suc i) d other w lt r h = elim h [
  | inl first ↦ inl first
  | inr rest ↦ inr (some_met os i d other w (omega (arith, lt)) r rest)
]

dests_met : (os : List Output) (i d : ℕ) (other : Output) (w : Router) → router.Refreshed (router.view (get_or os i other).router) (router.view w) d → Each (λ o. HasDest o.router) (outputs_view os) → Each (λ o. HasDest o.router) (outputs_view (set os i (record { router = w; had = (get_or os i other).had })))
dests_met [] i d other w r h = tt
dests_met (o ∷ os) zero d other w r h = (subst (λ (rs : List Ring). 0 < length rs) (sym r.same.rings_kept) h.0, h.1)
dests_met (o ∷ os) (suc i) d other w r h = (h.0, dests_met os i d other w r h.1)

pub owed_met : (os : List Output) (i d : ℕ) (other : Output) (w : Router) → i < length os → router.Refreshed (router.view other.router) (router.view w) d → (get_or os i other).router ≡ other.router → AreOwed (outputs_view os) → AreOwed (outputs_view (set os i (record { router = w; had = (get_or os i other).had })))
owed_met os i d other w lt r is h =
    let first : router.Refreshed (router.view (get_or os i other).router) (router.view w) d = subst (λ (q : Router). router.Refreshed (router.view q) (router.view w) d) (sym is) r in
    record { dests = dests_met os i d other w first h.dests; some = some_met os i d other w lt first h.some }
