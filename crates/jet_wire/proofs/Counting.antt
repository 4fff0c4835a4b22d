-- How many items a router sent.
use Rattle.std.proofs.Common.{◌≡◌, ℕ, zero, suc, ◌+◌, ◌-◌, ◌<◌, ◌≤◌, Bool, true, false, List, [], ◌∷◌, ◌++◌, map, length, get_or, refl, sym, ◌∙◌, ap, subst, arith, length-append, length-take-le}
use Rattle.std.specs.Prelude.{sum_by}
use Rattle.std.proofs.lemmas.List.Sums.{sum_by-set}
use Rattle.std.proofs.lemmas.List.{length-map}
use Rattle.jet_items.specs.declared.item.Item.{Item}
use Rattle.jet_ring.specs.Ring.{TxView}
use Rattle.jet_router.proofs.Counting.{sum_first}
use Rattle.jet_router.specs.declared.aim.Aim.{Aim}
use Rattle.jet_router.specs.declared.aim.Aim.TheVariants.{Each, Any, Only}
use Rattle.jet_router.specs.declared.Given.TheVariants as given
use Rattle.jet_router.specs.Dest.{DestView, settled_by}
use Rattle.jet_router.specs.Gives.{Gives}
use Rattle.jet_router.specs.Router.{View, txs, sents, sent_count, settled, settled_if, SentTo, GaveEach}
use Rattle.jet_wire.specs.Receiver.{SomeNotHad}

abbrev count : List (List Item) → ℕ
count lists = sum_by (λ (s : List Item). length s) lists

-- the count by the lists
count_txs : (ts : List (TxView Item)) → sum_by (λ (t : TxView Item). length t.sent) ts ≡ count (map (λ t. t.sent) ts)
count_txs [] = refl
count_txs (t ∷ ts) = omega (arith, sum_first (λ (u : TxView Item). length u.sent) t ts, sum_first (λ (s : List Item). length s) t.sent (map (λ u. u.sent) ts), count_txs ts)

pub count_sents : (v : View) → sent_count v ≡ count (sents v)
count_sents v = count_txs (txs v)

-- ---- one more in each list
each_more : (x : Item) (lists : List (List Item)) → count (map (λ s. s ++ x ∷ []) lists) ≡ count lists + length lists
each_more x [] = refl
each_more x (s ∷ lists) = omega (arith, sum_first (λ (t : List Item). length t) (s ++ x ∷ []) (map (λ t. t ++ x ∷ []) lists), sum_first (λ (t : List Item). length t) s lists, each_more x lists, length-append s (x ∷ []))

settled_long : (had : Bool) (s : List Item) → length s ≤ length (settled_by had s) + 1
settled_long true s = omega (arith, length-take-le (length s - 1) s (omega arith))
settled_long false s = omega arith

settled_open : (had : Bool) (s : List Item) → had ≡ false → length (settled_by had s) ≡ length s
settled_open true s h = absurd (cc)
settled_open false s h = refl

abbrev settled_of : List DestView → List (List Item)
settled_of ds = map (λ d. settled_by d.had d.tx.sent) ds

abbrev sents_of : List DestView → List (List Item)
sents_of ds = map (λ t. t.sent) (map (λ d. d.tx) ds)

settled_low : (ds : List DestView) → count (sents_of ds) ≤ count (settled_of ds) + length ds
settled_low [] = omega arith
settled_low (d ∷ ds) = omega (arith, sum_first (λ (t : List Item). length t) d.tx.sent (sents_of ds), sum_first (λ (t : List Item). length t) (settled_by d.had d.tx.sent) (settled_of ds), settled_low ds, settled_long d.had d.tx.sent)

settled_lower : (ds : List DestView) (k : ℕ) → k < length ds → get_or (map (λ d. d.had) ds) k true ≡ false → count (sents_of ds) < count (settled_of ds) + length ds
settled_lower [] k lt h = absurd (omega (arith, lt))
settled_lower (d ∷ ds) zero lt h = omega (arith, sum_first (λ (t : List Item). length t) d.tx.sent (sents_of ds), sum_first (λ (t : List Item). length t) (settled_by d.had d.tx.sent) (settled_of ds), settled_low ds, settled_open d.had d.tx.sent h)
settled_lower (d ∷ ds) (suc k) lt h =
    omega (arith, sum_first (λ (t : List Item). length t) d.tx.sent (sents_of ds), sum_first (λ (t : List Item). length t) (settled_by d.had d.tx.sent) (settled_of ds), settled_lower ds k (omega (arith, lt)) h, settled_long d.had d.tx.sent)

settled_rise : (busy : Bool) (ds : List DestView) → (busy ≡ true → SomeNotHad ds) → 0 < length ds → count (sents_of ds) < count (settled_if busy ds) + length (settled_if busy ds)
settled_rise true ds some one = let w = some refl in omega (arith, settled_lower ds w.0 w.1 w.2, length-map ds (λ (d : DestView). settled_by d.had d.tx.sent))
settled_rise false ds some one = omega (arith, one, length-map (map (λ (d : DestView). d.tx) ds) (λ (t : TxView Item). t.sent), length-map ds (λ (d : DestView). d.tx))

each_rises : (a b : View) (x : Item) → (a.busy ≡ true → SomeNotHad a.dests) → 0 < length a.dests → GaveEach a b x → sent_count a < sent_count b
each_rises a b x some one g =
    omega (arith, count_sents a, count_sents b, ap count g.sent, each_more x (settled a), settled_rise a.busy a.dests some one)

one_rises : (a b : View) (d : ℕ) (x : Item) → SentTo a b d x → sent_count a < sent_count b
one_rises a b d x s =
    let inside : d < length (sents a) = omega (arith, s.inside, length-map (txs a) (λ (t : TxView Item). t.sent), length-map a.dests (λ (e : DestView). e.tx)) in
    let old : List Item = get_or (sents a) d [] in
    omega (arith, count_sents a, count_sents b, ap count s.sent, sum_by-set (λ (t : List Item). length t) (sents a) d (old ++ x ∷ []) [] inside, length-append old (x ∷ []))

-- an item that was given whole was pushed into a ring
pub all_rises : (aim : Aim) (a b : View) (x : Item) → (a.busy ≡ true → SomeNotHad a.dests) → 0 < length a.dests → Gives aim given.All a b x → sent_count a < sent_count b
all_rises Each a b x some one g = each_rises a b x some one g
all_rises Any a b x some one g = one_rises a b g.0 x g.1
all_rises (Only d) a b x some one g = one_rises a b d x g

-- where an item is owed, some destination has not had what is in hand
pub again_owes : (aim : Aim) (a b : View) (x : Item) → (a.busy ≡ true → SomeNotHad a.dests) → Gives aim given.Again a b x → b.busy ≡ true → SomeNotHad b.dests
again_owes Each a b x some g busy = g.some
again_owes Any a b x some g busy = subst (λ (v : View). SomeNotHad v.dests) (sym g.0) (some (ap (λ (v : View). v.busy) (sym g.0) ∙ busy))
again_owes (Only d) a b x some g busy = subst (λ (v : View). SomeNotHad v.dests) (sym g.0) (some (ap (λ (v : View). v.busy) (sym g.0) ∙ busy))
