-- The running count and sum of pairs that enter and leave.
use Rattle.std.proofs.Common.{◌≡◌, ℕ, ◌+◌, ◌%◌, ◌^◌, ◌<◌, ℤ, pos, ◌+ℤ◌, ◌-ℤ◌, ◌<ℤ◌, ◌≤ℤ◌, List, [], ◌∷◌, ◌++◌, drop, length, Option, Some, None, refl, sym, ◌∙◌, ap, arith}
use Rattle.std.specs.Prelude.{int_lt}
use Rattle.std.specs.Int.{int_wrap, w128}
use Rattle.std.proofs.lemmas.Int.{ints, int_wrap_fits, SFits-int_wrap, int_wrap-add_left}
use Rattle.jet_items.specs.Order.{Each}
use Rattle.jet_items.specs.Totals.{both}
use Rattle.jet_items.specs.Values.{AccValue}
use Rattle.jet_items.proofs.Covering.{Decides-int_lt, false_from}
use Rattle.jet_items.proofs.Orders.{Each-more, EachPair-append}
use Rattle.jet_items.proofs.Totaling.{total-append}
use Rattle.jet_window.specs.Slides.{Pair, EndsRise, Runs, first_end, joined_pairs, pairs_above, count_of, sum_of}

-- ---- one more
joined_push : (pairs : List Pair) (p : Pair) → joined_pairs (pairs ++ p ∷ []) ≡ both (joined_pairs pairs) (Some p.1)
joined_push pairs p = total-append (λ (q : Pair). Some q.1) pairs (p ∷ [])

pub joined_next : (pairs : List Pair) (p : Pair) (all next : Option AccValue) → all ≡ joined_pairs pairs → next ≡ both all (Some p.1) → next ≡ joined_pairs (pairs ++ p ∷ [])
joined_next pairs p all next h k = k ∙ (ap (λ (o : Option AccValue). both o (Some p.1)) h ∙ sym (joined_push pairs p))

count_more : (t : Option AccValue) (c : ℕ) (a : AccValue) → c ≡ count_of t % 2 ^ 64 → (c + a.count) % 2 ^ 64 ≡ count_of (both t (Some a)) % 2 ^ 64
count_more None c a h = omega arith
count_more (Some b) c a h = omega arith

twice : (z : ℤ) → int_wrap w128 (int_wrap w128 z) ≡ int_wrap w128 z
twice z = int_wrap_fits w128 (int_wrap w128 z) (SFits-int_wrap w128 z)

sum_more : (t : Option AccValue) (s : ℤ) (a : AccValue) → s ≡ int_wrap w128 (sum_of t) → int_wrap w128 (s +ℤ a.sum) ≡ int_wrap w128 (sum_of (both t (Some a)))
sum_more None s a h = ap (λ (z : ℤ). int_wrap w128 (z +ℤ a.sum)) h ∙ (int_wrap-add_left w128 (pos 0) a.sum ∙ ap (int_wrap w128) (omega (arith, ints)))
sum_more (Some b) s a h = ap (λ (z : ℤ). int_wrap w128 (z +ℤ a.sum)) h ∙ (int_wrap-add_left w128 b.sum a.sum ∙ sym (twice (b.sum +ℤ a.sum)))

pub runs_push : (pairs : List Pair) (count : ℕ) (sum : ℤ) (p : Pair) → Each (λ (q : Pair). q.0 <ℤ p.0) pairs → Runs pairs count sum → Runs (pairs ++ p ∷ []) ((count + p.1.count) % 2 ^ 64) (int_wrap w128 (sum +ℤ p.1.sum))
runs_push pairs count sum p below h = record {
  rising = EachPair-append (λ (q r : Pair). q.0 <ℤ r.0) pairs (p ∷ []) h.rising (tt, tt) (Each-more (λ (q : Pair). q.0 <ℤ p.0) (λ (q : Pair). Each (λ (r : Pair). q.0 <ℤ r.0) (p ∷ [])) (λ q k. (k, tt)) pairs below);
  count_is = count_more (joined_pairs pairs) count p.1 h.count_is ∙ ap (λ (o : Option AccValue). count_of o % 2 ^ 64) (sym (joined_push pairs p));
  sum_is = sum_more (joined_pairs pairs) sum p.1 h.sum_is ∙ ap (λ (o : Option AccValue). int_wrap w128 (sum_of o)) (sym (joined_push pairs p));
}

-- ---- the first one less
count_less : (t : Option AccValue) (c d : ℕ) (a : AccValue) → c ≡ count_of (both (Some a) t) % 2 ^ 64 → d < 2 ^ 64 → (d + a.count) % 2 ^ 64 ≡ c → d ≡ count_of t % 2 ^ 64
count_less None c d a h low k = omega arith
count_less (Some b) c d a h low k = omega arith

minus : (x y z : ℤ) → int_wrap w128 (int_wrap w128 x -ℤ y) ≡ int_wrap w128 (x -ℤ y)
minus x y z = ap (int_wrap w128) (as_plus (int_wrap w128 x) y) ∙ (int_wrap-add_left w128 x (pos 0 -ℤ y) ∙ ap (int_wrap w128) (sym (as_plus x y)))
  where
    as_plus : (a b : ℤ) → a -ℤ b ≡ a +ℤ (pos 0 -ℤ b)
    as_plus a b = omega (arith, ints)

sum_less : (t : Option AccValue) (s d : ℤ) (a : AccValue) → s ≡ int_wrap w128 (sum_of (both (Some a) t)) → d ≡ int_wrap w128 (s -ℤ a.sum) → d ≡ int_wrap w128 (sum_of t)
sum_less None s d a h k = k ∙ (ap (λ (z : ℤ). int_wrap w128 (z -ℤ a.sum)) h ∙ (minus a.sum a.sum (pos 0) ∙ ap (int_wrap w128) (itself a.sum)))
  where
    itself : (x : ℤ) → x -ℤ x ≡ pos 0
    itself x = omega (arith, ints)
sum_less (Some b) s d a h k = k ∙ (ap (λ (z : ℤ). int_wrap w128 (z -ℤ a.sum)) (h ∙ twice (a.sum +ℤ b.sum)) ∙ (minus (a.sum +ℤ b.sum) a.sum (pos 0) ∙ ap (int_wrap w128) (left a.sum b.sum)))
  where
    left : (x y : ℤ) → (x +ℤ y) -ℤ x ≡ y
    left x y = omega (arith, ints)

pub runs_pop : (p : Pair) (pairs : List Pair) (count less : ℕ) (sum rest : ℤ) → Runs (p ∷ pairs) count sum → less < 2 ^ 64 → (less + p.1.count) % 2 ^ 64 ≡ count → rest ≡ int_wrap w128 (sum -ℤ p.1.sum) → Runs pairs less rest
runs_pop p pairs count less sum rest h low c s = record {
  rising = h.rising.1;
  count_is = count_less (joined_pairs pairs) count less p.1 h.count_is low c;
  sum_is = sum_less (joined_pairs pairs) sum rest p.1 h.sum_is s;
}

-- ---- what stands above an end
none_below : (end : ℤ) (first : ℤ) (pairs : List Pair) → end <ℤ first → Each (λ (p : Pair). first <ℤ p.0) pairs → pairs_above end pairs ≡ pairs
none_below end first [] lt h = refl
none_below end first (p ∷ ps) lt h = let k : first <ℤ p.0 = h.0 in rw ((Decides-int_lt end p.0).1 (omega (arith, ints))) (ap (λ (qs : List Pair). p ∷ qs) (none_below end first ps lt h.1))

pub all_above : (end first : ℤ) (pairs : List Pair) → first_end pairs ≡ Some first → EndsRise pairs → end <ℤ first → pairs_above end pairs ≡ pairs
all_above end first [] is rising lt = refl
all_above end first (p ∷ ps) is rising lt =
    let same : p.0 ≡ first = cc in
    rw ((Decides-int_lt end p.0).1 (omega (arith, ints))) (ap (λ (qs : List Pair). p ∷ qs) (none_below end p.0 ps (omega (arith, ints)) rising.0))

pub first_leaves : (end first : ℤ) (pairs : List Pair) → first_end pairs ≡ Some first → first ≤ℤ end → pairs_above end (drop 1 pairs) ≡ pairs_above end pairs
first_leaves end first [] is le = refl
first_leaves end first (p ∷ ps) is le =
    let same : p.0 ≡ first = cc in
    rw (false_from (int_lt end p.0) (Decides-int_lt end p.0) (λ lt. absurd (omega (arith, ints)))) refl

pub none_left : (end : ℤ) (pairs : List Pair) → first_end pairs ≡ None → pairs ≡ []
none_left end [] is = refl
none_left end (p ∷ ps) is = absurd (cc)

pub fewer : (pairs : List Pair) (first : ℤ) → first_end pairs ≡ Some first → length (drop 1 pairs) < length pairs
fewer [] first is = absurd (cc)
fewer (p ∷ ps) first is = omega arith

pub runs_at : (pairs others : List Pair) (c d : ℕ) (s t : ℤ) → others ≡ pairs → d ≡ c → t ≡ s → Runs pairs c s → Runs others d t
runs_at pairs others c d s t p q r h = rw (p, q, r) h
