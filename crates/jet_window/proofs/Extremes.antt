-- The least and the greatest values of pairs, and what the first entries know of them.
use Rattle.std.proofs.Common.{◌≡◌, ℕ, ◌+◌, ◌-◌, ◌%◌, ◌^◌, ◌<◌, ◌≤◌, ℤ, pos, ◌+ℤ◌, ◌-ℤ◌, ◌≤ℤ◌, List, [], ◌∷◌, ◌++◌, length, drop, Option, Some, None, refl, sym, ◌∙◌, ap, subst, arith, append-nil, append_assoc}
use Rattle.std.specs.Prelude.{slice_set, slice_index_or}
use Rattle.std.specs.Int.{int_min, int_max, int_wrap, w128}
use Rattle.std.proofs.lemmas.Int.{ints, clamps, int_wrap_fits, SFits-int_wrap}
use Rattle.std.proofs.Math.Seq.{map-set_same, drop-length}
use Rattle.std.proofs.lemmas.List.{map-append, drop-set, length-set}
use Rattle.jet_items.specs.Fits.{AccFits}
use Rattle.jet_items.specs.Order.{Each}
use Rattle.jet_items.specs.Ranges.{IsWithin, most_time}
use Rattle.jet_items.specs.Totals.{joined, both}
use Rattle.jet_items.specs.Values.{AccValue}
use Rattle.jet_items.proofs.Orders.{Each-append}
use Rattle.jet_items.proofs.Totaling.{min_assoc, max_assoc, same_acc}
use Rattle.jet_window.specs.Slides.{Pair, Runs, joined_pairs, count_of, sum_of}
use Rattle.jet_window.specs.declared.slide.Entry.{Entry}
use Rattle.jet_window.specs.inner.Extremes.{KnowsExtremes, Know, pair_in, pairs_in, least_of, greatest_of}

-- ---- the extremes of two lists
least_low : (ps : List Pair) → least_of ps ≤ℤ pos 9223372036854775807
least_low [] = omega (arith, ints)
least_low (p ∷ ps) = let low = least_low ps in omega (arith, ints, clamps)

greatest_high : (ps : List Pair) → (pos 0 -ℤ pos 9223372036854775808) ≤ℤ greatest_of ps
greatest_high [] = omega (arith, ints)
greatest_high (p ∷ ps) = let high = greatest_high ps in omega (arith, ints, clamps)

least-append : (xs ys : List Pair) → least_of (xs ++ ys) ≡ int_min (least_of xs) (least_of ys)
least-append [] ys = let low = least_low ys in omega (arith, ints, clamps)
least-append (x ∷ xs) ys = ap (int_min x.1.min) (least-append xs ys) ∙ sym (min_assoc x.1.min (least_of xs) (least_of ys))

greatest-append : (xs ys : List Pair) → greatest_of (xs ++ ys) ≡ int_max (greatest_of xs) (greatest_of ys)
greatest-append [] ys = let high = greatest_high ys in omega (arith, ints, clamps)
greatest-append (x ∷ xs) ys = ap (int_max x.1.max) (greatest-append xs ys) ∙ sym (max_assoc x.1.max (greatest_of xs) (greatest_of ys))

-- one value more, which lies within the range of values
least_more : (z v : ℤ) → IsWithin most_time v → int_min z v ≡ int_min z (int_min v (pos 9223372036854775807))
least_more z v h = let low = h.0 in let high = h.1 in omega (arith, ints, clamps)

greatest_more : (z v : ℤ) → IsWithin most_time v → int_max z v ≡ int_max z (int_max v (pos 0 -ℤ pos 9223372036854775808))
greatest_more z v h = let low = h.0 in let high = h.1 in omega (arith, ints, clamps)

least_one : (v : ℤ) → IsWithin most_time v → v ≡ int_min v (pos 9223372036854775807)
least_one v h = let low = h.0 in let high = h.1 in omega (arith, ints, clamps)

greatest_one : (v : ℤ) → IsWithin most_time v → v ≡ int_max v (pos 0 -ℤ pos 9223372036854775808)
greatest_one v h = let low = h.0 in let high = h.1 in omega (arith, ints, clamps)

-- ---- what all pairs join to has their extremes
min_within : (a b : ℤ) → IsWithin most_time a → IsWithin most_time b → IsWithin most_time (int_min a b)
min_within a b h k = let p = h.0 in let q = h.1 in let r = k.0 in let s = k.1 in (omega (arith, ints, clamps), omega (arith, ints, clamps))

max_within : (a b : ℤ) → IsWithin most_time a → IsWithin most_time b → IsWithin most_time (int_max a b)
max_within a b h k = let p = h.0 in let q = h.1 in let r = k.0 in let s = k.1 in (omega (arith, ints, clamps), omega (arith, ints, clamps))

wraps_low : (n : ℕ) → n % 2 ^ 64 < 2 ^ 64
wraps_low n = omega arith

joined_fits : (a b : AccValue) → AccFits a → AccFits b → AccFits (joined a b)
joined_fits a b h k = record {
  count = wraps_low (a.count + b.count);
  sum = SFits-int_wrap w128 (a.sum +ℤ b.sum);
  min = min_within a.min b.min h.min k.min;
  max = max_within a.max b.max h.max k.max;
}

abbrev Whole : Option AccValue → List Pair → Type 0
Whole None ps = ps ≡ []
Whole (Some a) ps = (a.min ≡ least_of ps) × ((a.max ≡ greatest_of ps) × AccFits a)

whole : (ps : List Pair) → Each (λ (p : Pair). AccFits p.1) ps → Whole (joined_pairs ps) ps
whole [] h = refl
whole (p ∷ ps) h = by (joined_pairs ps) (whole ps h.1)
  where
    by : (o : Option AccValue) → Whole o ps → Whole (both (Some p.1) o) (p ∷ ps)
    by None none = (
      least_one p.1.min h.0.min ∙ ap (λ (qs : List Pair). int_min p.1.min (least_of qs)) (sym none),
      (greatest_one p.1.max h.0.max ∙ ap (λ (qs : List Pair). int_max p.1.max (greatest_of qs)) (sym none), h.0),
    )
    by (Some b) k = (ap (int_min p.1.min) k.0, (ap (int_max p.1.max) k.1.0, joined_fits p.1 b h.0 k.1.1))

-- ---- one entry more
no_entry : {X : Type 0} (xs : List X) → length xs ≡ 0 → xs ≡ []
no_entry [] h = refl
no_entry (x ∷ xs) h = absurd (omega arith)

fits_more : (entries : List Entry) (e : Entry) → Each (λ (p : Pair). AccFits p.1) (pairs_in entries) → AccFits e.acc → Each (λ (p : Pair). AccFits p.1) (pairs_in (entries ++ e ∷ []))
fits_more entries e h k = subst (Each (λ (p : Pair). AccFits p.1)) (sym (map-append pair_in entries (e ∷ []))) (Each-append (λ (p : Pair). AccFits p.1) (pairs_in entries) (pair_in e ∷ []) h (k, tt))

pub pushed : (entries new : List Entry) (e : Entry) → new ≡ entries ++ e ∷ [] → pairs_in new ≡ pairs_in entries ++ pair_in e ∷ []
pushed entries new e is = ap pairs_in is ∙ map-append pair_in entries (e ∷ [])

-- the only entry knows its own
pub first_enters : (entries : List Entry) (known : ℕ) (least greatest : ℤ) (e : Entry) → known ≡ 0 → AccFits e.acc → e.least ≡ e.acc.min → e.greatest ≡ e.acc.max → KnowsExtremes entries known least greatest → KnowsExtremes (entries ++ e ∷ []) 1 least greatest
first_enters entries known least greatest e zero fits low high h = record {
  front = e ∷ [];
  back = [];
  split = ap (λ (es : List Entry). es ++ e ∷ []) (h.split ∙ (ap (λ (es : List Entry). es ++ h.back) (no_entry h.front (sym h.counted ∙ zero)) ∙ h.none_alone zero));
  counted = refl;
  fronts = ((low ∙ least_one e.acc.min fits.min, high ∙ greatest_one e.acc.max fits.max), tt);
  least_is = h.least_is ∙ ap (λ (es : List Entry). least_of (pairs_in es)) (h.none_alone zero);
  greatest_is = h.greatest_is ∙ ap (λ (es : List Entry). greatest_of (pairs_in es)) (h.none_alone zero);
  none_alone = λ z. refl;
  fits = fits_more entries e h.fits fits;
}

-- one of the others is joined to them
pub next_enters : (entries : List Entry) (known : ℕ) (least greatest : ℤ) (e : Entry) → (known ≡ 0 → ⊥) → AccFits e.acc → KnowsExtremes entries known least greatest → KnowsExtremes (entries ++ e ∷ []) known (int_min least e.acc.min) (int_max greatest e.acc.max)
next_enters entries known least greatest e some fits h = record {
  front = h.front;
  back = h.back ++ e ∷ [];
  split = ap (λ (es : List Entry). es ++ e ∷ []) h.split ∙ append_assoc h.front h.back (e ∷ []);
  counted = h.counted;
  fronts = h.fronts;
  least_is = ap (λ (z : ℤ). int_min z e.acc.min) h.least_is ∙ (least_more (least_of (pairs_in h.back)) e.acc.min fits.min
      ∙ sym (ap least_of (map-append pair_in h.back (e ∷ [])) ∙ least-append (pairs_in h.back) (pair_in e ∷ [])));
  greatest_is = ap (λ (z : ℤ). int_max z e.acc.max) h.greatest_is ∙ (greatest_more (greatest_of (pairs_in h.back)) e.acc.max fits.max
      ∙ sym (ap greatest_of (map-append pair_in h.back (e ∷ [])) ∙ greatest-append (pairs_in h.back) (pair_in e ∷ [])));
  none_alone = λ z. absurd (some z);
  fits = fits_more entries e h.fits fits;
}

pub at_extremes : (new entries : List Entry) (known : ℕ) (least l greatest g : ℤ) → new ≡ entries → l ≡ least → g ≡ greatest → KnowsExtremes entries known least greatest → KnowsExtremes new known l g
at_extremes new entries known least l greatest g p q r h = rw (p, q, r) h

-- ---- one entry less
rest_of : (e f : Entry) (es fs : List Entry) → e ∷ es ≡ f ∷ fs → es ≡ fs
rest_of e f es fs h = ap (drop 1) h

pub some_known : (e : Entry) (es : List Entry) (known : ℕ) (least greatest : ℤ) → KnowsExtremes (e ∷ es) known least greatest → 0 < known
some_known e es known least greatest h = by h.front h.split h.counted
  where
    by : (front : List Entry) → e ∷ es ≡ front ++ h.back → known ≡ length front → 0 < known
    by [] split counted = let none : e ∷ es ≡ [] = split ∙ h.none_alone counted in absurd (cc)
    by (f ∷ fs) split counted = omega arith

pub first_leaves_known : (e : Entry) (es : List Entry) (known : ℕ) (least greatest : ℤ) → 0 < known - 1 → KnowsExtremes (e ∷ es) known least greatest → KnowsExtremes es (known - 1) least greatest
first_leaves_known e es known least greatest some h = by h.front h.split h.counted h.fronts
  where
    by : (front : List Entry) → e ∷ es ≡ front ++ h.back → known ≡ length front → Know front → KnowsExtremes es (known - 1) least greatest
    by [] split counted fronts = absurd (omega arith)
    by (f ∷ fs) split counted fronts = record {
      front = fs;
      back = h.back;
      split = rest_of e f es (fs ++ h.back) split;
      counted = omega arith;
      fronts = fronts.1;
      least_is = h.least_is;
      greatest_is = h.greatest_is;
      none_alone = λ z. absurd (omega arith);
      fits = h.fits.1;
    }

-- all know theirs
pub all_known : (entries old : List Entry) (known : ℕ) → known ≡ length entries → pairs_in entries ≡ pairs_in old → Know entries → Each (λ (p : Pair). AccFits p.1) (pairs_in old) → KnowsExtremes entries known (pos 9223372036854775807) (pos 0 -ℤ pos 9223372036854775808)
all_known entries old known long same know fits = record {
  front = entries;
  back = [];
  split = sym (append-nil entries);
  counted = long;
  fronts = know;
  least_is = refl;
  greatest_is = refl;
  none_alone = λ z. refl;
  fits = subst (Each (λ (p : Pair). AccFits p.1)) (sym same) fits;
}

-- ---- the extremes of all
pub extremes_are : (e : Entry) (es : List Entry) (known : ℕ) (least greatest : ℤ) → KnowsExtremes (e ∷ es) known least greatest
    → (int_min e.least least ≡ least_of (pairs_in (e ∷ es))) × (int_max e.greatest greatest ≡ greatest_of (pairs_in (e ∷ es)))
extremes_are e es known least greatest h = by h.front h.split h.counted h.fronts
  where
    by : (front : List Entry) → e ∷ es ≡ front ++ h.back → known ≡ length front → Know front → (int_min e.least least ≡ least_of (pairs_in (e ∷ es))) × (int_max e.greatest greatest ≡ greatest_of (pairs_in (e ∷ es)))
    by [] split counted fronts = let none : e ∷ es ≡ [] = split ∙ h.none_alone counted in absurd (cc)
    by (f ∷ fs) split counted fronts =
        let same : e ≡ f = cc in
        let all : pairs_in (e ∷ es) ≡ pairs_in (f ∷ fs) ++ pairs_in h.back = ap pairs_in split ∙ map-append pair_in (f ∷ fs) h.back in (
          ap (λ (x : Entry). int_min x.least least) same ∙ (ap (λ (z : ℤ). int_min z least) fronts.0.0 ∙ (ap (int_min (least_of (pairs_in (f ∷ fs)))) h.least_is
              ∙ sym (ap least_of all ∙ least-append (pairs_in (f ∷ fs)) (pairs_in h.back)))),
          ap (λ (x : Entry). int_max x.greatest greatest) same ∙ (ap (λ (z : ℤ). int_max z greatest) fronts.0.1 ∙ (ap (int_max (greatest_of (pairs_in (f ∷ fs)))) h.greatest_is
              ∙ sym (ap greatest_of all ∙ greatest-append (pairs_in (f ∷ fs)) (pairs_in h.back)))),
        )

-- with the running count and sum they are what all pairs join to
pub record IsTotal (entries : List Entry) (count : ℕ) (sum least greatest : ℤ) : Type 0 where
  pub value : let a : AccValue = record { count = count; sum = sum; min = least; max = greatest } in Some a ≡ joined_pairs (pairs_in entries)
  pub least_within : IsWithin most_time least
  pub greatest_within : IsWithin most_time greatest

low_count : (c n : ℕ) → n < 2 ^ 64 → c ≡ n % 2 ^ 64 → c ≡ n
low_count c n low h = omega arith

total_is : (e : Entry) (es : List Entry) (known count : ℕ) (sum least greatest : ℤ) → Runs (pairs_in (e ∷ es)) count sum → KnowsExtremes (e ∷ es) known least greatest → IsTotal (e ∷ es) count sum (int_min e.least least) (int_max e.greatest greatest)
total_is e es known count sum least greatest runs h =
    let ends = extremes_are e es known least greatest h in
    by (joined_pairs (pairs_in (e ∷ es))) refl (whole (pairs_in (e ∷ es)) h.fits) ends.0 ends.1
  where
    by : (o : Option AccValue) → joined_pairs (pairs_in (e ∷ es)) ≡ o → Whole o (pairs_in (e ∷ es)) → int_min e.least least ≡ least_of (pairs_in (e ∷ es)) → int_max e.greatest greatest ≡ greatest_of (pairs_in (e ∷ es))
        → IsTotal (e ∷ es) count sum (int_min e.least least) (int_max e.greatest greatest)
    by None is w low high = let none : pair_in e ∷ pairs_in es ≡ [] = w in absurd (cc)
    by (Some a) is w low high =
        let min_is : int_min e.least least ≡ a.min = low ∙ sym w.0 in
        let max_is : int_max e.greatest greatest ≡ a.max = high ∙ sym w.1.0 in
        let count_is : count ≡ a.count = low_count count a.count w.1.1.count (subst (λ (o : Option AccValue). count ≡ count_of o % 2 ^ 64) is runs.count_is) in
        let sum_is : sum ≡ a.sum = subst (λ (o : Option AccValue). sum ≡ int_wrap w128 (sum_of o)) is runs.sum_is ∙ int_wrap_fits w128 a.sum w.1.1.sum in record {
          value = ap Some (same_acc _ _ _ _ _ _ _ _ count_is sum_is min_is max_is) ∙ sym is;
          least_within = subst (IsWithin most_time) (sym min_is) w.1.1.min;
          greatest_within = subst (IsWithin most_time) (sym max_is) w.1.1.max;
        }

pub total_at : (entries : List Entry) (e : Entry) (known count : ℕ) (sum least greatest : ℤ) → 0 < length entries → e ≡ slice_index_or entries 0 e → Runs (pairs_in entries) count sum → KnowsExtremes entries known least greatest
    → IsTotal entries count sum (int_min e.least least) (int_max e.greatest greatest)
total_at [] e known count sum least greatest some is runs h = absurd (omega arith)
total_at (f ∷ fs) e known count sum least greatest some is runs h =
    subst (λ (x : Entry). IsTotal (f ∷ fs) count sum (int_min x.least least) (int_max x.greatest greatest)) (sym is) (total_is f fs known count sum least greatest runs h)

pub total_again : (entries : List Entry) (count : ℕ) (sum s least l greatest g : ℤ) → s ≡ sum → l ≡ least → g ≡ greatest → IsTotal entries count sum least greatest → IsTotal entries count s l g
total_again entries count sum s least l greatest g p q r h = rw (p, q, r) h

-- ---- entries from a place on know theirs
pub record LookedBack (old entries : List Entry) (place : ℕ) (least greatest : ℤ) : Type 0 where
  pub pairs : pairs_in entries ≡ pairs_in old
  pub inside : place ≤ length entries
  pub know : Know (drop place entries)
  pub least_is : least ≡ least_of (pairs_in (drop place entries))
  pub greatest_is : greatest ≡ greatest_of (pairs_in (drop place entries))

pub none_looked : (entries : List Entry) (place : ℕ) → place ≡ length entries → LookedBack entries entries place (pos 9223372036854775807) (pos 0 -ℤ pos 9223372036854775808)
none_looked entries place at =
    let none : drop place entries ≡ [] = ap (λ (n : ℕ). drop n entries) at ∙ drop-length entries in record {
      pairs = refl;
      inside = omega arith;
      know = subst Know (sym none) tt;
      least_is = ap (λ (es : List Entry). least_of (pairs_in es)) (sym none);
      greatest_is = ap (λ (es : List Entry). greatest_of (pairs_in es)) (sym none);
    }

least_comm : (a b : ℤ) → int_min a b ≡ int_min b a
least_comm a b = omega (arith, ints, clamps)

greatest_comm : (a b : ℤ) → int_max a b ≡ int_max b a
greatest_comm a b = omega (arith, ints, clamps)

pub one_looked : (old entries new : List Entry) (place next : ℕ) (least greatest l g : ℤ) (e : Entry) → next + 1 ≡ place → e ≡ slice_index_or entries next e → l ≡ int_min least e.acc.min → g ≡ int_max greatest e.acc.max
    → let f : Entry = record { end = e.end; acc = e.acc; least = l; greatest = g } in new ≡ slice_set entries next f
    → LookedBack old entries place least greatest → LookedBack old new next l g
one_looked old entries new place next least greatest l g e at is lower higher set h =
    let f : Entry = record { end = e.end; acc = e.acc; least = l; greatest = g } in
    let in_range = h.inside in
    let within : next < length entries = omega arith in
    let here : drop next new ≡ f ∷ drop place entries = ap (drop next) set ∙ (drop-set entries next f within ∙ ap (λ (n : ℕ). f ∷ drop n entries) at) in
    let low : l ≡ int_min e.acc.min (least_of (pairs_in (drop place entries))) = lower ∙ (least_comm least e.acc.min ∙ ap (int_min e.acc.min) h.least_is) in
    let high : g ≡ int_max e.acc.max (greatest_of (pairs_in (drop place entries))) = higher ∙ (greatest_comm greatest e.acc.max ∙ ap (int_max e.acc.max) h.greatest_is) in record {
      pairs = ap pairs_in set ∙ (map-set_same pair_in entries next f e (ap pair_in is) ∙ h.pairs);
      inside = let long : length new ≡ length entries = ap length set ∙ length-set entries next f in omega arith;
      know = subst Know (sym here) ((low, high), h.know);
      least_is = low ∙ ap (λ (es : List Entry). least_of (pairs_in es)) (sym here);
      greatest_is = high ∙ ap (λ (es : List Entry). greatest_of (pairs_in es)) (sym here);
    }
