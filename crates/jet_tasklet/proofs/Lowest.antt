-- Of the watermark: no queue that is not done is behind it, and it is the greatest such time.
use Rattle.std.proofs.Common.{◌≡◌, ℕ, zero, suc, ◌<◌, Bool, true, false, not, cond, ℤ, ◌≤ℤ◌, List, [], ◌∷◌, map, filter, refl, sym, ◌∙◌, ap, subst, inl, inr, arith}
use Rattle.std.specs.Prelude.{Option, Some, None, fold, is_some, ◌⊎◌, int_lt}
use Rattle.std.specs.Option.{IsSomeAnd}
use Rattle.std.specs.List.{reduce, filter_map, list_all}
use Rattle.std.specs.Int.{int_min, int_max}
use Rattle.std.specs.Int.Signed.{≤ℤ_refl}
use Rattle.std.proofs.lemmas.Int.{ints, int_min_is, int_max_is}
use Rattle.jet_items.specs.declared.item.Item.{Item}
use Rattle.jet_items.specs.declared.item.Item.TheVariants as item
use Rattle.jet_items.specs.Kinds.{marks_of}
use Rattle.jet_items.specs.Order.{Each}
use Rattle.jet_coalescer.specs.Low.{History, low, least}
use Rattle.jet_tasklet.specs.Trace.{has_ended, history, histories}

-- the item is a mark that is not below t
abbrev pub AtLeast : ℤ → Item → Type 0
AtLeast t (item.Event e) = ⊥
AtLeast t (item.Side s) = ⊥
AtLeast t (item.Frame f) = ⊥
AtLeast t (item.Row r) = ⊥
AtLeast t (item.Late l) = ⊥
AtLeast t item.Idle = ⊥
AtLeast t (item.Mark m) = t ≤ℤ m
AtLeast t item.Done = ⊥

-- there is such a mark among the items
abbrev pub HasMark : ℤ → List Item → Type 0
HasMark t [] = ⊥
HasMark t (x ∷ xs) = AtLeast t x ⊎ HasMark t xs

-- ---- the least of a list
min_least : (a : ℤ) (xs : List ℤ) → (fold int_min a xs ≤ℤ a) × Each (λ x. fold int_min a xs ≤ℤ x) xs
min_least a [] = (≤ℤ_refl a, tt)
min_least a (x ∷ xs) =
    let rest : (fold int_min (int_min a x) xs ≤ℤ int_min a x) × Each (λ y. fold int_min (int_min a x) xs ≤ℤ y) xs = min_least (int_min a x) xs in
    let below : fold int_min (int_min a x) xs ≤ℤ int_min a x = rest.0 in
    (omega (arith, ints, below, int_min_is a x), (omega (arith, ints, below, int_min_is a x), rest.1))

min_greatest : (s a : ℤ) (xs : List ℤ) → s ≤ℤ a → Each (λ x. s ≤ℤ x) xs → s ≤ℤ fold int_min a xs
min_greatest s a [] h k = h
min_greatest s a (x ∷ xs) h k =
    let here : s ≤ℤ x = k.0 in
    min_greatest s (int_min a x) xs (omega (arith, ints, h, here, int_min_is a x)) k.1

abbrev AllLeast : ℤ → List (Option ℤ) → Type 0
AllLeast t marks = Each (λ m. IsSomeAnd m (λ s. t ≤ℤ s)) marks

some_least : (t : ℤ) (marks : List (Option ℤ)) → list_all is_some marks ≡ true → Each (λ x. t ≤ℤ x) (filter_map (λ m. m) marks) → AllLeast t marks
some_least t [] h k = tt
some_least t (None ∷ marks) h k = absurd (cc)
some_least t (Some m ∷ marks) h k = (k.0, some_least t marks h k.1)

reduce_least : (t : ℤ) (xs : List ℤ) → reduce int_min xs ≡ Some t → Each (λ x. t ≤ℤ x) xs
reduce_least t [] h = absurd (cc)
reduce_least t (x ∷ xs) h =
    let is : fold int_min x xs ≡ t = cc in
    subst (λ (s : ℤ). (s ≤ℤ x) × Each (λ y. s ≤ℤ y) xs) is (min_least x xs)

least_if : (t : ℤ) (marks : List (Option ℤ)) (b : Bool) → list_all is_some marks ≡ b → cond b (reduce int_min (filter_map (λ m. m) marks)) None ≡ Some t → AllLeast t marks
least_if t marks true all h = some_least t marks all (reduce_least t (filter_map (λ m. m) marks) h)
least_if t marks false all h = absurd (cc)

least_below : (t : ℤ) (marks : List (Option ℤ)) → least marks ≡ Some t → AllLeast t marks
least_below t marks h = least_if t marks (list_all is_some marks) refl h

least_all : (s : ℤ) (marks : List (Option ℤ)) → AllLeast s marks → (list_all is_some marks ≡ true) × Each (λ x. s ≤ℤ x) (filter_map (λ m. m) marks)
least_all s [] h = (refl, tt)
least_all s (None ∷ marks) h = absurd h.0
least_all s (Some m ∷ marks) h = let rest = least_all s marks h.1 in (rest.0, (h.0, rest.1))

reduce_above : (s t : ℤ) (xs : List ℤ) → Each (λ x. s ≤ℤ x) xs → reduce int_min xs ≡ Some t → s ≤ℤ t
reduce_above s t [] k h = absurd (cc)
reduce_above s t (x ∷ xs) k h =
    let is : fold int_min x xs ≡ t = cc in
    subst (λ (u : ℤ). s ≤ℤ u) is (min_greatest s x xs k.0 k.1)

above_if : (s t : ℤ) (marks : List (Option ℤ)) (b : Bool) → list_all is_some marks ≡ b → cond b (reduce int_min (filter_map (λ m. m) marks)) None ≡ Some t → AllLeast s marks → s ≤ℤ t
above_if s t marks true all h k = reduce_above s t (filter_map (λ m. m) marks) (least_all s marks k).1 h
above_if s t marks false all h k = absurd (cc)

least_above : (s t : ℤ) (marks : List (Option ℤ)) → least marks ≡ Some t → AllLeast s marks → s ≤ℤ t
least_above s t marks h k = above_if s t marks (list_all is_some marks) refl h k

-- where each of the marks is there, there is no least one only where there are none
none_if : (s : ℤ) (m : Option ℤ) (marks : List (Option ℤ)) (b : Bool) → list_all is_some (m ∷ marks) ≡ b → cond b (reduce int_min (filter_map (λ x. x) (m ∷ marks))) None ≡ None → AllLeast s (m ∷ marks) → ⊥
none_if s None marks b all h k = k.0
none_if s (Some m) marks true all h k = cc
none_if s (Some m) marks false all h k = let every = least_all s (Some m ∷ marks) k in let is : list_all is_some (Some m ∷ marks) ≡ true = every.0 in cc

none_least : (s : ℤ) (marks : List (Option ℤ)) → least marks ≡ None → AllLeast s marks → marks ≡ []
none_least s [] h k = refl
none_least s (m ∷ marks) h k = absurd (none_if s m marks (list_all is_some (m ∷ marks)) refl h k)

-- ---- the greatest mark of a queue
either_if : (b : Bool) (t a m : ℤ) → t ≤ℤ cond b a m → (t ≤ℤ a) ⊎ (t ≤ℤ m)
either_if true t a m k = inl k
either_if false t a m k = inr k

max_either : (t a m : ℤ) → t ≤ℤ int_max a m → (t ≤ℤ a) ⊎ (t ≤ℤ m)
max_either t a m k = either_if (int_lt m a) t a m k

has_from : (t a : ℤ) (xs : List Item) → t ≤ℤ fold int_max a (marks_of xs) → (t ≤ℤ a) ⊎ HasMark t xs
has_from t a [] h = inl h
has_from t a (item.Event e ∷ xs) h = elim (has_from t a xs h) [ inl k ↦ inl k | inr k ↦ inr (inr k) ]
has_from t a (item.Side s ∷ xs) h = elim (has_from t a xs h) [ inl k ↦ inl k | inr k ↦ inr (inr k) ]
has_from t a (item.Frame f ∷ xs) h = elim (has_from t a xs h) [ inl k ↦ inl k | inr k ↦ inr (inr k) ]
has_from t a (item.Row r ∷ xs) h = elim (has_from t a xs h) [ inl k ↦ inl k | inr k ↦ inr (inr k) ]
has_from t a (item.Late l ∷ xs) h = elim (has_from t a xs h) [ inl k ↦ inl k | inr k ↦ inr (inr k) ]
has_from t a (item.Idle ∷ xs) h = elim (has_from t a xs h) [ inl k ↦ inl k | inr k ↦ inr (inr k) ]
has_from t a (item.Done ∷ xs) h = elim (has_from t a xs h) [ inl k ↦ inl k | inr k ↦ inr (inr k) ]
has_from t a (item.Mark m ∷ xs) h = elim (has_from t (int_max a m) xs h) [ inl k ↦ split k | inr k ↦ inr (inr k) ]
  where
    split : t ≤ℤ int_max a m → (t ≤ℤ a) ⊎ HasMark t (item.Mark m ∷ xs)
    split k = elim (max_either t a m k) [ inl d ↦ inl d | inr d ↦ inr (inl d) ]

pub has_mark : (t : ℤ) (xs : List Item) → IsSomeAnd (reduce int_max (marks_of xs)) (λ m. t ≤ℤ m) → HasMark t xs
has_mark t [] h = absurd h
has_mark t (item.Event e ∷ xs) h = inr (has_mark t xs h)
has_mark t (item.Side s ∷ xs) h = inr (has_mark t xs h)
has_mark t (item.Frame f ∷ xs) h = inr (has_mark t xs h)
has_mark t (item.Row r ∷ xs) h = inr (has_mark t xs h)
has_mark t (item.Late l ∷ xs) h = inr (has_mark t xs h)
has_mark t (item.Idle ∷ xs) h = inr (has_mark t xs h)
has_mark t (item.Done ∷ xs) h = inr (has_mark t xs h)
has_mark t (item.Mark m ∷ xs) h = elim (has_from t m xs h) [ inl k ↦ inl k | inr k ↦ inr k ]

max_above : (a : ℤ) (ms : List ℤ) → a ≤ℤ fold int_max a ms
max_above a [] = ≤ℤ_refl a
max_above a (m ∷ ms) = let rest : int_max a m ≤ℤ fold int_max (int_max a m) ms = max_above (int_max a m) ms in omega (arith, ints, rest, int_max_is a m)

from_has : (t a : ℤ) (xs : List Item) → HasMark t xs → t ≤ℤ fold int_max a (marks_of xs)
from_has t a [] h = absurd h
from_has t a (item.Event e ∷ xs) h = elim h [ inl k ↦ absurd k | inr k ↦ from_has t a xs k ]
from_has t a (item.Side s ∷ xs) h = elim h [ inl k ↦ absurd k | inr k ↦ from_has t a xs k ]
from_has t a (item.Frame f ∷ xs) h = elim h [ inl k ↦ absurd k | inr k ↦ from_has t a xs k ]
from_has t a (item.Row r ∷ xs) h = elim h [ inl k ↦ absurd k | inr k ↦ from_has t a xs k ]
from_has t a (item.Late l ∷ xs) h = elim h [ inl k ↦ absurd k | inr k ↦ from_has t a xs k ]
from_has t a (item.Idle ∷ xs) h = elim h [ inl k ↦ absurd k | inr k ↦ from_has t a xs k ]
from_has t a (item.Done ∷ xs) h = elim h [ inl k ↦ absurd k | inr k ↦ from_has t a xs k ]
from_has t a (item.Mark m ∷ xs) h = elim h [ inl k ↦ here k | inr k ↦ from_has t (int_max a m) xs k ]
  where
    here : t ≤ℤ m → t ≤ℤ fold int_max (int_max a m) (marks_of xs)
    here k = let above : int_max a m ≤ℤ fold int_max (int_max a m) (marks_of xs) = max_above (int_max a m) (marks_of xs) in omega (arith, ints, k, above, int_max_is a m)

pub mark_has : (t : ℤ) (xs : List Item) → HasMark t xs → IsSomeAnd (reduce int_max (marks_of xs)) (λ m. t ≤ℤ m)
mark_has t [] h = absurd h
mark_has t (item.Event e ∷ xs) h = elim h [ inl k ↦ absurd k | inr k ↦ mark_has t xs k ]
mark_has t (item.Side s ∷ xs) h = elim h [ inl k ↦ absurd k | inr k ↦ mark_has t xs k ]
mark_has t (item.Frame f ∷ xs) h = elim h [ inl k ↦ absurd k | inr k ↦ mark_has t xs k ]
mark_has t (item.Row r ∷ xs) h = elim h [ inl k ↦ absurd k | inr k ↦ mark_has t xs k ]
mark_has t (item.Late l ∷ xs) h = elim h [ inl k ↦ absurd k | inr k ↦ mark_has t xs k ]
mark_has t (item.Idle ∷ xs) h = elim h [ inl k ↦ absurd k | inr k ↦ mark_has t xs k ]
mark_has t (item.Done ∷ xs) h = elim h [ inl k ↦ absurd k | inr k ↦ mark_has t xs k ]
mark_has t (item.Mark m ∷ xs) h = elim h [ inl k ↦ here k | inr k ↦ from_has t m xs k ]
  where
    here : t ≤ℤ m → t ≤ℤ fold int_max m (marks_of xs)
    here k = let above : m ≤ℤ fold int_max m (marks_of xs) = max_above m (marks_of xs) in omega (arith, ints, k, above)

-- ---- several queues
abbrev open_marks : List History → List (Option ℤ)
open_marks told = map (λ h. reduce int_max h.marks) (filter (λ h. not h.done) told)

abbrev Opens : (Option ℤ → Type 0) → ℕ → (ℕ → List Item) → Type 0
Opens P n lists = (q : ℕ) → q < n → has_ended (lists q) ≡ false → P (reduce int_max (marks_of (lists q)))

open_first : (P : Option ℤ → Type 0) (b : Bool) (h : History) (told : List History) → Each P (map (λ g. reduce int_max g.marks) (cond (not b) (h ∷ filter (λ g. not g.done) told) (filter (λ g. not g.done) told))) → (b ≡ false → P (reduce int_max h.marks)) × Each P (open_marks told)
open_first P true h told all = (λ e. absurd (cc), all)
open_first P false h told all = (λ e. all.0, all.1)

from_open : (P : Option ℤ → Type 0) (n : ℕ) (lists : ℕ → List Item) → Each P (open_marks (histories n lists)) → Opens P n lists
from_open P zero lists h q lt is = absurd (omega (arith, lt))
from_open P (suc n) lists h zero lt is = (open_first P (has_ended (lists 0)) (history (lists 0)) (histories n (λ k. lists (suc k))) h).0 is
from_open P (suc n) lists h (suc q) lt is = from_open P n (λ k. lists (suc k)) (open_first P (has_ended (lists 0)) (history (lists 0)) (histories n (λ k. lists (suc k))) h).1 q (omega (arith, lt)) is

first_open : (P : Option ℤ → Type 0) (b : Bool) (h : History) (told : List History) → (b ≡ false → P (reduce int_max h.marks)) → Each P (open_marks told) → Each P (map (λ g. reduce int_max g.marks) (cond (not b) (h ∷ filter (λ g. not g.done) told) (filter (λ g. not g.done) told)))
first_open P true h told one all = all
first_open P false h told one all = (one refl, all)

to_open : (P : Option ℤ → Type 0) (n : ℕ) (lists : ℕ → List Item) → Opens P n lists → Each P (open_marks (histories n lists))
to_open P zero lists h = tt
to_open P (suc n) lists h =
    first_open P (has_ended (lists 0)) (history (lists 0)) (histories n (λ k. lists (suc k))) (λ is. h 0 (omega arith) is) (to_open P n (λ k. lists (suc k)) (λ q lt is. h (suc q) (omega (arith, lt)) is))

-- each of n queues that is not done gave a mark that is not below t
abbrev pub Bounds : ℕ → ℤ → (ℕ → List Item) → Type 0
Bounds n t lists = (q : ℕ) → q < n → has_ended (lists q) ≡ false → HasMark t (lists q)

abbrev pub AllEnded : ℕ → (ℕ → List Item) → Type 0
AllEnded n lists = (q : ℕ) → q < n → has_ended (lists q) ≡ true

pub low_bounds : (n : ℕ) (t : ℤ) (lists : ℕ → List Item) → low (histories n lists) ≡ Some t → Bounds n t lists
low_bounds n t lists h q lt is =
    has_mark t (lists q) (from_open (λ m. IsSomeAnd m (λ s. t ≤ℤ s)) n lists (least_below t (open_marks (histories n lists)) h) q lt is)

bounds_all : (n : ℕ) (s : ℤ) (lists : ℕ → List Item) → Bounds n s lists → AllLeast s (open_marks (histories n lists))
bounds_all n s lists b = to_open (λ m. IsSomeAnd m (λ u. s ≤ℤ u)) n lists (λ q lt is. mark_has s (lists q) (b q lt is))

pub low_above : (n : ℕ) (s t : ℤ) (lists : ℕ → List Item) → Bounds n s lists → low (histories n lists) ≡ Some t → s ≤ℤ t
low_above n s t lists b h = least_above s t (open_marks (histories n lists)) h (bounds_all n s lists b)

true_unless : (b : Bool) → (b ≡ false → ⊥) → b ≡ true
true_unless true h = refl
true_unless false h = absurd (h refl)

pub low_none : (n : ℕ) (s : ℤ) (lists : ℕ → List Item) → Bounds n s lists → low (histories n lists) ≡ None → AllEnded n lists
low_none n s lists b h q lt =
    let none : open_marks (histories n lists) ≡ [] = none_least s (open_marks (histories n lists)) h (bounds_all n s lists b) in
    true_unless (has_ended (lists q)) (λ is. from_open (λ m. ⊥) n lists (subst (λ (ms : List (Option ℤ)). Each (λ m. ⊥) ms) (sym none) tt) q lt is)

no_first : (b : Bool) (h : History) (told : List History) → b ≡ true → map (λ g. reduce int_max g.marks) (cond (not b) (h ∷ filter (λ g. not g.done) told) (filter (λ g. not g.done) told)) ≡ open_marks told
no_first true h told e = refl
no_first false h told e = absurd (cc)

none_open : (n : ℕ) (lists : ℕ → List Item) → AllEnded n lists → open_marks (histories n lists) ≡ []
none_open zero lists h = refl
none_open (suc n) lists h =
    no_first (has_ended (lists 0)) (history (lists 0)) (histories n (λ k. lists (suc k))) (h 0 (omega arith)) ∙ none_open n (λ k. lists (suc k)) (λ q lt. h (suc q) (omega (arith, lt)))

-- where all queues are done there is no watermark
pub ended_low : (n : ℕ) (lists : ℕ → List Item) → AllEnded n lists → low (histories n lists) ≡ None
ended_low n lists h = ap (λ (ms : List (Option ℤ)). least ms) (none_open n lists h)
