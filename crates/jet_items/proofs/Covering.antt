-- The frames of a window are those with an end in it, so their totals are the rows' accumulators.
use Rattle.std.proofs.Common.{◌≡◌, ℕ, zero, suc, ◌+◌, ◌%◌, ◌^◌, Bool, true, false, cond, ◌&&◌, List, [], ◌∷◌, map, filter, refl, sym, ◌∙◌, ap, subst, arith, ℤ, pos, negsuc, ◌+ℤ◌, ◌-ℤ◌, ◌≤ℤ◌, ◌<ℤ◌, Option, Some, None}
use Rattle.std.specs.Prelude.{int_le, int_lt, bytes_eq, fold}
use Rattle.std.specs.Bool.{Decides}
use Rattle.std.specs.Int.{int_wrap, int_min, int_max, w128}
use Rattle.std.specs.Ordering.{int_eq}
use Rattle.std.proofs.lemmas.Bool.Decides.{Decides-int_eq, Decides-and, same_from_decides, Decides-like}
use Rattle.std.proofs.lemmas.Int.{ints, by_lt_z, int_wrap-add_left, int_wrap-add_right}
use Rattle.jet_items.specs.Grid.{IsMultiple, IsFrameEnd, in_window}
use Rattle.jet_items.specs.Rows.{IsAccOf, first_value, members, sum_ℤ}
use Rattle.jet_items.specs.Values.{EventValue, AccValue, FrameValue}
use Rattle.jet_items.specs.Totals.{joined, one, both, total}
use Rattle.jet_items.specs.Frames.{frame_end, only, frame_at, event_at, FramesSum, covers, frame_in, event_in}
use Rattle.jet_items.proofs.GridLemmas.{frame_end_is, multiple_less}
use Rattle.jet_items.proofs.Totaling.{min_assoc, max_assoc, total-both, total-none, total-same}

-- ---- tests on whole numbers
pub Decides-int_lt : (a b : ℤ) → Decides (int_lt a b) (a <ℤ b)
Decides-int_lt a b = (λ h. grind (arith, ints), λ h. grind (arith, ints))

pub Decides-int_le : (a b : ℤ) → Decides (int_le a b) (a ≤ℤ b)
Decides-int_le a b = (λ h. grind (arith, ints), λ h. grind (arith, ints))

pub Decides-covers : (size e z : ℤ) → Decides (covers size e z) (((e -ℤ size) <ℤ z) × (z ≤ℤ e))
Decides-covers size e z = Decides-and (int_lt (e -ℤ size) z) (int_le z e) (Decides-int_lt (e -ℤ size) z) (Decides-int_le z e)

pub Decides-in_window : (size e ts : ℤ) → Decides (in_window size e ts) (((e -ℤ size) ≤ℤ ts) × (ts <ℤ e))
Decides-in_window size e ts = Decides-and (int_le (e -ℤ size) ts) (int_lt ts e) (Decides-int_le (e -ℤ size) ts) (Decides-int_lt ts e)

-- ---- the whole numbers of a window, from its end down
abbrev ends_back : ℤ → ℕ → List ℤ
ends_back e zero = []
ends_back e (suc n) = e ∷ ends_back (e -ℤ pos 1) n

-- two sums may be taken in either order
swapped : {X D : Type 0} (g : D → X → Option AccValue) (ds : List D) (xs : List X) → total (λ d. total (g d) xs) ds ≡ total (λ x. total (λ d. g d x) ds) xs
swapped g [] xs = sym (total-none (λ x. None) (λ x. refl) xs)
swapped g (d ∷ ds) xs = ap (both (total (g d) xs)) (swapped g ds xs) ∙ sym (total-both (g d) (λ x. total (λ c. g c x) ds) xs)

join_only : (b c d : Bool) (a : AccValue) → (b ≡ true → (c ≡ false) × (d ≡ true)) → (b ≡ false → d ≡ c) → both (only b a) (only c a) ≡ only d a
join_only true c d a h k = rw (h refl).0 (rw (h refl).1 refl)
join_only false c d a h k = rw (k refl) refl

true_not_false : {P : Type 0} → true ≡ false → P
true_not_false h = absurd (cc)

pub false_from : {P : Type 0} (b : Bool) → Decides b P → (P → ⊥) → b ≡ false
false_from true d h = absurd (h (d.0 refl))
false_from false d h = refl

pub not_so : {P : Type 0} (b : Bool) → Decides b P → b ≡ false → P → ⊥
not_so true d h p = true_not_false h
not_so false d h p = true_not_false (sym (d.1 p))

-- a place in a window is one of its whole numbers, and one alone
one_place : (z e : ℤ) (n : ℕ) (a : AccValue) → total (λ d. only (int_eq z d) a) (ends_back e n) ≡ only (covers (pos n) e z) a
one_place z e zero a = rw (false_from (covers (pos zero) e z) (Decides-covers (pos zero) e z) (λ h. let p = h.0 in let q = h.1 in omega (arith, ints))) refl
one_place z e (suc n) a =
    rw (one_place z (e -ℤ pos 1) n a)
    (join_only (int_eq z e) (covers (pos n) (e -ℤ pos 1) z) (covers (pos (suc n)) e z) a
    (λ t. let is : z ≡ e = (Decides-int_eq z e).0 t in (
      false_from (covers (pos n) (e -ℤ pos 1) z) (Decides-covers (pos n) (e -ℤ pos 1) z) (λ h. let p = h.0 in let q = h.1 in omega (arith, ints)),
      (Decides-covers (pos (suc n)) e z).1 (omega (arith, ints), omega (arith, ints)),
    ))
    (λ f. let apart : z ≡ e → ⊥ = not_so (int_eq z e) (Decides-int_eq z e) f in
    same_from_decides (covers (pos (suc n)) e z) (covers (pos n) (e -ℤ pos 1) z) (Decides-covers (pos (suc n)) e z)
    (Decides-like (covers (pos n) (e -ℤ pos 1) z) (λ h. let p = h.0 in let q = h.1 in (omega (arith, ints), omega (arith, ints))) (λ h. let p = h.0 in let q = h.1 in (omega (arith, ints), omega (arith, ints))) (Decides-covers (pos n) (e -ℤ pos 1) z))))

keyed_place : (b : Bool) (z e : ℤ) (n : ℕ) (a : AccValue) → total (λ d. only (b && int_eq z d) a) (ends_back e n) ≡ only (b && covers (pos n) e z) a
keyed_place true z e n a = one_place z e n a
keyed_place false z e n a = total-none (λ (d : ℤ). None) (λ d. refl) (ends_back e n)

-- what frames bring to a window is what they bring to its places
frames_of_window : (n : ℕ) (e : ℤ) (key : List ℕ) (frames : List FrameValue) → total (frame_in (pos n) e key) frames ≡ total (λ d. total (frame_at d key) frames) (ends_back e n)
frames_of_window n e key frames =
    total-same (frame_in (pos n) e key) (λ f. total (λ d. frame_at d key f) (ends_back e n)) (λ f. sym (keyed_place (bytes_eq f.key key) f.end e n f.acc)) frames
    ∙ sym (swapped (λ d f. frame_at d key f) (ends_back e n) frames)

-- an event lies in the window where its frame end does
pub covers_its_frame : (slide : ℤ) (n : ℕ) (e ts : ℤ) → pos 1 ≤ℤ slide → IsMultiple slide (pos n) → IsMultiple slide e → covers (pos n) e (frame_end slide ts) ≡ in_window (pos n) e ts
covers_its_frame slide n e ts low size_is e_is =
    let frame : IsFrameEnd slide ts (frame_end slide ts) = frame_end_is slide ts low in
    let above : ts <ℤ frame_end slide ts = frame.above in
    let start_is : IsMultiple slide (e -ℤ pos n) = multiple_less slide e (pos n) low e_is size_is in
    same_from_decides (covers (pos n) e (frame_end slide ts)) (in_window (pos n) e ts) (Decides-covers (pos n) e (frame_end slide ts))
    (Decides-like (in_window (pos n) e ts)
    (λ h. let p = h.0 in let q = h.1 in let le : frame_end slide ts ≤ℤ e = frame.least e e_is q in (omega (arith, ints), le))
    (λ h. let p = h.0 in let q = h.1 in (by_cases ts (e -ℤ pos n) (λ lt. let le : frame_end slide ts ≤ℤ (e -ℤ pos n) = frame.least (e -ℤ pos n) start_is lt in absurd (omega (arith, ints))), omega (arith, ints)))
    (Decides-in_window (pos n) e ts))
  where
    by_cases : (a b : ℤ) → (a <ℤ b → b ≤ℤ a) → b ≤ℤ a
    by_cases a b f = by_lt_z a b f (λ h. h)

events_of_window : (slide : ℤ) (n : ℕ) (e : ℤ) (key : List ℕ) (events : List EventValue) → pos 1 ≤ℤ slide → IsMultiple slide (pos n) → IsMultiple slide e → total (event_in (pos n) e key) events ≡ total (λ d. total (event_at slide d key) events) (ends_back e n)
events_of_window slide n e key events low size_is e_is =
    total-same (event_in (pos n) e key) (λ x. total (λ d. event_at slide d key x) (ends_back e n))
    (λ x. ap (λ (b : Bool). only (bytes_eq x.key key && b) (one (first_value x))) (sym (covers_its_frame slide n e x.ts low size_is e_is))
    ∙ sym (keyed_place (bytes_eq x.key key) (frame_end slide x.ts) e n (one (first_value x)))) events
    ∙ sym (swapped (λ d x. event_at slide d key x) (ends_back e n) events)

-- the covering: what frames bring to a window is what the events bring to it that they sum
pub window_of_frames : (slide size e : ℤ) (key : List ℕ) (frames : List FrameValue) (events : List EventValue) → pos 1 ≤ℤ slide → pos 1 ≤ℤ size → IsMultiple slide size → IsMultiple slide e → FramesSum slide frames events → total (frame_in size e key) frames ≡ total (event_in size e key) events
window_of_frames slide (pos n) e key frames events low some size_is e_is sums =
    frames_of_window n e key frames
    ∙ (total-same (λ d. total (frame_at d key) frames) (λ d. total (event_at slide d key) events) (λ d. sums.at d key) (ends_back e n)
    ∙ sym (events_of_window slide n e key events low size_is e_is))
window_of_frames slide (negsuc n) e key frames events low some size_is e_is sums = absurd (omega (arith, ints))

-- ---- what events bring is the accumulator of their values
only_filtered : {X : Type 0} (p : Bool) (x : X) (g : X → AccValue) (rest : List X) (t : Option AccValue) → t ≡ total (λ y. Some (g y)) rest → both (only p (g x)) t ≡ total (λ y. Some (g y)) (cond p (x ∷ rest) rest)
only_filtered true x g rest t h = ap (both (Some (g x))) h
only_filtered false x g rest t h = h

total-only : {X : Type 0} (p : X → Bool) (g : X → AccValue) (xs : List X) → total (λ x. only (p x) (g x)) xs ≡ total (λ x. Some (g x)) (filter p xs)
total-only p g [] = refl
total-only p g (x ∷ xs) = only_filtered (p x) x g (filter p xs) (total (λ y. only (p y) (g y)) xs) (total-only p g xs)

sum_from : (a : ℤ) (xs : List ℤ) → fold ◌+ℤ◌ a xs ≡ a +ℤ sum_ℤ xs
sum_from a [] = omega (arith, ints)
sum_from a (x ∷ xs) = let p = sum_from (a +ℤ x) xs in let q = sum_from (pos 0 +ℤ x) xs in omega (arith, ints)

min_from : (a b : ℤ) (xs : List ℤ) → fold int_min (int_min a b) xs ≡ int_min a (fold int_min b xs)
min_from a b [] = refl
min_from a b (x ∷ xs) = ap (λ z. fold int_min z xs) (min_assoc a b x) ∙ min_from a (int_min b x) xs

max_from : (a b : ℤ) (xs : List ℤ) → fold int_max (int_max a b) xs ≡ int_max a (fold int_max b xs)
max_from a b [] = refl
max_from a b (x ∷ xs) = ap (λ z. fold int_max z xs) (max_assoc a b x) ∙ max_from a (int_max b x) xs

-- the accumulator of values
record Totaled (v : ℤ) (vs : List ℤ) : Type 0 where
  acc : AccValue
  is : total (λ z. Some (one z)) (v ∷ vs) ≡ Some acc
  law : IsAccOf (v ∷ vs) acc

totaled : (v : ℤ) (vs : List ℤ) → Totaled v vs
totaled v [] = record { acc = one v; is = refl; law = record { count = refl; sum = ap (int_wrap w128) (omega (arith, ints)); least = refl; greatest = refl } }
totaled v (w ∷ ws) =
    let t = totaled w ws in
    let least : fold int_min w ws ≡ t.acc.min = some_is (t.law.least) in
    let greatest : fold int_max w ws ≡ t.acc.max = some_is (t.law.greatest) in
    record {
      acc = joined (one v) t.acc;
      is = ap (both (Some (one v))) t.is;
      law = record {
        count = ap (λ n. (1 + n) % 2 ^ 64) t.law.count ∙ omega arith;
        sum = int_wrap-add_left w128 v t.acc.sum ∙ (ap (λ z. int_wrap w128 (v +ℤ z)) t.law.sum ∙ (int_wrap-add_right w128 v (sum_ℤ (w ∷ ws)) ∙ ap (int_wrap w128) (sums v w ws)));
        least = ap Some (min_from v w ws ∙ ap (int_min v) least);
        greatest = ap Some (max_from v w ws ∙ ap (int_max v) greatest);
      };
    }
  where
    some_is : {a b : ℤ} → Some a ≡ Some b → a ≡ b
    some_is h = cc

    sums : (v w : ℤ) (ws : List ℤ) → v +ℤ sum_ℤ (w ∷ ws) ≡ sum_ℤ (v ∷ w ∷ ws)
    sums v w ws = let p = sum_from (pos 0 +ℤ v) (w ∷ ws) in omega (arith, ints)

-- what values join to, and the accumulator of them
abbrev pub IsTotalOf : List ℤ → Option AccValue → Type 0
IsTotalOf values None = values ≡ []
IsTotalOf values (Some acc) = IsAccOf values acc

values_total : (values : List ℤ) → IsTotalOf values (total (λ z. Some (one z)) values)
values_total [] = refl
values_total (v ∷ vs) = let t = totaled v vs in subst (IsTotalOf (v ∷ vs)) (sym t.is) t.law

map_total : {X : Type 0} (v : X → ℤ) (xs : List X) → total (λ x. Some (one (v x))) xs ≡ total (λ z. Some (one z)) (map v xs)
map_total v [] = refl
map_total v (x ∷ xs) = ap (both (Some (one (v x)))) (map_total v xs)

pub members_total : (size e : ℤ) (key : List ℕ) (events : List EventValue) → IsTotalOf (map first_value (members size e key events)) (total (event_in size e key) events)
members_total size e key events =
    subst (IsTotalOf (map first_value (members size e key events)))
    (sym (total-only (λ x. bytes_eq x.key key && in_window size e x.ts) (λ x. one (first_value x)) events ∙ map_total first_value (members size e key events)))
    (values_total (map first_value (members size e key events)))

-- the row of a window over the frames is the row over the events, and there is none where no event is
pub row_of_frames : (slide size e : ℤ) (key : List ℕ) (frames : List FrameValue) (events : List EventValue) → pos 1 ≤ℤ slide → pos 1 ≤ℤ size → IsMultiple slide size → IsMultiple slide e → FramesSum slide frames events → IsTotalOf (map first_value (members size e key events)) (total (frame_in size e key) frames)
row_of_frames slide size e key frames events low some size_is e_is sums =
    subst (IsTotalOf (map first_value (members size e key events))) (sym (window_of_frames slide size e key frames events low some size_is e_is sums)) (members_total size e key events)
