-- Sums of which few terms count.
use Rattle.std.proofs.Common.{arith, ◌≡◌, ◌∙◌, ◌+◌, ◌*◌, ◌<◌, ◌==◌, ◌∷◌, [], inl, inr, if◌then◌else◌, Bool, true, false, ℕ, zero, suc, List, length, map, cond, Some, ap, refl, sym, add-one}
use Rattle.std.specs.Prelude.{slice_get, count_by, sum_by, ◌&&◌}
use Rattle.std.specs.List.{All, filter, range_with_len}
use Rattle.std.proofs.lemmas.Bool.{cases_lt}
use Rattle.std.proofs.lemmas.Bool.Decides.{nat_tests}
use Rattle.std.proofs.lemmas.List.Elements.{All-head, All-tail}
use Rattle.std.proofs.lemmas.List.Sums.{sum_by-cons, sum_by_push}
use Rattle.std.proofs.lemmas.Option.{same_Some}
use Rattle.jet_plan.specs.Rings.{sum_below}
use Rattle.jet_layout.proofs.Ranges.{map_more}

-- ---- over numbers

pub sum_none : (f : ℕ → ℕ) (n : ℕ) → ((k : ℕ) → k < n → f k ≡ 0) → sum_below n f ≡ 0
sum_none f zero h = refl
sum_none f (suc n) h =
    let front = sum_none f n (λ k lt. h k (omega (arith, lt))) in
    let last = h n (omega arith) in
    omega (arith, front, last)

pub sum_one : (f : ℕ → ℕ) (n i : ℕ) → i < n → ((k : ℕ) → k < n → (k ≡ i → ⊥) → f k ≡ 0) → sum_below n f ≡ f i
sum_one f zero i lt h = absurd (omega (arith, lt))
sum_one f (suc n) i lt h = elim (cases_lt i n) [
  | inl less ↦
      let front = sum_one f n i less (λ k below other. h k (omega (arith, below)) other) in
      let last : f n ≡ 0 = h n (omega arith) (λ same. absurd (omega (arith, same, less))) in
      omega (arith, front, last)
  | inr past ↦
      let same : n ≡ i = omega (arith, lt, past) in
      let front = sum_none f n (λ k below. h k (omega (arith, below)) (λ e. absurd (omega (arith, e, below, same)))) in
      let last = ap f same in
      omega (arith, front, last)
]

pub sum_same : {X : Type 0} (w : X → ℕ) (c : ℕ) (xs : List X) → All (λ x. w x ≡ c) xs → sum_by w xs ≡ length xs * c
sum_same w c [] h = omega arith
sum_same w c (x ∷ xs) h =
    let sums = sum_by-cons w x xs in
    let here = All-head (λ y. w y ≡ c) x xs h in
    let rest = sum_same w c xs (All-tail (λ y. w y ≡ c) x xs h) in
    let row = suc_row (length xs) c in
    omega (arith, sums, here, rest, row)
  where
    suc_row : (n c : ℕ) → suc n * c ≡ c + n * c
    suc_row n c = omega arith

pub nothing_each : (n : ℕ) → n * 0 ≡ 0
nothing_each n = omega arith

pub without : (a b : Bool) → a ≡ false → (a && b) ≡ false
without true b h = absurd (cc h)
without false b h = refl

-- ---- counts over lists made from numbers

abbrev pub one_if : Bool → ℕ
one_if b = cond b 1 0

pub count_map : {X : Type 0} (p : X → Bool) (f : ℕ → X) (b : Bool) (ks : List ℕ) → ((k : ℕ) → p (f k) ≡ b) → count_by p (map f ks) ≡ cond b (length ks) 0
count_map p f true [] h = refl
count_map p f false [] h = refl
count_map p f true (k ∷ ks) h =
    let sums = sum_by-cons (λ x. cond (p x) 1 0) (f k) (map f ks) in
    let here : cond (p (f k)) 1 0 ≡ 1 = ap (λ b. one_if b) (h k) in
    let rest = count_map p f true ks h in
    omega (arith, sums, here, rest)
count_map p f false (k ∷ ks) h =
    let sums = sum_by-cons (λ x. cond (p x) 1 0) (f k) (map f ks) in
    let here : cond (p (f k)) 1 0 ≡ 0 = ap (λ b. one_if b) (h k) in
    let rest = count_map p f false ks h in
    omega (arith, sums, here, rest)

pub count_numbers : {X : Type 0} (p : X → Bool) (f : ℕ → X) (n : ℕ) → count_by p (map f (range_with_len 0 n)) ≡ sum_below n (λ k. cond (p (f k)) 1 0)
count_numbers p f zero = refl
count_numbers p f (suc n) =
    ap (λ k. count_by p (map f (range_with_len 0 k))) (sym (add-one n)) ∙ ap (count_by p) (map_more f n)
    ∙ sum_by_push (λ x. cond (p x) 1 0) (map f (range_with_len 0 n)) (f n) ∙ ap (λ k. k + cond (p (f n)) 1 0) (count_numbers p f n)

-- ---- the one that is picked

-- of those that pass the test, which have the numbers from b on, the one with the number t weighs what it should, and all else nothing
abbrev pub Weighs : {X : Type 0} → (X → Bool) → (X → ℕ) → (X → ℕ) → ℕ → ℕ → List X → Type 0
Weighs p w c t b [] = Unit {0}
Weighs p w c t b (x ∷ xs) = (w x ≡ (if p x && b == t then c x else 0)) × Weighs p w c t (b + cond (p x) 1 0) xs

if_false : (n : ℕ) (a b : Bool) → b ≡ false → (if a && b then n else 0) ≡ 0
if_false n true false h = refl
if_false n true true h = absurd (cc h)
if_false n false b h = refl

other : (a b : ℕ) → b < a → (a == b) ≡ false
other a b h = grind (arith, nat_tests)

pub other_above : (a b : ℕ) → a < b → (a == b) ≡ false
other_above a b h = grind (arith, nat_tests)

pub equal : (a b : ℕ) → a ≡ b → (a == b) ≡ true
equal a b h = grind (arith, nat_tests)

none_left : {X : Type 0} (p : X → Bool) (w c : X → ℕ) (t b : ℕ) (xs : List X) → t < b → Weighs p w c t b xs → sum_by w xs ≡ 0
none_left p w c t b [] lt h = refl
none_left p w c t b (x ∷ xs) lt h =
    let sums = sum_by-cons w x xs in
    let here : w x ≡ 0 = h.0 ∙ if_false (c x) (p x) (b == t) (other b t lt) in
    let rest = none_left p w c t (b + cond (p x) 1 0) xs (omega (arith, lt)) h.1 in
    omega (arith, sums, here, rest)

by_test : {X : Type 0} (p : X → Bool) (w c : X → ℕ) (t b : ℕ) (x : X) (xs : List X) (y : X) (a : Bool) (q : ℕ) → p x ≡ a → b + q ≡ t → slice_get (filter p (x ∷ xs)) q ≡ Some y → w x ≡ (if p x && b == t then c x else 0)
    → Weighs p w c t (b + cond (p x) 1 0) xs → ((r : ℕ) → slice_get (filter p xs) r ≡ Some y → b + cond (p x) 1 0 + r ≡ t → sum_by w xs ≡ c y) → sum_by w (x ∷ xs) ≡ c y
by_test p w c t b x xs y false q test e at here rest more =
    let sums = sum_by-cons w x xs in
    let none : w x ≡ 0 = here ∙ ap (λ a. if a && b == t then c x else 0) test in
    let same : b + 0 + q ≡ t = omega (arith, e) in
    let all = more q (ap (λ a. slice_get (cond a (x ∷ filter p xs) (filter p xs)) q) (sym test) ∙ at) (ap (λ a. b + one_if a + q) test ∙ same) in
    omega (arith, sums, none, all)
by_test p w c t b x xs y true zero test e at here rest more =
    let sums = sum_by-cons w x xs in
    let is : w x ≡ c x = here ∙ ap (λ a. if a && b == t then c x else 0) test ∙ ap (λ a. if a then c x else 0) (equal b t (omega (arith, e))) in
    let past : b + cond (p x) 1 0 ≡ b + 1 = ap (λ a. b + one_if a) test in
    let none = none_left p w c t (b + cond (p x) 1 0) xs (omega (arith, past, e)) rest in
    let first : x ≡ y = same_Some x y (ap (λ a. slice_get (cond a (x ∷ filter p xs) (filter p xs)) zero) (sym test) ∙ at) in
    let value = ap c first in
    omega (arith, sums, is, none, value)
by_test p w c t b x xs y true (suc q) test e at here rest more =
    let sums = sum_by-cons w x xs in
    let none : w x ≡ 0 = here ∙ if_false (c x) (p x) (b == t) (other_above b t (omega (arith, e))) in
    let same : b + 1 + q ≡ t = omega (arith, e) in
    let all = more q (ap (λ a. slice_get (cond a (x ∷ filter p xs) (filter p xs)) (suc q)) (sym test) ∙ at) (ap (λ a. b + one_if a + q) test ∙ same) in
    omega (arith, sums, none, all)

pub picked : {X : Type 0} (p : X → Bool) (w c : X → ℕ) (t b q : ℕ) (xs : List X) (y : X) → Weighs p w c t b xs → slice_get (filter p xs) q ≡ Some y → b + q ≡ t → sum_by w xs ≡ c y
picked p w c t b q [] y h at e = absurd (cc at)
picked p w c t b q (x ∷ xs) y h at e = by_test p w c t b x xs y (p x) q refl e at h.0 h.1 (λ r there same. picked p w c t (b + cond (p x) 1 0) r xs y h.1 there same)
