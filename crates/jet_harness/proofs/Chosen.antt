-- The rings of the channels that pass a test, counted.
use Rattle.std.proofs.Common.{arith, ◌≡◌, ◌∙◌, ◌+◌, ◌<◌, ◌++◌, ◌∷◌, [], ℕ, zero, suc, Bool, true, false, cond, if◌then◌else◌, List, map, length, take, ap, refl, sym}
use Rattle.std.specs.Prelude.{Some, count_by, filter, slice_get}
use Rattle.std.proofs.lemmas.List.{map-append}
use Rattle.std.proofs.lemmas.List.Elements.{filter-append}
use Rattle.std.proofs.lemmas.List.Sums.{sum_by-cons}
use Rattle.jet_ring.specs.Ring.{Ring}
use Rattle.jet_harness.specs.declared.channel.Channel.{Channel}
use Rattle.jet_harness.specs.Harness.{chosen}

-- one more, or none
abbrev pub one_if : {V : Type 0} → Bool → V → List V
one_if b v = if b then v ∷ [] else []

map_one_if : {E V : Type 0} (f : E → V) (b : Bool) (e : E) → map f (one_if b e) ≡ one_if b (f e)
map_one_if f true e = refl
map_one_if f false e = refl

filter_one : {E : Type 0} (p : E → Bool) (e : E) (b : Bool) → p e ≡ b → filter p (e ∷ []) ≡ one_if b e
filter_one p e true h = rw h refl
filter_one p e false h = rw h refl

-- an element that is added behind the others
pub filter_more : {E V : Type 0} (p : E → Bool) (v : E → V) (xs : List E) (e : E) → map v (filter p (xs ++ e ∷ [])) ≡ map v (filter p xs) ++ one_if (p e) (v e)
filter_more p v xs e = ap (map v) (filter-append p xs (e ∷ []) ∙ ap (λ l. filter p xs ++ l) (filter_one p e (p e) refl))
    ∙ map-append v (filter p xs) (one_if (p e) e) ∙ ap (λ l. map v (filter p xs) ++ l) (map_one_if v (p e) e)

-- a channel that is added with its ring
chosen_step : (b : Bool) (r : Ring) (xs ys zs : List Ring) → xs ≡ ys ++ zs → (if b then r ∷ xs else xs) ≡ (if b then r ∷ ys else ys) ++ zs
chosen_step true r xs ys zs e = ap (λ l. r ∷ l) e
chosen_step false r xs ys zs e = e

module _ (p : Channel → Bool) where
  chosen_push : (cs : List Channel) (rs : List Ring) (c : Channel) (r : Ring) → length rs ≡ length cs → chosen p (cs ++ c ∷ []) (rs ++ r ∷ []) ≡ chosen p cs rs ++ one_if (p c) r
  chosen_push [] [] c r e = refl
  chosen_push [] (y ∷ ys) c r e = absurd (omega arith)
  chosen_push (x ∷ xs) [] c r e = absurd (omega arith)
  chosen_push (x ∷ xs) (y ∷ ys) c r e = chosen_step (p x) y _ _ _ (chosen_push xs ys c r (omega arith))

  pub chosen_more : {V : Type 0} (f : Ring → V) (cs : List Channel) (rs : List Ring) (c : Channel) (r : Ring) → length rs ≡ length cs → map f (chosen p (cs ++ c ∷ []) (rs ++ r ∷ [])) ≡ map f (chosen p cs rs) ++ one_if (p c) (f r)
  chosen_more f cs rs c r e = ap (map f) (chosen_push cs rs c r e) ∙ map-append f (chosen p cs rs) (one_if (p c) r) ∙ ap (λ l. map f (chosen p cs rs) ++ l) (map_one_if f (p c) r)

  -- one for a channel that passes
  abbrev weight : Bool → ℕ
  weight b = cond b 1 0

  count_cons : (x : Channel) (xs : List Channel) → count_by p (x ∷ xs) ≡ weight (p x) + count_by p xs
  count_cons x xs = sum_by-cons (λ c. weight (p c)) x xs

  length_step : (b : Bool) (y : Ring) (l : List Ring) (k : ℕ) → length l ≡ k → length (if b then y ∷ l else l) ≡ weight b + k
  length_step true y l k e = omega arith
  length_step false y l k e = omega arith

  pub length_chosen : (cs : List Channel) (rs : List Ring) → length rs ≡ length cs → length (chosen p cs rs) ≡ count_by p cs
  length_chosen [] rs e = refl
  length_chosen (x ∷ xs) [] e = absurd (omega arith)
  length_chosen (x ∷ xs) (y ∷ ys) e = length_step (p x) y _ _ (length_chosen xs ys (omega arith)) ∙ sym (count_cons x xs)

  at_step : (b : Bool) (y r : Ring) (k : ℕ) (l : List Ring) → slice_get l k ≡ Some r → slice_get (if b then y ∷ l else l) (weight b + k) ≡ Some r
  at_step true y r k l h = let e : 1 + k ≡ suc k = omega arith in rw e h
  at_step false y r k l h = let e : 0 + k ≡ k = omega arith in rw e h

  first_at : (b : Bool) (y r : Ring) (l : List Ring) → b ≡ true → y ≡ r → slice_get (if b then y ∷ l else l) 0 ≡ Some r
  first_at true y r l h e = ap Some e
  first_at false y r l h e = cc

  -- the ring of a channel that passes stands behind those of the channels before it that pass
  pub chosen_at : (cs : List Channel) (rs : List Ring) (n : ℕ) (c : Channel) (r : Ring) → slice_get cs n ≡ Some c → slice_get rs n ≡ Some r → p c ≡ true → slice_get (chosen p cs rs) (count_by p (take n cs)) ≡ Some r
  chosen_at [] rs n c r at there h = cc
  chosen_at (x ∷ xs) [] n c r at there h = cc
  chosen_at (x ∷ xs) (y ∷ ys) zero c r at there h = let same : x ≡ c = cc in first_at (p x) y r (chosen p xs ys) (ap p same ∙ h) (cc)
  chosen_at (x ∷ xs) (y ∷ ys) (suc n) c r at there h = ap (slice_get (chosen p (x ∷ xs) (y ∷ ys))) (count_cons x (take n xs)) ∙ at_step (p x) y r (count_by p (take n xs)) (chosen p xs ys) (chosen_at xs ys n c r at there h)

  -- the channel that passes and has so many before it that pass
  pub record Found (cs : List Channel) (d : ℕ) : Type 0 where
    pub number : ℕ
    pub channel : Channel
    pub at : slice_get cs number ≡ Some channel
    pub passes : p channel ≡ true
    pub before : count_by p (take number cs) ≡ d

  found_step : (x : Channel) (xs : List Channel) (b : Bool) → p x ≡ b → ((d : ℕ) → d < count_by p xs → Found xs d) → (d : ℕ) → d < weight b + count_by p xs → Found (x ∷ xs) d
  found_step x xs true e more zero h = record { number = 0; channel = x; at = refl; passes = e; before = refl }
  found_step x xs true e more (suc d) h =
      let f = more d (omega arith) in
      let one = ap weight e in
      let more_by = count_cons x (take f.number xs) in
      record { number = suc f.number; channel = f.channel; at = f.at; passes = f.passes; before = omega (arith, one, more_by, f.before) }
  found_step x xs false e more d h =
      let f = more d (omega arith) in
      let none = ap weight e in
      let more_by = count_cons x (take f.number xs) in
      record { number = suc f.number; channel = f.channel; at = f.at; passes = f.passes; before = omega (arith, none, more_by, f.before) }

  pub found : (cs : List Channel) (d : ℕ) → d < count_by p cs → Found cs d
  found [] d h = absurd (omega arith)
  found (x ∷ xs) d h = let e = count_cons x xs in found_step x xs (p x) refl (found xs) d (omega (arith, e, h))

  rises : (cs : List Channel) (n m : ℕ) (c : Channel) → slice_get cs n ≡ Some c → p c ≡ true → n < m → count_by p (take n cs) < count_by p (take m cs)
  rises [] n m c at h lt = cc
  rises (x ∷ xs) n zero c at h lt = absurd (omega arith)
  rises (x ∷ xs) zero (suc m) c at h lt =
      let same : x ≡ c = cc in
      let one = ap weight (ap p same ∙ h) in
      let more_by = count_cons x (take m xs) in
      omega (arith, one, more_by)
  rises (x ∷ xs) (suc n) (suc m) c at h lt =
      let i = rises xs n m c at h (omega arith) in
      let a = count_cons x (take n xs) in
      let b = count_cons x (take m xs) in
      omega (arith, i, a, b)

  -- there is no other such channel
  pub only_one : (cs : List Channel) (n m : ℕ) (c d : Channel) → slice_get cs n ≡ Some c → p c ≡ true → slice_get cs m ≡ Some d → p d ≡ true → count_by p (take n cs) ≡ count_by p (take m cs) → m ≡ n
  only_one cs n m c d at h there k e = grind (arith, rises cs n m c at h, rises cs m n d there k)
