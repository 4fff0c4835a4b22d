-- A change that goes through a list.
use Rattle.std.proofs.Common.{◌≡◌, ℕ, zero, suc, ◌+◌, ◌<◌, ◌≤◌, List, [], ◌∷◌, map, length, get_or, set, take, refl, sym, ◌∙◌, ap, subst, arith, add-one}
use Rattle.std.proofs.lemmas.List.{map-set}
use Rattle.jet_items.specs.Order.{Each}

-- the first i elements changed
abbrev pub stepped : {X : Type 0} → (X → X) → ℕ → List X → List X
stepped f zero xs = xs
stepped f (suc i) [] = []
stepped f (suc i) (x ∷ xs) = f x ∷ stepped f i xs

stepped_next : {X : Type 0} (f : X → X) (xs : List X) (i : ℕ) (x : X) → i < length xs → x ≡ get_or (stepped f i xs) i x → set (stepped f i xs) i (f x) ≡ stepped f (suc i) xs
stepped_next f [] i x lt is = absurd (omega (arith, lt))
stepped_next {X} f (y ∷ xs) zero x lt is = ap (λ (z : X). f z ∷ xs) is
stepped_next {X} f (y ∷ xs) (suc i) x lt is = ap (λ (zs : List X). f y ∷ zs) (stepped_next f xs i x (omega (arith, lt)) is)

pub stepped_all : {X : Type 0} (f : X → X) (xs : List X) (i : ℕ) → length xs ≤ i → stepped f i xs ≡ map f xs
stepped_all f [] zero le = refl
stepped_all f [] (suc i) le = refl
stepped_all f (x ∷ xs) zero le = absurd (omega (arith, le))
stepped_all {X} f (x ∷ xs) (suc i) le = ap (λ (zs : List X). f x ∷ zs) (stepped_all f xs i (omega (arith, le)))

-- the same of what is seen of a list
pub seen_next : {A X : Type 0} (see : A → X) (f : X → X) (xs : List X) (ys : List A) (i : ℕ) (a b : A) → map see ys ≡ stepped f i xs → i < length xs → a ≡ get_or ys i a → see b ≡ f (see a) → i < length ys → map see (set ys i b) ≡ stepped f (i + 1) xs
seen_next {A} {X} see f xs ys i a b same lt is next within =
    let at : see a ≡ get_or (stepped f i xs) i (see a) = subst (λ (zs : List X). see a ≡ get_or zs i (see a)) same (get_map see ys i a within is) in
    map-set see ys i b ∙ (ap (λ (zs : List X). set zs i (see b)) same ∙ (ap (λ (y : X). set (stepped f i xs) i y) next
    ∙ (stepped_next f xs i (see a) lt at ∙ ap (λ (n : ℕ). stepped f n xs) (sym (add-one i)))))
  where
    get_map : (see : A → X) (bs : List A) (k : ℕ) (c : A) → k < length bs → c ≡ get_or bs k c → see c ≡ get_or (map see bs) k (see c)
    get_map see [] k c l e = absurd (omega (arith, l))
    get_map see (d ∷ bs) zero c l e = ap see e
    get_map see (d ∷ bs) (suc k) c l e = get_map see bs k c (omega (arith, l)) e

-- one element of which the same holds
pub each_set : {A X : Type 0} (see : A → X) (P : X → Type 0) (ys : List A) (i : ℕ) (b : A) → Each P (map see ys) → P (see b) → Each P (map see (set ys i b))
each_set see P [] i b h k = tt
each_set see P (a ∷ ys) zero b h k = (k, h.1)
each_set see P (a ∷ ys) (suc i) b h k = (h.0, each_set see P ys i b h.1 k)

pub each_at : {A X : Type 0} (see : A → X) (P : X → Type 0) (ys : List A) (i : ℕ) (d : A) → i < length ys → Each P (map see ys) → P (see (get_or ys i d))
each_at see P [] i d lt h = absurd (omega (arith, lt))
each_at see P (a ∷ ys) zero d lt h = h.0
each_at see P (a ∷ ys) (suc i) d lt h = each_at see P ys i d (omega (arith, lt)) h.1

pub each_take_set : {A X : Type 0} (see : A → X) (P : X → Type 0) (ys : List A) (i : ℕ) (b : A) → i < length ys → Each P (map see (take i ys)) → P (see b) → Each P (map see (take (i + 1) (set ys i b)))
each_take_set {A} see P ys i b lt h k = subst (λ (n : ℕ). Each P (map see (take n (set ys i b)))) (sym (add-one i)) (go ys i lt h)
  where
    go : (bs : List A) (j : ℕ) → j < length bs → Each P (map see (take j bs)) → Each P (map see (take (suc j) (set bs j b)))
    go [] j l hs = absurd (omega (arith, l))
    go (c ∷ bs) zero l hs = (k, tt)
    go (c ∷ bs) (suc j) l hs = (hs.0, go bs j (omega (arith, l)) hs.1)
