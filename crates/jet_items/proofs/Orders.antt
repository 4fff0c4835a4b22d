-- Lists whose order matters, in parts and together.
use Rattle.std.proofs.Common.{ℕ, Bool, List, [], ◌∷◌, ◌++◌}
use Rattle.std.specs.List.{flat_map}
use Rattle.jet_items.specs.declared.item.Item.{Item}
use Rattle.jet_items.specs.Order.{Each, EachPair, Sound, SoundAfter, LateIsBehind, Closed, ClosedAfter}

pub Each-append : {X : Type 0} (P : X → Type 0) (xs ys : List X) → Each P xs → Each P ys → Each P (xs ++ ys)
Each-append P [] ys h k = k
Each-append P (x ∷ xs) ys h k = (h.0, Each-append P xs ys h.1 k)

pub Each-front : {X : Type 0} (P : X → Type 0) (xs ys : List X) → Each P (xs ++ ys) → Each P xs
Each-front P [] ys h = tt
Each-front P (x ∷ xs) ys h = (h.0, Each-front P xs ys h.1)

pub Each-back : {X : Type 0} (P : X → Type 0) (xs ys : List X) → Each P (xs ++ ys) → Each P ys
Each-back P [] ys h = h
Each-back P (x ∷ xs) ys h = Each-back P xs ys h.1

pub Each-more : {X : Type 0} (P Q : X → Type 0) → ((x : X) → P x → Q x) → (xs : List X) → Each P xs → Each Q xs
Each-more P Q f [] h = tt
Each-more P Q f (x ∷ xs) h = (f x h.0, Each-more P Q f xs h.1)

pub EachPair-append : {X : Type 0} (R : X → X → Type 0) (xs ys : List X) → EachPair R xs → EachPair R ys → Each (λ x. Each (R x) ys) xs → EachPair R (xs ++ ys)
EachPair-append R [] ys h k m = k
EachPair-append R (x ∷ xs) ys h k m = (Each-append (R x) xs ys h.0 m.0, EachPair-append R xs ys h.1 k m.1)

pub EachPair-front : {X : Type 0} (R : X → X → Type 0) (xs ys : List X) → EachPair R (xs ++ ys) → EachPair R xs
EachPair-front R [] ys h = tt
EachPair-front R (x ∷ xs) ys h = (Each-front (R x) xs ys h.0, EachPair-front R xs ys h.1)

pub EachPair-back : {X : Type 0} (R : X → X → Type 0) (xs ys : List X) → EachPair R (xs ++ ys) → EachPair R ys
EachPair-back R [] ys h = h
EachPair-back R (x ∷ xs) ys h = EachPair-back R xs ys h.1

pub EachPair-across : {X : Type 0} (R : X → X → Type 0) (xs ys : List X) → EachPair R (xs ++ ys) → Each (λ x. Each (R x) ys) xs
EachPair-across R [] ys h = tt
EachPair-across R (x ∷ xs) ys h = (Each-back (R x) xs ys h.0, EachPair-across R xs ys h.1)

-- what stands for xs may stand for ys, wherever R is asked of them
pub record Shadows {X : Type 0} (R : X → X → Type 0) (xs ys : List X) : Type 0 where
  pub inside : EachPair R ys → EachPair R xs
  pub later : (z : X) → Each (R z) ys → Each (R z) xs
  pub earlier : (zs : List X) → Each (λ y. Each (R y) zs) ys → Each (λ x. Each (R x) zs) xs

pub Shadows-refl : {X : Type 0} (R : X → X → Type 0) (xs : List X) → Shadows R xs xs
Shadows-refl R xs = record { inside = λ h. h; later = λ z h. h; earlier = λ zs h. h }

pub Shadows-nil : {X : Type 0} (R : X → X → Type 0) (ys : List X) → Shadows R [] ys
Shadows-nil R ys = record { inside = λ h. tt; later = λ z h. tt; earlier = λ zs h. tt }

later_all : {X E : Type 0} (R : X → X → Type 0) (f g : E → List X) → ((e : E) → Shadows R (f e) (g e)) → (z : X) (es : List E) → Each (R z) (flat_map g es) → Each (R z) (flat_map f es)
later_all R f g s z [] h = tt
later_all R f g s z (e ∷ es) h =
    Each-append (R z) (f e) (flat_map f es) ((s e).later z (Each-front (R z) (g e) (flat_map g es) h)) (later_all R f g s z es (Each-back (R z) (g e) (flat_map g es) h))

pub EachPair-through : {X E : Type 0} (R : X → X → Type 0) (f g : E → List X) → ((e : E) → Shadows R (f e) (g e)) → (es : List E) → EachPair R (flat_map g es) → EachPair R (flat_map f es)
EachPair-through R f g s [] h = tt
EachPair-through {X} R f g s (e ∷ es) h =
    EachPair-append R (f e) (flat_map f es)
    ((s e).inside (EachPair-front R (g e) (flat_map g es) h))
    (EachPair-through R f g s es (EachPair-back R (g e) (flat_map g es) h))
    ((s e).earlier (flat_map f es) (Each-more (λ (y : X). Each (R y) (flat_map g es)) (λ (y : X). Each (R y) (flat_map f es)) (λ y k. later_all R f g s y es k) (g e) (EachPair-across R (g e) (flat_map g es) h)))

pub Each-through : {X E : Type 0} (P : X → Type 0) (f g : E → List X) → ((e : E) → Each P (g e) → Each P (f e)) → (es : List E) → Each P (flat_map g es) → Each P (flat_map f es)
Each-through P f g s [] h = tt
Each-through P f g s (e ∷ es) h =
    Each-append P (f e) (flat_map f es) (s e (Each-front P (g e) (flat_map g es) h)) (Each-through P f g s es (Each-back P (g e) (flat_map g es) h))

-- ---- what holds of a list and more holds of the list
pub Sound-front : (behind : ℕ → ℕ → Bool) (xs ys : List Item) → Sound behind (xs ++ ys) → Sound behind xs
Sound-front behind xs ys s = record { after = EachPair-front (SoundAfter behind) xs ys s.after; lates = Each-front (LateIsBehind behind) xs ys s.lates }

pub Closed-front : (xs ys : List Item) → Closed (xs ++ ys) → Closed xs
Closed-front xs ys s = record { after = EachPair-front ClosedAfter xs ys s.after }
