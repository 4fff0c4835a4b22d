-- Joining is a commutative monoid, so totals go by bags.
use Rattle.std.proofs.Common.{◌≡◌, ℕ, ◌+◌, ◌%◌, ◌^◌, ◌<◌, Bool, true, false, cond, ◌&&◌, ◌==◌, List, [], ◌∷◌, ◌++◌, map, sum_by, refl, sym, ◌∙◌, ap, subst, arith, ℤ, ◌+ℤ◌, Option, Some, None}
use Rattle.std.specs.Int.{int_wrap, int_min, int_max, w128}
use Rattle.std.specs.Ordering.{int_eq}
use Rattle.std.specs.List.{flat_map}
use Rattle.std.proofs.lemmas.Int.{ints, clamps, int_wrap-add_left, int_wrap-add_right}
use Rattle.std.proofs.lemmas.Bool.Decides.{Decides-eqb, Decides-int_eq}
use Rattle.std.proofs.lemmas.List.Sums.{sum_by-cons, sum_by-append}
use Rattle.jet_items.specs.Bag.{SameBag}
use Rattle.jet_items.specs.Values.{AccValue}
use Rattle.jet_items.specs.Totals.{joined, both, total}
use Rattle.jet_items.proofs.Bags.{SameBag-map}

add_comm : (a b : ℤ) → a +ℤ b ≡ b +ℤ a
add_comm a b = omega (arith, ints)

add_assoc : (a b c : ℤ) → (a +ℤ b) +ℤ c ≡ a +ℤ (b +ℤ c)
add_assoc a b c = omega (arith, ints)

min_comm : (a b : ℤ) → int_min a b ≡ int_min b a
min_comm a b = omega (arith, ints, clamps)

max_comm : (a b : ℤ) → int_max a b ≡ int_max b a
max_comm a b = omega (arith, ints, clamps)

pub min_assoc : (a b c : ℤ) → int_min (int_min a b) c ≡ int_min a (int_min b c)
min_assoc a b c = omega (arith, ints, clamps)

pub max_assoc : (a b c : ℤ) → int_max (int_max a b) c ≡ int_max a (int_max b c)
max_assoc a b c = omega (arith, ints, clamps)

pub same_acc : (c1 c2 : ℕ) (s1 s2 l1 l2 g1 g2 : ℤ) → c1 ≡ c2 → s1 ≡ s2 → l1 ≡ l2 → g1 ≡ g2 → let a : AccValue = record { count = c1; sum = s1; min = l1; max = g1 } in a ≡ record { count = c2; sum = s2; min = l2; max = g2 }
same_acc c1 c2 s1 s2 l1 l2 g1 g2 p q r s = cc

pub joined_comm : (a b : AccValue) → joined a b ≡ joined b a
joined_comm a b =
    same_acc _ _ _ _ _ _ _ _ (ap (λ n. n % 2 ^ 64) (omega arith)) (ap (int_wrap w128) (add_comm a.sum b.sum)) (min_comm a.min b.min) (max_comm a.max b.max)

wrapped : (a b c : ℤ) → int_wrap w128 (int_wrap w128 (a +ℤ b) +ℤ c) ≡ int_wrap w128 (a +ℤ int_wrap w128 (b +ℤ c))
wrapped a b c = int_wrap-add_left w128 (a +ℤ b) c ∙ (ap (int_wrap w128) (add_assoc a b c) ∙ sym (int_wrap-add_right w128 a (b +ℤ c)))

counted : (a b c : ℕ) → ((a + b) % 2 ^ 64 + c) % 2 ^ 64 ≡ (a + (b + c) % 2 ^ 64) % 2 ^ 64
counted a b c = omega arith

pub joined_assoc : (a b c : AccValue) → joined (joined a b) c ≡ joined a (joined b c)
joined_assoc a b c =
    same_acc _ _ _ _ _ _ _ _ (counted a.count b.count c.count) (wrapped a.sum b.sum c.sum) (min_assoc a.min b.min c.min) (max_assoc a.max b.max c.max)

pub both_none : (a : Option AccValue) → both a None ≡ a
both_none None = refl
both_none (Some a) = refl

pub both_comm : (a b : Option AccValue) → both a b ≡ both b a
both_comm None b = sym (both_none b)
both_comm (Some a) None = refl
both_comm (Some a) (Some b) = ap Some (joined_comm a b)

pub both_assoc : (a b c : Option AccValue) → both (both a b) c ≡ both a (both b c)
both_assoc None b c = refl
both_assoc (Some a) None c = refl
both_assoc (Some a) (Some b) None = refl
both_assoc (Some a) (Some b) (Some c) = ap Some (joined_assoc a b c)

pub both_swap : (a b c : Option AccValue) → both a (both b c) ≡ both b (both a c)
both_swap a b c = sym (both_assoc a b c) ∙ (ap (λ x. both x c) (both_comm a b) ∙ both_assoc b a c)

pub both_across : (a b c d : Option AccValue) → both (both a b) (both c d) ≡ both (both a c) (both b d)
both_across a b c d = both_assoc a b (both c d) ∙ (ap (both a) (both_swap b c d) ∙ sym (both_assoc a c (both b d)))

-- none is joined from nothing alone
pub both_is_none : (a b : Option AccValue) → both a b ≡ None → (a ≡ None) × (b ≡ None)
both_is_none None b h = (refl, h)
both_is_none (Some a) None h = absurd (cc)
both_is_none (Some a) (Some b) h = absurd (cc)

pub total-append : {X : Type 0} (f : X → Option AccValue) (xs ys : List X) → total f (xs ++ ys) ≡ both (total f xs) (total f ys)
total-append f [] ys = refl
total-append f (x ∷ xs) ys = ap (both (f x)) (total-append f xs ys) ∙ sym (both_assoc (f x) (total f xs) (total f ys))

pub total-middle : {X : Type 0} (f : X → Option AccValue) (xs : List X) (x : X) (ys : List X) → total f (xs ++ x ∷ ys) ≡ both (f x) (total f (xs ++ ys))
total-middle f xs x ys = total-append f xs (x ∷ ys) ∙ (both_swap (total f xs) (f x) (total f ys) ∙ ap (both (f x)) (sym (total-append f xs ys)))

pub total-both : {X : Type 0} (f g : X → Option AccValue) (xs : List X) → total (λ x. both (f x) (g x)) xs ≡ both (total f xs) (total g xs)
total-both f g [] = refl
total-both f g (x ∷ xs) = ap (both (both (f x) (g x))) (total-both f g xs) ∙ both_across (f x) (g x) (total f xs) (total g xs)

pub total-none : {X : Type 0} (f : X → Option AccValue) → ((x : X) → f x ≡ None) → (xs : List X) → total f xs ≡ None
total-none f h [] = refl
total-none f h (x ∷ xs) = rw (h x) (total-none f h xs)

pub total-same : {X : Type 0} (f g : X → Option AccValue) → ((x : X) → f x ≡ g x) → (xs : List X) → total f xs ≡ total g xs
total-same f g h [] = refl
total-same f g h (x ∷ xs) = rw (h x) (ap (both (g x)) (total-same f g h xs))

pub total-map : {X Y : Type 0} (f : Y → Option AccValue) (g : X → Y) (xs : List X) → total f (map g xs) ≡ total (λ x. f (g x)) xs
total-map f g [] = refl
total-map f g (x ∷ xs) = ap (both (f (g x))) (total-map f g xs)

pub total-flat_map : {X Y : Type 0} (f : Y → Option AccValue) (g : X → List Y) (xs : List X) → total f (flat_map g xs) ≡ total (λ x. total f (g x)) xs
total-flat_map f g [] = refl
total-flat_map f g (x ∷ xs) = total-append f (g x) (flat_map g xs) ∙ ap (both (total f (g x))) (total-flat_map f g xs)

-- ---- the same bag has the same total
-- equality of what is brought, as a test
abbrev share_eq : Option AccValue → Option AccValue → Bool
share_eq None None = true
share_eq None (Some b) = false
share_eq (Some a) None = false
share_eq (Some a) (Some b) = (a.count == b.count) && (int_eq a.sum b.sum && (int_eq a.min b.min && int_eq a.max b.max))

and_parts : (a b : Bool) → (a && b) ≡ true → (a ≡ true) × (b ≡ true)
and_parts true b h = (refl, h)
and_parts false b h = (h, cc)

share_eq-sound : (a b : Option AccValue) → share_eq a b ≡ true → a ≡ b
share_eq-sound None None h = refl
share_eq-sound None (Some b) h = absurd (cc)
share_eq-sound (Some a) None h = absurd (cc)
share_eq-sound (Some a) (Some b) h =
    let p = and_parts (a.count == b.count) (int_eq a.sum b.sum && (int_eq a.min b.min && int_eq a.max b.max)) h in
    let q = and_parts (int_eq a.sum b.sum) (int_eq a.min b.min && int_eq a.max b.max) p.1 in
    let r = and_parts (int_eq a.min b.min) (int_eq a.max b.max) q.1 in
    ap Some (same_acc _ _ _ _ _ _ _ _ ((Decides-eqb a.count b.count).0 p.0) ((Decides-int_eq a.sum b.sum).0 q.0) ((Decides-int_eq a.min b.min).0 r.0) ((Decides-int_eq a.max b.max).0 r.1))

share_eq-same : (a : Option AccValue) → share_eq a a ≡ true
share_eq-same None = refl
share_eq-same (Some a) =
    rw ((Decides-eqb a.count a.count).1 refl) (rw ((Decides-int_eq a.sum a.sum).1 refl) (rw ((Decides-int_eq a.min a.min).1 refl) ((Decides-int_eq a.max a.max).1 refl)))

-- an element that weighs something stands somewhere
found_if : (x y : Option AccValue) (ys : List (Option AccValue)) (b : Bool) → share_eq x y ≡ b → 0 < cond b 1 0 + sum_by (λ z. cond (share_eq x z) 1 0) ys → (0 < sum_by (λ z. cond (share_eq x z) 1 0) ys → (ps : List (Option AccValue)) × (qs : List (Option AccValue)) × (ys ≡ ps ++ x ∷ qs)) → (ps : List (Option AccValue)) × (qs : List (Option AccValue)) × (y ∷ ys ≡ ps ++ x ∷ qs)
found_if x y ys true e h ih = ([], ys, ap (λ (z : Option AccValue). z ∷ ys) (sym (share_eq-sound x y e)))
found_if x y ys false e h ih = let rest = ih (omega (arith, h)) in (y ∷ rest.0, rest.1, ap (λ (zs : List (Option AccValue)). y ∷ zs) rest.2)

found : (x : Option AccValue) (ys : List (Option AccValue)) → 0 < sum_by (λ y. cond (share_eq x y) 1 0) ys → (ps : List (Option AccValue)) × (qs : List (Option AccValue)) × (ys ≡ ps ++ x ∷ qs)
found x [] h = absurd (omega (arith, h))
found x (y ∷ ys) h =
    found_if x y ys (share_eq x y) refl (subst (λ (n : ℕ). 0 < n) (sum_by-cons (λ z. cond (share_eq x z) 1 0) y ys) h) (found x ys)

none_left : (ys : List (Option AccValue)) → sum_by (λ y. 1) ys ≡ 0 → ys ≡ []
none_left [] h = refl
none_left (y ∷ ys) h = absurd (omega (arith, h, sum_by-cons (λ y'. 1) y ys))

drop_middle : {X : Type 0} (x : X) (xs ps qs : List X) → SameBag (x ∷ xs) (ps ++ x ∷ qs) → SameBag xs (ps ++ qs)
drop_middle x xs ps qs h = record { weighs = λ w. omega (arith, h.weighs w, sum_by-cons w x xs, sum_by-append w ps (x ∷ qs), sum_by-append w ps qs, sum_by-cons w x qs) }

shares_total : (xs ys : List (Option AccValue)) → SameBag xs ys → total (λ x. x) xs ≡ total (λ x. x) ys
shares_total [] ys h = rw (none_left ys (sym (h.weighs (λ y. 1)))) refl
shares_total (x ∷ xs) ys h =
    let here : 0 < sum_by (λ y. cond (share_eq x y) 1 0) (x ∷ xs) =
    rw (sum_by-cons (λ y. cond (share_eq x y) 1 0) x xs) (rw (share_eq-same x) (omega arith)) in
    let at = found x ys (subst (λ (n : ℕ). 0 < n) (h.weighs (λ y. cond (share_eq x y) 1 0)) here) in
    let rest : SameBag xs (at.0 ++ at.1) = drop_middle x xs at.0 at.1 (subst (SameBag (x ∷ xs)) at.2 h) in
    let ih : total (λ (z : Option AccValue). z) xs ≡ total (λ (z : Option AccValue). z) (at.0 ++ at.1) = shares_total xs (at.0 ++ at.1) rest in
    rw at.2 (ap (both x) ih ∙ sym (total-middle (λ (z : Option AccValue). z) at.0 x at.1))

pub total-SameBag : {X : Type 0} (f : X → Option AccValue) {xs ys : List X} → SameBag xs ys → total f xs ≡ total f ys
total-SameBag {X} f {xs} {ys} h =
    sym (total-map (λ (z : Option AccValue). z) f xs) ∙ (shares_total (map f xs) (map f ys) (SameBag-map f h) ∙ total-map (λ (z : Option AccValue). z) f ys)
