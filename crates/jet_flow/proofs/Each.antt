-- What is true of each element, through the ways in which lists are made.
use Rattle.std.proofs.Common.{ℕ, zero, suc, ◌+◌, ◌≤◌, List, [], ◌∷◌, ◌++◌, Bool, true, false, cond, map, filter, arith}
use Rattle.std.specs.Prelude.{max, fold, take, filter_map, Option, Some, None}
use Rattle.std.specs.List.{AllByRecursion, flat_map, enumerate_from, cons_option}
use Rattle.std.proofs.Math.Nat.{le-max_left, le-max_right}

pub each_append : {X : Type 0} (P : X → Type 0) (xs ys : List X) → AllByRecursion P xs → AllByRecursion P ys → AllByRecursion P (xs ++ ys)
each_append P [] ys h k = k
each_append P (x ∷ xs) ys h k = (h.0, each_append P xs ys h.1 k)

pub each_map : {X Y : Type 0} (P : X → Type 0) (Q : Y → Type 0) (f : X → Y) → ((x : X) → P x → Q (f x)) → (xs : List X) → AllByRecursion P xs → AllByRecursion Q (map f xs)
each_map P Q f keeps [] h = tt
each_map P Q f keeps (x ∷ xs) h = (keeps x h.0, each_map P Q f keeps xs h.1)

pub each_flat_map : {X Y : Type 0} (P : X → Type 0) (Q : Y → Type 0) (f : X → List Y) → ((x : X) → P x → AllByRecursion Q (f x)) → (xs : List X) → AllByRecursion P xs → AllByRecursion Q (flat_map f xs)
each_flat_map P Q f keeps [] h = tt
each_flat_map P Q f keeps (x ∷ xs) h = each_append Q (f x) (flat_map f xs) (keeps x h.0) (each_flat_map P Q f keeps xs h.1)

each_if : {X : Type 0} (P : X → Type 0) (x : X) (xs : List X) (b : Bool) → P x → AllByRecursion P xs → AllByRecursion P (cond b (x ∷ xs) xs)
each_if P x xs true h k = (h, k)
each_if P x xs false h k = k

pub each_filter : {X : Type 0} (P : X → Type 0) (p : X → Bool) (xs : List X) → AllByRecursion P xs → AllByRecursion P (filter p xs)
each_filter P p [] h = tt
each_filter P p (x ∷ xs) h = each_if P x (filter p xs) (p x) h.0 (each_filter P p xs h.1)

pub each_weaker : {X : Type 0} (P Q : X → Type 0) → ((x : X) → P x → Q x) → (xs : List X) → AllByRecursion P xs → AllByRecursion Q xs
each_weaker P Q keeps [] h = tt
each_weaker P Q keeps (x ∷ xs) h = (keeps x h.0, each_weaker P Q keeps xs h.1)

-- what is true of everything
pub each_of : {X : Type 0} (P : X → Type 0) → ((x : X) → P x) → (xs : List X) → AllByRecursion P xs
each_of P all [] = tt
each_of P all (x ∷ xs) = (all x, each_of P all xs)

-- ---- the greatest of some numbers

start_is_below : (a : ℕ) (xs : List ℕ) → a ≤ fold max a xs
start_is_below a [] = omega arith
start_is_below a (x ∷ xs) = omega (arith, le-max_left a x, start_is_below (max a x) xs)

pub each_below : (a : ℕ) (xs : List ℕ) → AllByRecursion (λ x. x ≤ fold max a xs) xs
each_below a [] = tt
each_below a (x ∷ xs) = (omega (arith, le-max_right a x, start_is_below (max a x) xs), each_below (max a x) xs)

-- ---- what some of the elements give

-- what is said of the value, if there is one
abbrev pub IfThere : {Y : Type 0} → (Y → Type 0) → Option Y → Type 0
IfThere P None = Unit {0}
IfThere P (Some y) = P y

each_there : {Y : Type 0} (P : Y → Type 0) (o : Option Y) (ys : List Y) → IfThere P o → AllByRecursion P ys → AllByRecursion P (cons_option o ys)
each_there P None ys h k = k
each_there P (Some y) ys h k = (h, k)

pub each_filter_map : {X Y : Type 0} (P : X → Type 0) (Q : Y → Type 0) (f : X → Option Y) → ((x : X) → P x → IfThere Q (f x)) → (xs : List X) → AllByRecursion P xs → AllByRecursion Q (filter_map f xs)
each_filter_map P Q f keeps [] h = tt
each_filter_map P Q f keeps (x ∷ xs) h = each_there Q (f x) (filter_map f xs) (keeps x h.0) (each_filter_map P Q f keeps xs h.1)

pub each_take : {X : Type 0} (P : X → Type 0) (n : ℕ) (xs : List X) → AllByRecursion P xs → AllByRecursion P (take n xs)
each_take P zero xs h = tt
each_take P (suc n) [] h = tt
each_take P (suc n) (x ∷ xs) h = (h.0, each_take P n xs h.1)

pub each_numbered : {X : Type 0} (P : X → Type 0) (n : ℕ) (xs : List X) → AllByRecursion P xs → AllByRecursion (λ p. P p.1) (enumerate_from n xs)
each_numbered P n [] h = tt
each_numbered P n (x ∷ xs) h = (h.0, each_numbered P (n + 1) xs h.1)
