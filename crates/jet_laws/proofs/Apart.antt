-- Events can be told apart, so that lists that hold the same events, each as often, are permutations of one another.
use Rattle.std.proofs.Common.{◌≡◌, ℕ, Bool, true, false, ◌&&◌, ℤ, List, [], ◌∷◌, refl, ap, ◌∙◌, arith, rules}
use Rattle.std.specs.Prelude.{int_le, ◌==◌}
use Rattle.std.proofs.lemmas.Int.{ints}
use Rattle.jet_items.proofs.Bags.{SameBag-from_permutation, SameBag-to_permutation}
use Rattle.jet_items.specs.Values.{EventValue, LateValue}
use Rattle.jet_laws.specs.Bags.{EventsAsBags, LatesAsBags}

both : (a b : Bool) → (a && b) ≡ true → (a ≡ true) × (b ≡ true)
both true b h = (refl, h)
both false b h = absurd (cc h)

and_true : (a b : Bool) → a ≡ true → b ≡ true → (a && b) ≡ true
and_true a b h k = ap (λ (x : Bool). x && b) h ∙ k

abbrev all_same : {X : Type 0} → (X → X → Bool) → List X → List X → Bool
all_same eq [] [] = true
all_same eq [] (y ∷ ys) = false
all_same eq (x ∷ xs) [] = false
all_same eq (x ∷ xs) (y ∷ ys) = eq x y && all_same eq xs ys

all_same-sound : {X : Type 0} (eq : X → X → Bool) → ((a b : X) → eq a b ≡ true → a ≡ b) → (xs ys : List X) → all_same eq xs ys ≡ true → xs ≡ ys
all_same-sound eq sound [] [] h = refl
all_same-sound eq sound [] (y ∷ ys) h = absurd (cc h)
all_same-sound eq sound (x ∷ xs) [] h = absurd (cc h)
all_same-sound {X} eq sound (x ∷ xs) (y ∷ ys) h =
    let parts = both (eq x y) (all_same eq xs ys) h in
    ap (λ (z : X). z ∷ xs) (sound x y parts.0) ∙ ap (λ (zs : List X). y ∷ zs) (all_same-sound eq sound xs ys parts.1)

all_same-refl : {X : Type 0} (eq : X → X → Bool) → ((a : X) → eq a a ≡ true) → (xs : List X) → all_same eq xs xs ≡ true
all_same-refl eq same [] = refl
all_same-refl eq same (x ∷ xs) = and_true (eq x x) (all_same eq xs xs) (same x) (all_same-refl eq same xs)

int_same : ℤ → ℤ → Bool
int_same a b = int_le a b && int_le b a

int_same-sound : (a b : ℤ) → int_same a b ≡ true → a ≡ b
unfolding int_same
int_same-sound a b h = let parts = both (int_le a b) (int_le b a) h in grind (arith, ints, rules, parts.0, parts.1)

int_same-refl : (a : ℤ) → int_same a a ≡ true
unfolding int_same
int_same-refl a = and_true (int_le a a) (int_le a a) (grind (arith, ints, rules)) (grind (arith, ints, rules))

nat_same : (a b : ℕ) → (a == b) ≡ true → a ≡ b
nat_same a b h = grind (arith, h)

nat_refl : (a : ℕ) → (a == a) ≡ true
nat_refl a = grind arith

pub event_same : EventValue → EventValue → Bool
event_same a b = (a.part == b.part) && ((a.line == b.line) && (int_same a.ts b.ts && (all_same ◌==◌ a.key b.key && all_same int_same a.v b.v)))

event_is : (a b : EventValue) → a.part ≡ b.part → a.line ≡ b.line → a.ts ≡ b.ts → a.key ≡ b.key → a.v ≡ b.v → a ≡ b
event_is a b part line ts key v =
    ap (λ (x : ℕ). let e : EventValue = record { part = x; line = a.line; ts = a.ts; key = a.key; v = a.v } in e) part
    ∙ ap (λ (x : ℕ). let e : EventValue = record { part = b.part; line = x; ts = a.ts; key = a.key; v = a.v } in e) line
    ∙ ap (λ (x : ℤ). let e : EventValue = record { part = b.part; line = b.line; ts = x; key = a.key; v = a.v } in e) ts
    ∙ ap (λ (x : List ℕ). let e : EventValue = record { part = b.part; line = b.line; ts = b.ts; key = x; v = a.v } in e) key
    ∙ ap (λ (x : List ℤ). let e : EventValue = record { part = b.part; line = b.line; ts = b.ts; key = b.key; v = x } in e) v

pub event_same-sound : (a b : EventValue) → event_same a b ≡ true → a ≡ b
unfolding event_same
event_same-sound a b h =
    let one = both (a.part == b.part) _ h in
    let two = both (a.line == b.line) _ one.1 in
    let three = both (int_same a.ts b.ts) _ two.1 in
    let four = both (all_same ◌==◌ a.key b.key) _ three.1 in
    event_is a b (nat_same a.part b.part one.0) (nat_same a.line b.line two.0) (int_same-sound a.ts b.ts three.0) (all_same-sound ◌==◌ nat_same a.key b.key four.0) (all_same-sound int_same int_same-sound a.v b.v four.1)

pub event_same-refl : (a : EventValue) → event_same a a ≡ true
unfolding event_same
event_same-refl a =
    and_true (a.part == a.part) _ (nat_refl a.part) (and_true (a.line == a.line) _ (nat_refl a.line) (and_true (int_same a.ts a.ts) _ (int_same-refl a.ts)
    (and_true (all_same ◌==◌ a.key a.key) _ (all_same-refl ◌==◌ nat_refl a.key) (all_same-refl int_same int_same-refl a.v))))

late_same : LateValue → LateValue → Bool
late_same a b = (a.vertex == b.vertex) && event_same a.event b.event

late_same-sound : (a b : LateValue) → late_same a b ≡ true → a ≡ b
unfolding late_same
late_same-sound a b h =
    let parts = both (a.vertex == b.vertex) (event_same a.event b.event) h in
    ap (λ (x : ℕ). let l : LateValue = record { vertex = x; event = a.event } in l) (nat_same a.vertex b.vertex parts.0)
    ∙ ap (λ (x : EventValue). let l : LateValue = record { vertex = b.vertex; event = x } in l) (event_same-sound a.event b.event parts.1)

late_same-refl : (a : LateValue) → late_same a a ≡ true
unfolding late_same
late_same-refl a = and_true (a.vertex == a.vertex) (event_same a.event a.event) (nat_refl a.vertex) (event_same-refl a.event)

pub events_as_bags : EventsAsBags
events_as_bags xs ys = (SameBag-to_permutation event_same event_same-sound event_same-refl xs ys, SameBag-from_permutation)

pub lates_as_bags : LatesAsBags
lates_as_bags xs ys = (SameBag-to_permutation late_same late_same-sound late_same-refl xs ys, SameBag-from_permutation)
