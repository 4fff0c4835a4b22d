-- Each destination of a partition is one that the output has.
use Rattle.std.proofs.Common.{arith, ◌≡◌, ◌∙◌, ◌+◌, ◌%◌, ◌==◌, ◌<◌, ◌≤◌, ◌∷◌, [], if◌then◌else◌, Bool, true, false, not, ◌&&◌, ◌||◌, ℕ, zero, suc, length, map, nat_lt, ap, refl, subst, add-one}
use Rattle.std.specs.List.{All, flat_map, range_with_len}
use Rattle.std.proofs.lemmas.Bool.Decides.{nat_tests}
use Rattle.std.proofs.lemmas.List.{length-append}
use Rattle.std.proofs.lemmas.List.Elements.{All-nil, All-cons}
use Rattle.jet_layout.specs.declared.end.EdgeEnd.{EdgeEnd}
use Rattle.jet_layout.specs.declared.joint.Joint.{Joint}
use Rattle.jet_layout.specs.declared.task.Link.{Link}
use Rattle.jet_layout.specs.Destinations.{destination_count, HasOutputs}
use Rattle.jet_layout.specs.Joints.{count}
use Rattle.jet_layout.specs.Links.{link_between, links_from}
use Rattle.jet_layout.specs.Tables.{destination, instance_of, place_among, table}
use Rattle.jet_layout.proofs.Ranges.{flat_map_more}

filled : (n : ℕ) → 0 < n → (n == 0) ≡ false
filled n h = grind (arith, nat_tests)

one_if : {X : Type 0} (a b c : Bool) (x : X) → b ≡ false → c ≡ false → length (if a || (b || c) then [] else (x ∷ [])) ≡ (if a then 0 else 1)
one_if true b c x p q = refl
one_if false true c x p q = absurd (cc p)
one_if false false true x p q = absurd (cc q)
one_if false false false x p q = refl

abbrev from_to : Joint → ℕ → ℕ → Link
from_to j m k = record { edge = j.edge; from = m; to = k }

-- there is a link to each other member with consumers
pub link_is : (j : Joint) (m k : ℕ) → 0 < count j.from m → 0 < count j.to k → length (link_between j m k) ≡ (if k == m then 0 else 1)
link_is j m k from to = one_if (k == m) (count j.from m == 0) (count j.to k == 0) (from_to j m k) (filled (count j.from m) from) (filled (count j.to k) to)

one_more : (L N m n : ℕ) → L + (if nat_lt m n then 1 else 0) ≡ n → N ≡ L + (if n == m then 0 else 1) → N + (if nat_lt m (n + 1) then 1 else 0) ≡ n + 1
one_more L N m n h k = grind (arith, nat_tests)

-- the links to the members below n, where all have consumers
links_below : (j : Joint) (m : ℕ) → 0 < count j.from m → ((k : ℕ) → 0 < count j.to k) → (n : ℕ) → length (flat_map (link_between j m) (range_with_len 0 n)) + (if nat_lt m n then 1 else 0) ≡ n
links_below j m from to zero = grind (arith, nat_tests)
links_below j m from to (suc n) =
    let counted : length (flat_map (link_between j m) (range_with_len 0 (n + 1))) ≡ length (flat_map (link_between j m) (range_with_len 0 n)) + (if n == m then 0 else 1) =
    ap length (flat_map_more (link_between j m) n) ∙ length-append (flat_map (link_between j m) (range_with_len 0 n)) (link_between j m n) ∙ ap (λ l. length (flat_map (link_between j m) (range_with_len 0 n)) + l) (link_is j m n from (to n)) in
    subst (λ k. length (flat_map (link_between j m) (range_with_len 0 k)) + (if nat_lt m k then 1 else 0) ≡ k) (add-one n)
    (one_more (length (flat_map (link_between j m) (range_with_len 0 n))) (length (flat_map (link_between j m) (range_with_len 0 (n + 1)))) m n (links_below j m from to n) counted)

place_below : (members m k L : ℕ) → m < members → k < members → (k == m) ≡ false → L + (if nat_lt m members then 1 else 0) ≡ members → place_among m k < L
place_below members m k L a b c d = grind (arith, nat_tests)

-- a link to member 0
pub link_to_first : (j : Joint) (m members : ℕ) → 0 < count j.from m → 0 < count j.to 0 → 0 < m → 0 < members → 0 < length (links_from j members m)
link_to_first j m zero from to other some = absurd (omega (arith, some))
link_to_first j m (suc n) from to other some =
    let one = link_is j m 0 from to in
    let apart : (0 == m) ≡ false = grind (arith, nat_tests) in
    let is : length (link_between j m 0) ≡ 1 = one ∙ ap (λ b. if b then 0 else 1) apart in
    let both = length-append (link_between j m 0) (flat_map (link_between j m) (range_with_len (0 + 1) n)) in
    omega (arith, is, both)

below_by : (single across away : Bool) (par place inst c L : ℕ)
    → (single ≡ true → 0 < c + (if across then L else 0))
    → (single ≡ false → c ≡ par)
    → (single ≡ false → across ≡ true → away ≡ true → place < L)
    → inst < par
    → (if single then 0 else if across && away then par + place else inst) < c + (if across then L else 0)
below_by true across away par place inst c L some same far near = some refl
below_by false true true par place inst c L some same far near = let a = same refl in let b = far refl refl refl in omega (arith, a, b)
below_by false true false par place inst c L some same far near = let a = same refl in omega (arith, a, near)
below_by false false away par place inst c L some same far near = let a = same refl in omega (arith, a, near)

not_is : (b : Bool) → not b ≡ true → b ≡ false
not_is true h = absurd (cc h)
not_is false h = refl

-- where each member has as many consumers, and where there is one in all
pub each : (e : EdgeEnd) (m : ℕ) → e.single ≡ false → count e m ≡ e.parallelism
each e m s = ap (λ b. if b then (if m == 0 then 1 else 0) else e.parallelism) s

pub first : (e : EdgeEnd) → e.single ≡ true → count e 0 ≡ 1
first e s = ap (λ b. if b then (if 0 == 0 then 1 else 0) else e.parallelism) s

some_single : (members : ℕ) (j : Joint) (across : Bool) (m : ℕ) → 0 < members → HasOutputs j across m → j.to.single ≡ true → 0 < count j.to m + (if across then length (links_from j members m) else 0)
some_single members j across zero some has s = let one = first j.to s in omega (arith, one)
some_single members j true (suc m) some has s = let one = first j.to s in let far = link_to_first j (suc m) members has (omega (arith, one)) (omega arith) some in omega (arith, far)
some_single members j false (suc m) some has s = omega (arith, has)

pub destination_below : (members : ℕ) (j : Joint) (across : Bool) (m p : ℕ) → m < members → 1 ≤ j.to.parallelism → HasOutputs j across m → destination members j across m p < destination_count members j across m
destination_below members j across m p inside some has =
    let k : ℕ = p % members in
    let owner : k < members = omega (arith, inside) in
    let near : instance_of members j.to.parallelism p < j.to.parallelism = omega (arith, some) in
    below_by j.to.single across (not (k == m)) j.to.parallelism (place_among m k) (instance_of members j.to.parallelism p) (count j.to m) (length (links_from j members m))
    (some_single members j across m (omega (arith, inside)) has)
    (each j.to m)
    (λ s a f.
    let from : 0 < count j.from m = subst (λ (b : Bool). HasOutputs j b m) a has in
    let to = λ (q : ℕ). let same = each j.to q s in let q_some : 0 < count j.to q = omega (arith, same, some) in q_some in
    place_below members m k (length (links_from j members m)) inside owner (not_is (k == m) f) (links_below j m from to members))
    near

all_below : (f : ℕ → ℕ) (bound : ℕ) → ((p : ℕ) → f p < bound) → (a n : ℕ) → All (λ d. d < bound) (map f (range_with_len a n))
all_below f bound h a zero = All-nil (λ d. d < bound)
all_below f bound h a (suc n) = All-cons (λ d. d < bound) (f a) (map f (range_with_len (a + 1) n)) (h a) (all_below f bound h (a + 1) n)

pub table_below : (members : ℕ) (j : Joint) (across : Bool) (m : ℕ) → m < members → 1 ≤ j.to.parallelism → HasOutputs j across m → All (λ d. d < destination_count members j across m) (table members j across m)
table_below members j across m inside some has = all_below (destination members j across m) (destination_count members j across m) (λ p. destination_below members j across m p inside some has) 0 271
