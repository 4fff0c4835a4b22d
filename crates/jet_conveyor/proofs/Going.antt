-- How many queues are not done.
use Rattle.std.proofs.Common.{◌≡◌, ℕ, ◌<◌, ◌-◌, ◌==◌, Bool, true, false, not, cond, List, [], ◌∷◌, length, get_or, set, replicate, count_by, All, refl, ap, sym, ◌∙◌, arith}
use Rattle.std.proofs.lemmas.Bool.{eqb-true}
use Rattle.std.proofs.lemmas.List.Folds.{sum_by-replicate}
use Rattle.std.proofs.lemmas.List.Sums.{sum_by-cons, sum_by-set}
use Rattle.std.proofs.lemmas.List.Elements.{All-nil, All-cons, All-head, All-tail}

-- how much a queue adds to the count
abbrev one : Bool → ℕ
one done = cond (not done) 1 0

pub all_going : (n : ℕ) (ds : List Bool) → ds ≡ replicate n false → n ≡ count_by not ds
all_going n ds is = sym (ap (count_by not) is ∙ (sum_by-replicate one n false ∙ omega arith))

pub some_going : (ds : List Bool) (q n : ℕ) → q < length ds → get_or ds q true ≡ false → n ≡ count_by not ds → 0 < n
some_going ds q n lt going is =
    let set = sum_by-set one ds q true true lt in
    let was : one (get_or ds q true) ≡ 1 = ap one going in
    omega (arith, set, was, is)

pub left_counted : (ds : List Bool) (q : ℕ) (d : Bool) (n m : ℕ) → q < length ds → get_or ds q true ≡ false → n ≡ count_by not ds → m ≡ cond d (n - 1) n → m ≡ count_by not (set ds q d)
left_counted ds q true n m lt going is left =
    let set = sum_by-set one ds q true true lt in
    let was : one (get_or ds q true) ≡ 1 = ap one going in
    omega (arith, set, was, is, left)
left_counted ds q false n m lt going is left =
    let set = sum_by-set one ds q false true lt in
    let was : one (get_or ds q true) ≡ 1 = ap one going in
    omega (arith, set, was, is, left)

none_then : (ds : List Bool) → count_by not ds ≡ 0 → All (λ d. d ≡ true) ds
none_then [] none = All-nil (λ d. d ≡ true)
none_then (true ∷ ds) none = All-cons (λ d. d ≡ true) true ds refl (none_then ds (omega (arith, none, sum_by-cons one true ds)))
none_then (false ∷ ds) none = absurd (omega (arith, none, sum_by-cons one false ds))

then_none : (ds : List Bool) → All (λ d. d ≡ true) ds → count_by not ds ≡ 0
then_none [] all = refl
then_none (d ∷ ds) all =
    let here : one d ≡ 0 = ap one (All-head (λ d. d ≡ true) d ds all) in
    omega (arith, here, sum_by-cons one d ds, then_none ds (All-tail (λ d. d ≡ true) d ds all))

pub none_going : (ds : List Bool) (n : ℕ) → n ≡ count_by not ds → ((n == 0) ≡ true → All (λ d. d ≡ true) ds) × (All (λ d. d ≡ true) ds → (n == 0) ≡ true)
none_going ds n is = (λ yes. none_then ds (sym is ∙ eqb-true n 0 yes), λ all. ap (λ k. k == 0) (is ∙ then_none ds all))
