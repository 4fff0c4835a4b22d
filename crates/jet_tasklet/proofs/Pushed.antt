-- How many items all outputs were sent.
use Rattle.std.proofs.Common.{◌≡◌, ℕ, zero, suc, ◌+◌, ◌<◌, ◌≤◌, Bool, true, false, ◌||◌, List, [], ◌∷◌, map, length, get_or, set, refl, ◌∙◌, arith}
use Rattle.std.specs.Prelude.{sum_by, Result, Ok, Err, IfOk}
use Rattle.jet_router.proofs.Counting.{sum_first}
use Rattle.jet_router.specs.Router as router
use Rattle.jet_tasklet.specs.Outputs.{OutputView, ready, sent_count, Says}

-- one element in the place of another
pub sum_set : {A X : Type 0} (see : A → X) (f : X → ℕ) (ys : List A) (i : ℕ) (b d : A) → i < length ys → sum_by f (map see (set ys i b)) + f (see (get_or ys i d)) ≡ sum_by f (map see ys) + f (see b)
sum_set see f [] i b d lt = absurd (omega (arith, lt))
sum_set see f (a ∷ ys) zero b d lt =
    let new = sum_first f (see b) (map see ys) in
    let old = sum_first f (see a) (map see ys) in
    omega (arith, new, old)
sum_set see f (a ∷ ys) (suc i) b d lt =
    let new = sum_first f (see a) (map see (set ys i b)) in
    let old = sum_first f (see a) (map see ys) in
    let rest = sum_set see f ys i b d (omega (arith, lt)) in
    omega (arith, new, old, rest)

pub count_ready : (os : List OutputView) → sent_count (map (λ (o : OutputView). ready o.router) os) ≡ sent_count os
count_ready [] = refl
count_ready (o ∷ os) =
    let f : OutputView → ℕ = λ o. router.sent_count o.router in
    let new = sum_first f (ready o.router) (map (λ (o : OutputView). ready o.router) os) in
    let old = sum_first f o os in
    let rest = count_ready os in
    omega (arith, new, old, rest)

-- a count never falls
pub says_le : (p : Bool) (m n : ℕ) → Says p m n → m ≤ n
says_le true m n h = let lt : m < n = h in omega (arith, lt)
says_le false m n h = let is : n ≡ m = h in omega (arith, is)

-- two answers, one after the other
pub says_or : (p q : Bool) (l m n : ℕ) → Says p l m → Says q m n → Says (p || q) l n
says_or true q l m n first second = let lt : l < m = first in let le = says_le q m n second in omega (arith, lt, le)
says_or false true l m n first second = let is : m ≡ l = first in let lt : m < n = second in omega (arith, is, lt)
says_or false false l m n first second = second ∙ first

-- the answer of one part of a sum
pub says_part : (q : Bool) (a b m n : ℕ) → Says q a b → n + a ≡ m + b → Says q m n
says_part true a b m n h sum = let lt : a < b = h in omega (arith, lt, sum)
says_part false a b m n h sum = let is : b ≡ a = h in omega (arith, is, sum)

pub says_ok : {E : Type 0} (r : Result Bool E) (m n : ℕ) (q : Bool) → r ≡ Ok q → IfOk r (λ p. Says p m n) → m ≤ n
says_ok (Ok p) m n q is h = says_le p m n h
says_ok (Err e) m n q is h = absurd (cc)
