-- Counts and sums of a list by its parts.
use Rattle.std.proofs.Common.{◌≡◌, ℕ, ◌+◌, Bool, List, [], ◌∷◌, ◌++◌, ap, ◌∙◌, arith}
use Rattle.std.specs.Prelude.{cond, count_by, sum_by}
use Rattle.std.proofs.lemmas.List.Sums.{sum_by-append}

pub zero_and : (n : ℕ) → 0 + n ≡ n
zero_and n = omega arith

pub sum_first : {X : Type 0} (f : X → ℕ) (x : X) (xs : List X) → sum_by f (x ∷ xs) ≡ f x + sum_by f xs
sum_first f x xs = sum_by-append f (x ∷ []) xs ∙ ap (λ (n : ℕ). n + sum_by f xs) (zero_and (f x))

pub sum_last : {X : Type 0} (f : X → ℕ) (xs : List X) (x : X) → sum_by f (xs ++ x ∷ []) ≡ sum_by f xs + f x
sum_last f xs x = sum_by-append f xs (x ∷ []) ∙ ap (λ (n : ℕ). sum_by f xs + n) (zero_and (f x))

pub count_first : {X : Type 0} (p : X → Bool) (x : X) (xs : List X) → count_by p (x ∷ xs) ≡ cond (p x) 1 0 + count_by p xs
count_first p x xs = sum_first (λ y. cond (p y) 1 0) x xs

pub count_last : {X : Type 0} (p : X → Bool) (xs : List X) (x : X) → count_by p (xs ++ x ∷ []) ≡ count_by p xs + cond (p x) 1 0
count_last p xs x = sum_last (λ y. cond (p y) 1 0) xs x
