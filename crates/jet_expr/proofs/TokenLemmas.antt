-- Digits at the front of a text, and their value.
use Rattle.std.proofs.Common.{◌≡◌, ℕ, zero, suc, ◌+◌, ◌*◌, ◌<◌, min, Bool, true, false, List, [], ◌∷◌, length, refl, ap, ◌∙◌, arith, get_or}
use Rattle.std.proofs.lemmas.Bool.{cond_both, leb-true, false≢true}
use Rattle.std.proofs.lemmas.Str.{digit_value_digit}
use Rattle.std.specs.Char.{is_ascii_digit, digit_value}
use Rattle.std.proofs.lemmas.List.Sums.{take_while-cons}
use Rattle.std.specs.List.{list_all, take_while}
use Rattle.std.specs.Prelude.{◌&&◌}

both : (a b : Bool) → a ≡ true → b ≡ true → (a && b) ≡ true
both a b p q = rw (p, q) refl

-- what is taken passes
pub front_passes : (p : ℕ → Bool) (xs : List ℕ) → list_all p (take_while p xs) ≡ true
front_passes p [] = refl
front_passes p (x ∷ xs) =
    ap (list_all p) (take_while-cons p x xs)
    ∙ cond_both (p x) (x ∷ take_while p xs) [] (λ (ys : List ℕ). list_all p ys ≡ true) (λ e. both _ _ e (front_passes p xs)) (λ e. refl)

-- a number that is cut at a bound goes on to one that is cut there
pub cut_more : (most v d : ℕ) → min (suc most) (min (suc most) v * 10 + d) ≡ min (suc most) (v * 10 + d)
cut_more most v d = omega arith

left_of : (a b : Bool) → (a && b) ≡ true → a ≡ true
left_of true b e = refl
left_of false b e = e

right_of : (a b : Bool) → (a && b) ≡ true → b ≡ true
right_of true b e = e
right_of false b e = absurd (false≢true e)

digit_is : (x : ℕ) → is_ascii_digit x ≡ true → digit_value x + 48 ≡ x
digit_is x e = digit_value_digit x (leb-true 48 x (left_of _ _ e), leb-true x 57 (right_of _ _ e))

-- the value of a digit among digits
pub digit_at : (xs : List ℕ) (k : ℕ) → list_all is_ascii_digit xs ≡ true → k < length xs → digit_value (get_or xs k 0) + 48 ≡ get_or xs k 0
digit_at [] k e h = absurd (omega (arith, h))
digit_at (x ∷ xs) zero e h = digit_is x (left_of _ _ e)
digit_at (x ∷ xs) (suc k) e h = digit_at xs k (right_of _ _ e) (omega (arith, h))
