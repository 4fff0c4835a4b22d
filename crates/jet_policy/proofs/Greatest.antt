-- The greatest of times and one more.
use Rattle.std.proofs.Common.{◌≡◌, ℤ, List, [], ◌∷◌, ◌++◌, Some, refl, ap}
use Rattle.std.specs.List.{reduce, fold}
use Rattle.std.specs.Int.{int_max}
use Rattle.jet_policy.specs.MarkerValue.{greatest_with}

fold_push : (a : ℤ) (xs : List ℤ) (t : ℤ) → fold int_max a (xs ++ t ∷ []) ≡ int_max (fold int_max a xs) t
fold_push a [] t = refl
fold_push a (x ∷ xs) t = fold_push (int_max a x) xs t

pub greatest_push : (times : List ℤ) (t : ℤ) → reduce int_max (times ++ t ∷ []) ≡ greatest_with (reduce int_max times) t
greatest_push [] t = refl
greatest_push (x ∷ xs) t = ap Some (fold_push x xs t)
