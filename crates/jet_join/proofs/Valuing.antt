-- The four values of a joined event.
use Rattle.std.proofs.Common.{◌≡◌, List, [], ◌∷◌, map, length, get_or, refl, arith}

four : {A B C : Type 0} (f : A → B) (g : B → C) (d : A) (xs : List A) → length xs ≡ 4 → g (f (get_or xs 0 d)) ∷ g (f (get_or xs 1 d)) ∷ g (f (get_or xs 2 d)) ∷ g (f (get_or xs 3 d)) ∷ [] ≡ map g (map f xs)
four f g d [] h = absurd (omega (arith, h))
four f g d (a ∷ []) h = absurd (omega (arith, h))
four f g d (a ∷ b ∷ []) h = absurd (omega (arith, h))
four f g d (a ∷ b ∷ c ∷ []) h = absurd (omega (arith, h))
four f g d (a ∷ b ∷ c ∷ e ∷ []) h = refl
four f g d (a ∷ b ∷ c ∷ e ∷ x ∷ xs) h = absurd (omega (arith, h))

pub four_are : {A B C : Type 0} (f : A → B) (g : B → C) (d : A) (xs : List A) (w x y z : C) → length xs ≡ 4 → w ≡ g (f (get_or xs 0 d)) → x ≡ g (f (get_or xs 1 d)) → y ≡ g (f (get_or xs 2 d)) → z ≡ g (f (get_or xs 3 d)) → w ∷ x ∷ y ∷ z ∷ [] ≡ map g (map f xs)
four_are f g d xs w x y z len a b c e = rw (a, b, c, e) (four f g d xs len)
