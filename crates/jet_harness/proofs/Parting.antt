-- Lists parted by a test.
use Rattle.std.proofs.Common.{◌≡◌, ◌∙◌, ◌∷◌, [], Bool, true, false, not, cond, List, map, ap, refl, sym}
use Rattle.std.specs.Prelude.{filter}

module _ {E : Type 0} where
  gone_step : (p : E → Bool) (x : E) (b : Bool) (ys : List E) → p x ≡ b → filter p ys ≡ [] → filter p (cond (not b) (x ∷ ys) ys) ≡ []
  gone_step p x true ys e h = h
  gone_step p x false ys e h = ap (λ b. cond b (x ∷ filter p ys) (filter p ys)) e ∙ h

  -- none is left among those that do not pass
  pub filter_gone : (p : E → Bool) (xs : List E) → filter p (filter (λ x. not (p x)) xs) ≡ []
  filter_gone p [] = refl
  filter_gone p (x ∷ xs) = gone_step p x (p x) _ refl (filter_gone p xs)

  dropped : (q : E → Bool) (x : E) (c : Bool) (ys zs : List E) → q x ≡ c → (c ≡ true → ⊥) → filter q ys ≡ filter q zs → filter q ys ≡ filter q (x ∷ zs)
  dropped q x true ys zs e not_so h = absurd (not_so refl)
  dropped q x false ys zs e not_so h = h ∙ sym (ap (λ b. cond b (x ∷ filter q zs) (filter q zs)) e)

  kept_step : (q : E → Bool) (x : E) (b : Bool) (ys zs : List E) → (q x ≡ true → b ≡ false) → filter q ys ≡ filter q zs → filter q (cond (not b) (x ∷ ys) ys) ≡ filter q (x ∷ zs)
  kept_step q x true ys zs not_so h = dropped q x (q x) ys zs refl (λ e. let f = not_so e in cc) h
  kept_step q x false ys zs not_so h = ap (λ l. cond (q x) (x ∷ l) l) h

  -- of those that pass another test, all are left
  pub filter_kept : (p q : E → Bool) → ((x : E) → q x ≡ true → p x ≡ false) → (xs : List E) → filter q (filter (λ x. not (p x)) xs) ≡ filter q xs
  filter_kept p q not_so [] = refl
  filter_kept p q not_so (x ∷ xs) = kept_step q x (p x) _ xs (not_so x) (filter_kept p q not_so xs)

  pub map_map : {V W : Type 0} (f : E → V) (g : V → W) (xs : List E) → map g (map f xs) ≡ map (λ x. g (f x)) xs
  map_map f g [] = refl
  map_map f g (x ∷ xs) = ap (λ l. g (f x) ∷ l) (map_map f g xs)
