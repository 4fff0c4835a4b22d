-- Lists of which one place was set.
use Rattle.std.proofs.Common.{◌≡◌, ◌≢◌, ℕ, zero, suc, ◌<◌, List, [], ◌∷◌, ◌∙◌, Some, refl, sym, ap, subst, get_or, set, map, length, arith, length-set}
use Rattle.std.specs.List.{slice_get}
use Rattle.jet_crew.specs.Epoch.{Placewise}

pub some_is : {X : Type 0} (x y : X) → Some x ≡ Some y → x ≡ y
some_is x y e = cc

pub set_there : {X : Type 0} (xs : List X) (n : ℕ) (y : X) → n < length xs → slice_get (set xs n y) n ≡ Some y
set_there [] n y l = absurd (omega (arith, l))
set_there (x ∷ xs) zero y l = refl
set_there (x ∷ xs) (suc n) y l = set_there xs n y (omega (arith, l))

pub set_elsewhere : {X : Type 0} (xs : List X) (n k : ℕ) (y : X) → k ≢ n → slice_get (set xs n y) k ≡ slice_get xs k
set_elsewhere [] n k y differs = refl
set_elsewhere (x ∷ xs) zero zero y differs = absurd (differs refl)
set_elsewhere (x ∷ xs) zero (suc k) y differs = refl
set_elsewhere (x ∷ xs) (suc n) zero y differs = refl
set_elsewhere (x ∷ xs) (suc n) (suc k) y differs = set_elsewhere xs n k y (λ e. differs (ap suc e))

pub map_set : {X Y : Type 0} (f : X → Y) (xs : List X) (n : ℕ) (y : X) → map f (set xs n y) ≡ set (map f xs) n (f y)
map_set f [] n y = refl
map_set f (x ∷ xs) zero y = refl
map_set f (x ∷ xs) (suc n) y = ap (λ (l : List _). f x ∷ l) (map_set f xs n y)

-- ---- lists related place by place
module _ {X : Type 0} (R : X → X → Type 0) (same : (x : X) → R x x) where
  pub placewise_same : (xs : List X) → Placewise R xs xs
  placewise_same xs = record { count = refl; each = λ k d l. same (get_or xs k d) }

  set_related : (was now : X) → R was now → (xs : List X) (i k : ℕ) (d : X) → slice_get xs i ≡ Some was → k < length xs → R (get_or xs k d) (get_or (set xs i now) k d)
  set_related was now r [] i k d at l = absurd (omega (arith, l))
  set_related was now r (x ∷ xs) zero zero d at l = subst (λ (y : X). R y now) (sym (some_is x was at)) r
  set_related was now r (x ∷ xs) zero (suc k) d at l = same (get_or xs k d)
  set_related was now r (x ∷ xs) (suc i) zero d at l = same x
  set_related was now r (x ∷ xs) (suc i) (suc k) d at l = set_related was now r xs i k d at (omega (arith, l))

  pub placewise_set : (xs : List X) (i : ℕ) (was now : X) → slice_get xs i ≡ Some was → R was now → Placewise R xs (set xs i now)
  placewise_set xs i was now at r = record { count = length-set xs i now; each = λ k d l. set_related was now r xs i k d at l }

pub placewise_trans : {X : Type 0} (R : X → X → Type 0) → ((x y z : X) → R x y → R y z → R x z) → (xs ys zs : List X) → Placewise R xs ys → Placewise R ys zs → Placewise R xs zs
placewise_trans R trans xs ys zs p q =
    record {
      count = q.count ∙ p.count;
      each = λ k d l. trans (get_or xs k d) (get_or ys k d) (get_or zs k d) (p.each k d l) (q.each k d (let n = p.count in omega (arith, n, l)));
    }
