-- Lists of which one place was set.
use Rattle.std.proofs.Common.{◌≡◌, ◌≢◌, ℕ, zero, suc, ◌<◌, List, [], ◌∷◌, ◌∙◌, Some, refl, sym, ap, subst, get_or, set, length, arith, length-set}
use Rattle.std.specs.List.{slice_get}
use Rattle.std.proofs.lemmas.List.{get_or-set_same, get_or-set_other}
use Rattle.std.proofs.lemmas.Option.{slice_get-get_or, get_or_from_slice_get, slice_get_within}
use Rattle.jet_crew.specs.Epoch.{Placewise}

pub some_is : {X : Type 0} (x y : X) → Some x ≡ Some y → x ≡ y
some_is x y e = cc

module _ {X : Type 0} where
  pub set_there : (xs : List X) (k : ℕ) (x : X) → k < length xs → slice_get (set xs k x) k ≡ Some x
  set_there xs k x l = slice_get-get_or (set xs k x) k x (let n = length-set xs k x in omega (arith, n, l)) ∙ ap (λ (y : X). Some y) (get_or-set_same xs k x x l)

  pub set_elsewhere : (xs : List X) (k j : ℕ) (x y : X) → j ≢ k → slice_get xs j ≡ Some y → slice_get (set xs k x) j ≡ Some y
  set_elsewhere xs k j x y n at =
      let l = slice_get_within xs j y at in
      slice_get-get_or (set xs k x) j y (let m = length-set xs k x in omega (arith, m, l))
      ∙ ap (λ (z : X). Some z) (get_or-set_other xs k j x y n ∙ get_or_from_slice_get xs j y y at)

-- ---- lists related place by place
module _ {X : Type 0} (R : X → X → Type 0) (same : (x : X) → R x x) where
  pub placewise_same : (xs : List X) → Placewise R xs xs
  placewise_same xs = record { count = refl; each = λ k d l. same (get_or xs k d) }

  set_related : (was now : X) → R was now → (xs : List X) (i k : ℕ) (d : X) → slice_get xs i ≡ Some was → k < length xs → R (get_or xs k d) (get_or (set xs i now) k d)
  set_related was now r [] i k d at l = absurd (omega (arith, l))
  set_related was now r (x ∷ xs) zero zero d at l = subst (λ (y : X). R y now) (sym (some_is x was at)) r
  set_related was now r (x ∷ xs) zero (suc k) d at l = same (get_or xs k d)
  set_related was now r (x ∷ xs) (suc i) zero d at l = same x
  set_related was now r (x ∷ xs) (suc i) (suc k) d at l = set_related was now r xs i k d at (omega (arith, l))

  pub placewise_set : (xs : List X) (i : ℕ) (was now : X) → slice_get xs i ≡ Some was → R was now → Placewise R xs (set xs i now)
  placewise_set xs i was now at r = record { count = length-set xs i now; each = λ k d l. set_related was now r xs i k d at l }

pub placewise_trans : {X : Type 0} (R : X → X → Type 0) → ((x y z : X) → R x y → R y z → R x z) → (xs ys zs : List X) → Placewise R xs ys → Placewise R ys zs → Placewise R xs zs
placewise_trans R trans xs ys zs p q =
    record {
      count = q.count ∙ p.count;
      each = λ k d l. trans (get_or xs k d) (get_or ys k d) (get_or zs k d) (p.each k d l) (q.each k d (let n = p.count in omega (arith, n, l)));
    }

-- the one that stands in the same place
pub placewise_at : {X : Type 0} (R : X → X → Type 0) (xs ys : List X) (k : ℕ) (x : X) → Placewise R xs ys → slice_get xs k ≡ Some x → (y : X) × (slice_get ys k ≡ Some y) × R x y
placewise_at R xs ys k x p at =
    let l = slice_get_within xs k x at in
    (get_or ys k x, slice_get-get_or ys k x (let n = p.count in omega (arith, n, l)), subst (λ (z : _). R z (get_or ys k x)) (get_or_from_slice_get xs k x x at) (p.each k x l))
