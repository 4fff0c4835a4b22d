-- Elements of lists by recursion, and that a strictly sorted list is one by its elements.
use Rattle.std.proofs.Common.{◌≡◌, ℕ, zero, suc, ◌<◌, Bool, true, false, cond, true≢false, List, [], ◌∷◌, length, refl, sym, ◌∙◌, ap, subst, arith}
use Rattle.std.specs.Prelude.{Any, Contains, slice_index_or, filter}
use Rattle.std.specs.Ordering.{match_ordering, ordering_reverse}
use Rattle.std.specs.List.{AllByRecursion}
use Rattle.std.specs.List.Sorted.{IsStrictlySortedBy}
use Rattle.std.specs.declared.cmp.Ordering.{Ordering}
use Rattle.std.specs.declared.cmp.Ordering.TheVariants.{Less, Equal, Greater}
use Rattle.std.specs.Cmp.{IsTotalOrder}
use Rattle.std.proofs.lemmas.Cmp.{tied_itself}
use mathlib.Core.Logic.{◌⊎◌, inl, inr}

module _ {X : Type 0} where
  -- x is an element
  abbrev pub Stands : X → List X → Type 0
  Stands x [] = ⊥
  Stands x (y ∷ ys) = (x ≡ y) ⊎ Stands x ys

  pub stands_all : (P : X → Type 0) (x : X) (xs : List X) → AllByRecursion P xs → Stands x xs → P x
  stands_all P x [] all h = absurd h
  stands_all P x (y ∷ ys) all (inl is) = subst P (sym is) all.0
  stands_all P x (y ∷ ys) all (inr later) = stands_all P x ys all.1 later

  pub stands_at : (xs : List X) (k : ℕ) (x : X) → k < length xs → slice_index_or xs k x ≡ x → Stands x xs
  stands_at [] k x low is = absurd (omega (arith, low))
  stands_at (y ∷ ys) zero x low is = inl (sym is)
  stands_at (y ∷ ys) (suc k) x low is = inr (stands_at ys k x (omega (arith, low)) is)

  pub stands-Contains : (xs : List X) (x : X) → Stands x xs → Contains xs x
  stands-Contains [] x h = absurd h
  stands-Contains (y ∷ ys) x (inl is) = (0, omega arith, sym is)
  stands-Contains (y ∷ ys) x (inr later) = let at = stands-Contains ys x later in (suc at.0, omega (arith, at.1), at.2)

  -- what stands beyond the end does not matter
  pub any_default : (xs : List X) (k : ℕ) (d e : X) → k < length xs → slice_index_or xs k d ≡ slice_index_or xs k e
  any_default [] k d e low = absurd (omega (arith, low))
  any_default (y ∷ ys) zero d e low = refl
  any_default (y ∷ ys) (suc k) d e low = any_default ys k d e (omega (arith, low))

  pub stands-Any : (P : X → Type 0) (xs : List X) (x : X) → Stands x xs → P x → Any P xs
  stands-Any P xs x h p = let at = stands-Contains xs x h in (at.0, x, at.1, at.2, p)

  -- where an element passes, something is kept
  pub filter_some : (test : X → Bool) (xs : List X) (x : X) → Stands x xs → test x ≡ true → (y : X) × (ys : List X) × (filter test xs ≡ y ∷ ys)
  filter_some test [] x h t = absurd h
  filter_some test (z ∷ zs) x h t = by (λ later. filter_some test zs x later t) (test z) refl h
    where
      by : (Stands x zs → (y : X) × (ys : List X) × (filter test zs ≡ y ∷ ys)) → (b : Bool) → test z ≡ b → Stands x (z ∷ zs) → (y : X) × (ys : List X) × (cond b (z ∷ filter test zs) (filter test zs) ≡ y ∷ ys)
      by on true e h = (z, filter test zs, refl)
      by on false e (inl is) = absurd (true≢false (sym t ∙ (ap test is ∙ e)))
      by on false e (inr later) = on later

  module _ {R : X → X → Ordering} (o : IsTotalOrder R) where
    pub never_below_itself : {P : Type 0} (x : X) → R x x ≡ Less → P
    never_below_itself x h = let level : Equal ≡ Less = sym (tied_itself o x) ∙ h in absurd (cc)

    head_is : (x y : X) (xs ys : List X) → AllByRecursion (λ z. R x z ≡ Less) xs → AllByRecursion (λ z. R y z ≡ Less) ys → Stands x (y ∷ ys) → Stands y (x ∷ xs) → x ≡ y
    head_is x y xs ys up up' (inl is) back = is
    head_is x y xs ys up up' (inr later) (inl is) = sym is
    head_is x y xs ys up up' (inr later) (inr later') =
        never_below_itself x (o.trans x y x (stands_all (λ z. R x z ≡ Less) y xs up later') (stands_all (λ z. R y z ≡ Less) x ys up' later))

    in_tail : (x y z : X) (xs ys : List X) → x ≡ y → AllByRecursion (λ z'. R x z' ≡ Less) xs → Stands z xs → Stands z (y ∷ ys) → Stands z ys
    in_tail x y z xs ys same up here (inl is) =
        never_below_itself x (subst (λ (w : X). R x w ≡ Less) (is ∙ sym same) (stands_all (λ z'. R x z' ≡ Less) z xs up here))
    in_tail x y z xs ys same up here (inr later) = later

    pub same_sorted : (xs ys : List X) → IsStrictlySortedBy R xs → IsStrictlySortedBy R ys → ((x : X) → Stands x xs → Stands x ys) → ((y : X) → Stands y ys → Stands y xs) → xs ≡ ys
    unfolding IsStrictlySortedBy
    same_sorted [] [] s t there back = refl
    same_sorted [] (y ∷ ys) s t there back = absurd (back y (inl refl))
    same_sorted (x ∷ xs) [] s t there back = absurd (there x (inl refl))
    same_sorted (x ∷ xs) (y ∷ ys) s t there back =
        let same : x ≡ y = head_is x y xs ys s.0 t.0 (there x (inl refl)) (back y (inl refl)) in
        let rest : xs ≡ ys = same_sorted xs ys s.1 t.1 (λ z h. in_tail x y z xs ys same s.0 h (there z (inr h))) (λ z h. in_tail y x z ys xs (sym same) t.0 h (back z (inr h))) in
        ap (λ (w : X). w ∷ xs) same ∙ ap (λ (ws : List X). y ∷ ws) rest

    by_rank : (P : List X → Type 0) (k : Ordering) (xs ys zs : List X) → (k ≡ Less → P xs) → (k ≡ Equal → P ys) → (k ≡ Greater → P zs) → P (match_ordering k xs ys zs)
    by_rank P Less xs ys zs a b c = a refl
    by_rank P Equal xs ys zs a b c = b refl
    by_rank P Greater xs ys zs a b c = c refl

    -- x in its place, unless its like is there
    abbrev pub put : X → List X → List X
    put x [] = x ∷ []
    put x (y ∷ ys) = match_ordering (R x y) (x ∷ y ∷ ys) (y ∷ ys) (y ∷ put x ys)

    pub all_put : (P : X → Type 0) (x : X) (ys : List X) → P x → AllByRecursion P ys → AllByRecursion P (put x ys)
    all_put P x [] p all = (p, tt)
    all_put P x (y ∷ ys) p all = by_rank (AllByRecursion P) (R x y) _ _ _ (λ k. (p, all)) (λ k. all) (λ k. (all.0, all_put P x ys p all.1))

    above_all : (x y : X) (ys : List X) → R x y ≡ Less → AllByRecursion (λ z. R y z ≡ Less) ys → AllByRecursion (λ z. R x z ≡ Less) ys
    above_all x y [] h all = tt
    above_all x y (z ∷ zs) h all = (o.trans x y z h all.0, above_all x y zs h all.1)

    pub sorted_put : (x : X) (ys : List X) → IsStrictlySortedBy R ys → IsStrictlySortedBy R (put x ys)
    unfolding IsStrictlySortedBy
    sorted_put x [] s = (tt, tt)
    sorted_put x (y ∷ ys) s = by_rank (IsStrictlySortedBy R) (R x y) _ _ _
        (λ k. ((k, above_all x y ys k s.0), s)) (λ k. s)
        (λ k. (all_put (λ z. R y z ≡ Less) x ys (o.antisymm y x ∙ ap ordering_reverse k) s.0, sorted_put x ys s.1))

    pub kept_put : (x z : X) (ys : List X) → Stands z ys → Stands z (put x ys)
    kept_put x z [] h = absurd h
    kept_put x z (y ∷ ys) h = by_rank (Stands z) (R x y) _ _ _ (λ k. inr h) (λ k. h) (λ k. later (kept_put x z ys) h)
      where
        later : (Stands z ys → Stands z (put x ys)) → Stands z (y ∷ ys) → Stands z (y ∷ put x ys)
        later on (inl is) = inl is
        later on (inr rest) = inr (on rest)

    -- x or its like is there
    pub found_put : (x : X) (ys : List X) → (z : X) × Stands z (put x ys) × (R x z ≡ Equal)
    found_put x [] = (x, inl refl, tied_itself o x)
    found_put x (y ∷ ys) = by_rank (λ (zs : List X). (z : X) × Stands z zs × (R x z ≡ Equal)) (R x y) _ _ _
        (λ k. (x, inl refl, tied_itself o x)) (λ k. (y, inl refl, k))
        (λ k. let at = found_put x ys in (at.0, inr at.1, at.2))
