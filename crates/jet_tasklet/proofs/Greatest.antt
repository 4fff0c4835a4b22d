-- Of what some fronts of a list have, one number each at most, there is a greatest.
use Rattle.std.proofs.Common.{◌≡◌, ℤ, ◌≤ℤ◌, List, [], ◌∷◌, ◌++◌, refl, sym, ◌∙◌, ap, subst, append-nil, append_assoc, inl, inr, arith}
use Rattle.std.specs.Prelude.{◌⊎◌}
use Rattle.std.specs.Int.Signed.{≤ℤ_refl}
use Rattle.std.proofs.lemmas.Int.{ints, by_lt_z}
use Rattle.jet_tasklet.proofs.Pushing.{by_pushing}

-- a front of a list with one more at its end is the whole, or a front of the list
fronts_push : {X : Type 0} (xs : List X) (x : X) (front back : List X) → xs ++ x ∷ [] ≡ front ++ back → (xs ++ x ∷ [] ≡ front) ⊎ ((more : List X) × (xs ≡ front ++ more))
fronts_push [] x [] back h = inr ([], refl)
fronts_push [] x (y ∷ []) back h = inl (cc)
fronts_push [] x (y ∷ z ∷ front) back h = absurd (cc)
fronts_push (w ∷ xs) x [] back h = inr (w ∷ xs, refl)
fronts_push (w ∷ xs) x (y ∷ front) back h =
    let head : w ≡ y = cc in
    let tail : xs ++ x ∷ [] ≡ front ++ back = cc in
    elim (fronts_push xs x front back tail) [
      | inl whole ↦ inl (cc)
      | inr less ↦ inr (less.0, (let is : xs ≡ front ++ less.0 = less.1 in cc))
    ]

module _ {X : Type 0} (Has : List X → ℤ → Type 0) (decide : (xs : List X) → ((t : ℤ) × Has xs t) ⊎ ((t : ℤ) → Has xs t → ⊥)) (same : (xs : List X) (t u : ℤ) → Has xs t → Has xs u → t ≤ℤ u) where
  -- t is that of a front
  pub record Was (xs : List X) (t : ℤ) : Type 0 where
    pub front : List X
    pub back : List X
    pub parts : xs ≡ front ++ back
    pub has : Has front t

  pub record Top (xs : List X) : Type 0 where
    pub t : ℤ
    pub was : Was xs t
    pub greatest : (s : ℤ) → Was xs s → s ≤ℤ t

  later : (xs : List X) (x : X) (t : ℤ) → Was xs t → Was (xs ++ x ∷ []) t
  later xs x t w = record { front = w.front; back = w.back ++ x ∷ []; parts = ap (λ (ys : List X). ys ++ x ∷ []) w.parts ∙ append_assoc w.front w.back (x ∷ []); has = w.has }

  now : (xs : List X) (t : ℤ) → Has xs t → Was xs t
  now xs t h = record { front = xs; back = []; parts = sym (append-nil xs); has = h }

  earlier : (xs : List X) (x : X) (s : ℤ) → Was (xs ++ x ∷ []) s → Has (xs ++ x ∷ []) s ⊎ Was xs s
  earlier xs x s w = elim (fronts_push xs x w.front w.back w.parts) [
    | inl whole ↦ inl (subst (λ (ys : List X). Has ys s) (sym whole) w.has)
    | inr less ↦ inr (record { front = w.front; back = less.0; parts = less.1; has = w.has })
  ]

  abbrev OneOrNone : List X → Type 0
  OneOrNone xs = Top xs ⊎ ((s : ℤ) → Was xs s → ⊥)

  next : (xs : List X) (x : X) → OneOrNone xs → OneOrNone (xs ++ x ∷ [])
  next xs x was = elim (decide (xs ++ x ∷ [])) [
    | inl here ↦ elim was [
      | inl top ↦ by_lt_z here.0 top.t
          (λ lt. inl (record { t = top.t; was = later xs x top.t top.was; greatest = λ s w. elim (earlier xs x s w) [ inl h ↦ (let le : s ≤ℤ here.0 = same (xs ++ x ∷ []) s here.0 h here.1 in omega (arith, ints, le, lt)) | inr b ↦ top.greatest s b ] }))
          (λ le. inl (record { t = here.0; was = now (xs ++ x ∷ []) here.0 here.1; greatest = λ s w. elim (earlier xs x s w) [ inl h ↦ same (xs ++ x ∷ []) s here.0 h here.1 | inr b ↦ (let below : s ≤ℤ top.t = top.greatest s b in omega (arith, ints, le, below)) ] }))
      | inr none ↦ inl (record { t = here.0; was = now (xs ++ x ∷ []) here.0 here.1; greatest = λ s w. elim (earlier xs x s w) [ inl h ↦ same (xs ++ x ∷ []) s here.0 h here.1 | inr b ↦ absurd (none s b) ] })
    ]
    | inr not_here ↦ elim was [
      | inl top ↦ inl (record { t = top.t; was = later xs x top.t top.was; greatest = λ s w. elim (earlier xs x s w) [ inl h ↦ absurd (not_here s h) | inr b ↦ top.greatest s b ] })
      | inr none ↦ inr (λ s w. elim (earlier xs x s w) [ inl h ↦ not_here s h | inr b ↦ none s b ])
    ]
  ]

  front_nil : (front back : List X) → [] ≡ front ++ back → front ≡ []
  front_nil [] back h = refl
  front_nil (y ∷ front) back h = absurd (cc)

  first : OneOrNone []
  first = elim (decide []) [
    | inl here ↦ inl (record { t = here.0; was = now [] here.0 here.1; greatest = λ s w. same [] s here.0 (subst (λ (ys : List X). Has ys s) (front_nil w.front w.back w.parts) w.has) here.1 })
    | inr none ↦ inr (λ s w. none s (subst (λ (ys : List X). Has ys s) (front_nil w.front w.back w.parts) w.has))
  ]

  pub greatest_was : (xs : List X) → OneOrNone xs
  greatest_was xs = by_pushing OneOrNone first next xs
