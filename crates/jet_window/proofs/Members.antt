-- Joins and filters where some bring nothing.
use Rattle.std.proofs.Common.{◌≡◌, Bool, true, false, cond, List, [], ◌∷◌, filter, refl, ◌∙◌, ap, Option, None}
use Rattle.std.specs.Prelude.{All}
use Rattle.std.proofs.lemmas.List.Elements.{All-cons, All-nil}
use Rattle.jet_items.specs.Values.{AccValue}
use Rattle.jet_items.specs.Totals.{both, total}
use Rattle.jet_items.proofs.Totaling.{both_is_none}

-- where nothing is joined, nobody brings anything
pub total_brings : {X : Type 0} (f : X → Option AccValue) (xs : List X) → total f xs ≡ None → All (λ x. f x ≡ None) xs
total_brings f [] h = All-nil (λ x. f x ≡ None)
total_brings f (x ∷ xs) h =
    let parts = both_is_none (f x) (total f xs) h in
    All-cons (λ y. f y ≡ None) x xs parts.0 (total_brings f xs parts.1)

skip_if : {X : Type 0} (f : X → Option AccValue) (x : X) (kept : List X) (b : Bool) → (b ≡ false → f x ≡ None) → total f (cond b (x ∷ kept) kept) ≡ both (f x) (total f kept)
skip_if f x kept true h = refl
skip_if f x kept false h = rw (h refl) refl

-- those that bring nothing may be left out
pub total_kept : {X : Type 0} (f : X → Option AccValue) (p : X → Bool) → ((x : X) → p x ≡ false → f x ≡ None) → (xs : List X) → total f (filter p xs) ≡ total f xs
total_kept f p h [] = refl
total_kept f p h (x ∷ xs) = skip_if f x (filter p xs) (p x) (h x) ∙ ap (both (f x)) (total_kept f p h xs)

-- two tests, of which the later passes only what the earlier passes
filter_if : {X : Type 0} (p q : X → Bool) (x : X) (kept : List X) (rest : List X) (b : Bool) → p x ≡ b → (q x ≡ true → b ≡ true) → filter q kept ≡ filter q rest → filter q (cond b (x ∷ kept) kept) ≡ cond (q x) (x ∷ filter q rest) (filter q rest)
filter_if p q x kept rest true is h same = ap (λ zs. cond (q x) (x ∷ zs) zs) same
filter_if p q x kept rest false is h same = same ∙ skipped (q x) x (filter q rest) h
  where
    skipped : {X : Type 0} (b : Bool) (x : X) (zs : List X) → (b ≡ true → false ≡ true) → zs ≡ cond b (x ∷ zs) zs
    skipped true x zs h = absurd (contra (h refl))
      where
        contra : false ≡ true → ⊥
        contra e = cc
    skipped false x zs h = refl

pub filter_both : {X : Type 0} (p q : X → Bool) → ((x : X) → q x ≡ true → p x ≡ true) → (xs : List X) → filter q (filter p xs) ≡ filter q xs
filter_both p q h [] = refl
filter_both p q h (x ∷ xs) = filter_if p q x (filter p xs) xs (p x) refl (h x) (filter_both p q h xs)
