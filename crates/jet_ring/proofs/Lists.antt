-- What one element of a list tells of the list of its parts, for lists of ends.
use Rattle.std.proofs.Common.{◌≡◌, ◌≢◌, ℕ, ◌<◌, List, map, set, length, get_or, sym, ◌∙◌, ap, arith, subst, ◌∷◌, ◌++◌, append_assoc}
use Rattle.std.proofs.lemmas.List.{map-set, get_or-map, get_or-set_same, get_or-set_other, length-map}
use mathlib.Core.List.{IsPrefix}
use Rattle.std.proofs.Math.Seq.{map-set_same}

module _ {X Y : Type 0} (f : X → Y) where
  pub within_map : (xs : List X) (q : ℕ) → q < length (map f xs) → q < length xs
  within_map xs q lt = let h = length-map xs f in omega (arith, h)

  -- an element that was read
  pub at_map : (xs : List X) (q : ℕ) (r : X) (e : Y) → q < length xs → r ≡ get_or xs q r → f r ≡ get_or (map f xs) q e
  at_map xs q r e lt v = ap f v ∙ sym (get_or-map f xs q r e lt)

  -- one that is written back, and looks the same
  pub map_kept : (xs : List X) (q : ℕ) (y r : X) → r ≡ get_or xs q r → f y ≡ f r → map f (set xs q y) ≡ map f xs
  map_kept xs q y r v e = map-set_same f xs q y r (e ∙ ap f v)

  -- one that is written back changed
  pub map_changed : (xs : List X) (q : ℕ) (y : X) (z : Y) → f y ≡ z → map f (set xs q y) ≡ set (map f xs) q z
  map_changed xs q y z e = map-set f xs q y ∙ ap (λ w. set (map f xs) q w) e

  -- the place that was written, and the others
  pub at_same : (xs : List X) (q : ℕ) (y : X) (e : Y) → q < length xs → get_or (map f (set xs q y)) q e ≡ f y
  at_same xs q y e lt =
      ap (λ w. get_or w q e) (map-set f xs q y)
      ∙ get_or-set_same (map f xs) q (f y) e (let h = length-map xs f in omega (arith, h))

  pub at_other : (xs : List X) (q k : ℕ) (y : X) (e : Y) → k ≢ q → get_or (map f (set xs q y)) k e ≡ get_or (map f xs) k e
  at_other xs q k y e ne = ap (λ w. get_or w k e) (map-set f xs q y) ∙ get_or-set_other (map f xs) q k (f y) e ne

pub prefix_along : {A : Type 0} {a c b d : List A} (x : A) → a ≡ c → b ≡ d → IsPrefix a (x ∷ b) → IsPrefix c (x ∷ d)
prefix_along {A} {a} {c} {b} {d} x e h p =
    let P : List A → Type 0 = λ u. IsPrefix u (x ∷ d) in
    let Q : List A → Type 0 = λ u. IsPrefix a (x ∷ u) in subst P e (subst Q h p)

pub prefix_between : {A : Type 0} {a b c d : List A} → a ≡ c → b ≡ d → IsPrefix a b → IsPrefix c d
prefix_between {A} {a} {b} {c} {d} e h p = let P : List A → Type 0 = λ u. IsPrefix u d in subst P e (subst (λ u. IsPrefix a u) h p)

pub prefix_trans : {A : Type 0} (a b c : List A) → IsPrefix a b → IsPrefix b c → IsPrefix a c
prefix_trans {A} a b c f g = (f.0 ++ g.0, sym (append_assoc a f.0 g.0) ∙ (ap (λ (w : List A). w ++ g.0) f.1 ∙ g.1))

pub append_along : {A : Type 0} {a b c d s : List A} → a ≡ c → b ≡ d → c ++ d ≡ s → a ++ b ≡ s
append_along {A} {a} {b} {c} {d} e h p = ap (λ w. w ++ b) e ∙ ap (λ w. c ++ w) h ∙ p

pub prefix_both : {A : Type 0} {r k s m : List A} {a b c d : List A} → r ≡ a → k ≡ b → s ≡ c → m ≡ d → IsPrefix (r ++ k) (s ++ m) → IsPrefix (a ++ b) (c ++ d)
prefix_both {A} {r} {k} {s} {m} {a} {b} {c} {d} e f g h p =
    let P : List A → Type 0 = λ u. IsPrefix u (s ++ m) in
    let Q : List A → Type 0 = λ u. IsPrefix (a ++ b) u in
    subst Q (ap (λ w. w ++ m) g ∙ ap (λ w. c ++ w) h) (subst P (ap (λ w. w ++ k) e ∙ ap (λ w. a ++ w) f) p)
