-- Lists, cut at the first element that passes a test.
use Rattle.std.proofs.Common.{◌≡◌, ◌⊎◌, inl, inr, ℕ, ◌+◌, Bool, true, false, cond, nat_lt, is_some, Some, None, List, [], ◌∷◌, ◌++◌, length, refl, sym, ap, ◌∙◌, arith, take, drop}
use Rattle.std.proofs.lemmas.List.{take_at, drop_at, take_all, drop_all, append_assoc, length_push}
use Rattle.std.proofs.lemmas.Bool.Decides.{nat_tests}
use Rattle.std.proofs.lemmas.Grind.{common_steps}
use Rattle.std.specs.Prelude.{position, ⊤}
use Rattle.std.specs.List.{before_first, after_first, position_or_len}

-- no element passes
abbrev pub Lacks : {X : Type 0} → (X → Bool) → List X → Type 0
Lacks p [] = ⊤
Lacks p (x ∷ xs) = (p x ≡ false) × Lacks p xs

pub place-Lacks : {X : Type 0} (p : X → Bool) (xs : List X) → Lacks p xs → position_or_len p xs ≡ length xs
place-Lacks p [] h = refl
place-Lacks p (x ∷ xs) h = let rest = place-Lacks p xs h.1 in rw h.0 (omega (arith, rest))

pub place-at : {X : Type 0} (p : X → Bool) (xs : List X) (y : X) (ys : List X) → Lacks p xs → p y ≡ true → position_or_len p (xs ++ y ∷ ys) ≡ length xs
place-at p [] y ys h is = rw is refl
place-at p (x ∷ xs) y ys h is = let rest = place-at p xs y ys h.1 is in rw h.0 (omega (arith, rest))

pub before-Lacks : {X : Type 0} (p : X → Bool) (xs : List X) → Lacks p xs → before_first p xs ≡ xs
before-Lacks {X} p xs h = ap (λ (n : ℕ). take n xs) (place-Lacks p xs h) ∙ take_all (length xs) xs (omega arith)

pub after-Lacks : {X : Type 0} (p : X → Bool) (xs : List X) → Lacks p xs → after_first p xs ≡ []
after-Lacks {X} p xs h = ap (λ (n : ℕ). drop (n + 1) xs) (place-Lacks p xs h) ∙ drop_all (length xs + 1) xs (omega arith)

pub before-at : {X : Type 0} (p : X → Bool) (xs : List X) (y : X) (ys : List X) → Lacks p xs → p y ≡ true → before_first p (xs ++ y ∷ ys) ≡ xs
before-at {X} p xs y ys h is = ap (λ (n : ℕ). take n (xs ++ y ∷ ys)) (place-at p xs y ys h is) ∙ take_at xs (y ∷ ys) (length xs) refl

pub after-at : {X : Type 0} (p : X → Bool) (xs : List X) (y : X) (ys : List X) → Lacks p xs → p y ≡ true → after_first p (xs ++ y ∷ ys) ≡ ys
after-at {X} p xs y ys h is =
    ap (λ (n : ℕ). drop (n + 1) (xs ++ y ∷ ys)) (place-at p xs y ys h is)
    ∙ ap (drop (length xs + 1)) (sym (append_assoc xs (y ∷ []) ys)) ∙ drop_at (xs ++ y ∷ []) ys (length xs + 1) (length_push xs y)

-- a list in three: what stands before the first element that passes, that one, and what stands behind
pub record Cut {X : Type 0} (p : X → Bool) (xs : List X) : Type 0 where
  pub before : List X
  pub here : X
  pub behind : List X
  pub lacks : Lacks p before
  pub passes : p here ≡ true
  pub whole : xs ≡ before ++ here ∷ behind

pub cut_of : {X : Type 0} (p : X → Bool) (xs : List X) → Lacks p xs ⊎ Cut p xs
cut_of p [] = inl tt
cut_of {X} p (x ∷ xs) = go (p x) refl (cut_of p xs)
  where
    go : (t : Bool) → p x ≡ t → Lacks p xs ⊎ Cut p xs → Lacks p (x ∷ xs) ⊎ Cut p (x ∷ xs)
    go true e _ = inr (record { before = []; here = x; behind = xs; lacks = tt; passes = e; whole = refl })
    go false e (inl none) = inl (e, none)
    go false e (inr cut) = inr (record { before = x ∷ cut.before; here = cut.here; behind = cut.behind; lacks = (e, cut.lacks); passes = cut.passes; whole = ap (λ (ys : List X). x ∷ ys) cut.whole })

pub some-at : {X : Type 0} (p : X → Bool) (xs : List X) (y : X) (ys : List X) → Lacks p xs → p y ≡ true → is_some (position p (xs ++ y ∷ ys)) ≡ true
some-at p xs y ys h is =
    let place = place-at p xs y ys h is in
    let below : nat_lt (position_or_len p (xs ++ y ∷ ys)) (length (xs ++ y ∷ ys)) ≡ true = rw place (grind (arith, nat_tests, common_steps)) in
    ap (λ (t : Bool). is_some (cond t (Some (position_or_len p (xs ++ y ∷ ys))) None)) below

pub some-Lacks : {X : Type 0} (p : X → Bool) (xs : List X) → Lacks p xs → is_some (position p xs) ≡ false
some-Lacks p xs h =
    let place = place-Lacks p xs h in
    let over : nat_lt (position_or_len p xs) (length xs) ≡ false = rw place (grind (arith, nat_tests)) in
    ap (λ (t : Bool). is_some (cond t (Some (position_or_len p xs)) None)) over
