-- Where no walk of n edges ends at a vertex, its value over n steps is the one that each vertex's rule gives.
use Rattle.std.specs.Prelude.{◌≡◌, ℕ, zero, suc, Bool, true, false, ◌||◌, List, [], ◌∷◌, map, bytes_eq, refl}
use Rattle.std.specs.List.{list_any}
use Rattle.std.proofs.Common.{cond}
use Rattle.jet_plan.specs.declared.edge.Edge.{Edge}
use Rattle.jet_plan.specs.Graph.{edges_into}
use Rattle.jet_plan.specs.Along.{before, along, has_walk}

-- two lists are alike, element by element
abbrev pub AreAlike : {X : Type 0} → (X → X → Type 0) → List X → List X → Type 0
AreAlike R [] [] = Unit {0}
AreAlike R [] (y ∷ ys) = ⊥
AreAlike R (x ∷ xs) [] = ⊥
AreAlike R (x ∷ xs) (y ∷ ys) = R x y × AreAlike R xs ys

any_false : (a b : Bool) → (a || b) ≡ false → (a ≡ false) × (b ≡ false)
any_false true b h = absurd (cc h)
any_false false b h = (refl, h)

-- each edge starts at a name of which p holds
abbrev pub StartIn : (List ℕ → Bool) → List Edge → Type 0
StartIn p [] = Unit {0}
StartIn p (e ∷ edges) = (p e.from ≡ true) × StartIn p edges

start_step : (p : List ℕ → Bool) (e : Edge) (es : List Edge) (b : Bool) → p e.from ≡ true → StartIn p es → StartIn p (cond b (e ∷ es) es)
start_step p e es true here rest = (here, rest)
start_step p e es false here rest = rest

start_into : (p : List ℕ → Bool) (name : List ℕ) (edges : List Edge) → StartIn p edges → StartIn p (edges_into name edges)
start_into p name [] s = tt
start_into p name (e ∷ edges) s = start_step p e (edges_into name edges) (bytes_eq e.to name) s.0 (start_into p name edges s.1)

any_start : (edges : List Edge) → StartIn (λ name. true) edges
any_start [] = tt
any_start (e ∷ edges) = (refl, any_start edges)

-- alike before, from each edge's start
alike_before : {X : Type 0} (R : X → X → Type 0) (p : List ℕ → Bool) (edges : List Edge) (g h : List ℕ → X) (n : ℕ) (into : List Edge) → StartIn p into
    → list_any (λ w. w) (map (λ e. has_walk edges n e.from) into) ≡ false
    → ((name : List ℕ) → p name ≡ true → has_walk edges n name ≡ false → R (g name) (h name))
    → AreAlike R (map (λ e. g e.from) into) (map (λ e. h e.from) into)
alike_before R p edges g h n [] start none each = tt
alike_before R p edges g h n (e ∷ into) start none each =
    let both = any_false (has_walk edges n e.from) (list_any (λ w. w) (map (λ e. has_walk edges n e.from) into)) none in
    (each e.from start.0 both.0, alike_before R p edges g h n into start.1 both.1 each)

-- where p holds of every vertex, two values that keep the rule of each vertex are alike
pub along_unique : {X : Type 0} (R : X → X → Type 0) (trans : (x y z : X) → R x y → R y z → R x z) (turn : (x y : X) → R x y → R y x)
    (p : List ℕ → Bool) (edges : List Edge) → StartIn p edges
    → (f : List ℕ → List X → X) (same : (name : List ℕ) (xs ys : List X) → AreAlike R xs ys → R (f name xs) (f name ys))
    → (g h : List ℕ → X) → ((name : List ℕ) → p name ≡ true → R (g name) (f name (before edges g name))) → ((name : List ℕ) → p name ≡ true → R (h name) (f name (before edges h name)))
    → (n : ℕ) (name : List ℕ) → p name ≡ true → has_walk edges n name ≡ false → R (g name) (h name)
along_unique R trans turn p edges start f same g h keeps_g keeps_h zero name here none = absurd (cc none)
along_unique R trans turn p edges start f same g h keeps_g keeps_h (suc n) name here none =
    trans _ _ _ (keeps_g name here) (trans _ _ _
    (same name _ _ (alike_before R p edges g h n (edges_into name edges) (start_into p name edges start) none (along_unique R trans turn p edges start f same g h keeps_g keeps_h n)))
    (turn _ _ (keeps_h name here)))

-- the value over n steps keeps the rule, since one step more changes nothing
pub along_keeps : {X : Type 0} (R : X → X → Type 0)
    (edges : List Edge) (f : List ℕ → List X → X) (first : X) (same : (name : List ℕ) (xs ys : List X) → AreAlike R xs ys → R (f name xs) (f name ys))
    → (n : ℕ) (name : List ℕ) → has_walk edges n name ≡ false → R (along edges f first n name) (f name (before edges (along edges f first n) name))
along_keeps R edges f first same zero name none = absurd (cc none)
along_keeps R edges f first same (suc n) name none =
    same name _ _ (alike_before R (λ name. true) edges (along edges f first n) (along edges f first (suc n)) n (edges_into name edges) (start_into (λ name. true) name edges (any_start edges)) none
    (λ name here none. along_keeps R edges f first same n name none))
