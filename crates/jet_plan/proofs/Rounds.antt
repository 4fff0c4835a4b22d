use Rattle.std.proofs.Common.{◌≡◌, ℕ, suc, ◌+◌, ◌<◌, List, [], ◌∷◌, map, length, get_or, true, false, Bool, cond, not, ◌&&◌, ◌||◌, refl, ap, arith, rules, replicate, nat_lt}
use Rattle.std.specs.Str.{bytes_eq}
use Rattle.std.specs.List.{list_any, position_or_len}
use Rattle.std.proofs.lemmas.Slice.Eq.{bytes_eq-Decides}
use Rattle.jet_plan.specs.declared.edge.Edge.{Edge}
use Rattle.jet_plan.specs.declared.vertex.Vertex.{Vertex}
use Rattle.jet_plan.specs.Graph.{edges_into}
use Rattle.jet_plan.specs.Along.{before, has_walk}
use Rattle.jet_plan.specs.Names.{has_name, has_unknown_end, AreKnown}
use Rattle.jet_plan.specs.Tables.{entry, IsTable}

pub or_false : (a b : Bool) → (a || b) ≡ false → (a ≡ false) × (b ≡ false)
or_false true b h = absurd (cc h)
or_false false b h = (refl, h)

both_true : (a b : Bool) → not (a && b) ≡ false → (a ≡ true) × (b ≡ true)
both_true true true h = (refl, refl)
both_true true false h = absurd (cc h)
both_true false b h = absurd (cc h)

ltb-true-of : {m n : ℕ} → m < n → nat_lt m n ≡ true
ltb-true-of h = search (rules, h)

step_in : {X : Type 0} (g : List ℕ → X) (name : List ℕ) (d : X) (v : Vertex) (b : Bool) → has_name name v ≡ b → (vs : List Vertex)
    → (b || list_any (has_name name) vs) ≡ true
    → (list_any (has_name name) vs ≡ true → (get_or (map (λ v. g v.name) vs) (position_or_len (has_name name) vs) d ≡ g name) × (position_or_len (has_name name) vs < length vs))
    → (get_or (g v.name ∷ map (λ v. g v.name) vs) (cond (not b) (1 + position_or_len (has_name name) vs) 0) d ≡ g name) × (cond (not b) (1 + position_or_len (has_name name) vs) 0 < suc (length vs))
step_in g name d v true e vs known ih = (ap g ((bytes_eq-Decides v.name name).0 e), omega arith)
step_in g name d v false e vs known ih = let h = ih known in grind (arith, h.0, h.1)

place_in : {X : Type 0} (g : List ℕ → X) (name : List ℕ) (d : X) (vs : List Vertex) → list_any (has_name name) vs ≡ true
    → (get_or (map (λ v. g v.name) vs) (position_or_len (has_name name) vs) d ≡ g name) × (position_or_len (has_name name) vs < length vs)
place_in g name d [] known = absurd (cc known)
place_in g name d (v ∷ vs) known = step_in g name d v (has_name name v) refl vs known (place_in g name d vs)

-- a table of what g gives has g of a name at the name's place
pub entry_is : {X : Type 0} (g : List ℕ → X) (name : List ℕ) (d : X) (vs : List Vertex) → list_any (has_name name) vs ≡ true → entry vs (map (λ v. g v.name) vs) d name ≡ g name
entry_is g name d vs known =
    let h = place_in g name d vs known in
    let within : nat_lt (position_or_len (has_name name) vs) (length vs) ≡ true = ltb-true-of h.1 in
    rw within h.0

known_start : (vs : List Vertex) (e : Edge) → has_unknown_end vs e ≡ false → list_any (has_name e.from) vs ≡ true
known_start vs e h = (both_true (list_any (has_name e.from) vs) (list_any (has_name e.to) vs) h).0

before_step : {X : Type 0} (g h : List ℕ → X) (e : Edge) (es : List Edge) (b : Bool) → h e.from ≡ g e.from
    → map (λ e. h e.from) es ≡ map (λ e. g e.from) es → map (λ e. h e.from) (cond b (e ∷ es) es) ≡ map (λ e. g e.from) (cond b (e ∷ es) es)
before_step g h e es true here rest = cc
before_step g h e es false here rest = rest

-- what a table says of the starts of edges is what g says of them
pub before_is : {X : Type 0} (g : List ℕ → X) (d : X) (vs : List Vertex) (edges : List Edge) (name : List ℕ) → AreKnown vs edges
    → before edges (entry vs (map (λ v. g v.name) vs) d) name ≡ before edges g name
before_is g d vs [] name known = refl
before_is g d vs (e ∷ edges) name known =
    let parts = or_false (has_unknown_end vs e) (list_any (has_unknown_end vs) edges) known in
    before_step g (entry vs (map (λ v. g v.name) vs) d) e (edges_into name edges) (bytes_eq e.to name)
    (entry_is g e.from d vs (known_start vs e parts.0)) (before_is g d vs edges name parts.1)

pub map_same : {A B : Type 0} (f g : A → B) (xs : List A) → ((x : A) → f x ≡ g x) → map f xs ≡ map g xs
map_same f g [] each = refl
map_same f g (x ∷ xs) each = let here = each x in let rest = map_same f g xs each in cc

-- one round over a table of what g gives
pub round_is : {X : Type 0} (g : List ℕ → X) (f : Vertex → List X → X) (d : X) (vs : List Vertex) (edges : List Edge) (table : List X) → AreKnown vs edges → IsTable vs table g
    → map (λ v. f v (before edges (entry vs table d) v.name)) vs ≡ map (λ v. f v (before edges g v.name)) vs
round_is g f d vs edges table known is =
    rw is (map_same (λ v. f v (before edges (entry vs (map (λ w. g w.name) vs) d) v.name)) (λ v. f v (before edges g v.name)) vs (λ v. ap (f v) (before_is g d vs edges v.name known)))

pub first_table : {X : Type 0} (x : X) (vs : List Vertex) → replicate (length vs) x ≡ map (λ v. x) vs
first_table x [] = refl
first_table x (v ∷ vs) = ap (λ xs. x ∷ xs) (first_table x vs)

pub list_any-map : {A : Type 0} (f : A → Bool) (xs : List A) → list_any (λ w. w) (map f xs) ≡ list_any f xs
list_any-map f [] = refl
list_any-map f (x ∷ xs) = ap (λ b. f x || b) (list_any-map f xs)

-- after as many rounds as there are vertices
pub last_table : (edges : List Edge) (vs : List Vertex) (table : List Bool) (n : ℕ) → IsTable vs table (has_walk edges n) → n ≡ length vs
    → list_any (λ w. w) table ≡ list_any (λ v. has_walk edges (length vs) v.name) vs
last_table edges vs table n is e = rw is (rw e (list_any-map (λ v. has_walk edges (length vs) v.name) vs))
