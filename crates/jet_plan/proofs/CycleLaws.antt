use Rattle.std.proofs.Common.{◌≡◌, ℕ, zero, suc, ◌+◌, ◌<◌, ◌≤◌, ◌⊎◌, inl, inr, List, [], ◌∷◌, map, length, true, false, Bool, cond, not, ◌&&◌, ◌||◌, refl, sym, ap, ◌∙◌, subst, arith, filter, ◌-◌}
use Rattle.std.proofs.lemmas.List.{length-map}
use Rattle.std.specs.Str.{bytes_eq}
use Rattle.std.specs.List.{list_any, Contains, IsDistinct, AllByRecursion}
use Rattle.std.proofs.lemmas.Slice.Eq.{bytes_eq-Decides}
use Rattle.std.proofs.lemmas.Cmp.{nat_list_eq_equiv}
use Rattle.std.proofs.lemmas.List.Folds.{Any-from_list_any, list_any-from_Any}
use Rattle.std.proofs.lemmas.Map.Keys.{IsDistinct-cons}
use Rattle.std.proofs.lemmas.Map.Made.{length-le_from_is_member}
use Rattle.jet_plan.specs.declared.edge.Edge.{Edge}
use Rattle.jet_plan.specs.declared.vertex.Vertex.{Vertex}
use Rattle.jet_plan.specs.Graph.{edges_into, Step, Walk, HasCycle}
use Rattle.jet_plan.specs.Along.{has_walk}
use Rattle.jet_plan.specs.Names.{has_name, has_unknown_end, AreKnown}
use Rattle.jet_plan.specs.AlongLaws.{StartIn}
use Rattle.jet_plan.proofs.Rounds.{or_false}

-- ---- tests over lists

pub true_false : true ≡ false → ⊥
true_false h = cc h

false_of : (b : Bool) → (b ≡ true → ⊥) → b ≡ false
false_of true h = absurd (h refl)
false_of false h = refl

not_not : (a b : Bool) → not (a && b) ≡ false → (a ≡ true) × (b ≡ true)
not_not true true h = (refl, refl)
not_not true false h = absurd (cc h)
not_not false b h = absurd (cc h)

any_into_step : (f : Edge → Bool) (e : Edge) (es : List Edge) (b : Bool) (rest : Bool) → list_any (λ w. w) (map f es) ≡ rest
    → list_any (λ w. w) (map f (cond b (e ∷ es) es)) ≡ ((b && f e) || rest)
any_into_step f e es true rest h = ap (λ r. f e || r) h
any_into_step f e es false rest h = h

any_into : (f : Edge → Bool) (name : List ℕ) (edges : List Edge) → list_any (λ w. w) (map f (edges_into name edges)) ≡ list_any (λ e. bytes_eq e.to name && f e) edges
any_into f name [] = refl
any_into f name (e ∷ edges) = any_into_step f e (edges_into name edges) (bytes_eq e.to name) _ (any_into f name edges)

pub both : (a b : Bool) → (a && b) ≡ true → (a ≡ true) × (b ≡ true)
both true b h = (refl, h)
both false b h = absurd (cc h)

pub same_name : (a b : List ℕ) → bytes_eq a b ≡ true → a ≡ b
same_name a b h = (bytes_eq-Decides a b).0 h

own_name : (a : List ℕ) → bytes_eq a a ≡ true
own_name a = (bytes_eq-Decides a a).1 refl

-- what passes at none fails at each
pub not_any : {X : Type 0} (xs : List X) (p : X → Bool) → list_any p xs ≡ false → (x : X) → Contains xs x → p x ≡ false
not_any xs p none x there = false_of (p x) (λ h. true_false (sym (list_any-from_Any p xs (there.0, x, there.1, there.2, h)) ∙ none))

is_known : (vertices : List Vertex) (e : Edge) → has_unknown_end vertices e ≡ false → (list_any (has_name e.from) vertices ≡ true) × (list_any (has_name e.to) vertices ≡ true)
is_known vertices e h = not_not (list_any (has_name e.from) vertices) (list_any (has_name e.to) vertices) h

one_of : (vertices : List Vertex) (q a : List ℕ) (rest : Bool) → (rest ≡ true → list_any (has_name q) vertices ≡ true) → list_any (has_name a) vertices ≡ true
    → (bytes_eq q a || rest) ≡ true → list_any (has_name q) vertices ≡ true
one_of vertices q a rest more here h = by_name vertices q a (bytes_eq q a) refl rest more here h where
  by_name : (vertices : List Vertex) (q a : List ℕ) (t : Bool) → bytes_eq q a ≡ t → (rest : Bool) → (rest ≡ true → list_any (has_name q) vertices ≡ true) → list_any (has_name a) vertices ≡ true
      → (t || rest) ≡ true → list_any (has_name q) vertices ≡ true
  by_name vertices q a true e rest more here h = rw (same_name q a e) here
  by_name vertices q a false e rest more here h = more h

turned : (a b : List ℕ) → bytes_eq a b ≡ bytes_eq b a
turned a b = nat_list_eq_equiv.symm a b

-- ---- walks and the test

-- the last edge of a walk that is not empty
pub last_step : (edges : List Edge) (n : ℕ) (name : List ℕ) → has_walk edges (suc n) name ≡ true → (c : List ℕ) × (has_walk edges n c ≡ true) × Step edges c name
last_step edges n name h =
    let found = Any-from_list_any (λ e. bytes_eq e.to name && has_walk edges n e.from) edges (sym (any_into (λ e. has_walk edges n e.from) name edges) ∙ h) in
    let parts = both (bytes_eq (found.1).to name) (has_walk edges n (found.1).from) found.4 in
    ((found.1).from, parts.1, record { edge = found.1; there = (found.0, found.2, found.3); leaves = refl; enters = same_name _ _ parts.0 })

-- one edge more
pub one_more : (edges : List Edge) (n : ℕ) (c name : List ℕ) → has_walk edges n c ≡ true → Step edges c name → has_walk edges (suc n) name ≡ true
one_more edges n c name h step =
    any_into (λ e. has_walk edges n e.from) name edges
    ∙ list_any-from_Any (λ e. bytes_eq e.to name && has_walk edges n e.from) edges
    (step.there.0, step.edge, step.there.1, step.there.2, rw (step.enters, step.leaves, own_name name, h) refl)

pub at_length : (edges : List Edge) (m n : ℕ) (b : List ℕ) → m ≡ n → has_walk edges m b ≡ true → has_walk edges n b ≡ true
at_length edges m n b e h = subst (λ (k : ℕ). has_walk edges k b ≡ true) e h

-- after a walk
pub walk_on : (edges : List Edge) (m k : ℕ) (a b : List ℕ) → Walk edges a b m → has_walk edges k a ≡ true → has_walk edges (m + k) b ≡ true
walk_on edges zero k a b w h = at_length edges k (zero + k) b (omega arith) (subst (λ (x : List ℕ). has_walk edges k x ≡ true) w h)
walk_on edges (suc m) k a b w h = at_length edges (suc (m + k)) (suc m + k) b (omega arith) (one_more edges (m + k) w.0 b (walk_on edges m k a w.0 w.1 h) w.2)

-- a cycle gives walks of any length
long_walks : (edges : List Edge) (n : ℕ) (a : List ℕ) → Walk edges a a (suc n) → (k : ℕ) → (m : ℕ) × (k ≤ m) × (has_walk edges m a ≡ true)
long_walks edges n a w zero = (0, omega arith, refl)
long_walks edges n a w (suc k) =
    let r = long_walks edges n a w k in
    (suc n + r.0, omega (arith, r.1), walk_on edges (suc n) r.0 a a w r.2)

-- a shorter walk
shorter : (edges : List Edge) (k : ℕ) (name : List ℕ) → has_walk edges (suc k) name ≡ true → has_walk edges k name ≡ true
shorter edges zero name h = refl
shorter edges (suc k) name h =
    let step = last_step edges (suc k) name h in
    one_more edges k step.0 name (shorter edges k step.0 step.1) step.2

pub cut_to : (edges : List Edge) (d n : ℕ) (name : List ℕ) → has_walk edges (d + n) name ≡ true → has_walk edges n name ≡ true
cut_to edges zero n name h = at_length edges (zero + n) n name (omega arith) h
cut_to edges (suc d) n name h = cut_to edges d n name (shorter edges (d + n) name (at_length edges (suc d + n) (suc (d + n)) name (omega arith) h))

-- ---- names

pub known_end : (vertices : List Vertex) (edges : List Edge) → AreKnown vertices edges → (from to : List ℕ) → Step edges from to
    → (list_any (has_name from) vertices ≡ true) × (list_any (has_name to) vertices ≡ true)
known_end vertices edges known from to step =
    let e = step.edge in
    let both_ends = is_known vertices e (not_any edges (has_unknown_end vertices) known e step.there) in
    rw (← step.leaves, ← step.enters) both_ends

-- the names of a walk, the last first
abbrev Trail : List Edge → List ℕ → List (List ℕ) → Type 0
Trail edges a [] = Unit {0}
Trail edges a (b ∷ names) = Step edges b a × Trail edges b names

-- a walk that the test finds has a trail
trail : (edges : List Edge) (n : ℕ) (a : List ℕ) → has_walk edges n a ≡ true → (names : List (List ℕ)) × (length names ≡ n) × Trail edges a names
trail edges zero a h = ([], refl, tt)
trail edges (suc n) a h =
    let step = last_step edges n a h in
    let rest = trail edges n step.0 step.1 in
    (step.0 ∷ rest.0, ap (λ k. suc k) rest.1, (step.2, rest.2))

-- a name that comes again closes a cycle
walk_back_step : (edges : List Edge) (a x b : List ℕ) (names : List (List ℕ)) (t : Bool) → bytes_eq a b ≡ t → Step edges b x
    → (list_any (bytes_eq a) names ≡ true → (n : ℕ) × Walk edges a b (suc n)) → (t || list_any (bytes_eq a) names) ≡ true → (n : ℕ) × Walk edges a x (suc n)
walk_back_step edges a x b names true e step more h = (0, (b, same_name a b e, step))
walk_back_step edges a x b names false e step more h = let w = more h in (suc w.0, (b, w.1, step))

walk_back : (edges : List Edge) (a x : List ℕ) (names : List (List ℕ)) → Trail edges x names → list_any (bytes_eq a) names ≡ true → (n : ℕ) × Walk edges a x (suc n)
walk_back edges a x [] t h = absurd (cc h)
walk_back edges a x (b ∷ names) t h = walk_back_step edges a x b names (bytes_eq a b) refl t.0 (walk_back edges a b names t.1) h

none_equal : (a : List ℕ) (names : List (List ℕ)) → list_any (bytes_eq a) names ≡ false → AllByRecursion (λ y. bytes_eq a y ≡ false) names
none_equal a [] h = tt
none_equal a (b ∷ names) h = let p = or_false (bytes_eq a b) (list_any (bytes_eq a) names) h in (p.0, none_equal a names p.1)

-- a trail has a cycle, or its names differ
by_test : (edges : List Edge) (a : List ℕ) (names : List (List ℕ)) (t : Bool) → list_any (bytes_eq a) names ≡ t → Trail edges a names
    → HasCycle edges ⊎ IsDistinct bytes_eq names → HasCycle edges ⊎ IsDistinct bytes_eq (a ∷ names)
by_test edges a names t e trail (inl cycle) = inl cycle
by_test edges a names true e trail (inr d) = (let w = walk_back edges a a names trail e in inl (a, w.0, w.1))
by_test edges a names false e trail (inr d) = inr (IsDistinct-cons bytes_eq a names (none_equal a names e) d)

no_names : IsDistinct bytes_eq []
unfolding IsDistinct
no_names = tt

cycle_or_distinct : (edges : List Edge) (a : List ℕ) (names : List (List ℕ)) → Trail edges a names → HasCycle edges ⊎ IsDistinct bytes_eq (a ∷ names)
cycle_or_distinct edges a [] t = by_test edges a [] (list_any (bytes_eq a) []) refl tt (inr no_names)
cycle_or_distinct edges a (b ∷ names) t = by_test edges a (b ∷ names) (list_any (bytes_eq a) (b ∷ names)) refl t (cycle_or_distinct edges b names t.1)

-- ---- a trail of known names is no longer than the vertices are many, or has a cycle

known_members : (vertices : List Vertex) (edges : List Edge) → AreKnown vertices edges → (a : List ℕ) (names : List (List ℕ)) → Trail edges a names → list_any (has_name a) vertices ≡ true
    → (q : List ℕ) → list_any (bytes_eq q) (a ∷ names) ≡ true → list_any (has_name q) vertices ≡ true
known_members vertices edges known a [] t here q h = one_of vertices q a false (λ no. absurd (cc no)) here h
known_members vertices edges known a (b ∷ names) t here q h =
    one_of vertices q a (list_any (bytes_eq q) (b ∷ names)) (known_members vertices edges known b names t.1 (known_end vertices edges known b a t.0).0 q) here h

as_members : (q : List ℕ) (vertices : List Vertex) → list_any (has_name q) vertices ≡ list_any (bytes_eq q) (map (λ v. v.name) vertices)
as_members q [] = refl
as_members q (v ∷ vertices) = let e = as_members q vertices in let f = turned v.name q in cc

long_trail : (vertices : List Vertex) (edges : List Edge) → AreKnown vertices edges → (a : List ℕ) (names : List (List ℕ)) → Trail edges a names → list_any (has_name a) vertices ≡ true
    → IsDistinct bytes_eq (a ∷ names) → length names < length vertices
long_trail vertices edges known a names t here d =
    let few = length-le_from_is_member nat_list_eq_equiv (a ∷ names) (map (λ v. v.name) vertices) d
    (λ q h. sym (as_members q vertices) ∙ known_members vertices edges known a names t here q h) in
    omega (arith, few, length-map vertices (λ v. v.name))

or_no_cycle : (edges : List Edge) (P : Type 0) → HasCycle edges ⊎ P → (P → ⊥) → HasCycle edges
or_no_cycle edges P (inl c) not_p = c
or_no_cycle edges P (inr p) not_p = absurd (not_p p)

-- the test finds a cycle
pub test_finds : (vertices : List Vertex) (edges : List Edge) → AreKnown vertices edges → list_any (λ v. has_walk edges (length vertices) v.name) vertices ≡ true → HasCycle edges
test_finds vertices edges known h =
    let found = Any-from_list_any (λ v. has_walk edges (length vertices) v.name) vertices h in
    let way = trail edges (length vertices) (found.1).name found.4 in
    let here : list_any (has_name (found.1).name) vertices ≡ true
    = list_any-from_Any (has_name (found.1).name) vertices (found.0, found.1, found.2, found.3, own_name (found.1).name) in
    or_no_cycle edges (IsDistinct bytes_eq ((found.1).name ∷ way.0)) (cycle_or_distinct edges (found.1).name way.0 way.2)
    (λ d. absurd (omega (arith, long_trail vertices edges known (found.1).name way.0 way.2 here d, way.1)))

-- a cycle passes the test
pub cycle_passes : (vertices : List Vertex) (edges : List Edge) → AreKnown vertices edges → HasCycle edges → list_any (λ v. has_walk edges (length vertices) v.name) vertices ≡ true
cycle_passes vertices edges known cycle =
    let a = cycle.0 in
    let long = long_walks edges cycle.1 a cycle.2 (length vertices) in
    let d : ((long.0 - length vertices) + length vertices) ≡ long.0 = omega (arith, long.1) in
    let walks : has_walk edges (length vertices) a ≡ true = cut_to edges (long.0 - length vertices) (length vertices) a (at_length edges long.0 _ a (sym d) long.2) in
    let known_a = (known_end vertices edges known (cycle.2).0 a (cycle.2).2).1 in
    let found = Any-from_list_any (has_name a) vertices known_a in
    let same : (found.1).name ≡ a = same_name (found.1).name a found.4 in
    list_any-from_Any (λ v. has_walk edges (length vertices) v.name) vertices (found.0, found.1, found.2, found.3, rw same walks)

-- ---- fewer edges have fewer walks

weaker_step : (q r : Edge → Bool) (e : Edge) (t u : Bool) → q e ≡ t → r e ≡ u → (q e ≡ true → r e ≡ true) → (x y : Bool) → (x ≡ true → y ≡ true) → (t || x) ≡ true → (u || y) ≡ true
weaker_step q r e t true is_t is_u w x y rest h = refl
weaker_step q r e true false is_t is_u w x y rest h = absurd (true_false (sym (w is_t) ∙ is_u))
weaker_step q r e false false is_t is_u w x y rest h = rest h

weaker : (q r : Edge → Bool) (es : List Edge) → ((e : Edge) → q e ≡ true → r e ≡ true) → list_any q es ≡ true → list_any r es ≡ true
weaker q r [] w h = absurd (cc h)
weaker q r (e ∷ es) w h = weaker_step q r e (q e) (r e) refl refl (w e) (list_any q es) (list_any r es) (weaker q r es w) h

kept_step : (q : Edge → Bool) (e : Edge) (es : List Edge) (xs : List Edge) (b : Bool) → (list_any q xs ≡ true → list_any q es ≡ true) → list_any q (cond b (e ∷ xs) xs) ≡ true → (t : Bool) → q e ≡ t → (t || list_any q es) ≡ true
kept_step q e es xs b rest h true is = refl
kept_step q e es xs true rest h false is = rest (rw is at h)
kept_step q e es xs false rest h false is = rest h

any_kept : (q p : Edge → Bool) (es : List Edge) → list_any q (filter p es) ≡ true → list_any q es ≡ true
any_kept q p [] h = absurd (cc h)
any_kept q p (e ∷ es) h = kept_step q e es (filter p es) (p e) (any_kept q p es) h (q e) refl

and_more : (a x y : Bool) → (x ≡ true → y ≡ true) → (a && x) ≡ true → (a && y) ≡ true
and_more true x y h t = h t
and_more false x y h t = absurd (cc t)

walks_in_fewer : (p : Edge → Bool) (edges : List Edge) (n : ℕ) (name : List ℕ) → has_walk (filter p edges) n name ≡ true → has_walk edges n name ≡ true
walks_in_fewer p edges zero name h = refl
walks_in_fewer p edges (suc n) name h =
    any_into (λ e. has_walk edges n e.from) name edges
    ∙ weaker (λ e. bytes_eq e.to name && has_walk (filter p edges) n e.from) (λ e. bytes_eq e.to name && has_walk edges n e.from) edges
    (λ e. and_more (bytes_eq e.to name) (has_walk (filter p edges) n e.from) (has_walk edges n e.from) (walks_in_fewer p edges n e.from))
    (any_kept (λ e. bytes_eq e.to name && has_walk (filter p edges) n e.from) p edges
    (sym (any_into (λ e. has_walk (filter p edges) n e.from) name (filter p edges)) ∙ h))

-- in a graph without a cycle no walk is as long as the vertices are many
pub no_long_walk : (vertices : List Vertex) (edges : List Edge) → list_any (λ v. has_walk edges (length vertices) v.name) vertices ≡ false
    → (name : List ℕ) → list_any (has_name name) vertices ≡ true → has_walk edges (length vertices) name ≡ false
no_long_walk vertices edges none name here =
    let found = Any-from_list_any (has_name name) vertices here in
    let same : (found.1).name ≡ name = same_name (found.1).name name found.4 in
    subst (λ (n : List ℕ). has_walk edges (length vertices) n ≡ false) same
    (not_any vertices (λ v. has_walk edges (length vertices) v.name) none found.1 (found.0, found.2, found.3))

-- nor is one over some of the edges
pub no_walk : (p : Edge → Bool) (vertices : List Vertex) (edges : List Edge) → list_any (λ v. has_walk edges (length vertices) v.name) vertices ≡ false
    → (name : List ℕ) → list_any (has_name name) vertices ≡ true → has_walk (filter p edges) (length vertices) name ≡ false
no_walk p vertices edges none name here =
    false_of (has_walk (filter p edges) (length vertices) name)
    (λ h. true_false (sym (walks_in_fewer p edges (length vertices) name h) ∙ no_long_walk vertices edges none name here))

start_step : (vertices : List Vertex) (e : Edge) (es : List Edge) (b : Bool) → list_any (has_name e.from) vertices ≡ true → StartIn (λ name. list_any (has_name name) vertices) es → StartIn (λ name. list_any (has_name name) vertices) (cond b (e ∷ es) es)
start_step vertices e es true here rest = (here, rest)
start_step vertices e es false here rest = rest

-- known edges start at vertices
pub starts_known : (p : Edge → Bool) (vertices : List Vertex) (edges : List Edge) → AreKnown vertices edges → StartIn (λ name. list_any (has_name name) vertices) (filter p edges)
starts_known p vertices [] known = tt
starts_known p vertices (e ∷ edges) known =
    let parts = or_false (has_unknown_end vertices e) (list_any (has_unknown_end vertices) edges) known in
    start_step vertices e (filter p edges) (p e) (is_known vertices e parts.0).0 (starts_known p vertices edges parts.1)
