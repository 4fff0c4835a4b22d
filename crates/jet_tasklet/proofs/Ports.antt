-- The queues of a port, through the inputs.
use Rattle.std.proofs.Common.{◌≡◌, ℕ, zero, suc, ◌+◌, ◌<◌, ◌≤◌, ◌&&◌, Bool, true, false, cond, List, [], ◌∷◌, length, get_or, set, take, refl, sym, ◌∙◌, ap, subst, arith, length-append, add-one}
use Rattle.std.specs.Prelude.{All}
use Rattle.std.specs.List.{list_all}
use Rattle.std.proofs.lemmas.List.{map-set}
use Rattle.std.proofs.lemmas.List.Folds.{list_all-append}
use Rattle.std.proofs.lemmas.List.Elements.{All-head, All-tail, All-cons, All-nil}
use Rattle.jet_boxes.specs.declared.port.Port.{Port}
use Rattle.jet_conveyor.specs.Conveyor as conveyor
use Rattle.jet_conveyor.specs.Conveyor.{View}
use Rattle.jet_tasklet.specs.declared.input.Input.{Input}
use Rattle.jet_tasklet.specs.Trace.{same_port}
use Rattle.jet_tasklet.specs.Inputs.{InputView, input_view, inputs_view, rings, queue_count, dones, all_done, NoneKnownAt}

abbrev share : {X : Type 0} → (View → List X) → Port → InputView → List X
share f port v = cond (same_port v.port port) (f v.queues) []

-- ---- how many queues there are before an input
pub count_next : (port : Port) (vs : List InputView) (i : ℕ) (v : InputView) → i < length vs → v ≡ get_or vs i v → queue_count port (take (suc i) vs) ≡ queue_count port (take i vs) + length (share (λ u. u.rings) port v)
count_next port [] i v lt is = absurd (omega (arith, lt))
count_next port (u ∷ vs) zero v lt is =
    let alone = length-append (share (λ w. w.rings) port u) [] in
    let same : length (share (λ w. w.rings) port v) ≡ length (share (λ w. w.rings) port u) = ap (λ (w : InputView). length (share (λ x. x.rings) port w)) is in
    omega (arith, alone, same)
count_next port (u ∷ vs) (suc i) v lt is =
    let ih : queue_count port (take (suc i) vs) ≡ queue_count port (take i vs) + length (share (λ u. u.rings) port v) = count_next port vs i v (omega (arith, lt)) is in
    let a = length-append (share (λ w. w.rings) port u) (rings port (take (suc i) vs)) in
    let b = length-append (share (λ w. w.rings) port u) (rings port (take i vs)) in
    omega (arith, ih, a, b)

pub count_take : (port : Port) (vs : List InputView) (i : ℕ) → queue_count port (take i vs) ≤ queue_count port vs
count_take port [] zero = omega arith
count_take port [] (suc i) = omega arith
count_take port (u ∷ vs) zero = omega arith
count_take port (u ∷ vs) (suc i) =
    omega (arith, count_take port vs i, length-append (share (λ w. w.rings) port u) (rings port (take i vs)), length-append (share (λ w. w.rings) port u) (rings port vs))

-- ---- whether all queues are done
both : (a b : Bool) → a ≡ true → b ≡ true → (a && b) ≡ true
both true b h k = k
both false b h k = absurd (cc)

left : (a b : Bool) → (a && b) ≡ true → a ≡ true
left true b h = refl
left false b h = absurd (cc)

right : (a b : Bool) → (a && b) ≡ true → b ≡ true
right true b h = h
right false b h = absurd (cc)

left_false : (a b : Bool) → a ≡ false → (a && b) ≡ false
left_false true b h = absurd (cc)
left_false false b h = refl

right_false : (a b : Bool) → b ≡ false → (a && b) ≡ false
right_false true b h = h
right_false false b h = refl

same_truth : (a b : Bool) → (a ≡ true → b ≡ true) → (b ≡ true → a ≡ true) → a ≡ b
same_truth true b f g = sym (f refl)
same_truth false true f g = g refl
same_truth false false f g = refl

to_list : (es : List Bool) → All (λ d. d ≡ true) es → list_all (λ d. d) es ≡ true
to_list [] k = refl
to_list (e ∷ es) k = both e (list_all (λ d. d) es) (All-head (λ (d : Bool). d ≡ true) e es k) (to_list es (All-tail (λ (d : Bool). d ≡ true) e es k))

to_all : (es : List Bool) → list_all (λ d. d) es ≡ true → All (λ d. d ≡ true) es
to_all [] k = All-nil (λ (d : Bool). d ≡ true)
to_all (e ∷ es) k = All-cons (λ (d : Bool). d ≡ true) e es (left e (list_all (λ d. d) es) k) (to_all es (right e (list_all (λ d. d) es) k))

pub list_all_is : (r : Bool) (ds : List Bool) → ((r ≡ true → All (λ d. d ≡ true) ds) × (All (λ d. d ≡ true) ds → r ≡ true)) → r ≡ list_all (λ d. d) ds
list_all_is r ds h = same_truth r (list_all (λ d. d) ds) (λ e. to_list ds (h.0 e)) (λ e. h.1 (to_all ds e))

pub all_done_false : (port : Port) (vs : List InputView) (i : ℕ) (v : InputView) → i < length vs → v ≡ get_or vs i v → same_port v.port port ≡ true → list_all (λ d. d) v.queues.done ≡ false → all_done port vs ≡ false
all_done_false port [] i v lt is to no_end = absurd (omega (arith, lt))
all_done_false port (u ∷ vs) zero v lt is to no_end =
    let here : list_all (λ d. d) (share (λ w. w.done) port u) ≡ false = subst (λ (w : InputView). list_all (λ d. d) (share (λ x. x.done) port w) ≡ false) is (ap (λ (b : Bool). list_all (λ d. d) (cond b v.queues.done [])) to ∙ no_end) in
    list_all-append (λ d. d) (share (λ w. w.done) port u) (dones port vs) ∙ left_false (list_all (λ d. d) (share (λ w. w.done) port u)) (all_done port vs) here
all_done_false port (u ∷ vs) (suc i) v lt is to no_end =
    list_all-append (λ d. d) (share (λ w. w.done) port u) (dones port vs) ∙ right_false (list_all (λ d. d) (share (λ w. w.done) port u)) (all_done port vs) (all_done_false port vs i v (omega (arith, lt)) is to no_end)

pub all_done_next : (port : Port) (vs : List InputView) (i : ℕ) (v : InputView) → i < length vs → v ≡ get_or vs i v → list_all (λ d. d) (share (λ u. u.done) port v) ≡ true → all_done port (take i vs) ≡ true → all_done port (take (suc i) vs) ≡ true
all_done_next port [] i v lt is here before = absurd (omega (arith, lt))
all_done_next port (u ∷ vs) zero v lt is here before =
    list_all-append (λ d. d) (share (λ w. w.done) port u) [] ∙ both (list_all (λ d. d) (share (λ w. w.done) port u)) true (subst (λ (w : InputView). list_all (λ d. d) (share (λ x. x.done) port w) ≡ true) is here) refl
all_done_next port (u ∷ vs) (suc i) v lt is here before =
    let split : list_all (λ d. d) (share (λ w. w.done) port u) && all_done port (take i vs) ≡ true = sym (list_all-append (λ d. d) (share (λ w. w.done) port u) (dones port (take i vs))) ∙ before in
    let rest : all_done port (take (suc i) vs) ≡ true = all_done_next port vs i v (omega (arith, lt)) is here (right (list_all (λ d. d) (share (λ w. w.done) port u)) (all_done port (take i vs)) split) in
    list_all-append (λ d. d) (share (λ w. w.done) port u) (dones port (take (suc i) vs)) ∙ both (list_all (λ d. d) (share (λ w. w.done) port u)) (all_done port (take (suc i) vs)) (left (list_all (λ d. d) (share (λ w. w.done) port u)) (all_done port (take i vs)) split) rest

-- ---- inputs as they are, and as a contract sees them
pub view_at : (xs : List Input) (i : ℕ) (x : Input) → i < length xs → x ≡ get_or xs i x → input_view x ≡ get_or (inputs_view xs) i (input_view x)
view_at [] i x lt is = absurd (omega (arith, lt))
view_at (y ∷ xs) zero x lt is = ap input_view is
view_at (y ∷ xs) (suc i) x lt is = view_at xs i x (omega (arith, lt)) is

pub length_views : (xs : List Input) → length (inputs_view xs) ≡ length xs
length_views [] = refl
length_views (x ∷ xs) = ap suc (length_views xs)

pub views_take : (i : ℕ) (xs : List Input) → inputs_view (take i xs) ≡ take i (inputs_view xs)
views_take zero xs = refl
views_take (suc i) [] = refl
views_take (suc i) (x ∷ xs) = ap (λ (vs : List InputView). input_view x ∷ vs) (views_take i xs)

-- a change of one input
pub views_set : (xs : List Input) (i : ℕ) (y : Input) → inputs_view (set xs i y) ≡ set (inputs_view xs) i (input_view y)
views_set xs i y = map-set input_view xs i y

pub views_stay : (xs : List Input) (i : ℕ) (x y : Input) → i < length xs → x ≡ get_or xs i x → input_view y ≡ input_view x → inputs_view (set xs i y) ≡ inputs_view xs
views_stay [] i x y lt is same = absurd (omega (arith, lt))
views_stay (z ∷ xs) zero x y lt is same = ap (λ (v : InputView). v ∷ inputs_view xs) (same ∙ ap input_view is)
views_stay (z ∷ xs) (suc i) x y lt is same = ap (λ (vs : List InputView). input_view z ∷ vs) (views_stay xs i x y (omega (arith, lt)) is same)

abbrev NoneIn : Port → InputView → Type 0
NoneIn port i = same_port i.port port ≡ true → conveyor.NoneKnown i.queues 0 (length i.queues.rings)

pub none_next : (port : Port) (vs : List InputView) (i : ℕ) (v : InputView) → i < length vs → v ≡ get_or vs i v → NoneIn port v → NoneKnownAt port (take i vs) → NoneKnownAt port (take (suc i) vs)
none_next port [] i v lt is here before = absurd (omega (arith, lt))
none_next port (u ∷ vs) zero v lt is here before = (subst (NoneIn port) is here, tt)
none_next port (u ∷ vs) (suc i) v lt is here before = (before.0, none_next port vs i v (omega (arith, lt)) is here before.1)

pub next_done : (port : Port) (xs : List Input) (i : ℕ) (x : Input) → i < length xs → x ≡ get_or xs i x → list_all (λ d. d) (share (λ u. u.done) port (input_view x)) ≡ true → all_done port (inputs_view (take i xs)) ≡ true → all_done port (inputs_view (take (i + 1) xs)) ≡ true
next_done port xs i x lt is here before =
    let within : i < length (inputs_view xs) = omega (arith, lt, length_views xs) in
    let was : all_done port (take i (inputs_view xs)) ≡ true = subst (λ (vs : List InputView). all_done port vs ≡ true) (views_take i xs) before in
    let then : all_done port (take (suc i) (inputs_view xs)) ≡ true = all_done_next port (inputs_view xs) i (input_view x) within (view_at xs i x lt is) here was in
    subst (λ (n : ℕ). all_done port (inputs_view (take n xs)) ≡ true) (sym (add-one i)) (subst (λ (vs : List InputView). all_done port vs ≡ true) (sym (views_take (suc i) xs)) then)

pub share_done : (b : Bool) (ds : List Bool) → (b ≡ true → list_all (λ d. d) ds ≡ true) → list_all (λ d. d) (cond b ds []) ≡ true
share_done true ds h = h refl
share_done false ds h = refl

-- ---- a poll in a loop over the inputs
-- what is known at an input, where the inputs look as they did at first
pub record At (vs : List InputView) (xs : List Input) (i : ℕ) (x : Input) : Type 0 where
  pub same : inputs_view xs ≡ vs
  pub inside : i < length xs
  pub is : x ≡ get_or xs i x

module _ (vs : List InputView) (xs : List Input) (i : ℕ) (x : Input) (at : At vs xs i x) where
  pub at_inside : i < length vs
  at_inside = omega (arith, at.inside, length_views xs, ap (λ (ws : List InputView). length ws) at.same)

  pub at_is : input_view x ≡ get_or vs i (input_view x)
  at_is = subst (λ (ws : List InputView). input_view x ≡ get_or ws i (input_view x)) at.same (view_at xs i x at.inside at.is)

  -- the queues of this input have numbers below the number of all
  pub at_room : (port : Port) → same_port x.port port ≡ true → queue_count port (take i vs) + length (input_view x).queues.rings ≤ queue_count port vs
  at_room port to =
      let next = count_next port vs i (input_view x) at_inside at_is in
      let all : length (share (λ u. u.rings) port (input_view x)) ≡ length (input_view x).queues.rings = ap (λ (b : Bool). length (cond b (input_view x).queues.rings [])) to in
      omega (arith, next, all, count_take port vs (suc i))

  pub at_next : (port : Port) → same_port x.port port ≡ true → queue_count port (take (i + 1) vs) ≡ queue_count port (take i vs) + length (input_view x).queues.rings
  at_next port to =
      let next = count_next port vs i (input_view x) at_inside at_is in
      let all : length (share (λ u. u.rings) port (input_view x)) ≡ length (input_view x).queues.rings = ap (λ (b : Bool). length (cond b (input_view x).queues.rings [])) to in
      let one : queue_count port (take (i + 1) vs) ≡ queue_count port (take (suc i) vs) = ap (λ (n : ℕ). queue_count port (take n vs)) (add-one i) in
      omega (arith, next, all, one)

  pub at_other : (port : Port) → same_port x.port port ≡ false → queue_count port (take (i + 1) vs) ≡ queue_count port (take i vs)
  at_other port to =
      let next = count_next port vs i (input_view x) at_inside at_is in
      let all : length (share (λ u. u.rings) port (input_view x)) ≡ 0 = ap (λ (b : Bool). length (cond b (input_view x).queues.rings [])) to in
      let one : queue_count port (take (i + 1) vs) ≡ queue_count port (take (suc i) vs) = ap (λ (n : ℕ). queue_count port (take n vs)) (add-one i) in
      omega (arith, next, all, one)

  pub at_none : (port : Port) → NoneIn port (input_view x) → NoneKnownAt port (take i vs) → NoneKnownAt port (take (i + 1) vs)
  at_none port here before = subst (λ (n : ℕ). NoneKnownAt port (take n vs)) (sym (add-one i)) (none_next port vs i (input_view x) at_inside at_is here before)

  -- the input changes, but not to the eye
  pub at_stays : (y : Input) → input_view y ≡ input_view x → inputs_view (set xs i y) ≡ vs
  at_stays y same = views_stay xs i x y at.inside at.is same ∙ at.same

  pub at_sets : (y : Input) → inputs_view (set xs i y) ≡ set vs i (input_view y)
  at_sets y = views_set xs i y ∙ ap (λ (ws : List InputView). set ws i (input_view y)) at.same

pub get_same : {X : Type 0} (xs : List X) (i : ℕ) (a b : X) → i < length xs → get_or xs i a ≡ get_or xs i b
get_same [] i a b lt = absurd (omega (arith, lt))
get_same (x ∷ xs) zero a b lt = refl
get_same (x ∷ xs) (suc i) a b lt = get_same xs i a b (omega (arith, lt))

pub here_other : (port : Port) (v : InputView) → same_port v.port port ≡ false → NoneIn port v
here_other port v away to = absurd (cc)

pub here_nothing : (port : Port) (v : InputView) → conveyor.NoneKnown v.queues 0 (length v.queues.rings) → NoneIn port v
here_nothing port v none to = none

pub view_ported : (y : Input) (port : Port) → y.port ≡ port → input_view y ≡ record { port = port; queues = (input_view y).queues }
view_ported y port is = ap (λ (p : Port). let v : InputView = record { port = p; queues = (input_view y).queues } in v) is
