-- One input changed, through the lists of all queues of a port.
use Rattle.std.proofs.Common.{◌≡◌, ℕ, zero, suc, ◌+◌, ◌<◌, Bool, true, false, cond, List, [], ◌∷◌, ◌++◌, length, get_or, set, take, refl, sym, ◌∙◌, ap, subst, arith, length-append}
use Rattle.jet_items.specs.Order.{Each}
use Rattle.jet_boxes.specs.declared.port.Port.{Port}
use Rattle.jet_conveyor.specs.Conveyor.{View}
use Rattle.jet_tasklet.specs.Trace.{same_port}
use Rattle.jet_tasklet.specs.Inputs.{InputView, of_port, rings, queue_count}

pub set_left : {X : Type 0} (xs ys : List X) (w : ℕ) (y : X) → w < length xs → set (xs ++ ys) w y ≡ set xs w y ++ ys
set_left [] ys w y lt = absurd (omega (arith, lt))
set_left (x ∷ xs) ys zero y lt = refl
set_left {X} (x ∷ xs) ys (suc w) y lt = ap (λ (zs : List X). x ∷ zs) (set_left xs ys w y (omega (arith, lt)))

pub set_right : {X : Type 0} (xs ys : List X) (k m : ℕ) (y : X) → m ≡ length xs + k → set (xs ++ ys) m y ≡ xs ++ set ys k y
set_right {X} [] ys k m y is = let e : m ≡ k = omega (arith, is) in ap (λ (n : ℕ). set ys n y) e
set_right (x ∷ xs) ys k zero y is = absurd (omega (arith, is))
set_right {X} (x ∷ xs) ys k (suc m) y is = ap (λ (zs : List X). x ∷ zs) (set_right xs ys k m y (omega (arith, is)))

pub each_put : {X : Type 0} (P : X → Type 0) (xs : List X) (i : ℕ) (y : X) → Each P xs → P y → Each P (set xs i y)
each_put P [] i y h k = tt
each_put P (x ∷ xs) zero y h k = (k, h.1)
each_put P (x ∷ xs) (suc i) y h k = (h.0, each_put P xs i y h.1 k)

pub each_get : {X : Type 0} (P : X → Type 0) (xs : List X) (i : ℕ) (x : X) → i < length xs → x ≡ get_or xs i x → Each P xs → P x
each_get P [] i x lt is h = absurd (omega (arith, lt))
each_get {X} P (y ∷ xs) zero x lt is h = subst P (sym is) h.0
each_get P (y ∷ xs) (suc i) x lt is h = each_get P xs i x (omega (arith, lt)) is h.1

abbrev share : {X : Type 0} → (View → List X) → Port → InputView → List X
share f port v = cond (same_port v.port port) (f v.queues) []

abbrev changed : InputView → View → InputView
changed v now = record { port = v.port; queues = now }

share_length : {X : Type 0} (f : View → List X) (port : Port) (v : InputView) → length (f v.queues) ≡ length v.queues.rings → length (share f port v) ≡ length (share (λ u. u.rings) port v)
share_length f port v even = by_port (same_port v.port port)
  where
    by_port : (b : Bool) → length (cond b (f v.queues) []) ≡ length (cond b v.queues.rings [])
    by_port true = even
    by_port false = refl

share_same : {X : Type 0} (f : View → List X) (port : Port) (v : InputView) (now : View) (b : Bool) → same_port v.port port ≡ b → (b ≡ true → f now ≡ f v.queues) → share f port (changed v now) ≡ share f port v
share_same {X} f port v now true is h = ap (λ (c : Bool). cond c (f now) []) is ∙ (h refl ∙ sym (ap (λ (c : Bool). cond c (f v.queues) []) is))
share_same {X} f port v now false is h = ap (λ (c : Bool). cond c (f now) []) is ∙ sym (ap (λ (c : Bool). cond c (f v.queues) []) is)

-- a change that leaves these lists, or one of an input of another port
pub of_port_same : {X : Type 0} (f : View → List X) (port : Port) (vs : List InputView) (i : ℕ) (v : InputView) (now : View) → i < length vs → v ≡ get_or vs i v → (same_port v.port port ≡ true → f now ≡ f v.queues) → of_port f port (set vs i (changed v now)) ≡ of_port f port vs
of_port_same f port [] i v now lt is h = absurd (omega (arith, lt))
of_port_same {X} f port (u ∷ vs) zero v now lt is h =
    ap (λ (xs : List X). xs ++ of_port f port vs) (share_same f port v now (same_port v.port port) refl h ∙ ap (λ (w : InputView). share f port w) is)
of_port_same {X} f port (u ∷ vs) (suc i) v now lt is h = ap (λ (xs : List X). share f port u ++ xs) (of_port_same f port vs i v now (omega (arith, lt)) is h)

-- one element of one of these lists
pub of_port_set : {X : Type 0} (f : View → List X) (port : Port) (vs : List InputView) (i : ℕ) (v : InputView) (now : View) (w m : ℕ) (y : X) → Each (λ u. length (f u.queues) ≡ length u.queues.rings) vs → i < length vs → v ≡ get_or vs i v → same_port v.port port ≡ true → w < length v.queues.rings → f now ≡ set (f v.queues) w y → m ≡ queue_count port (take i vs) + w → of_port f port (set vs i (changed v now)) ≡ set (of_port f port vs) m y
of_port_set f port [] i v now w m y even lt is to within next at = absurd (omega (arith, lt))
of_port_set {X} f port (u ∷ vs) zero v now w m y even lt is to within next at =
    let index : m ≡ w = omega (arith, at) in
    let evens : length (f v.queues) ≡ length v.queues.rings = subst (λ (x : InputView). length (f x.queues) ≡ length x.queues.rings) (sym is) even.0 in
    let here : share f port v ≡ f v.queues = ap (λ (c : Bool). cond c (f v.queues) []) to in
    let there : share f port (changed v now) ≡ set (share f port v) w y = ap (λ (c : Bool). cond c (f now) []) to ∙ (next ∙ ap (λ (xs : List X). set xs w y) (sym here)) in
    let inside : w < length (share f port v) = omega (arith, within, evens, ap (λ (xs : List X). length xs) here) in
    ap (λ (xs : List X). xs ++ of_port f port vs) there
    ∙ (sym (set_left (share f port v) (of_port f port vs) w y inside)
    ∙ (ap (λ (n : ℕ). set (share f port v ++ of_port f port vs) n y) (sym index) ∙ ap (λ (x : InputView). set (share f port x ++ of_port f port vs) m y) is))
of_port_set {X} f port (u ∷ vs) (suc i) v now w m y even lt is to within next at =
    let before = length-append (share (λ x. x.rings) port u) (rings port (take i vs)) in
    let same = share_length f port u even.0 in
    let rest : of_port f port (set vs i (changed v now)) ≡ set (of_port f port vs) (queue_count port (take i vs) + w) y = of_port_set f port vs i v now w (queue_count port (take i vs) + w) y even.1 (omega (arith, lt)) is to within next refl in
    let index : m ≡ length (share f port u) + (queue_count port (take i vs) + w) = omega (arith, at, before, same) in
    ap (λ (xs : List X). share f port u ++ xs) rest ∙ sym (set_right (share f port u) (of_port f port vs) (queue_count port (take i vs) + w) m y index)

pub of_port_length : {X : Type 0} (f : View → List X) (port : Port) (vs : List InputView) → Each (λ u. length (f u.queues) ≡ length u.queues.rings) vs → length (of_port f port vs) ≡ queue_count port vs
of_port_length f port [] even = refl
of_port_length f port (u ∷ vs) even =
    omega (arith, of_port_length f port vs even.1, share_length f port u even.0, length-append (share f port u) (of_port f port vs), length-append (share (λ x. x.rings) port u) (rings port vs))

get_left : {X : Type 0} (xs ys : List X) (w : ℕ) (d : X) → w < length xs → get_or (xs ++ ys) w d ≡ get_or xs w d
get_left [] ys w d lt = absurd (omega (arith, lt))
get_left (x ∷ xs) ys zero d lt = refl
get_left (x ∷ xs) ys (suc w) d lt = get_left xs ys w d (omega (arith, lt))

get_right : {X : Type 0} (xs ys : List X) (k m : ℕ) (d : X) → m ≡ length xs + k → get_or (xs ++ ys) m d ≡ get_or ys k d
get_right {X} [] ys k m d is = let e : m ≡ k = omega (arith, is) in ap (λ (n : ℕ). get_or ys n d) e
get_right (x ∷ xs) ys k zero d is = absurd (omega (arith, is))
get_right (x ∷ xs) ys k (suc m) d is = get_right xs ys k m d (omega (arith, is))

-- one element of these lists, by its input
pub of_port_get : {X : Type 0} (f : View → List X) (port : Port) (vs : List InputView) (i : ℕ) (v : InputView) (w m : ℕ) (d : X) → Each (λ u. length (f u.queues) ≡ length u.queues.rings) vs → i < length vs → v ≡ get_or vs i v → same_port v.port port ≡ true → w < length v.queues.rings → m ≡ queue_count port (take i vs) + w → get_or (of_port f port vs) m d ≡ get_or (f v.queues) w d
of_port_get f port [] i v w m d even lt is to within at = absurd (omega (arith, lt))
of_port_get {X} f port (u ∷ vs) zero v w m d even lt is to within at =
    let index : m ≡ w = omega (arith, at) in
    let evens : length (f v.queues) ≡ length v.queues.rings = subst (λ (x : InputView). length (f x.queues) ≡ length x.queues.rings) (sym is) even.0 in
    let here : share f port v ≡ f v.queues = ap (λ (c : Bool). cond c (f v.queues) []) to in
    let inside : w < length (share f port v) = omega (arith, within, evens, ap (λ (xs : List X). length xs) here) in
    ap (λ (x : InputView). get_or (share f port x ++ of_port f port vs) m d) (sym is)
    ∙ (ap (λ (n : ℕ). get_or (share f port v ++ of_port f port vs) n d) index
    ∙ (get_left (share f port v) (of_port f port vs) w d inside ∙ ap (λ (xs : List X). get_or xs w d) here))
of_port_get {X} f port (u ∷ vs) (suc i) v w m d even lt is to within at =
    let before = length-append (share (λ x. x.rings) port u) (rings port (take i vs)) in
    let same = share_length f port u even.0 in
    let index : m ≡ length (share f port u) + (queue_count port (take i vs) + w) = omega (arith, at, before, same) in
    get_right (share f port u) (of_port f port vs) (queue_count port (take i vs) + w) m d index
    ∙ of_port_get f port vs i v w (queue_count port (take i vs) + w) d even.1 (omega (arith, lt)) is to within refl
