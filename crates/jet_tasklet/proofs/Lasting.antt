-- What lasts of inputs and outputs, from one turn to the next.
use Rattle.std.proofs.Common.{◌≡◌, ℕ, zero, suc, ◌<◌, List, [], ◌∷◌, ◌++◌, map, length, get_or, set, refl, sym, ◌∙◌, subst, append-nil, arith}
use Rattle.std.specs.List.{AllZip}
use mathlib.Core.List.{IsPrefix}
use Rattle.jet_ring.proofs.Lists.{prefix_trans}
use Rattle.jet_items.specs.declared.item.Item.{Item}
use Rattle.jet_conveyor.specs.Conveyor.{View, received_at, known_at, TookFrom, SeesMore}
use Rattle.jet_router.specs.Router as router
use Rattle.jet_boxes.specs.declared.port.Port.{Port}
use Rattle.jet_tasklet.specs.declared.arrival.Arrival.{Arrival}
use Rattle.jet_tasklet.specs.declared.tasklet.Tasklet.{Tasklet}
use Rattle.jet_tasklet.specs.Inputs.{InputView, inputs_view}
use Rattle.jet_tasklet.specs.Outputs.{OutputView, outputs_view, ready}
use Rattle.jet_tasklet.specs.Taking.{Took}
use Rattle.jet_tasklet.specs.Turned.{InputGoes, OutputGoes, Turned}

-- ---- fronts
pub prefix_refl : {X : Type 0} (xs : List X) → IsPrefix xs xs
prefix_refl xs = ([], append-nil xs)

-- one list of several goes on
set_more : (xs : List (List Item)) (d k : ℕ) (x : Item) → IsPrefix (get_or xs k []) (get_or (set xs d (get_or xs d [] ++ x ∷ [])) k [])
set_more [] d k x = ([], refl)
set_more (y ∷ ys) zero zero x = (x ∷ [], refl)
set_more (y ∷ ys) zero (suc k) x = prefix_refl (get_or ys k [])
set_more (y ∷ ys) (suc d) zero x = prefix_refl y
set_more (y ∷ ys) (suc d) (suc k) x = set_more ys d k x

-- ---- two lists, place by place
module _ {X : Type 0} (R : X → X → Type 0) (stays : (x : X) → R x x) where
  pub zip_refl : (xs : List X) → AllZip R xs xs
  zip_refl [] = tt
  zip_refl (x ∷ xs) = (stays x, zip_refl xs)

  -- one element changed
  pub zip_set : (xs : List X) (i : ℕ) (d y : X) → i < length xs → R (get_or xs i d) y → AllZip R xs (set xs i y)
  zip_set [] i d y lt r = absurd (omega (arith, lt))
  zip_set (x ∷ xs) zero d y lt r = (r, zip_refl xs)
  zip_set (x ∷ xs) (suc i) d y lt r = (stays x, zip_set xs i d y (omega (arith, lt)) r)

pub zip_trans : {X : Type 0} (R : X → X → Type 0) → ((x y z : X) → R x y → R y z → R x z) → (xs ys zs : List X) → AllZip R xs ys → AllZip R ys zs → AllZip R xs zs
zip_trans R goes [] [] [] f g = tt
zip_trans R goes [] [] (z ∷ zs) f g = absurd g
zip_trans R goes [] (y ∷ ys) zs f g = absurd f
zip_trans R goes (x ∷ xs) [] zs f g = absurd f
zip_trans R goes (x ∷ xs) (y ∷ ys) [] f g = absurd g
zip_trans R goes (x ∷ xs) (y ∷ ys) (z ∷ zs) f g = (goes x y z f.0 g.0, zip_trans R goes xs ys zs f.1 g.1)

-- ---- inputs
pub input_stays : (v : InputView) → InputGoes v v
input_stays v = record {
  port = refl;
  rings = refl;
  received = λ q. prefix_refl (received_at v.queues q);
  still_known = λ q. prefix_refl (received_at v.queues q ++ known_at v.queues q);
}

pub input_trans : (a b c : InputView) → InputGoes a b → InputGoes b c → InputGoes a c
input_trans a b c f g = record {
  port = g.port ∙ f.port;
  rings = g.rings ∙ f.rings;
  received = λ q. prefix_trans (received_at a.queues q) (received_at b.queues q) (received_at c.queues q) (f.received q) (g.received q);
  still_known = λ q. prefix_trans (received_at a.queues q ++ known_at a.queues q) (received_at b.queues q ++ known_at b.queues q) (received_at c.queues q ++ known_at c.queues q) (f.still_known q) (g.still_known q);
}

input_took : (v : InputView) (b : View) (q : ℕ) (x : Item) → TookFrom v.queues b q x → SeesMore v.queues b → InputGoes v (record { port = v.port; queues = b })
input_took v b q x t seen = record {
  port = refl;
  rings = t.rings;
  received = λ k. subst (λ (w : List (List Item)). IsPrefix (received_at v.queues k) (get_or w k [])) (sym t.received) (set_more v.queues.received q k x);
  still_known = seen;
}

-- an item was taken from one of them
pub inputs_took : (before after : List InputView) (port : Port) (a : Arrival) → Took before after port a → AllZip InputGoes before after
inputs_took before after port a t =
    let next : InputView = record { port = t.was.port; queues = t.now } in
    let one : InputGoes t.was next = input_took t.was t.now t.within a.item t.took t.seen in
    subst (λ (vs : List InputView). AllZip InputGoes before vs) (sym t.after_is)
    (zip_set InputGoes input_stays before t.place t.was next t.inside (subst (λ (v : InputView). InputGoes v next) t.at one))

-- ---- outputs
pub output_stays : (o : OutputView) → OutputGoes o o
output_stays o = record {
  same = record { route = refl; table = refl; rings_kept = refl };
  sent = λ k. prefix_refl (get_or (router.sents o.router) k []);
  still_free = refl;
}

pub output_trans : (a b c : OutputView) → OutputGoes a b → OutputGoes b c → OutputGoes a c
output_trans a b c f g = record {
  same = record { route = g.same.route ∙ f.same.route; table = g.same.table ∙ f.same.table; rings_kept = g.same.rings_kept ∙ f.same.rings_kept };
  sent = λ k. prefix_trans (get_or (router.sents a.router) k []) (get_or (router.sents b.router) k []) (get_or (router.sents c.router) k []) (f.sent k) (g.sent k);
  still_free = g.still_free ∙ f.still_free;
}

pub outputs_trans : (os ps qs : List OutputView) → AllZip OutputGoes os ps → AllZip OutputGoes ps qs → AllZip OutputGoes os qs
outputs_trans os ps qs f g = zip_trans OutputGoes output_trans os ps qs f g

-- they are ready for the next item
pub outputs_ready : (os : List OutputView) → AllZip OutputGoes os (map (λ (o : OutputView). ready o.router) os)
outputs_ready [] = tt
outputs_ready (o ∷ os) = (
  record {
    same = record { route = refl; table = refl; rings_kept = refl };
    sent = λ k. prefix_refl (get_or (router.sents o.router) k []);
    still_free = refl;
  },
  outputs_ready os,
)

-- one of those that a contract sees so has gone on
pub outputs_set : {A : Type 0} (see : A → OutputView) (ys : List A) (i : ℕ) (d y : A) → i < length ys → OutputGoes (see (get_or ys i d)) (see y) → AllZip OutputGoes (map see ys) (map see (set ys i y))
outputs_set see [] i d y lt one = absurd (omega (arith, lt))
outputs_set {A} see (z ∷ ys) zero d y lt one = (one, zip_refl OutputGoes output_stays (map see ys))
outputs_set see (z ∷ ys) (suc i) d y lt one = (output_stays (see z), outputs_set see ys i d y (omega (arith, lt)) one)

-- ---- the tasklet
module _ {P : Type 0} (same : P → P → Type 0) where
  -- neither inputs nor outputs look changed
  pub turned_still : (a b : Tasklet P) → same a.processor b.processor → b.outbox.room ≡ a.outbox.room → inputs_view b.inputs.items ≡ inputs_view a.inputs.items → outputs_view b.outputs.items ≡ outputs_view a.outputs.items → Turned same a b
  turned_still a b settings room ins outs = record {
    settings = settings;
    room = room;
    inputs = subst (λ (vs : List InputView). AllZip InputGoes (inputs_view a.inputs.items) vs) (sym ins) (zip_refl InputGoes input_stays (inputs_view a.inputs.items));
    outputs = subst (λ (os : List OutputView). AllZip OutputGoes (outputs_view a.outputs.items) os) (sym outs) (zip_refl OutputGoes output_stays (outputs_view a.outputs.items));
  }

  pub turned_took : (a b : Tasklet P) (port : Port) (x : Arrival) → same a.processor b.processor → b.outbox.room ≡ a.outbox.room → Took (inputs_view a.inputs.items) (inputs_view b.inputs.items) port x → outputs_view b.outputs.items ≡ outputs_view a.outputs.items → Turned same a b
  turned_took a b port x settings room took outs = record {
    settings = settings;
    room = room;
    inputs = inputs_took (inputs_view a.inputs.items) (inputs_view b.inputs.items) port x took;
    outputs = subst (λ (os : List OutputView). AllZip OutputGoes (outputs_view a.outputs.items) os) (sym outs) (zip_refl OutputGoes output_stays (outputs_view a.outputs.items));
  }

  pub turned_gave : (a b : Tasklet P) → same a.processor b.processor → b.outbox.room ≡ a.outbox.room → inputs_view b.inputs.items ≡ inputs_view a.inputs.items → AllZip OutputGoes (outputs_view a.outputs.items) (outputs_view b.outputs.items) → Turned same a b
  turned_gave a b settings room ins outs = record {
    settings = settings;
    room = room;
    inputs = subst (λ (vs : List InputView). AllZip InputGoes (inputs_view a.inputs.items) vs) (sym ins) (zip_refl InputGoes input_stays (inputs_view a.inputs.items));
    outputs = outs;
  }

  pub turned_trans : ((p q r : P) → same p q → same q r → same p r) → (a b c : Tasklet P) → Turned same a b → Turned same b c → Turned same a c
  turned_trans trans a b c f g = record {
    settings = trans a.processor b.processor c.processor f.settings g.settings;
    room = g.room ∙ f.room;
    inputs = zip_trans InputGoes input_trans (inputs_view a.inputs.items) (inputs_view b.inputs.items) (inputs_view c.inputs.items) f.inputs g.inputs;
    outputs = outputs_trans (outputs_view a.outputs.items) (outputs_view b.outputs.items) (outputs_view c.outputs.items) f.outputs g.outputs;
  }
