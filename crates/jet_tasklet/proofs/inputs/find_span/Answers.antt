use Rattle.std.proofs.Common.{take, subst, ◌≡◌, ℕ, ◌+◌, ◌<◌, ◌^◌, List, length, get_or, set, refl, sym, ◌∙◌, ap, arith, true, false}
use Rattle.std.proofs.lemmas.List.{get_or-set_same, length-set, take-set}
use Rattle.std.proofs.lemmas.Option.{get_or_from_slice_get}
use Rattle.jet_conveyor.specs.Conveyor.{InTurn}
use Rattle.jet_tasklet.specs.declared.input.Input.{Input}
use Rattle.jet_tasklet.specs.Trace.{same_port}
use Rattle.jet_tasklet.specs.Inputs.{InputView, input_view, inputs_view, queue_count}
use Rattle.jet_ring.specs.Ring.{Ring}
use Rattle.jet_boxes.specs.declared.port.Port.{Port}
use Rattle.jet_tasklet.proofs.Fairness.{between_more}
use Rattle.jet_tasklet.proofs.Ports.{length_views, At, at_inside, at_is, at_room, at_stays, at_sets, get_same, here_other, here_nothing, view_ported}
use Rattle.jet_tasklet.proofs.Spots.{found_first}
use Rattle.jet_tasklet.proofs.inputs.find_span.Goals as goal

here : (vs : List InputView) (xs : List Input) (i : ℕ) (r : Input) → inputs_view xs ≡ vs → i < length xs → r ≡ get_or xs i r → At vs xs i (get_or xs i r)
here vs xs i r same lt e = record { same = same; inside = lt; is = ap (λ (d : Input). get_or xs i d) e }

-- as many inputs are there as at first
same_count : (xs ys : List Input) → inputs_view xs ≡ inputs_view ys → length xs ≡ length ys
same_count xs ys same = sym (length_views xs) ∙ (ap (λ (ws : List InputView). length ws) same ∙ length_views ys)

pub loop-place-preserved-then-not-leads_to : goal.loop-place-preserved-then-not-leads_to
loop-place-preserved-then-not-leads_to c =
    let vs : List InputView = inputs_view c.args.inputs.now in
    let xs : List Input = c.loop-place.inputs in
    let i : ℕ = c.loop-place.place in
    let count = same_count xs c.args.inputs.now c.loop-place.invariant.same in
    let lt : i < length xs = omega (arith, count) in
    let x : Input = get_or xs i c.index-inputs-place.result in
    let at : At vs xs i x = here vs xs i c.index-inputs-place.result c.loop-place.invariant.same lt c.index-inputs-place.is in
    let away : same_port x.port c.args.port ≡ false = sym c.leads_to.ensures ∙ c.if-not-leads_to.true in record {
      same = c.loop-place.invariant.same;
      none = between_more c.args.port vs c.args.from i (input_view x) (at_is vs xs i x at) (here_other c.args.port (input_view x) away) c.loop-place.invariant.none;
    }

pub count_queues-first-requires : goal.count_queues-first-requires
count_queues-first-requires c =
    let vs : List InputView = inputs_view c.args.inputs.now in
    let xs : List Input = c.loop-place.inputs in
    let i : ℕ = c.loop-place.place in
    let count = same_count xs c.args.inputs.now c.loop-place.invariant.same in
    let lt : i < length xs = omega (arith, count) in
    record { inside = omega (arith, lt); few = subst (λ (ws : List InputView). queue_count c.args.port ws < 2 ^ 32) (sym c.loop-place.invariant.same) c.requires.few }

pub overflow_add-result : goal.overflow_add-result
overflow_add-result c =
    let vs : List InputView = inputs_view c.args.inputs.now in
    let xs : List Input = c.loop-place.inputs in
    let i : ℕ = c.loop-place.place in
    let count = same_count xs c.args.inputs.now c.loop-place.invariant.same in
    let lt : i < length xs = omega (arith, count) in
    let x : Input = get_or xs i c.index-inputs-place-in-loop-place.result in
    let at : At vs xs i x = here vs xs i c.index-inputs-place-in-loop-place.result c.loop-place.invariant.same lt c.index-inputs-place-in-loop-place.is in
    let one : get_or xs i c.index-inputs-place.result ≡ x = get_same xs i c.index-inputs-place.result c.index-inputs-place-in-loop-place.result lt in
    let to : same_port x.port c.args.port ≡ true = ap (λ (y : Input). same_port y.port c.args.port) (sym one) ∙ (sym c.leads_to.ensures ∙ c.if-not-leads_to.false) in
    let number : c.count_queues-first.result ≡ queue_count c.args.port (take i vs) = c.count_queues-first.ensures ∙ ap (λ (ws : List InputView). queue_count c.args.port (take i ws)) c.loop-place.invariant.same in
    let room = at_room vs xs i x at c.args.port to in
    let within = c.in-Some.ensures.found.0 in
    let few = c.requires.few in
    omega (arith, room, within, few, number)

pub returns-in-Some-clause-stands : goal.returns-in-Some-clause-stands
returns-in-Some-clause-stands c =
    let vs : List InputView = inputs_view c.args.inputs.now in
    let xs : List Input = c.loop-place.inputs in
    let i : ℕ = c.loop-place.place in
    let count = same_count xs c.args.inputs.now c.loop-place.invariant.same in
    let lt : i < length xs = omega (arith, count) in
    let x : Input = get_or xs i c.index-inputs-place-in-loop-place.result in
    let at : At vs xs i x = here vs xs i c.index-inputs-place-in-loop-place.result c.loop-place.invariant.same lt c.index-inputs-place-in-loop-place.is in
    let one : get_or xs i c.index-inputs-place.result ≡ x = get_same xs i c.index-inputs-place.result c.index-inputs-place-in-loop-place.result lt in
    let to : same_port x.port c.args.port ≡ true = ap (λ (y : Input). same_port y.port c.args.port) (sym one) ∙ (sym c.leads_to.ensures ∙ c.if-not-leads_to.false) in
    let number : c.count_queues-first.result ≡ queue_count c.args.port (take i vs) = c.count_queues-first.ensures ∙ ap (λ (ws : List InputView). queue_count c.args.port (take i ws)) c.loop-place.invariant.same in
    let y : Input = c.find.new.self in
    let found = c.in-Some.ensures.found.1 in
    let first = found_first (input_view x).queues (input_view y).queues c.in-Some.within found in
    let after : inputs_view (set xs i y) ≡ set vs i (input_view y) = at_sets vs xs i x at y in
    let inside : i < length vs = at_inside vs xs i x at in (
      refl,
      (
        first.0,
        record {
          was = input_view y;
          inside = omega (arith, lt, length_views (set xs i y), length-set xs i y);
          at = sym (ap (λ (ws : List InputView). get_or ws i (input_view y)) after ∙ get_or-set_same vs i (input_view y) (input_view y) inside);
          to_port = ap (λ (p : Port). same_port p c.args.port) c.in-Some.ensures.port ∙ to;
          queue_is = ap (λ (n : ℕ). n + c.in-Some.within) (number ∙ sym (ap (λ (ws : List InputView). queue_count c.args.port (take i ws)) after ∙ ap (λ (ws : List InputView). queue_count c.args.port ws) (take-set vs i (input_view y))));
          is_queue = subst (λ (rs : List Ring). c.in-Some.within < length rs) (sym found.same.rings) c.in-Some.ensures.found.0;
          is_open = found.item.is_open;
          first = first.1;
        },
      ),
    )

pub returns-in-Some-clause-looked : goal.returns-in-Some-clause-looked
returns-in-Some-clause-looked c =
    let vs : List InputView = inputs_view c.args.inputs.now in
    let xs : List Input = c.loop-place.inputs in
    let i : ℕ = c.loop-place.place in
    let count = same_count xs c.args.inputs.now c.loop-place.invariant.same in
    let lt : i < length xs = omega (arith, count) in
    let x : Input = get_or xs i c.index-inputs-place-in-loop-place.result in
    let at : At vs xs i x = here vs xs i c.index-inputs-place-in-loop-place.result c.loop-place.invariant.same lt c.index-inputs-place-in-loop-place.is in
    let one : get_or xs i c.index-inputs-place.result ≡ x = get_same xs i c.index-inputs-place.result c.index-inputs-place-in-loop-place.result lt in
    let to : same_port x.port c.args.port ≡ true = ap (λ (y : Input). same_port y.port c.args.port) (sym one) ∙ (sym c.leads_to.ensures ∙ c.if-not-leads_to.false) in
    let y : Input = c.find.new.self in
    let looks = view_ported y x.port c.in-Some.ensures.port in record {
      place = i;
      within = c.in-Some.within;
      was = input_view x;
      now = (input_view y).queues;
      inside = at_inside vs xs i x at;
      at = at_is vs xs i x at;
      same = c.in-Some.ensures.found.1.same;
      seen = c.in-Some.ensures.seen;
      after_is = at_sets vs xs i x at y ∙ ap (λ (v : InputView). set vs i v) looks;
    }

pub returns-in-Some-clause-first : goal.returns-in-Some-clause-first
returns-in-Some-clause-first c =
    let vs : List InputView = inputs_view c.args.inputs.now in
    let xs : List Input = c.loop-place.inputs in
    let i : ℕ = c.loop-place.place in
    let count = same_count xs c.args.inputs.now c.loop-place.invariant.same in
    let lt : i < length xs = omega (arith, count) in
    let x : Input = get_or xs i c.index-inputs-place-in-loop-place.result in
    let at : At vs xs i x = here vs xs i c.index-inputs-place-in-loop-place.result c.loop-place.invariant.same lt c.index-inputs-place-in-loop-place.is in
    let one : get_or xs i c.index-inputs-place.result ≡ x = get_same xs i c.index-inputs-place.result c.index-inputs-place-in-loop-place.result lt in
    let to : same_port x.port c.args.port ≡ true = ap (λ (y : Input). same_port y.port c.args.port) (sym one) ∙ (sym c.leads_to.ensures ∙ c.if-not-leads_to.false) in (
      c.loop-place.invariant.none,
      λ v is. subst (λ (w : InputView). InTurn w.queues c.in-Some.within) (at_is vs xs i x at ∙ get_or_from_slice_get vs i v (input_view x) is) c.in-Some.ensures.in_turn,
    )

pub loop-place-preserved : goal.loop-place-preserved
loop-place-preserved c =
    let vs : List InputView = inputs_view c.args.inputs.now in
    let xs : List Input = c.loop-place.inputs in
    let i : ℕ = c.loop-place.place in
    let count = same_count xs c.args.inputs.now c.loop-place.invariant.same in
    let lt : i < length xs = omega (arith, count) in
    let x : Input = get_or xs i c.index-inputs-place-in-loop-place.result in
    let at : At vs xs i x = here vs xs i c.index-inputs-place-in-loop-place.result c.loop-place.invariant.same lt c.index-inputs-place-in-loop-place.is in
    let one : get_or xs i c.index-inputs-place.result ≡ x = get_same xs i c.index-inputs-place.result c.index-inputs-place-in-loop-place.result lt in
    let to : same_port x.port c.args.port ≡ true = ap (λ (y : Input). same_port y.port c.args.port) (sym one) ∙ (sym c.leads_to.ensures ∙ c.if-not-leads_to.false) in
    record {
      same = at_stays vs xs i x at c.find.new.self c.in_default.ensures.nothing;
      none = between_more c.args.port vs c.args.from i (input_view x) (at_is vs xs i x at) (here_nothing c.args.port (input_view x) c.in_default.ensures.cause) c.loop-place.invariant.none;
    }
