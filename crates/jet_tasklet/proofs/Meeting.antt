-- What a meeting of an end that was lent out leaves of what a tasklet keeps.
use Rattle.std.proofs.Common.{◌≡◌, ℕ, zero, suc, ◌<◌, Bool, true, false, cond, List, [], ◌∷◌, ◌++◌, map, length, get_or, set, refl, sym, ◌∙◌, ap, subst, arith}
use Rattle.std.specs.Prelude.{Some, slice_get}
use Rattle.std.specs.List.{list_all, AllByRecursion}
use Rattle.std.proofs.lemmas.List.{map-set, length-map}
use Rattle.std.proofs.lemmas.Option.{get_or_from_slice_get, slice_get_within}
use Rattle.jet_items.specs.declared.item.Item.{Item}
use Rattle.jet_items.specs.Order.{Each}
use Rattle.jet_items.proofs.Orders.{Each-more}
use Rattle.jet_boxes.specs.declared.port.Port.{Port}
use Rattle.jet_boxes.specs.declared.port.Port.TheVariants.{Stream, Build}
use Rattle.jet_boxes.specs.Entry.{CallEntry}
use Rattle.jet_coalescer.specs.declared.coalescer.Coalescer.{Coalescer}
use Rattle.jet_coalescer.specs.Low.{HasHeard}
use Rattle.jet_conveyor.specs.declared.conveyor.Conveyor.{Conveyor}
use Rattle.jet_conveyor.specs.Conveyor as conveyor
use Rattle.jet_conveyor.specs.Conveyor.{View}
use Rattle.jet_router.specs.declared.router.Router.{Router}
use Rattle.jet_router.specs.Router as router
use Rattle.jet_router.specs.Router.{IsInHand, sents, hads}
use Rattle.jet_router.specs.Dest.{DestView, settled_by, HandIs}
use Rattle.jet_items.specs.Partition.{item_key}
use Rattle.jet_router.specs.Aim.{aim_of}
use Rattle.jet_router.specs.declared.aim.Route.{Route}
use Rattle.jet_router.specs.Deals.{Deal, FitsAim, Dealt}
use Rattle.jet_tasklet.specs.declared.arrival.Arrival.{Arrival}
use Rattle.jet_tasklet.specs.declared.input.Input.{Input}
use Rattle.jet_tasklet.specs.declared.output.Output.{Output}
use Rattle.jet_tasklet.specs.declared.step.Step.{Step}
use Rattle.jet_tasklet.specs.declared.step.Step.TheVariants as step
use Rattle.jet_tasklet.specs.declared.step.Pending.TheVariants as call
use Rattle.jet_tasklet.specs.declared.tasklet.Tasklet.{Tasklet}
use Rattle.jet_tasklet.specs.Trace.{same_port, heard}
use Rattle.jet_tasklet.specs.Inputs.{InputView, input_view, inputs_view, of_port, rings, received, dones, queue_count, all_done}
use Rattle.jet_tasklet.specs.Outputs.{output_view, outputs_view, InGift, Gave, Giving}
use Rattle.jet_tasklet.specs.Steps.{Working}
use Rattle.jet_tasklet.specs.Keeps.{Keeps, Came, IsEven, IsOver, told}
use Rattle.jet_tasklet.specs.Lending.{with_input, with_output}
use Rattle.jet_tasklet.proofs.Stepping.{each_at, each_set}
use Rattle.jet_tasklet.proofs.Owing.{owed_met}

-- ---- inputs
-- the two lists of inputs differ at most in what is known
pub record IsAlike (vs ws : List InputView) : Type 0 where
  pub rings_same : (port : Port) → rings port ws ≡ rings port vs
  pub received_same : (port : Port) → received port ws ≡ received port vs
  pub dones_same : (port : Port) → dones port ws ≡ dones port vs
  pub even : Each IsEven vs → Each IsEven ws

module _ (vs ws : List InputView) (a : IsAlike vs ws) where
  count_alike : (port : Port) → queue_count port ws ≡ queue_count port vs
  count_alike port = ap (λ rs. length rs) (a.rings_same port)

  pub done_alike : (port : Port) → all_done port ws ≡ all_done port vs
  done_alike port = ap (λ ds. list_all (λ d. d) ds) (a.dones_same port)

  came_alike : (co : Coalescer) (came : List Arrival) → Came vs co came → Came ws co came
  came_alike co came k = record {
    even = a.even k.even;
    few = λ port. let n = count_alike port in let few = k.few port in omega (arith, n, few);
    received_is = λ port q lt. ap (λ xs. get_or xs q []) (a.received_same port) ∙ k.received_is port q (subst (λ (n : ℕ). q < n) (count_alike port) lt);
    done_is = λ port q lt. ap (λ xs. get_or xs q true) (a.dones_same port) ∙ k.done_is port q (subst (λ (n : ℕ). q < n) (count_alike port) lt);
    in_order = record {
      inside = Each-more (λ (x : Arrival). x.queue < queue_count x.port vs) (λ (x : Arrival). x.queue < queue_count x.port ws) (λ x lt. subst (λ (n : ℕ). x.queue < n) (sym (count_alike x.port)) lt) came k.in_order.inside;
      follows = k.in_order.follows;
    };
    builds = λ e. k.builds (sym (done_alike Build) ∙ e);
    heard_is = subst (λ (n : ℕ). HasHeard co (heard n came)) (sym (count_alike Stream)) k.heard_is;
  }

  over_alike : (s : Step) → IsOver s vs → IsOver s ws
  over_alike step.Poll h = tt
  over_alike (step.Make (call.Accept x)) h = tt
  over_alike (step.Make (call.Close port q then)) h = tt
  over_alike (step.Make (call.Tell t)) h = tt
  over_alike (step.Make call.Finish) h = λ port. done_alike port ∙ h port
  over_alike step.End h = λ port. done_alike port ∙ h port
  over_alike step.Ended h = λ port. done_alike port ∙ h port

  -- what a tasklet keeps speaks of nothing that is known
  pub alike_keeps : {P : Type 0} (stands : P → List CallEntry → List Item → Type 0) (amid : P → List CallEntry → CallEntry → List Item → Type 0) (takes : P → Port → ℕ → Type 0) (t u : Tasklet P) (came : List Arrival) (gave : List Item) → vs ≡ inputs_view t.inputs.items → ws ≡ inputs_view u.inputs.items → u ≡ record t { inputs = u.inputs; next = u.next } → Keeps stands amid takes t came gave → Keeps stands amid takes u came gave
  alike_keeps {P} stands amid takes t u came gave before after is k =
      let ins = u.inputs in
      let came_t : Came vs t.coalescer came = subst (λ (xs : List InputView). Came xs t.coalescer came) (sym before) k.takes_in in
      let n : queue_count Stream (inputs_view ins.items) ≡ queue_count Stream (inputs_view t.inputs.items) = ap (queue_count Stream) (sym after) ∙ (count_alike Stream ∙ ap (queue_count Stream) before) in
      let next : Keeps stands amid takes (record t { inputs = ins; next = u.next }) came gave = record {
        takes_in = subst (λ (xs : List InputView). Came xs t.coalescer came) after (came_alike t.coalescer came came_t);
        gives_out = k.gives_out;
        works = subst (λ (m : ℕ). Working stands amid takes t.processor t.step (told t.step m came) (gave ++ t.outbox.items)) (sym n) k.works;
        takes_all = λ port q lt.
            let m : queue_count port (inputs_view ins.items) ≡ queue_count port (inputs_view t.inputs.items) = ap (queue_count port) (sym after) ∙ (count_alike port ∙ ap (queue_count port) before) in
            k.takes_all port q (subst (λ (l : ℕ). q < l) m lt);
        over = subst (λ (xs : List InputView). IsOver t.step xs) after (over_alike t.step (subst (λ (xs : List InputView). IsOver t.step xs) (sym before) k.over));
        room = k.room;
        owed = k.owed;
      } in
      subst (λ (s : Tasklet P). Keeps stands amid takes s came gave) (sym is) next

-- one input changed so
of_port_set : {X : Type 0} (f : View → List X) (port : Port) (vs : List InputView) (i : ℕ) (d w : InputView) → w.port ≡ (get_or vs i d).port → f w.queues ≡ f (get_or vs i d).queues → of_port f port (set vs i w) ≡ of_port f port vs
of_port_set f port [] i d w p e = refl
of_port_set {X} f port (v ∷ vs) zero d w p e = ap (λ (xs : List X). xs ++ of_port f port vs) (ap (λ (q : Port). cond (same_port q port) (f w.queues) []) p ∙ ap (λ (xs : List X). cond (same_port v.port port) xs []) e)
of_port_set {X} f port (v ∷ vs) (suc i) d w p e = ap (λ (xs : List X). cond (same_port v.port port) (f v.queues) [] ++ xs) (of_port_set f port vs i d w p e)

even_set : (vs : List InputView) (i : ℕ) (d w : InputView) → (IsEven (get_or vs i d) → IsEven w) → Each IsEven vs → Each IsEven (set vs i w)
even_set [] i d w f h = tt
even_set (v ∷ vs) zero d w f h = (f h.0, h.1)
even_set (v ∷ vs) (suc i) d w f h = (h.0, even_set vs i d w f h.1)

refreshed_even : (v w : InputView) (q : ℕ) → conveyor.Refreshed v.queues w.queues q → IsEven v → IsEven w
refreshed_even v w q r h = record {
  received = ap (λ xs. length xs) r.received ∙ (h.received ∙ sym (ap (λ xs. length xs) r.rings));
  done = ap (λ xs. length xs) r.done ∙ (h.done ∙ sym (ap (λ xs. length xs) r.rings));
}

pub refreshed_alike : (vs : List InputView) (i : ℕ) (d w : InputView) (q : ℕ) → w.port ≡ (get_or vs i d).port → conveyor.Refreshed (get_or vs i d).queues w.queues q → IsAlike vs (set vs i w)
refreshed_alike vs i d w q p r = record {
  rings_same = λ port. of_port_set (λ v. v.rings) port vs i d w p r.rings;
  received_same = λ port. of_port_set (λ v. v.received) port vs i d w p r.received;
  dones_same = λ port. of_port_set (λ v. v.done) port vs i d w p r.done;
  even = even_set vs i d w (refreshed_even (get_or vs i d) w q r);
}

see_at : {A X : Type 0} (see : A → X) (xs : List A) (i : ℕ) (d : A) → get_or (map see xs) i (see d) ≡ see (get_or xs i d)
see_at see [] i d = refl
see_at see (x ∷ xs) zero d = refl
see_at see (x ∷ xs) (suc i) d = see_at see xs i d

see_from : {A X : Type 0} (see : A → X) (xs : List A) (i : ℕ) (d : A) (x : X) → slice_get (map see xs) i ≡ Some x → see (get_or xs i d) ≡ x
see_from see xs i d x at = sym (see_at see xs i d) ∙ get_or_from_slice_get (map see xs) i x (see d) at

-- the conveyor of one input met
pub input_keeps : {P : Type 0} (stands : P → List CallEntry → List Item → Type 0) (amid : P → List CallEntry → CallEntry → List Item → Type 0) (takes : P → Port → ℕ → Type 0) (t : Tasklet P) (came : List Arrival) (gave : List Item) (n q : ℕ) (was w : Conveyor) → slice_get (map (λ (i : Input). i.conveyor) t.inputs.items) n ≡ Some was → conveyor.Refreshed (conveyor.view was) (conveyor.view w) q → Keeps stands amid takes t came gave → Keeps stands amid takes (with_input t n was w) came gave
input_keeps stands amid takes t came gave n q was w at met k =
    let xs : List Input = t.inputs.items in
    let other : Input = record { port = Stream; conveyor = was } in
    let next : Input = record { port = (get_or xs n other).port; conveyor = w } in
    let is : (get_or xs n other).conveyor ≡ was = see_from (λ (i : Input). i.conveyor) xs n other was at in
    let there : get_or (inputs_view xs) n (input_view other) ≡ input_view (get_or xs n other) = see_at input_view xs n other in
    let first : conveyor.Refreshed (conveyor.view (get_or xs n other).conveyor) (conveyor.view w) q = subst (λ (c : Conveyor). conveyor.Refreshed (conveyor.view c) (conveyor.view w) q) (sym is) met in
    let then : conveyor.Refreshed (get_or (inputs_view xs) n (input_view other)).queues (conveyor.view w) q = subst (λ (v : InputView). conveyor.Refreshed v.queues (conveyor.view w) q) (sym there) first in
    let alike : IsAlike (inputs_view xs) (set (inputs_view xs) n (input_view next)) = refreshed_alike (inputs_view xs) n (input_view other) (input_view next) q (sym (ap (λ (v : InputView). v.port) there)) then in
    alike_keeps (inputs_view xs) (set (inputs_view xs) n (input_view next)) alike stands amid takes t (with_input t n was w) came gave refl (sym (map-set input_view xs n next)) refl k

-- ---- outputs
settled_same : (ds es : List DestView) → map (λ (d : DestView). d.had) es ≡ map (λ (d : DestView). d.had) ds → map (λ t. t.sent) (map (λ (d : DestView). d.tx) es) ≡ map (λ t. t.sent) (map (λ (d : DestView). d.tx) ds) → map (λ (d : DestView). settled_by d.had d.tx.sent) es ≡ map (λ (d : DestView). settled_by d.had d.tx.sent) ds
settled_same [] [] h s = refl
settled_same [] (e ∷ es) h s = absurd (cc)
settled_same (d ∷ ds) [] h s = absurd (cc)
settled_same (d ∷ ds) (e ∷ es) h s =
    let had : e.had ≡ d.had = cc in
    let sent : e.tx.sent ≡ d.tx.sent = cc in
    let hads_rest : map (λ (d : DestView). d.had) es ≡ map (λ (d : DestView). d.had) ds = cc in
    let sents_rest : map (λ t. t.sent) (map (λ (d : DestView). d.tx) es) ≡ map (λ t. t.sent) (map (λ (d : DestView). d.tx) ds) = cc in
    let rest = settled_same ds es hads_rest sents_rest in
    ap (λ (b : Bool). settled_by b e.tx.sent ∷ map (λ (d : DestView). settled_by d.had d.tx.sent) es) had ∙ (ap (λ (xs : List Item). settled_by d.had xs ∷ map (λ (d : DestView). settled_by d.had d.tx.sent) es) sent ∙ ap (λ (xs : List (List Item)). settled_by d.had d.tx.sent ∷ xs) rest)

module _ (a b : router.View) (d : ℕ) (r : router.Refreshed a b d) where
  aim_same : (x : Item) → router.aim b x ≡ router.aim a x
  aim_same x = ap (λ (by : Route). aim_of by b.table (item_key x)) r.same.route ∙ ap (λ (t : List ℕ). aim_of a.route t (item_key x)) r.same.table

  dests_same : length b.dests ≡ length a.dests
  dests_same = sym (length-map b.dests (λ (e : DestView). e.had)) ∙ (ap (λ xs. length xs) r.had ∙ length-map a.dests (λ (e : DestView). e.had))

  settled_if_same : (u : Bool) → router.settled_if u b.dests ≡ router.settled_if u a.dests
  settled_if_same true = settled_same a.dests b.dests r.had r.sent
  settled_if_same false = r.sent

  settles : router.settled b ≡ router.settled a
  settles = ap (λ (u : Bool). router.settled_if u b.dests) r.busy ∙ settled_if_same a.busy

  fits_same : (deals : List Deal) → AllByRecursion (λ (e : Deal). FitsAim (length a.dests) (router.aim a e.item) e.to) deals → AllByRecursion (λ (e : Deal). FitsAim (length b.dests) (router.aim b e.item) e.to) deals
  fits_same [] h = tt
  fits_same (e ∷ deals) h = (
    subst (λ (n : ℕ). FitsAim n (router.aim b e.item) e.to) (sym dests_same) (subst (λ w. FitsAim (length a.dests) w e.to) (sym (aim_same e.item)) h.0),
    fits_same deals h.1,
  )

  dealt_same : (deals : List Deal) → Dealt a deals → Dealt b deals
  dealt_same deals h = record {
    by_route = fits_same deals h.by_route;
    sent_is = λ k lt. ap (λ (xs : List (List Item)). get_or xs k []) settles ∙ h.sent_is k (subst (λ (n : ℕ). k < n) dests_same lt);
  }

  in_hand_same : (x : Item) → IsInHand a x → IsInHand b x
  in_hand_same x h = (
    aim_same x ∙ h.0,
    subst (λ (hs : List Bool). HandIs x hs (sents b)) (sym r.had) (subst (λ (ss : List (List Item)). HandIs x (hads a) ss) (sym r.sent) h.1),
  )

  gave_same : (gave : List Item) (had : Bool) → Gave gave (record { router = a; had = had }) → Gave gave (record { router = b; had = had })
  gave_same gave had g = record { deals = g.deals; dealt = dealt_same g.deals g.dealt; items = g.items; free = r.busy ∙ g.free; ready = g.ready }

  in_gift_same : (gave : List Item) (x : Item) (had : Bool) → InGift gave x (record { router = a; had = had }) → InGift gave x (record { router = b; had = had })
  in_gift_same gave x had g = record {
    deals = g.deals;
    dealt = dealt_same g.deals g.dealt;
    items = g.items;
    hand = λ e. in_hand_same x (g.hand (sym r.busy ∙ e));
    whole = λ e. r.busy ∙ g.whole e;
  }

giving_same : (gave items : List Item) (os : List Output) (i d : ℕ) (was other : Output) (w : Router) → i < length os → router.Refreshed (router.view was.router) (router.view w) d → (get_or os i other).router ≡ was.router → Giving gave items (outputs_view os) → Giving gave items (outputs_view (set os i (record { router = w; had = (get_or os i other).had })))
giving_same gave [] os i d was other w lt r is g =
    let had : Bool = (get_or os i other).had in
    let at : Gave gave (output_view (get_or os i other)) = each_at output_view (Gave gave) os i other lt g in
    let first : Gave gave (record { router = router.view was.router; had = had }) = subst (λ (q : Router). Gave gave (record { router = router.view q; had = had })) is at in
    each_set output_view (Gave gave) os i (record { router = w; had = had }) g (gave_same (router.view was.router) (router.view w) d r gave had first)
giving_same gave (x ∷ items) os i d was other w lt r is g =
    let had : Bool = (get_or os i other).had in
    let at : InGift gave x (output_view (get_or os i other)) = each_at output_view (InGift gave x) os i other lt g in
    let first : InGift gave x (record { router = router.view was.router; had = had }) = subst (λ (q : Router). InGift gave x (record { router = router.view q; had = had })) is at in
    each_set output_view (InGift gave x) os i (record { router = w; had = had }) g (in_gift_same (router.view was.router) (router.view w) d r gave x had first)

-- the router of one output met
pub output_keeps : {P : Type 0} (stands : P → List CallEntry → List Item → Type 0) (amid : P → List CallEntry → CallEntry → List Item → Type 0) (takes : P → Port → ℕ → Type 0) (t : Tasklet P) (came : List Arrival) (gave : List Item) (n d : ℕ) (was w : Router) → slice_get (map (λ (o : Output). o.router) t.outputs.items) n ≡ Some was → router.Refreshed (router.view was) (router.view w) d → Keeps stands amid takes t came gave → Keeps stands amid takes (with_output t n was w) came gave
output_keeps stands amid takes t came gave n d was w at met k =
    let xs : List Output = t.outputs.items in
    let other : Output = record { router = was; had = false } in
    let is : (get_or xs n other).router ≡ was = see_from (λ (o : Output). o.router) xs n other was at in
    let long = length-map xs (λ (o : Output). o.router) in
    let within = slice_get_within (map (λ (o : Output). o.router) xs) n was at in
    let lt : n < length xs = omega (arith, long, within) in
    record {
      takes_in = k.takes_in;
      gives_out = giving_same gave t.outbox.items xs n d other other w lt met is k.gives_out;
      works = k.works;
      takes_all = k.takes_all;
      over = k.over;
      room = k.room;
      owed = owed_met xs n d other w lt met is k.owed;
    }
