-- A tasklet that has taken nothing.
use Rattle.std.proofs.Common.{◌≡◌, ℕ, zero, suc, ◌<◌, ◌≤◌, ◌^◌, Bool, true, false, cond, List, [], ◌∷◌, ◌++◌, map, replicate, length, get_or, refl, sym, ◌∙◌, ap, subst, arith, inl}
use Rattle.jet_items.specs.declared.item.Item.{Item}
use Rattle.jet_items.specs.Order.{Each}
use Rattle.jet_items.proofs.Orders.{Each-append, Each-more}
use Rattle.jet_boxes.specs.declared.port.Port.{Port}
use Rattle.jet_boxes.specs.declared.port.Port.TheVariants.{Stream}
use Rattle.jet_boxes.specs.Entry.{CallEntry}
use Rattle.jet_coalescer.specs.declared.coalescer.Coalescer.{Coalescer}
use Rattle.jet_coalescer.specs.Low.{History, HasHeard, unheard}
use Rattle.jet_conveyor.specs.Conveyor.{View}
use Rattle.jet_router.specs.Router as router
use Rattle.jet_tasklet.specs.declared.arrival.Arrival.{Arrival}
use Rattle.jet_tasklet.specs.declared.step.Step.{Step}
use Rattle.jet_tasklet.specs.declared.step.Step.TheVariants as step
use Rattle.jet_tasklet.specs.Steps.{Working, entry_of}
use Rattle.jet_tasklet.specs.declared.tasklet.Tasklet.{Tasklet}
use Rattle.jet_tasklet.specs.Trace.{same_port, histories}
use Rattle.jet_tasklet.specs.Inputs.{InputView, inputs_view, of_port, received, dones, queue_count}
use Rattle.jet_tasklet.specs.Outputs.{OutputView, outputs_view, ready, Gave, Giving, HasDest, AreOwed}
use Rattle.jet_tasklet.specs.Keeps.{Keeps, Came, IsOver, told, IsEven, IsUnread, IsUnsent}
use Rattle.jet_tasklet.proofs.Flat.{of_port_length}

histories_none : (n : ℕ) → histories n (λ q. []) ≡ replicate n unheard
histories_none zero = refl
histories_none (suc n) = ap (λ (hs : List History). unheard ∷ hs) (histories_none n)

each_if : {X : Type 0} (P : X → Type 0) (b : Bool) (xs : List X) → Each P xs → Each P (cond b xs [])
each_if P true xs h = h
each_if P false xs h = tt

each_port : {X : Type 0} (P : X → Type 0) (f : View → List X) (port : Port) (vs : List InputView) → Each (λ v. Each P (f v.queues)) vs → Each P (of_port f port vs)
each_port P f port [] h = tt
each_port P f port (v ∷ vs) h = Each-append P (cond (same_port v.port port) (f v.queues) []) (of_port f port vs) (each_if P (same_port v.port port) (f v.queues) h.0) (each_port P f port vs h.1)

get_none : (xs : List (List Item)) (q : ℕ) → Each (λ x. x ≡ []) xs → get_or xs q [] ≡ []
get_none [] q h = refl
get_none (x ∷ xs) zero h = h.0
get_none (x ∷ xs) (suc q) h = get_none xs q h.1

get_false : (ds : List Bool) (q : ℕ) → q < length ds → Each (λ d. d ≡ false) ds → get_or ds q true ≡ false
get_false [] q lt h = absurd (omega (arith, lt))
get_false (d ∷ ds) zero lt h = h.0
get_false (d ∷ ds) (suc q) lt h = get_false ds q (omega (arith, lt)) h.1

came_none : (vs : List InputView) (co : Coalescer) → Each IsUnread vs → ((port : Port) → queue_count port vs < 2 ^ 32) → HasHeard co (replicate (queue_count Stream vs) unheard) → Came vs co []
came_none vs co h few heard_is =
    let even_done : Each (λ v. length v.queues.done ≡ length v.queues.rings) vs = Each-more IsUnread (λ (v : InputView). length v.queues.done ≡ length v.queues.rings) (λ v u. let e = u.even in e.done) vs h in
    record {
      even = Each-more IsUnread IsEven (λ v u. u.even) vs h;
      few = few;
      received_is = λ port q lt. get_none (received port vs) q (each_port (λ (xs : List Item). xs ≡ []) (λ v. v.received) port vs (Each-more IsUnread (λ (v : InputView). Each (λ xs. xs ≡ []) v.queues.received) (λ v u. u.received) vs h));
      done_is = λ port q lt. get_false (dones port vs) q (omega (arith, lt, of_port_length (λ v. v.done) port vs even_done)) (each_port (λ (d : Bool). d ≡ false) (λ v. v.done) port vs (Each-more IsUnread (λ (v : InputView). Each (λ d. d ≡ false) v.queues.done) (λ v u. u.done) vs h));
      in_order = record { inside = tt; follows = tt };
      builds = λ e. tt;
      heard_is = subst (HasHeard co) (sym (histories_none (queue_count Stream vs))) heard_is;
    }

gave_none : (v : router.View) → IsUnsent v → Gave [] (ready v)
gave_none v h =
    let settled_is : router.settled v ≡ router.sents v = ap (λ (b : Bool). router.settled_if b v.dests) h.free in
    record {
      deals = [];
      dealt = record { by_route = tt; sent_is = λ k lt. ap (λ (xs : List (List Item)). get_or xs k []) settled_is ∙ get_none (router.sents v) k h.sents };
      items = refl;
      free = h.free;
      ready = refl;
    }

gave_all : (rs : List router.View) → Each IsUnsent rs → Each (Gave []) (map ready rs)
gave_all [] h = tt
gave_all (v ∷ vs) h = (gave_none v h.0, gave_all vs h.1)

all_dests : (rs : List router.View) → Each HasDest rs → Each (λ (o : OutputView). HasDest o.router) (map ready rs)
all_dests [] h = tt
all_dests (v ∷ vs) h = (h.0, all_dests vs h.1)

-- outputs that are ready wait
owed_new : (rs : List router.View) → 0 < length rs → Each HasDest rs → Each IsUnsent rs → AreOwed (map ready rs)
owed_new [] lt dests unsent = absurd (omega (arith, lt))
owed_new (v ∷ vs) lt dests unsent =
    let u : IsUnsent v = unsent.0 in
    record {
      dests = all_dests (v ∷ vs) dests;
      some = inl (record { waits = refl; dest = dests.0; owes = λ e. absurd (cc (e, u.free)) });
    }

pub new_keeps : {P : Type 0} (stands : P → List CallEntry → List Item → Type 0) (amid : P → List CallEntry → CallEntry → List Item → Type 0) (takes : P → Port → ℕ → Type 0) (t : Tasklet P) (rs : List router.View) → t.step ≡ step.Poll → t.outbox.items ≡ [] → 1 ≤ t.outbox.room → stands t.processor [] [] → ((port : Port) (q : ℕ) → q < queue_count port (inputs_view t.inputs.items) → takes t.processor port q) → ((port : Port) → queue_count port (inputs_view t.inputs.items) < 2 ^ 32) → Each IsUnread (inputs_view t.inputs.items) → 0 < length rs → Each HasDest rs → Each IsUnsent rs → outputs_view t.outputs.items ≡ map ready rs → HasHeard t.coalescer (replicate (queue_count Stream (inputs_view t.inputs.items)) unheard) → Keeps stands amid takes t [] []
new_keeps {P} stands amid takes t rs polls empty room new may few unread some dests unsent outs heard_is = record {
  takes_in = came_none (inputs_view t.inputs.items) t.coalescer unread few heard_is;
  gives_out = subst (λ (xs : List Item). Giving [] xs (outputs_view t.outputs.items)) (sym empty) (subst (λ (vs : List OutputView). Each (Gave []) vs) (sym outs) (gave_all rs unsent));
  works = subst (λ (s : Step). Working stands amid takes t.processor s (told s (queue_count Stream (inputs_view t.inputs.items)) []) t.outbox.items) (sym polls) (subst (λ (xs : List Item). stands t.processor [] xs) (sym empty) new);
  takes_all = may;
  over = subst (λ (s : Step). IsOver s (inputs_view t.inputs.items)) (sym polls) tt;
  room = room;
  owed = subst AreOwed (sym outs) (owed_new rs some dests unsent);
}

-- ---- other relations that the processor keeps
working_as : {P : Type 0} (stands other : P → List CallEntry → List Item → Type 0) (amid between : P → List CallEntry → CallEntry → List Item → Type 0) (takes : P → Port → ℕ → Type 0) → ((p : P) (taken : List CallEntry) (given : List Item) → stands p taken given → other p taken given) → ((p : P) (taken : List CallEntry) (entry : CallEntry) (given : List Item) → amid p taken entry given → between p taken entry given) → (p : P) (s : Step) (es : List CallEntry) (given : List Item) → Working stands amid takes p s es given → Working other between takes p s es given
working_as stands other amid between takes f h p step.Poll es given w = f p es given w
working_as stands other amid between takes f h p (step.Make c) es given w = (w.0, w.1, h p w.0 (entry_of c) given w.2, w.3)
working_as stands other amid between takes f h p step.End es given w = f p es given w
working_as stands other amid between takes f h p step.Ended es given w = (w.0, w.1, f p es w.0 w.2)

pub keeps_as : {P : Type 0} (stands other : P → List CallEntry → List Item → Type 0) (amid between : P → List CallEntry → CallEntry → List Item → Type 0) (takes : P → Port → ℕ → Type 0) → ((p : P) (taken : List CallEntry) (given : List Item) → stands p taken given → other p taken given) → ((p : P) (taken : List CallEntry) (entry : CallEntry) (given : List Item) → amid p taken entry given → between p taken entry given) → (t : Tasklet P) (came : List Arrival) (gave : List Item) → Keeps stands amid takes t came gave → Keeps other between takes t came gave
keeps_as stands other amid between takes f h t came gave k = record {
  takes_in = k.takes_in;
  gives_out = k.gives_out;
  works = working_as stands other amid between takes f h t.processor t.step (told t.step (queue_count Stream (inputs_view t.inputs.items)) came) (gave ++ t.outbox.items) k.works;
  takes_all = k.takes_all;
  over = k.over;
  room = k.room;
  owed = k.owed;
}
