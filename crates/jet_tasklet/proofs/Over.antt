-- What tasklets have told their processors and what those have given, in any state and at the end.
use Rattle.std.proofs.Common.{◌≡◌, ℕ, Bool, List, [], ◌∷◌, ◌++◌, get_or, sym, ◌∙◌, ap, subst, append-nil, inl, inr}
use Rattle.std.specs.Prelude.{◌⊎◌}
use Rattle.jet_items.specs.declared.item.Item.{Item}
use Rattle.jet_items.specs.declared.item.Item.TheVariants as item
use Rattle.jet_items.specs.Bag.{SameBag, all_of}
use Rattle.jet_items.specs.Kinds.{data_of}
use Rattle.jet_items.specs.Order.{Each, Sound, Closed as ClosedItems}
use Rattle.jet_items.proofs.Bags.{SameBag-refl, SameBag-trans, SameBag-append, SameBag-all_of}
use Rattle.jet_boxes.specs.declared.port.Port.{Port}
use Rattle.jet_boxes.specs.declared.port.Port.TheVariants.{Stream, Build}
use Rattle.jet_boxes.specs.Entry.{CallEntry, NotDone, AnyQueue, items_of}
use Rattle.jet_coalescer.specs.declared.coalescer.Coalescer.{Coalescer}
use Rattle.jet_tasklet.specs.declared.arrival.Arrival.{Arrival}
use Rattle.jet_tasklet.specs.declared.step.Step.{Step}
use Rattle.jet_tasklet.specs.declared.step.Step.TheVariants as step
use Rattle.jet_tasklet.specs.declared.tasklet.Tasklet.{Tasklet}
use Rattle.jet_tasklet.specs.Trace.{of_queue, entries}
use Rattle.jet_tasklet.specs.Inputs.{InputView, inputs_view, received, queue_count}
use Rattle.jet_tasklet.specs.Outputs.{OutputView, outputs_view, Giving, Gave}
use Rattle.jet_tasklet.specs.Keeps.{Came, Keeps, IsOver, told}
use Rattle.jet_tasklet.specs.Merging.{data_received}
use Rattle.jet_tasklet.specs.Over.{told_of, IsTold, IsAmid, IsEnded, SoFar, Over}
use Rattle.jet_tasklet.specs.Sending.{EachReceived, EachFront}
use Rattle.jet_tasklet.specs.Steps.{Working, entry_of, then_of, finale}
use Rattle.jet_tasklet.specs.Turning.{HasEnded}
use Rattle.jet_tasklet.proofs.ByPort.{stream_bag, build_bag, stream_waits, told_first}
use Rattle.jet_tasklet.proofs.Comes.{told_comes}
use Rattle.jet_tasklet.proofs.Merging.{merge_bag}
use Rattle.jet_tasklet.proofs.Sending.{told_items, told_open}

port_bag : (vs : List InputView) (co : Coalescer) (came : List Arrival) → Came vs co came → (port : Port) → SameBag (all_of (queue_count port vs) (λ q. data_of (of_queue port q came))) (data_received port vs)
port_bag vs co came h port =
    SameBag-all_of (queue_count port vs) (λ q. data_of (of_queue port q came)) (λ q. data_of (get_or (received port vs) q [])) (λ q lt.
    subst (λ (xs : List Item). SameBag (data_of (of_queue port q came)) (data_of xs)) (sym (h.received_is port q lt)) (SameBag-refl (data_of (of_queue port q came))))

-- the data told is that of all queues together
pub all_bag : (vs : List InputView) (co : Coalescer) (came : List Arrival) (s : Step) → Came vs co came → SameBag (data_of (items_of (told s (queue_count Stream vs) came))) (data_received Stream vs ++ data_received Build vs)
all_bag vs co came s h =
    subst (λ (xs : List Item). SameBag (data_of xs) (data_received Stream vs ++ data_received Build vs)) (sym (told_items s (queue_count Stream vs) came))
    (SameBag-trans (merge_bag (λ port. queue_count port vs) (queue_count Stream vs) came h.in_order.inside) (SameBag-append (port_bag vs co came h Stream) (port_bag vs co came h Build)))

-- ---- what was told
whole : (Q : List CallEntry → Type 0) (es : List CallEntry) → EachFront Q es → Q es
whole Q es h = h es [] (sym (append-nil es))

-- the orders are those of the fronts of what was told
pub is_told : (vs : List InputView) (co : Coalescer) (came : List Arrival) (s : Step) → Came vs co came
    → ((behind : ℕ → ℕ → Bool) → EachReceived (Sound behind) vs → EachFront (λ taken. Sound behind (items_of taken)) (told s (queue_count Stream vs) came))
    → (EachReceived ClosedItems vs → EachFront (λ taken. ClosedItems (items_of taken)) (told s (queue_count Stream vs) came))
    → IsTold vs (told s (queue_count Stream vs) came)
is_told vs co came s h sound closed =
    let n : ℕ = queue_count Stream vs in record {
      streams = stream_bag vs co came s h;
      builds = build_bag vs co came s h;
      merged = all_bag vs co came s h;
      comes = told_comes AnyQueue (λ port. queue_count port vs) s n came (λ port q. tt) h.in_order;
      build_first = told_first s n came h.in_order.follows;
      waits = stream_waits vs co came s h;
      sound = λ behind all. whole (λ taken. Sound behind (items_of taken)) (told s n came) (sound behind all);
      closed = λ all. whole (λ taken. ClosedItems (items_of taken)) (told s n came) (closed all);
    }

-- ---- what was given
working_follows : {P : Type 0} (bag : P → List CallEntry → List Item → Type 0) (amid : P → List CallEntry → CallEntry → List Item → Type 0) (takes : P → Port → ℕ → Type 0) (p : P) (s : Step) (es : List CallEntry) (given : List Item) → Working bag amid takes p s es given → bag p es given ⊎ (IsAmid (amid p) es given ⊎ IsEnded (bag p) es given)
working_follows bag amid takes p step.Poll es given w = inl w
working_follows bag amid takes p (step.Make c) es given w = inr (inl (record { taken = w.0; entry = entry_of c; more = then_of c; parts = w.1; follows = w.2 }))
working_follows bag amid takes p step.End es given w = inl w
working_follows bag amid takes p step.Ended es given w = inr (inr (record { front = w.0; parts = w.1; follows = w.2 }))

pub gave_so_far : {P : Type 0} (bag : P → List CallEntry → List Item → Type 0) (amid : P → List CallEntry → CallEntry → List Item → Type 0) (takes : P → Port → ℕ → Type 0) (t : Tasklet P) (came : List Arrival) (gave : List Item) → Keeps bag amid takes t came gave → IsTold (inputs_view t.inputs.items) (told_of t came)
    → SoFar (bag t.processor) (amid t.processor) (inputs_view t.inputs.items) (told_of t came) (gave ++ t.outbox.items)
gave_so_far bag amid takes t came gave k is = record { told = is; follows = working_follows bag amid takes t.processor t.step (told_of t came) (gave ++ t.outbox.items) k.works }

-- the whole of a tasklet that has ended, and another law of what it gave
pub is_over : {P : Type 0} (stands bag marks : P → List CallEntry → List Item → Type 0) (amid : P → List CallEntry → CallEntry → List Item → Type 0) (takes : P → Port → ℕ → Type 0)
    → ((p : P) (taken : List CallEntry) (given : List Item) → stands p taken given → bag p taken given)
    → ((p : P) (taken : List CallEntry) (given : List Item) → stands p taken given → marks p taken given)
    → ((p : P) (taken : List CallEntry) (given : List Item) → stands p taken given → Each NotDone (items_of taken) → Each NotDone given)
    → (t : Tasklet P) (came : List Arrival) (gave : List Item) → Keeps stands amid takes t came gave → HasEnded t → IsTold (inputs_view t.inputs.items) (told_of t came)
    → (given : List Item) × (gave ≡ given ++ item.Done ∷ []) × (Over (bag t.processor) (inputs_view t.inputs.items) (outputs_view t.outputs.items) (told_of t came) given × marks t.processor (told_of t came) given)
is_over stands bag marks amid takes bag_law marks_law open_law t came gave k e is =
    let vs : List InputView = inputs_view t.inputs.items in
    let os : List OutputView = outputs_view t.outputs.items in
    let n : ℕ = queue_count Stream vs in
    let es : List CallEntry = told_of t came in
    let works : Working stands amid takes t.processor step.Ended es (gave ++ t.outbox.items) = subst (λ (s : Step). Working stands amid takes t.processor s es (gave ++ t.outbox.items)) e.0 k.works in
    let same : gave ≡ works.0 ++ item.Done ∷ [] = sym (append-nil gave) ∙ ap (λ (xs : List Item). gave ++ xs) (sym e.1) ∙ works.1 in
    let gives : Each (Gave gave) os = subst (λ (xs : List Item). Giving gave xs os) e.1 k.gives_out in
    let over : IsOver step.Ended vs = subst (λ (s : Step). IsOver s vs) e.0 k.over in (
      works.0,
      same,
      (
        record {
          done = over;
          told = is;
          front = entries n came;
          parts = ap (λ (s : Step). entries n came ++ finale s) e.0;
          follows = bag_law t.processor es works.0 works.2;
          open_ended = open_law t.processor es works.0 works.2 (whole (λ taken. Each NotDone (items_of taken)) es (told_open t.step n came));
          gave = subst (λ (xs : List Item). Each (Gave xs) os) same gives;
        },
        marks_law t.processor es works.0 works.2,
      ),
    )
