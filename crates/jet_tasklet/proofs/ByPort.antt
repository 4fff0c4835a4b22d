-- What was told by the port through which it came: the data of each port is that of its queues, and builds come first.
use Rattle.std.proofs.Common.{◌≡◌, ℕ, zero, suc, ◌+◌, ◌<◌, Bool, true, false, cond, ℤ, List, [], ◌∷◌, ◌++◌, get_or, sum_by, refl, sym, ◌∙◌, ap, subst, append-nil, append_assoc, inl, inr, arith}
use Rattle.std.specs.Prelude.{Option, Some, None, ◌⊎◌}
use Rattle.std.specs.List.{flat_map}
use Rattle.std.proofs.lemmas.List.Sums.{sum_by-append}
use Rattle.std.proofs.lemmas.List.Concat.{flat_map-append}
use Rattle.jet_items.specs.declared.item.Item.{Item}
use Rattle.jet_items.specs.declared.item.Item.TheVariants as item
use Rattle.jet_items.specs.Bag.{SameBag}
use Rattle.jet_items.specs.Kinds.{as_data, data_of}
use Rattle.jet_items.specs.Order.{Each, EachPair}
use Rattle.jet_items.proofs.Orders.{Each-more}
use Rattle.jet_boxes.specs.declared.port.Port.{Port}
use Rattle.jet_boxes.specs.declared.port.Port.TheVariants.{Stream, Build}
use Rattle.jet_boxes.specs.Entry.{CallEntry, MarkTold, Finish}
use Rattle.jet_boxes.specs.Ports.{stream_items, build_items, stream_events, build_rows, BuildFirst}
use Rattle.jet_coalescer.specs.Low.{risen}
use Rattle.jet_coalescer.specs.declared.coalescer.Coalescer.{Coalescer}
use Rattle.jet_tasklet.specs.declared.arrival.Arrival.{Arrival}
use Rattle.jet_tasklet.specs.declared.step.Step.{Step}
use Rattle.jet_tasklet.specs.declared.step.Step.TheVariants as step
use Rattle.jet_tasklet.specs.declared.step.Pending.TheVariants as call
use Rattle.jet_tasklet.specs.Inputs.{InputView, received, queue_count, all_done}
use Rattle.jet_tasklet.specs.InOrder.{MayFollow}
use Rattle.jet_tasklet.specs.Keeps.{Came, IsBuild, told}
use Rattle.jet_tasklet.specs.Merging.{data_received}
use Rattle.jet_tasklet.specs.Over.{streamed, built}
use Rattle.jet_tasklet.specs.Steps.{finale}
use Rattle.jet_tasklet.specs.Trace.{same_port, is_from, of_queue, watermark, called, tells, asks, entries_after, entries}
use Rattle.jet_tasklet.proofs.Merging.{data_append, sums, sums_same, sums_zero, sum_by-all_of, total, total_next, own_total, other_total}

-- the data that came by a port
abbrev pub port_data : Port → List Arrival → List Item
port_data port came = flat_map (λ a. cond (same_port a.port port) (as_data a.item) []) came

called_streamed : (port : Port) (q : ℕ) (x : Item) → data_of (streamed (called port q x)) ≡ cond (same_port port Stream) (as_data x) []
called_streamed Stream q (item.Event e) = refl
called_streamed Stream q (item.Side s) = refl
called_streamed Stream q (item.Frame f) = refl
called_streamed Stream q (item.Row r) = refl
called_streamed Stream q (item.Late l) = refl
called_streamed Stream q item.Idle = refl
called_streamed Stream q (item.Mark m) = refl
called_streamed Stream q item.Done = refl
called_streamed Build q (item.Event e) = refl
called_streamed Build q (item.Side s) = refl
called_streamed Build q (item.Frame f) = refl
called_streamed Build q (item.Row r) = refl
called_streamed Build q (item.Late l) = refl
called_streamed Build q item.Idle = refl
called_streamed Build q (item.Mark m) = refl
called_streamed Build q item.Done = refl

called_built : (port : Port) (q : ℕ) (x : Item) → data_of (built (called port q x)) ≡ cond (same_port port Build) (as_data x) []
called_built Build q (item.Event e) = refl
called_built Build q (item.Side s) = refl
called_built Build q (item.Frame f) = refl
called_built Build q (item.Row r) = refl
called_built Build q (item.Late l) = refl
called_built Build q item.Idle = refl
called_built Build q (item.Mark m) = refl
called_built Build q item.Done = refl
called_built Stream q (item.Event e) = refl
called_built Stream q (item.Side s) = refl
called_built Stream q (item.Frame f) = refl
called_built Stream q (item.Row r) = refl
called_built Stream q (item.Late l) = refl
called_built Stream q item.Idle = refl
called_built Stream q (item.Mark m) = refl
called_built Stream q item.Done = refl

none_told : (f : CallEntry → List Item) → ((t : ℤ) → f (MarkTold t) ≡ []) → (o : Option ℤ) → data_of (flat_map f (tells o)) ≡ []
none_told f h None = refl
none_told f h (Some t) = ap data_of (append-nil (f (MarkTold t)) ∙ h t)

both_data : (f : CallEntry → List Item) (xs ys : List CallEntry) → data_of (flat_map f (xs ++ ys)) ≡ data_of (flat_map f xs) ++ data_of (flat_map f ys)
both_data f xs ys = ap data_of (flat_map-append f xs ys) ∙ data_append (flat_map f xs) (flat_map f ys)

-- the finish has no item
finale_none : {X : Type 0} (f : CallEntry → List X) → f Finish ≡ [] → (s : Step) → flat_map f (finale s) ≡ []
finale_none f none step.Poll = refl
finale_none f none (step.Make (call.Accept a)) = refl
finale_none f none (step.Make (call.Close port q then)) = refl
finale_none f none (step.Make (call.Tell t)) = refl
finale_none {X} f none (step.Make call.Finish) = ap (λ (xs : List X). xs ++ []) none
finale_none {X} f none step.End = ap (λ (xs : List X). xs ++ []) none
finale_none {X} f none step.Ended = ap (λ (xs : List X). xs ++ []) none

module _ (f : CallEntry → List Item) (port : Port) (marks : (t : ℤ) → f (MarkTold t) ≡ []) (finish : f Finish ≡ []) (called_is : (p : Port) (q : ℕ) (x : Item) → data_of (flat_map f (called p q x)) ≡ cond (same_port p port) (as_data x) []) where
  asked : (n : ℕ) (before : List Arrival) (a : Arrival) → data_of (flat_map f (asks n before a)) ≡ cond (same_port a.port port) (as_data a.item) []
  asked n before a =
      let o : Option ℤ = risen (watermark n before) (watermark n (before ++ a ∷ [])) in
      both_data f (called a.port a.queue a.item) (tells o)
      ∙ (ap (λ (xs : List Item). data_of (flat_map f (called a.port a.queue a.item)) ++ xs) (none_told f marks o) ∙ (append-nil (data_of (flat_map f (called a.port a.queue a.item))) ∙ called_is a.port a.queue a.item))

  after_data : (n : ℕ) (before came : List Arrival) → data_of (flat_map f (entries_after n before came)) ≡ port_data port came
  after_data n before [] = refl
  after_data n before (a ∷ came) =
      both_data f (asks n before a) (entries_after n (before ++ a ∷ []) came)
      ∙ (ap (λ (xs : List Item). xs ++ data_of (flat_map f (entries_after n (before ++ a ∷ []) came))) (asked n before a)
      ∙ ap (λ (xs : List Item). cond (same_port a.port port) (as_data a.item) [] ++ xs) (after_data n (before ++ a ∷ []) came))

  pub told_data : (s : Step) (n : ℕ) (came : List Arrival) → data_of (flat_map f (told s n came)) ≡ port_data port came
  told_data s n came =
      both_data f (entries n came) (finale s)
      ∙ (ap (λ (xs : List Item). data_of (flat_map f (entries n came)) ++ data_of xs) (finale_none f finish s) ∙ (append-nil (data_of (flat_map f (entries n came))) ∙ after_data n [] came))

-- ---- what came by a port, queue by queue
port_is : (p q : Port) → same_port p q ≡ true → p ≡ q
port_is Stream Stream h = refl
port_is Stream Build h = absurd (cc)
port_is Build Stream h = absurd (cc)
port_is Build Build h = refl

port_weight : (v : Item → ℕ) (queues : Port → ℕ) (port : Port) (came : List Arrival) → Each (λ a. a.queue < queues a.port) came → total v port (queues port) came ≡ sum_by v (port_data port came)
port_weight v queues port [] h = sums_zero (queues port)
port_weight v queues port (a ∷ came) h =
    let c : ℕ = sum_by v (as_data a.item) in
    let ih : total v port (queues port) came ≡ sum_by v (port_data port came) = port_weight v queues port came h.1 in
    omega (arith, ih, total_next v port (queues port) a came, here (same_port a.port port) refl, sum_by-append v (cond (same_port a.port port) (as_data a.item) []) (port_data port came))
  where
    here : (b : Bool) → same_port a.port port ≡ b → sums (queues port) (λ q. cond (is_from port q a) (sum_by v (as_data a.item)) 0) ≡ sum_by v (cond (same_port a.port port) (as_data a.item) [])
    here true is =
        own_total port (queues port) (sum_by v (as_data a.item)) a is (subst (λ (p : Port). a.queue < queues p) (port_is a.port port is) h.0)
        ∙ sym (ap (λ (b : Bool). sum_by v (cond b (as_data a.item) [])) is)
    here false is = other_total port (queues port) (sum_by v (as_data a.item)) a is ∙ sym (ap (λ (b : Bool). sum_by v (cond b (as_data a.item) [])) is)

port_bag : (vs : List InputView) (co : Coalescer) (came : List Arrival) → Came vs co came → (port : Port) → SameBag (port_data port came) (data_received port vs)
port_bag vs co came h port = record {
  weighs = λ w.
      sym (port_weight w (λ p. queue_count p vs) port came h.in_order.inside)
      ∙ (below (queue_count port vs) (λ q. sum_by w (data_of (of_queue port q came))) (λ q. sum_by w (data_of (get_or (received port vs) q []))) (λ q lt. ap (λ (xs : List Item). sum_by w (data_of xs)) (sym (h.received_is port q lt)))
      ∙ sym (sum_by-all_of w (queue_count port vs) (λ q. data_of (get_or (received port vs) q []))));
}
  where
    below : (n : ℕ) (f g : ℕ → ℕ) → ((q : ℕ) → q < n → f q ≡ g q) → sums n f ≡ sums n g
    below zero f g same = refl
    below (suc n) f g same = omega (arith, below n f g (λ q lt. same q (omega (arith, lt))), same n (omega arith))

pub stream_bag : (vs : List InputView) (co : Coalescer) (came : List Arrival) (s : Step) → Came vs co came → SameBag (data_of (streamed (told s (queue_count Stream vs) came))) (data_received Stream vs)
stream_bag vs co came s h = subst (λ (xs : List Item). SameBag xs (data_received Stream vs)) (sym (told_data stream_items Stream (λ t. refl) refl called_streamed s (queue_count Stream vs) came)) (port_bag vs co came h Stream)

pub build_bag : (vs : List InputView) (co : Coalescer) (came : List Arrival) (s : Step) → Came vs co came → SameBag (data_of (built (told s (queue_count Stream vs) came))) (data_received Build vs)
build_bag vs co came s h = subst (λ (xs : List Item). SameBag xs (data_received Build vs)) (sym (told_data build_items Build (λ t. refl) refl called_built s (queue_count Stream vs) came)) (port_bag vs co came h Build)

-- ---- the build queues come first
builds_alone : (came : List Arrival) → Each IsBuild came → port_data Stream came ≡ []
builds_alone [] h = refl
builds_alone (a ∷ came) h =
    ap (λ (xs : List Item). xs ++ port_data Stream came) (ap (λ (p : Port). cond (same_port p Stream) (as_data a.item) []) h.0) ∙ builds_alone came h.1

-- no data of the stream is told before every build queue is done
pub stream_waits : (vs : List InputView) (co : Coalescer) (came : List Arrival) (s : Step) → Came vs co came → all_done Build vs ≡ false → data_of (streamed (told s (queue_count Stream vs) came)) ≡ []
stream_waits vs co came s h open_yet = told_data stream_items Stream (λ t. refl) refl called_streamed s (queue_count Stream vs) came ∙ builds_alone came (h.builds open_yet)

streams_none : (q : ℕ) (x : Item) → stream_events (called Build q x) ≡ []
streams_none q (item.Event e) = refl
streams_none q (item.Side s) = refl
streams_none q (item.Frame f) = refl
streams_none q (item.Row r) = refl
streams_none q (item.Late l) = refl
streams_none q item.Idle = refl
streams_none q (item.Mark m) = refl
streams_none q item.Done = refl

builds_none : (q : ℕ) (x : Item) → build_rows (called Stream q x) ≡ []
builds_none q (item.Event e) = refl
builds_none q (item.Side s) = refl
builds_none q (item.Frame f) = refl
builds_none q (item.Row r) = refl
builds_none q (item.Late l) = refl
builds_none q item.Idle = refl
builds_none q (item.Mark m) = refl
builds_none q item.Done = refl

tells_events : (o : Option ℤ) → stream_events (tells o) ≡ []
tells_events None = refl
tells_events (Some t) = refl

tells_rows : (o : Option ℤ) → build_rows (tells o) ≡ []
tells_rows None = refl
tells_rows (Some t) = refl

events_both : (xs ys : List CallEntry) → stream_events xs ≡ [] → stream_events ys ≡ [] → stream_events (xs ++ ys) ≡ []
events_both xs ys h k = flat_map-append _ xs ys ∙ (ap (λ es. es ++ stream_events ys) h ∙ k)

rows_both : (xs ys : List CallEntry) → build_rows xs ≡ [] → build_rows ys ≡ [] → build_rows (xs ++ ys) ≡ []
rows_both xs ys h k = flat_map-append _ xs ys ∙ (ap (λ es. es ++ build_rows ys) h ∙ k)

none_built : (n : ℕ) (before came : List Arrival) → Each (λ a. a.port ≡ Stream) came → build_rows (entries_after n before came) ≡ []
none_built n before [] h = refl
none_built n before (a ∷ came) h =
    let o : Option ℤ = risen (watermark n before) (watermark n (before ++ a ∷ [])) in
    rows_both (asks n before a) (entries_after n (before ++ a ∷ []) came)
    (rows_both (called a.port a.queue a.item) (tells o) (subst (λ (p : Port). build_rows (called p a.queue a.item) ≡ []) (sym h.0) (builds_none a.queue a.item)) (tells_rows o))
    (none_built n (before ++ a ∷ []) came h.1)

stream_or : (p : Port) → (p ≡ Stream) ⊎ (p ≡ Build)
stream_or Stream = inl refl
stream_or Build = inr refl

builds_come_first : (n : ℕ) (before came : List Arrival) → EachPair MayFollow came → BuildFirst (entries_after n before came)
builds_come_first n before [] h = record { front = []; back = []; parts = refl; no_event = refl; no_row = refl }
builds_come_first n before (a ∷ came) h =
    elim (stream_or a.port) [
      | inl is ↦
          let others : Each (λ b. b.port ≡ Stream) came = Each-more (MayFollow a) (λ (b : Arrival). b.port ≡ Stream) (λ b k. elim (stream_or b.port) [ inl s ↦ s | inr s ↦ absurd (k.1 is s) ]) came h.0 in
          record { front = []; back = entries_after n before (a ∷ came); parts = refl; no_event = refl; no_row = none_built n before (a ∷ came) (is, others) }
      | inr is ↦
          let rest = builds_come_first n (before ++ a ∷ []) came h.1 in
          let o : Option ℤ = risen (watermark n before) (watermark n (before ++ a ∷ [])) in
          record {
            front = asks n before a ++ rest.front;
            back = rest.back;
            parts = ap (λ (es : List CallEntry). asks n before a ++ es) rest.parts ∙ sym (append_assoc (asks n before a) rest.front rest.back);
            no_event = events_both (asks n before a) rest.front (events_both (called a.port a.queue a.item) (tells o) (subst (λ (p : Port). stream_events (called p a.queue a.item) ≡ []) (sym is) (streams_none a.queue a.item)) (tells_events o)) rest.no_event;
            no_row = rest.no_row;
          }
    ]

pub told_first : (s : Step) (n : ℕ) (came : List Arrival) → EachPair MayFollow came → BuildFirst (told s n came)
told_first s n came h =
    let b = builds_come_first n [] came h in record {
      front = b.front;
      back = b.back ++ finale s;
      parts = ap (λ (xs : List CallEntry). xs ++ finale s) b.parts ∙ append_assoc b.front b.back (finale s);
      no_event = b.no_event;
      no_row = rows_both b.back (finale s) b.no_row (finale_none _ refl s);
    }
