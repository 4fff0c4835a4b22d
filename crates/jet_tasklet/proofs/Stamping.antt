-- What a stamp is told, queue by queue.
use Rattle.std.proofs.Common.{◌≡◌, ℕ, ◌<◌, ◌==◌, nat_lt, Bool, true, false, ℤ, List, [], ◌∷◌, ◌++◌, Option, Some, None, refl, ap, sym, ◌∙◌, subst, append-nil, arith}
use Rattle.std.proofs.Common.{cond, append_assoc}
use Rattle.std.specs.Prelude.{◌≢◌}
use Rattle.std.specs.List.{flat_map}
use Rattle.std.proofs.lemmas.List.Concat.{flat_map-append}
use Rattle.jet_items.specs.Kinds.{as_data, as_event, data_of, events_of}
use Rattle.jet_items.specs.Marks.{idle_before, is_behind, is_under}
use Rattle.jet_items.specs.Order.{Each, EachPair}
use Rattle.jet_items.specs.Values.{EventValue}
use Rattle.jet_items.specs.declared.item.Item.{Item}
use Rattle.jet_items.specs.declared.item.Item.TheVariants as item
use Rattle.jet_items.proofs.Orders.{Each-append, Each-front, Each-back, EachPair-front}
use Rattle.jet_boxes.specs.declared.port.Port.{Port}
use Rattle.jet_boxes.specs.declared.port.Port.TheVariants.{Stream, Build}
use Rattle.jet_boxes.specs.Entry.{CallEntry, Given, MarkTold, QueueClosed, Finish, entry_items, items_of}
use Rattle.jet_coalescer.specs.declared.coalescer.Coalescer.{Coalescer}
use Rattle.jet_stages.specs.Stamp.{event_from, queue_events, InPlace, StandsIn, IsNotLate, FromFiles}
use Rattle.jet_tasklet.specs.declared.arrival.Arrival.{Arrival}
use Rattle.jet_tasklet.specs.declared.step.Pending.TheVariants as call
use Rattle.jet_tasklet.specs.declared.step.Step.{Step}
use Rattle.jet_tasklet.specs.declared.step.Step.TheVariants as step
use Rattle.jet_tasklet.specs.Inputs.{InputView, queue_count}
use Rattle.jet_tasklet.specs.Keeps.{Came, told}
use Rattle.jet_tasklet.specs.Sending.{EachFront, EachReceived}
use Rattle.jet_tasklet.specs.StampInOrder.{AreFromFiles}
use Rattle.jet_tasklet.specs.Steps.{finale}
use Rattle.jet_tasklet.specs.Trace.{asks, called, entries, entries_after, is_from, of_queue, tells}
use Rattle.jet_tasklet.proofs.Tracing.{from_own}

-- ---- the events of a queue

events_tells : (q : ℕ) (o : Option ℤ) → queue_events q (tells o) ≡ []
events_tells q None = refl
events_tells q (Some t) = refl

picked : (b : Bool) (x : Item) → cond b (as_event x) [] ++ [] ≡ events_of (cond b (x ∷ []) [])
picked true x = refl
picked false x = refl

none_picked : (b : Bool) (x : Item) → as_event x ≡ [] → [] ≡ events_of (cond b (x ∷ []) [])
none_picked true x none = sym (ap (λ (l : List EventValue). l ++ []) none)
none_picked false x none = refl

events_called : (q : ℕ) (port : Port) (r : ℕ) (x : Item) → queue_events q (called port r x) ≡ events_of (cond (is_from Stream q (record { port = port; queue = r; item = x })) (x ∷ []) [])
events_called q Stream r (item.Event e) = picked (r == q) (item.Event e)
events_called q Stream r (item.Side s) = picked (r == q) (item.Side s)
events_called q Stream r (item.Frame f) = picked (r == q) (item.Frame f)
events_called q Stream r (item.Row w) = picked (r == q) (item.Row w)
events_called q Stream r (item.Late l) = picked (r == q) (item.Late l)
events_called q Stream r item.Idle = picked (r == q) item.Idle
events_called q Stream r (item.Mark m) = none_picked (r == q) (item.Mark m) refl
events_called q Stream r item.Done = none_picked (r == q) item.Done refl
events_called q Build r (item.Event e) = refl
events_called q Build r (item.Side s) = refl
events_called q Build r (item.Frame f) = refl
events_called q Build r (item.Row w) = refl
events_called q Build r (item.Late l) = refl
events_called q Build r item.Idle = refl
events_called q Build r (item.Mark m) = refl
events_called q Build r item.Done = refl

events_after : (q n : ℕ) (before came : List Arrival) → queue_events q (entries_after n before came) ≡ events_of (of_queue Stream q came)
events_after q n before [] = refl
events_after q n before (a ∷ came) =
    let rest : List CallEntry = entries_after n (before ++ a ∷ []) came in
    let mine : List Item = cond (is_from Stream q a) (a.item ∷ []) [] in
    flat_map-append (event_from q) (asks n before a) rest
    ∙ ap (λ (l : List EventValue). l ++ queue_events q rest) (flat_map-append (event_from q) (called a.port a.queue a.item) _ ∙ ap (λ (l : List EventValue). queue_events q (called a.port a.queue a.item) ++ l) (events_tells q _)
    ∙ append-nil (queue_events q (called a.port a.queue a.item)) ∙ events_called q a.port a.queue a.item)
    ∙ ap (λ (l : List EventValue). events_of mine ++ l) (events_after q n (before ++ a ∷ []) came)
    ∙ sym (flat_map-append as_event mine (of_queue Stream q came))

events_finale : (q : ℕ) (s : Step) → queue_events q (finale s) ≡ []
events_finale q step.Poll = refl
events_finale q (step.Make (call.Accept a)) = refl
events_finale q (step.Make (call.Close port r then)) = refl
events_finale q (step.Make (call.Tell t)) = refl
events_finale q (step.Make call.Finish) = refl
events_finale q step.End = refl
events_finale q step.Ended = refl

pub events_told : (q n : ℕ) (s : Step) (came : List Arrival) → queue_events q (told s n came) ≡ events_of (of_queue Stream q came)
events_told q n s came =
    flat_map-append (event_from q) (entries n came) (finale s) ∙ ap (λ (l : List EventValue). queue_events q (entries n came) ++ l) (events_finale q s)
    ∙ append-nil (queue_events q (entries n came)) ∙ events_after q n [] came

-- ---- the places of idle notes
-- the items of a queue that the stamp is handed
abbrev item_from : ℕ → CallEntry → List Item
item_from q (Given Stream r x) = cond (r == q) (x ∷ []) []
item_from q (Given Build r x) = []
item_from q (MarkTold t) = []
item_from q (QueueClosed port r) = []
item_from q Finish = []

abbrev queue_items : ℕ → List CallEntry → List Item
queue_items q es = flat_map (item_from q) es

items_tell : (q : ℕ) (o : Option ℤ) → queue_items q (tells o) ≡ []
items_tell q None = refl
items_tell q (Some t) = refl

data_picked : (b : Bool) (x : Item) → as_data x ≡ x ∷ [] → cond b (x ∷ []) [] ++ [] ≡ data_of (cond b (x ∷ []) [])
data_picked true x h = sym (ap (λ (l : List Item). l ++ []) h)
data_picked false x h = refl

none_handed : (b : Bool) (x : Item) → as_data x ≡ [] → [] ≡ data_of (cond b (x ∷ []) [])
none_handed true x none = sym (ap (λ (l : List Item). l ++ []) none)
none_handed false x none = refl

called_items : (q : ℕ) (port : Port) (r : ℕ) (x : Item) → queue_items q (called port r x) ≡ data_of (cond (is_from Stream q (record { port = port; queue = r; item = x })) (x ∷ []) [])
called_items q Stream r (item.Event e) = data_picked (r == q) (item.Event e) refl
called_items q Stream r (item.Side s) = data_picked (r == q) (item.Side s) refl
called_items q Stream r (item.Frame f) = data_picked (r == q) (item.Frame f) refl
called_items q Stream r (item.Row w) = data_picked (r == q) (item.Row w) refl
called_items q Stream r (item.Late l) = data_picked (r == q) (item.Late l) refl
called_items q Stream r item.Idle = data_picked (r == q) item.Idle refl
called_items q Stream r (item.Mark m) = none_handed (r == q) (item.Mark m) refl
called_items q Stream r item.Done = none_handed (r == q) item.Done refl
called_items q Build r (item.Event e) = refl
called_items q Build r (item.Side s) = refl
called_items q Build r (item.Frame f) = refl
called_items q Build r (item.Row w) = refl
called_items q Build r (item.Late l) = refl
called_items q Build r item.Idle = refl
called_items q Build r (item.Mark m) = refl
called_items q Build r item.Done = refl

items_after_data : (q n : ℕ) (before came : List Arrival) → queue_items q (entries_after n before came) ≡ data_of (of_queue Stream q came)
items_after_data q n before [] = refl
items_after_data q n before (a ∷ came) =
    let rest : List CallEntry = entries_after n (before ++ a ∷ []) came in
    let mine : List Item = cond (is_from Stream q a) (a.item ∷ []) [] in
    flat_map-append (item_from q) (asks n before a) rest
    ∙ ap (λ (l : List Item). l ++ queue_items q rest) (flat_map-append (item_from q) (called a.port a.queue a.item) _ ∙ ap (λ (l : List Item). queue_items q (called a.port a.queue a.item) ++ l) (items_tell q _)
    ∙ append-nil (queue_items q (called a.port a.queue a.item)) ∙ called_items q a.port a.queue a.item)
    ∙ ap (λ (l : List Item). data_of mine ++ l) (items_after_data q n (before ++ a ∷ []) came)
    ∙ sym (flat_map-append as_data mine (of_queue Stream q came))

finale_items : (q : ℕ) (s : Step) → queue_items q (finale s) ≡ []
finale_items q step.Poll = refl
finale_items q (step.Make (call.Accept a)) = refl
finale_items q (step.Make (call.Close port r then)) = refl
finale_items q (step.Make (call.Tell t)) = refl
finale_items q (step.Make call.Finish) = refl
finale_items q step.End = refl
finale_items q step.Ended = refl

items_told : (q n : ℕ) (s : Step) (came : List Arrival) → queue_items q (told s n came) ≡ data_of (of_queue Stream q came)
items_told q n s came =
    flat_map-append (item_from q) (entries n came) (finale s) ∙ ap (λ (l : List Item). queue_items q (entries n came) ++ l) (finale_items q s)
    ∙ append-nil (queue_items q (entries n came)) ∙ items_after_data q n [] came

-- the events among them
picked_events : (b : Bool) (x : Item) → events_of (cond b (x ∷ []) []) ≡ cond b (as_event x) []
picked_events true x = append-nil (as_event x)
picked_events false x = refl

one_events : (q : ℕ) (e : CallEntry) → events_of (item_from q e) ≡ event_from q e
one_events q (Given Stream r x) = picked_events (r == q) x
one_events q (Given Build r x) = refl
one_events q (MarkTold t) = refl
one_events q (QueueClosed port r) = refl
one_events q Finish = refl

events_items : (q : ℕ) (es : List CallEntry) → events_of (queue_items q es) ≡ queue_events q es
events_items q [] = refl
events_items q (e ∷ es) =
    flat_map-append as_event (item_from q e) (queue_items q es)
    ∙ (ap (λ (l : List EventValue). l ++ events_of (queue_items q es)) (one_events q e) ∙ ap (λ (l : List EventValue). event_from q e ++ l) (events_items q es))

-- a place in the data of a list is a place in the list
record Place (xs before after : List Item) : Type 0 where
  front : List Item
  back : List Item
  is : xs ≡ front ++ item.Idle ∷ back
  events_before : events_of front ≡ events_of before
  events_after_it : events_of back ≡ events_of after

same_head : (x y : Item) (xs ys : List Item) → x ∷ xs ≡ y ∷ ys → (x ≡ y) × (xs ≡ ys)
same_head x y xs ys h = (cc, cc)

data_events : (xs : List Item) → events_of (data_of xs) ≡ events_of xs
data_events [] = refl
data_events (item.Event e ∷ xs) = ap (λ (es : List EventValue). e ∷ es) (data_events xs)
data_events (item.Side s ∷ xs) = data_events xs
data_events (item.Frame f ∷ xs) = data_events xs
data_events (item.Row r ∷ xs) = data_events xs
data_events (item.Late l ∷ xs) = data_events xs
data_events (item.Idle ∷ xs) = data_events xs
data_events (item.Mark m ∷ xs) = data_events xs
data_events (item.Done ∷ xs) = data_events xs

one_behind : (x : Item) (xs before after : List Item) → Place xs before after → Place (x ∷ xs) (x ∷ before) after
one_behind x xs before after p = record {
  front = x ∷ p.front;
  back = p.back;
  is = ap (λ (l : List Item). x ∷ l) p.is;
  events_before = ap (λ (l : List EventValue). as_event x ++ l) p.events_before;
  events_after_it = p.events_after_it;
}

silent : (x : Item) (xs before after : List Item) → as_event x ≡ [] → Place xs before after → Place (x ∷ xs) before after
silent x xs before after none p = record {
  front = x ∷ p.front;
  back = p.back;
  is = ap (λ (l : List Item). x ∷ l) p.is;
  events_before = ap (λ (l : List EventValue). l ++ events_of p.front) none ∙ p.events_before;
  events_after_it = p.events_after_it;
}

here_it_is : (xs after : List Item) → data_of xs ≡ after → Place (item.Idle ∷ xs) [] after
here_it_is xs after h = record { front = []; back = xs; is = refl; events_before = refl; events_after_it = sym (data_events xs) ∙ ap events_of h }

place_data : (x : Item) (xs : List Item) → ((before after : List Item) → data_of xs ≡ before ++ item.Idle ∷ after → Place xs before after)
    → (before after : List Item) → (x ≡ item.Idle → before ≡ [] → Place (x ∷ xs) [] after) → x ∷ data_of xs ≡ before ++ item.Idle ∷ after → Place (x ∷ xs) before after
place_data x xs rest [] after first h = first (same_head x item.Idle (data_of xs) after h).0 refl
place_data x xs rest (y ∷ before) after first h =
    let both = same_head x y (data_of xs) (before ++ item.Idle ∷ after) h in
    subst (λ (z : Item). Place (x ∷ xs) (z ∷ before) after) both.0 (one_behind x xs before after (rest before after both.1))

place : (xs before after : List Item) → data_of xs ≡ before ++ item.Idle ∷ after → Place xs before after
place [] [] after h = absurd (cc)
place [] (y ∷ before) after h = absurd (cc)
place (item.Event e ∷ xs) before after h = place_data (item.Event e) xs (λ b a k. place xs b a k) before after (λ is none. absurd (cc)) h
place (item.Side s ∷ xs) before after h = place_data (item.Side s) xs (λ b a k. place xs b a k) before after (λ is none. absurd (cc)) h
place (item.Frame f ∷ xs) before after h = place_data (item.Frame f) xs (λ b a k. place xs b a k) before after (λ is none. absurd (cc)) h
place (item.Row r ∷ xs) before after h = place_data (item.Row r) xs (λ b a k. place xs b a k) before after (λ is none. absurd (cc)) h
place (item.Late l ∷ xs) before after h = place_data (item.Late l) xs (λ b a k. place xs b a k) before after (λ is none. absurd (cc)) h
place (item.Idle ∷ xs) [] after h = here_it_is xs after (same_head item.Idle item.Idle (data_of xs) after h).1
place (item.Idle ∷ xs) (y ∷ before) after h = place_data item.Idle xs (λ b a k. place xs b a k) (y ∷ before) after (λ is none. absurd (cc)) h
place (item.Mark m ∷ xs) before after h = silent (item.Mark m) xs before after refl (place xs before after h)
place (item.Done ∷ xs) before after h = silent item.Done xs before after refl (place xs before after h)

-- ---- all items

items_called : (P : Item → Type 0) (port : Port) (r : ℕ) (x : Item) → P x → Each P (items_of (called port r x))
items_called P port r (item.Event e) h = (h, tt)
items_called P port r (item.Side s) h = (h, tt)
items_called P port r (item.Frame f) h = (h, tt)
items_called P port r (item.Row w) h = (h, tt)
items_called P port r (item.Late l) h = (h, tt)
items_called P port r item.Idle h = (h, tt)
items_called P port r (item.Mark m) h = tt
items_called P port r item.Done h = tt

items_tells : (P : Item → Type 0) → ((t : ℤ) → P (item.Mark t)) → (o : Option ℤ) → Each P (items_of (tells o))
items_tells P marks None = tt
items_tells P marks (Some t) = (marks t, tt)

items_after : (P : Item → Type 0) → ((t : ℤ) → P (item.Mark t)) → (n : ℕ) (before came : List Arrival) → Each (λ a. P a.item) came → Each P (items_of (entries_after n before came))
items_after P marks n before [] h = tt
items_after P marks n before (a ∷ came) h =
    let rest : List CallEntry = entries_after n (before ++ a ∷ []) came in
    let own : Each P (items_of (asks n before a)) = subst (Each P) (sym (flat_map-append entry_items (called a.port a.queue a.item) _))
    (Each-append P (items_of (called a.port a.queue a.item)) _ (items_called P a.port a.queue a.item h.0) (items_tells P marks _)) in
    subst (Each P) (sym (flat_map-append entry_items (asks n before a) rest)) (Each-append P (items_of (asks n before a)) (items_of rest) own (items_after P marks n (before ++ a ∷ []) came h.1))

items_finale : (P : Item → Type 0) (s : Step) → Each P (items_of (finale s))
items_finale P step.Poll = tt
items_finale P (step.Make (call.Accept a)) = tt
items_finale P (step.Make (call.Close port r then)) = tt
items_finale P (step.Make (call.Tell t)) = tt
items_finale P (step.Make call.Finish) = tt
items_finale P step.End = tt
items_finale P step.Ended = tt

each_came : (P : Item → Type 0) (count : Port → ℕ) (came : List Arrival) → Each (λ a. a.queue < count a.port) came → ((port : Port) (q : ℕ) → q < count port → Each P (of_queue port q came)) → Each (λ a. P a.item) came
each_came P count [] inside all = tt
each_came P count (a ∷ came) inside all =
    let own : Each P (cond true (a.item ∷ []) [] ++ of_queue a.port a.queue came) = subst (λ (b : Bool). Each P (cond b (a.item ∷ []) [] ++ of_queue a.port a.queue came)) (from_own a) (all a.port a.queue inside.0) in
    (own.0, each_came P count came inside.1 (λ port q lt. Each-back P (cond (is_from port q a) (a.item ∷ []) []) (of_queue port q came) (all port q lt)))

-- what holds of each item that came, and of marks, holds of each front of what is told
pub told_each : (P : Item → Type 0) → ((t : ℤ) → P (item.Mark t)) → (vs : List InputView) (co : Coalescer) (s : Step) (came : List Arrival) → Came vs co came → EachReceived (Each P) vs
    → EachFront (λ taken. Each P (items_of taken)) (told s (queue_count Stream vs) came)
told_each P marks vs co s came h all taken more is =
    let n : ℕ = queue_count Stream vs in
    let each : Each (λ a. P a.item) came = each_came P (λ port. queue_count port vs) came h.in_order.inside (λ port q lt. subst (Each P) (h.received_is port q lt) (all port q lt)) in
    let whole : Each P (items_of (told s n came)) = subst (Each P) (sym (flat_map-append entry_items (entries n came) (finale s))) (Each-append P (items_of (entries n came)) (items_of (finale s)) (items_after P marks n [] came each) (items_finale P s)) in
    Each-front P (items_of taken) (items_of more) (subst (Each P) (ap items_of is ∙ flat_map-append entry_items taken more) whole)

-- ---- the files

no_queue : (count : Port → ℕ) (q : ℕ) (came : List Arrival) → Each (λ a. a.queue < count a.port) came → nat_lt q (count Stream) ≡ false → of_queue Stream q came ≡ []
no_queue count q [] inside out = refl
no_queue count q (a ∷ came) inside out = ap (λ (xs : List Item). cond (is_from Stream q a) (a.item ∷ []) [] ++ xs) (no_queue count q came inside.1 out) ∙ ap (λ (b : Bool). cond b (a.item ∷ []) [] ++ []) (other a.port a.queue inside.0)
  where
    other : (port : Port) (r : ℕ) → r < count port → is_from Stream q (record { port = port; queue = r; item = a.item }) ≡ false
    other Build r lt = refl
    other Stream r lt = grind (arith, lt, out)

nothing_in : (xs ys : List Item) → [] ≡ xs ++ item.Idle ∷ ys → ⊥
nothing_in [] ys h = cc
nothing_in (x ∷ xs) ys h = cc

not_under : (lag grain : ℤ) (behind : ℕ → ℕ → Bool) (idles : List ℕ) (es : List EventValue) → Each (λ e. idle_before e.line idles ≡ true → is_under lag grain [] e ≡ true → behind e.part e.line ≡ true) es
not_under lag grain behind idles [] = tt
not_under lag grain behind idles (e ∷ es) = (λ i u. absurd (cc), not_under lag grain behind idles es)

in_place : (idles : List ℕ) (before after ds es more : List EventValue) → InPlace idles before after → before ≡ ds → after ≡ es ++ more → InPlace idles ds es
in_place idles before after ds es more p d e = record {
  line = p.line;
  is = p.is;
  behind = subst (Each (λ (x : EventValue). x.line < p.line)) d p.behind;
  ahead = Each-front (λ (x : EventValue). p.line < x.line) es more (subst (Each (λ (x : EventValue). p.line < x.line)) e p.ahead);
}

pub from_files : (m : ℕ) (lag grain : ℤ) (behind : ℕ → ℕ → Bool) (vs : List InputView) (co : Coalescer) (s : Step) (came : List Arrival) → Came vs co came → AreFromFiles lag grain behind vs
    → EachFront (FromFiles m lag grain behind) (told s (queue_count Stream vs) came)
from_files m lag grain behind vs co s came h r taken more is = record {
  files = λ q. cond (nat_lt q n) (r.files q) [];
  idles = λ q. cond (nat_lt q n) (r.idles q) [];
  inside = λ q lt. Each-front (StandsIn (cond (nat_lt q n) (r.files q) [])) (queue_events q taken) (queue_events q more) (subst (Each (StandsIn (cond (nat_lt q n) (r.files q) []))) (sym (parts q)) (inside q (nat_lt q n) refl));
  order = λ q lt. EachPair-front (λ (d e : EventValue). d.line < e.line) (queue_events q taken) (queue_events q more) (subst (EachPair (λ (d e : EventValue). d.line < e.line)) (sym (parts q)) (order q (nat_lt q n) refl));
  places = λ q lt front back at. places q front back at (nat_lt q n) refl;
  told = λ q lt. files_told q (nat_lt q n) refl;
  told_idle = λ q p lt lt' ne. idle_told q p ne (nat_lt q n) refl (nat_lt p n) refl;
  no_late = told_each IsNotLate (λ t. tt) vs co s came h r.no_late taken more is;
}
  where
    n : ℕ
    n = queue_count Stream vs

    parts : (q : ℕ) → queue_events q taken ++ queue_events q more ≡ events_of (of_queue Stream q came)
    parts q = sym (flat_map-append (event_from q) taken more) ∙ ap (queue_events q) (sym is) ∙ events_told q n s came

    within : (q : ℕ) → nat_lt q n ≡ true → q < n
    within q is_in = grind (arith, is_in)

    inside : (q : ℕ) (b : Bool) → nat_lt q n ≡ b → Each (StandsIn (cond b (r.files q) [])) (events_of (of_queue Stream q came))
    inside q true is_in = subst (λ (xs : List Item). Each (StandsIn (r.files q)) (events_of xs)) (h.received_is Stream q (within q is_in)) (r.inside q (within q is_in))
    inside q false out = subst (λ (xs : List Item). Each (StandsIn []) (events_of xs)) (sym (no_queue (λ port. queue_count port vs) q came h.in_order.inside out)) tt

    order : (q : ℕ) (b : Bool) → nat_lt q n ≡ b → EachPair (λ d e. d.line < e.line) (events_of (of_queue Stream q came))
    order q true is_in = subst (λ (xs : List Item). EachPair (λ d e. d.line < e.line) (events_of xs)) (h.received_is Stream q (within q is_in)) (r.order q (within q is_in))
    order q false out = subst (λ (xs : List Item). EachPair (λ d e. d.line < e.line) (events_of xs)) (sym (no_queue (λ port. queue_count port vs) q came h.in_order.inside out)) tt

    files_told : (q : ℕ) (b : Bool) → nat_lt q n ≡ b → Each (λ e. is_behind lag grain (cond b (r.files q) []) e ≡ true → behind e.part e.line ≡ true) (cond b (r.files q) [])
    files_told q true is_in = r.told q (within q is_in)
    files_told q false out = tt

    whole : (q : ℕ) (front back : List CallEntry) → taken ≡ front ++ Given Stream q item.Idle ∷ back → data_of (of_queue Stream q came) ≡ queue_items q front ++ item.Idle ∷ (queue_items q back ++ queue_items q more)
    whole q front back at =
        let own : item_from q (Given Stream q item.Idle) ≡ item.Idle ∷ [] = ap (λ (b : Bool). cond b (item.Idle ∷ []) []) (from_own (record { port = Stream; queue = q; item = item.Idle })) in
        let split : queue_items q taken ≡ queue_items q front ++ item.Idle ∷ queue_items q back =
        ap (queue_items q) at ∙ (flat_map-append (item_from q) front (Given Stream q item.Idle ∷ back) ∙ ap (λ (l : List Item). queue_items q front ++ (l ++ queue_items q back)) own) in
        sym (items_told q n s came) ∙ (ap (queue_items q) is ∙ (flat_map-append (item_from q) taken more
        ∙ (ap (λ (l : List Item). l ++ queue_items q more) split ∙ append_assoc (queue_items q front) (item.Idle ∷ queue_items q back) (queue_items q more))))

    places : (q : ℕ) (front back : List CallEntry) → taken ≡ front ++ Given Stream q item.Idle ∷ back → (b : Bool) → nat_lt q n ≡ b → InPlace (cond b (r.idles q) []) (queue_events q front) (queue_events q back)
    places q front back at true is_in =
        let p : Place (of_queue Stream q came) (queue_items q front) (queue_items q back ++ queue_items q more) = place (of_queue Stream q came) (queue_items q front) (queue_items q back ++ queue_items q more) (whole q front back at) in
        in_place (r.idles q) (events_of p.front) (events_of p.back) (queue_events q front) (queue_events q back) (queue_events q more)
        (r.places q (within q is_in) p.front p.back (h.received_is Stream q (within q is_in) ∙ p.is))
        (p.events_before ∙ events_items q front)
        (p.events_after_it ∙ (flat_map-append as_event (queue_items q back) (queue_items q more) ∙ (ap (λ (l : List EventValue). l ++ events_of (queue_items q more)) (events_items q back) ∙ ap (λ (l : List EventValue). queue_events q back ++ l) (events_items q more))))
    places q front back at false out =
        let none : of_queue Stream q came ≡ [] = no_queue (λ port. queue_count port vs) q came h.in_order.inside out in
        absurd (nothing_in (queue_items q front) (queue_items q back ++ queue_items q more) (sym (ap data_of none) ∙ whole q front back at))

    idle_told : (q p : ℕ) → p ≢ q → (b : Bool) → nat_lt q n ≡ b → (d : Bool) → nat_lt p n ≡ d → Each (λ e. idle_before e.line (cond b (r.idles q) []) ≡ true → is_under lag grain (cond d (r.files p) []) e ≡ true → behind e.part e.line ≡ true) (cond b (r.files q) [])
    idle_told q p ne true is_in true other = r.told_idle q p (within q is_in) (within p other) ne
    idle_told q p ne true is_in false other = not_under lag grain behind (r.idles q) (r.files q)
    idle_told q p ne false out d other = tt
