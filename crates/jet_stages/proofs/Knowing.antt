-- What a stamp knows goes on by one entry.
use Rattle.std.proofs.Common.{◌≡◌, not, ℕ, zero, suc, ◌<◌, ◌==◌, Bool, true, false, cond, ◌||◌, ◌&&◌, ℤ, pos, ◌≤ℤ◌, List, [], ◌∷◌, ◌++◌, map, length, length-set, replicate, Option, Some, None, refl, ap, sym, ◌∙◌, subst, arith, rules, append-nil, slice_set, slice_index_or}
use Rattle.std.specs.Prelude.{int_lt, slice_get, if◌then◌else◌, IfSome}
use Rattle.std.specs.List.{reduce, flat_map}
use Rattle.std.specs.Option.{IsSomeAnd}
use Rattle.std.specs.Int.{int_max}
use Rattle.std.proofs.Math.Bool.{or-false, or-true}
use Rattle.std.proofs.lemmas.Bool.Decides.{Decides-eqb}
use Rattle.std.proofs.lemmas.Int.{ints}
use Rattle.std.proofs.lemmas.List.{get_or-set_same, get_or-set_other, get_or-replicate, length-replicate}
use Rattle.std.proofs.lemmas.Option.{slice_get-get_or, get_or_from_slice_get, slice_get_within}
use Rattle.std.proofs.lemmas.List.Sums.{fold_push}
use Rattle.jet_items.specs.Values.{EventValue}
use Rattle.jet_items.specs.declared.item.Item.{Item}
use Rattle.jet_items.specs.declared.item.Item.TheVariants as item
use Rattle.jet_items.specs.Kinds.{as_event}
use Rattle.jet_items.specs.Marks.{mark_of}
use Rattle.jet_policy.specs.MarkerValue.{MarkerValue, HasSeen, IsRaised}
use Rattle.jet_coalescer.specs.declared.queue.Queue.{Queue}
use Rattle.jet_coalescer.specs.Low.{risen, raised, change_of}
use Rattle.jet_coalescer.specs.Notes.{last_said}
use Rattle.jet_coalescer.specs.Queues.{unknown, greater, greatest_with, with_queue, with_queue_mark, with_queue_done, with_queue_idle, none_left, HoldsNoneBack, RisesToLeast}
use Rattle.jet_coalescer.specs.View.{View}
use Rattle.jet_boxes.specs.declared.port.Port.TheVariants.{Stream}
use Rattle.jet_boxes.specs.Entry.{CallEntry, Given, QueueClosed}
use Rattle.jet_stages.specs.Stamp.{event_from, idle_in, idle_from, queue_events, queue_times, closes, is_closed, is_idle, queue_mark, WasLeast}
use Rattle.jet_stages.specs.Stamping.{queue_known, LowIs, Knows, Notes, Stamped, StampStands, told_by}
use Rattle.jet_stages.proofs.Marking.{Reaches, grows}
use Rattle.jet_stages.specs.Placing.{nowhere}
use Rattle.jet_stages.specs.StampLaws.{events_next}
use Rattle.jet_stages.proofs.Stamping.{same_queue, times_next, closed_next, idle_next}
use Rattle.jet_stages.proofs.Queues.{AreKnown, Step, Rose, Stayed, step, goes_on, still}

-- ---- one place of a list is set

get_same : {X : Type 0} (xs : List X) (i : ℕ) (y : X) → i < length xs → slice_get (slice_set xs i y) i ≡ Some y
get_same {X} xs i y inside =
    slice_get-get_or (slice_set xs i y) i y (subst (λ (n : ℕ). i < n) (sym (length-set xs i y)) inside) ∙ ap Some (get_or-set_same xs i y y inside)

get_other : {X : Type 0} (xs : List X) (i j : ℕ) (y : X) → (j ≡ i → ⊥) → j < length xs → slice_get (slice_set xs i y) j ≡ slice_get xs j
get_other {X} xs i j y apart inside =
    slice_get-get_or (slice_set xs i y) j y (subst (λ (n : ℕ). j < n) (sym (length-set xs i y)) inside)
    ∙ (ap Some (get_or-set_other xs i j y y apart) ∙ sym (slice_get-get_or xs j y inside))

by_number : (P : ℕ → Type 0) (k q : ℕ) (b : Bool) → (q == k) ≡ b → P k → ((q ≡ k → ⊥) → P q) → P q
by_number P k q true is here other = subst P (sym ((Decides-eqb q k).0 is)) here
by_number P k q false is here other = other (λ same. not_both (sym is ∙ (Decides-eqb q k).1 same))
  where
    not_both : false ≡ true → ⊥
    not_both h = cc

-- what holds of queue k and of each other queue holds of each
each_queue : (P : ℕ → Type 0) (k q : ℕ) → P k → ((q ≡ k → ⊥) → P q) → P q
each_queue P k q here other = by_number P k q (q == k) refl here other

not_queue : (b : Bool) (k q : ℕ) → (k == q) ≡ b → (q ≡ k → ⊥) → (k == q) ≡ false
not_queue true k q is apart = absurd (apart (sym ((Decides-eqb k q).0 is)))
not_queue false k q is apart = is

-- ---- queues after an entry

times_same : (q : ℕ) (taken : List CallEntry) (entry : CallEntry) → event_from q entry ≡ [] → queue_times q (taken ++ entry ∷ []) ≡ queue_times q taken
times_same q taken entry none =
    ap (map (λ (e : EventValue). e.ts)) (events_next q taken entry ∙ (ap (λ es. queue_events q taken ++ es) none ∙ append-nil (queue_events q taken)))

closed_same : (q : ℕ) (taken : List CallEntry) (entry : CallEntry) → closes q entry ≡ false → is_closed q (taken ++ entry ∷ []) ≡ is_closed q taken
closed_same q taken entry not_this = closed_next q taken entry ∙ (ap (λ b. is_closed q taken || b) not_this ∙ or-false (is_closed q taken))

times_own : (k : ℕ) (taken : List CallEntry) (e : EventValue) → queue_times k (taken ++ Given Stream k (item.Event e) ∷ []) ≡ queue_times k taken ++ e.ts ∷ []
times_own k taken e = times_next k taken (Given Stream k (item.Event e)) ∙ ap (λ (b : Bool). queue_times k taken ++ map (λ (x : EventValue). x.ts) (cond b (e ∷ []) [])) (same_queue k)

times_other : (k q : ℕ) (taken : List CallEntry) (e : EventValue) → (q ≡ k → ⊥) → queue_times q (taken ++ Given Stream k (item.Event e) ∷ []) ≡ queue_times q taken
times_other k q taken e apart = times_same q taken (Given Stream k (item.Event e)) (ap (λ (b : Bool). cond b (e ∷ []) []) (not_queue (k == q) k q refl apart))

abbrev marker_at : ℤ → ℤ → List ℤ → Option MarkerValue
marker_at lag grain times = Some (record { lag = lag; grain = grain; greatest = reduce int_max times })

abbrev queue_of : Option ℤ → Bool → Bool → Queue
queue_of mark done idle = record { mark = mark; done = done; idle = idle }

queue_is : (m n : Option ℤ) (d e i j : Bool) → m ≡ n → d ≡ e → i ≡ j → queue_of m d i ≡ queue_of n e j
queue_is m n d e i j ms ds is = ap (λ x. queue_of x d i) ms ∙ (ap (λ x. queue_of n x i) ds ∙ ap (λ x. queue_of n e x) is)

idle_same : (q : ℕ) (taken : List CallEntry) (entry : CallEntry) → idle_from q entry ≡ [] → is_idle q (taken ++ entry ∷ []) ≡ is_idle q taken
idle_same q taken entry none = idle_next q taken entry ∙ (ap (λ bs. last_said (flat_map (idle_from q) taken ++ bs)) none ∙ ap last_said (append-nil (flat_map (idle_from q) taken)))

idle_told : (q : ℕ) (taken : List CallEntry) (entry : CallEntry) (b : Bool) → idle_from q entry ≡ b ∷ [] → is_idle q (taken ++ entry ∷ []) ≡ b
idle_told q taken entry b is = idle_next q taken entry ∙ (ap (λ bs. last_said (flat_map (idle_from q) taken ++ bs)) is ∙ fold_push (λ before now. now) false (flat_map (idle_from q) taken) b)

queue_same : (lag grain : ℤ) (q : ℕ) (taken : List CallEntry) (entry : CallEntry) → event_from q entry ≡ [] → closes q entry ≡ false → idle_from q entry ≡ [] → queue_known lag grain q (taken ++ entry ∷ []) ≡ queue_known lag grain q taken
queue_same lag grain q taken entry events ends idles =
    queue_is (queue_mark lag grain q (taken ++ entry ∷ [])) (queue_mark lag grain q taken) (is_closed q (taken ++ entry ∷ [])) (is_closed q taken) (is_idle q (taken ++ entry ∷ [])) (is_idle q taken)
    (ap (mark_of lag grain) (times_same q taken entry events)) (closed_same q taken entry ends) (idle_same q taken entry idles)

-- ---- an entry that changes no queue

pub notes_same : (lag grain : ℤ) (markers : List MarkerValue) (queues : View) (taken : List CallEntry) (entry : CallEntry) → ((q : ℕ) → event_from q entry ≡ []) → ((q : ℕ) → closes q entry ≡ false) → ((q : ℕ) → idle_from q entry ≡ []) → Knows lag grain markers queues taken → Notes lag grain markers queues markers queues taken entry None
notes_same lag grain markers queues taken entry none not_this quiet k =
    let known : AreKnown (length markers) lag grain queues (taken ++ entry ∷ []) = λ q inside. k.queues_are q inside ∙ ap Some (sym (queue_same lag grain q taken entry (none q) (not_this q) (quiet q))) in
    let on = still (length markers) lag grain taken entry queues k.low_is k.count known k.holds in
    record {
      count = refl;
      knows = record {
        step = k.step;
        count = k.count;
        holds = k.holds;
        markers_are = λ q inside. k.markers_are q inside ∙ ap (marker_at lag grain) (sym (times_same q taken entry (none q)));
        queues_are = known;
        low_is = on.low_is;
      };
      rises = on.rises;
    }

-- ---- an entry that the coalescer is told of

-- what a call of the coalescer promises: one queue was changed, and the watermark rose, or stayed
pub record Called (queues queues' : View) (k : ℕ) (change : Queue → Queue) (told : Option ℤ) : Type 0 where
  pub value : queues'.queues ≡ with_queue change queues.queues k
  pub least : RisesToLeast queues.low queues'
  pub reaches : HoldsNoneBack queues'
  pub went : Step queues.low queues'.low told

notes_called : (lag grain : ℤ) (markers markers' : List MarkerValue) (queues queues' : View) (taken : List CallEntry) (entry : CallEntry) (k : ℕ) (change : Queue → Queue) (told : Option ℤ) → k < length markers → length markers' ≡ length markers → ((q : ℕ) → q < length markers → slice_get markers' q ≡ marker_at lag grain (queue_times q (taken ++ entry ∷ []))) → Called queues queues' k change told → change (queue_known lag grain k taken) ≡ queue_known lag grain k (taken ++ entry ∷ []) → ((q : ℕ) → (q ≡ k → ⊥) → queue_known lag grain q (taken ++ entry ∷ []) ≡ queue_known lag grain q taken) → Knows lag grain markers queues taken → Notes lag grain markers queues markers' queues' taken entry told
notes_called lag grain markers markers' queues queues' taken entry k change told inside len markers_are called own others knows =
    let old : Queue = slice_index_or queues.queues k unknown in
    let old_is : old ≡ queue_known lag grain k taken = get_or_from_slice_get queues.queues k (queue_known lag grain k taken) unknown (knows.queues_are k inside) in
    let within : k < length queues.queues = subst (λ (n : ℕ). k < n) (sym knows.count) inside in
    let count : length queues'.queues ≡ length markers = ap length called.value ∙ (length-set queues.queues k (change old) ∙ knows.count) in
    let known : AreKnown (length markers) lag grain queues' (taken ++ entry ∷ []) = λ q lt.
    each_queue (λ j. j < length markers → slice_get queues'.queues j ≡ Some (queue_known lag grain j (taken ++ entry ∷ []))) k q
    (λ here. ap (λ (qs : List Queue). slice_get qs k) called.value ∙ (get_same queues.queues k (change old) within ∙ ap Some (ap change old_is ∙ own)))
    (λ apart there. ap (λ (qs : List Queue). slice_get qs q) called.value ∙ (get_other queues.queues k q (change old) apart (subst (λ (n : ℕ). q < n) (sym knows.count) there) ∙ (knows.queues_are q there ∙ ap Some (sym (others q apart)))))
    lt in
    let on = goes_on (length markers) lag grain taken entry queues queues' told knows.low_is count known called.reaches called.least called.went in
    record {
      count = len;
      knows = record {
        step = knows.step;
        count = count ∙ sym len;
        holds = called.reaches;
        markers_are = λ q lt. markers_are q (subst (λ (n : ℕ). q < n) len lt);
        queues_are = λ q lt. known q (subst (λ (n : ℕ). q < n) len lt);
        low_is = subst (λ (n : ℕ). LowIs n lag grain (taken ++ entry ∷ []) queues'.low) (sym len) on.low_is;
      };
      rises = on.rises;
    }

-- ---- an event

not_event : (x : Item) → ((e : EventValue) → x ≡ item.Event e → ⊥) → as_event x ≡ []
not_event (item.Event e) h = absurd (h e refl)
not_event x h = refl

not_idle : (x : Item) → ((e : EventValue) → x ≡ item.Event e → ⊥) → (x ≡ item.Idle → ⊥) → idle_in x ≡ []
not_idle (item.Event e) h k = absurd (h e refl)
not_idle item.Idle h k = absurd (k refl)
not_idle x h k = refl

cond_nil : {X : Type 0} (b : Bool) (xs : List X) → xs ≡ [] → cond b xs [] ≡ []
cond_nil {X} true xs h = h
cond_nil {X} false xs h = refl

other_nil : {X : Type 0} (k q : ℕ) (xs : List X) → (q ≡ k → ⊥) → cond (k == q) xs [] ≡ []
other_nil {X} k q xs apart = ap (λ (b : Bool). cond b xs []) (not_queue (k == q) k q refl apart)

own_list : {X : Type 0} (k : ℕ) (xs : List X) → cond (k == k) xs [] ≡ xs
own_list {X} k xs = ap (λ (b : Bool). cond b xs []) (same_queue k)

-- an item that is none, and no idle note
pub notes_other : (lag grain : ℤ) (markers : List MarkerValue) (queues : View) (taken : List CallEntry) (k : ℕ) (x : Item) → ((e : EventValue) → x ≡ item.Event e → ⊥) → (x ≡ item.Idle → ⊥) → Knows lag grain markers queues taken → Notes lag grain markers queues markers queues taken (Given Stream k x) None
notes_other lag grain markers queues taken k x not_this not_note =
    notes_same lag grain markers queues taken (Given Stream k x) (λ q. cond_nil (k == q) (as_event x) (not_event x not_this)) (λ q. refl) (λ q. cond_nil (k == q) (idle_in x) (not_idle x not_this not_note))

-- a queue that an item did not come from
item_other : (lag grain : ℤ) (taken : List CallEntry) (k : ℕ) (x : Item) (q : ℕ) → (q ≡ k → ⊥) → queue_known lag grain q (taken ++ Given Stream k x ∷ []) ≡ queue_known lag grain q taken
item_other lag grain taken k x q apart = queue_same lag grain q taken (Given Stream k x) (other_nil k q (as_event x) apart) refl (other_nil k q (idle_in x) apart)

markers_event : (lag grain : ℤ) (markers : List MarkerValue) (queues : View) (taken : List CallEntry) (k : ℕ) (e : EventValue) (marker : MarkerValue) → k < length markers → Knows lag grain markers queues taken → marker ≡ record { lag = lag; grain = grain; greatest = reduce int_max (queue_times k taken ++ e.ts ∷ []) } → (q : ℕ) → q < length markers → slice_get (slice_set markers k marker) q ≡ marker_at lag grain (queue_times q (taken ++ Given Stream k (item.Event e) ∷ []))
markers_event lag grain markers queues taken k e marker inside knows is q lt =
    each_queue (λ j. j < length markers → slice_get (slice_set markers k marker) j ≡ marker_at lag grain (queue_times j (taken ++ Given Stream k (item.Event e) ∷ []))) k q
    (λ here. get_same markers k marker inside ∙ (ap Some is ∙ ap (marker_at lag grain) (sym (times_own k taken e))))
    (λ apart there. get_other markers k q marker apart there ∙ (knows.markers_are q there ∙ ap (marker_at lag grain) (sym (times_other k q taken e apart))))
    lt

-- a queue that was woken by an event, with its mark of now
queue_event : (lag grain : ℤ) (taken : List CallEntry) (k : ℕ) (e : EventValue) (ts : ℤ) (mark : Option ℤ) → e.ts ≡ ts → mark ≡ mark_of lag grain (queue_times k taken ++ ts ∷ []) → queue_of mark (is_closed k taken) false ≡ queue_known lag grain k (taken ++ Given Stream k (item.Event e) ∷ [])
queue_event lag grain taken k e ts mark at is =
    let entry : CallEntry = Given Stream k (item.Event e) in
    queue_is mark (queue_mark lag grain k (taken ++ entry ∷ [])) (is_closed k taken) (is_closed k (taken ++ entry ∷ [])) false (is_idle k (taken ++ entry ∷ []))
    (is ∙ (ap (λ (z : ℤ). mark_of lag grain (queue_times k taken ++ z ∷ [])) (sym at) ∙ ap (mark_of lag grain) (sym (times_own k taken e))))
    (sym (closed_same k taken entry refl))
    (sym (idle_told k taken entry false (own_list k (false ∷ []))))

-- what a marker tells: the mark of now, where it is the first or rose; and else it is the mark before
abbrev StepsTo : Option ℤ → Option ℤ → Option ℤ → Type 0
StepsTo old new None = new ≡ old
StepsTo old new (Some t) = (new ≡ Some t) × IfSome old (λ s. s ≤ℤ t)

raised_if : (o n : ℤ) (told : Option ℤ) (b : Bool) → int_lt o n ≡ b → o ≤ℤ n → told ≡ (if b then Some n else None) → StepsTo (Some o) (Some n) told
raised_if o n None true is le h = absurd (cc)
raised_if o n (Some t) true is le h = let same : t ≡ n = cc h in (ap Some (sym same), subst (λ (z : ℤ). o ≤ℤ z) (sym same) le)
raised_if o n None false is le h = let same : n ≡ o = grind (arith, ints, rules, is, le) in ap Some same
raised_if o n (Some t) false is le h = absurd (cc)

own_reaches : (o : ℤ) → Reaches o (Some o)
own_reaches o = omega (arith, ints)

steps : (old new told : Option ℤ) → ((w : ℤ) → Reaches w old → Reaches w new) → IsRaised old new told → StepsTo old new told
steps None new None up h = sym h
steps None new (Some t) up h = (sym h, tt)
steps (Some o) None told up h = absurd (up o (own_reaches o))
steps (Some o) (Some n) told up h = raised_if o n told (int_lt o n) refl (up o (own_reaches o)) h

abbrev pub marker_of : ℤ → ℤ → Option ℤ → MarkerValue
marker_of lag grain greatest = record { lag = lag; grain = grain; greatest = greatest }

fields_are : (a b a' b' : ℤ) (c c' : Option ℤ) → a ≡ a' → b ≡ b' → c ≡ c' → marker_of a b c ≡ marker_of a' b' c'
fields_are a b a' b' c c' p q r = ap (λ x. marker_of x b c) p ∙ (ap (λ x. marker_of a' x c) q ∙ ap (λ x. marker_of a' b' x) r)

pub marker_is : (m : MarkerValue) (lag grain : ℤ) (greatest : Option ℤ) → m.lag ≡ lag → m.grain ≡ grain → m.greatest ≡ greatest → m ≡ marker_of lag grain greatest
marker_is m lag grain greatest p q r = fields_are m.lag m.grain lag grain m.greatest greatest p q r

marker_next : (old new : MarkerValue) (lag grain ts : ℤ) (times : List ℤ) → old ≡ record { lag = lag; grain = grain; greatest = reduce int_max times } → ((ts' : List ℤ) → HasSeen old ts' → HasSeen new (ts' ++ ts ∷ [])) → new.lag ≡ old.lag → new.grain ≡ old.grain → new ≡ record { lag = lag; grain = grain; greatest = reduce int_max (times ++ ts ∷ []) }
marker_next old new lag grain ts times is seen same_lag same_grain =
    marker_is new lag grain (reduce int_max (times ++ ts ∷ [])) (same_lag ∙ ap (λ (m : MarkerValue). m.lag) is) (same_grain ∙ ap (λ (m : MarkerValue). m.grain) is) (seen times (ap (λ (m : MarkerValue). m.greatest) is))

-- what the call of one marker promises
pub record Saw (old new : MarkerValue) (ts : ℤ) (told : Option ℤ) : Type 0 where
  pub seen : (times : List ℤ) → HasSeen old times → HasSeen new (times ++ ts ∷ [])
  pub same_lag : new.lag ≡ old.lag
  pub same_grain : new.grain ≡ old.grain
  pub tells : (times : List ℤ) → HasSeen old times → IsRaised (mark_of old.lag old.grain times) (mark_of old.lag old.grain (times ++ ts ∷ [])) told

saw_steps : (old new : MarkerValue) (lag grain ts : ℤ) (told : Option ℤ) (times : List ℤ) → pos 1 ≤ℤ grain → old ≡ record { lag = lag; grain = grain; greatest = reduce int_max times } → Saw old new ts told → StepsTo (mark_of lag grain times) (mark_of lag grain (times ++ ts ∷ [])) told
saw_steps old new lag grain ts told times step is saw =
    steps (mark_of lag grain times) (mark_of lag grain (times ++ ts ∷ [])) told (λ w. grows lag grain w times (ts ∷ []) step)
    (subst (λ (m : MarkerValue). IsRaised (mark_of m.lag m.grain times) (mark_of m.lag m.grain (times ++ ts ∷ [])) told) is (saw.tells times (ap (λ (m : MarkerValue). m.greatest) is)))

old_is : (lag grain : ℤ) (markers : List MarkerValue) (queues : View) (taken : List CallEntry) (k : ℕ) (old : MarkerValue) → Knows lag grain markers queues taken → k < length markers → old ≡ slice_index_or markers k old → old ≡ record { lag = lag; grain = grain; greatest = reduce int_max (queue_times k taken) }
old_is lag grain markers queues taken k old knows inside is =
    is ∙ get_or_from_slice_get markers k (record { lag = lag; grain = grain; greatest = reduce int_max (queue_times k taken) }) old (knows.markers_are k inside)

-- the mark of the queue did not rise, and the queue was woken
pub notes_stayed : (lag grain : ℤ) (markers : List MarkerValue) (queues queues' : View) (taken : List CallEntry) (k : ℕ) (e : EventValue) (ts : ℤ) (old new : MarkerValue) (told : Option ℤ) → e.ts ≡ ts → k < length markers → old ≡ slice_index_or markers k old → Saw old new ts None → Called queues queues' k (with_queue_idle false) told → Knows lag grain markers queues taken → Notes lag grain markers queues (slice_set markers k new) queues' taken (Given Stream k (item.Event e)) told
notes_stayed lag grain markers queues queues' taken k e ts old new told at inside is saw called knows =
    let times = queue_times k taken in
    let was = old_is lag grain markers queues taken k old knows inside is in
    let mark : mark_of lag grain (times ++ ts ∷ []) ≡ mark_of lag grain times = saw_steps old new lag grain ts None times knows.step was saw in
    notes_called lag grain markers (slice_set markers k new) queues queues' taken (Given Stream k (item.Event e)) k (with_queue_idle false) told inside (length-set markers k new)
    (markers_event lag grain markers queues taken k e new inside knows
    (marker_next old new lag grain ts times was saw.seen saw.same_lag saw.same_grain ∙ ap (λ (z : ℤ). marker_of lag grain (reduce int_max (times ++ z ∷ []))) (sym at)))
    called (queue_event lag grain taken k e ts (queue_mark lag grain k taken) at (sym mark)) (item_other lag grain taken k (item.Event e)) knows

greater_is : (old : Option ℤ) (t : ℤ) → IfSome old (λ s. s ≤ℤ t) → greatest_with old t ≡ Some t
greater_is None t h = refl
greater_is (Some s) t h = ap Some (grind (arith, ints, rules, h))

-- the mark of the queue rose, and the coalescer was told
pub notes_rose : (lag grain : ℤ) (markers : List MarkerValue) (queues queues' : View) (taken : List CallEntry) (k : ℕ) (e : EventValue) (ts : ℤ) (old new : MarkerValue) (m : ℤ) (told : Option ℤ) → e.ts ≡ ts → k < length markers → old ≡ slice_index_or markers k old → Saw old new ts (Some m) → Called queues queues' k (with_queue_mark m) told → Knows lag grain markers queues taken → Notes lag grain markers queues (slice_set markers k new) queues' taken (Given Stream k (item.Event e)) told
notes_rose lag grain markers queues queues' taken k e ts old new m told at inside is saw called knows =
    let times = queue_times k taken in
    let was = old_is lag grain markers queues taken k old knows inside is in
    let up = saw_steps old new lag grain ts (Some m) times knows.step was saw in
    notes_called lag grain markers (slice_set markers k new) queues queues' taken (Given Stream k (item.Event e)) k (with_queue_mark m) told inside (length-set markers k new)
    (markers_event lag grain markers queues taken k e new inside knows
    (marker_next old new lag grain ts times was saw.seen saw.same_lag saw.same_grain ∙ ap (λ (z : ℤ). marker_of lag grain (reduce int_max (times ++ z ∷ []))) (sym at)))
    called (queue_event lag grain taken k e ts (greatest_with (queue_mark lag grain k taken) m) at (greater_is (queue_mark lag grain k taken) m up.1 ∙ sym up.0)) (item_other lag grain taken k (item.Event e)) knows

-- ---- an idle note

pub notes_idle : (lag grain : ℤ) (markers : List MarkerValue) (queues queues' : View) (taken : List CallEntry) (k : ℕ) (told : Option ℤ) → k < length markers → Called queues queues' k (with_queue_idle true) told → Knows lag grain markers queues taken → Notes lag grain markers queues markers queues' taken (Given Stream k item.Idle) told
notes_idle lag grain markers queues queues' taken k told inside called knows =
    let entry : CallEntry = Given Stream k item.Idle in
    let none : (q : ℕ) → event_from q entry ≡ [] = λ q. cond_nil (k == q) [] refl in
    notes_called lag grain markers markers queues queues' taken entry k (with_queue_idle true) told inside refl
    (λ q lt. knows.markers_are q lt ∙ ap (marker_at lag grain) (sym (times_same q taken entry (none q))))
    called
    (queue_is (queue_mark lag grain k taken) (queue_mark lag grain k (taken ++ entry ∷ [])) (is_closed k taken) (is_closed k (taken ++ entry ∷ [])) true (is_idle k (taken ++ entry ∷ []))
    (ap (mark_of lag grain) (sym (times_same k taken entry (none k)))) (sym (closed_same k taken entry refl)) (sym (idle_told k taken entry true (own_list k (true ∷ [])))))
    (item_other lag grain taken k item.Idle) knows

-- ---- the end of a queue

none_then : (qs : List Queue) (k : ℕ) (q : Queue) → none_left qs ≡ true → slice_get qs k ≡ Some q → q.done ≡ true
none_then [] k q none is = cc
none_then (p ∷ qs) zero q none is = first p.done (none_left qs) none (ap (λ (x : Queue). x.done) (some_is is))
  where
    some_is : Some p ≡ Some q → p ≡ q
    some_is h = cc

    first : (a b : Bool) → (a && b) ≡ true → a ≡ q.done → q.done ≡ true
    first true b h same = sym same
    first false b h same = cc
none_then (p ∷ qs) (suc k) q none is = none_then qs k q (rest p.done (none_left qs) none) is
  where
    rest : (a b : Bool) → (a && b) ≡ true → b ≡ true
    rest true b h = h
    rest false b h = cc

raised_told : (o : Option ℤ) → told_by (raised o) ≡ o
raised_told None = refl
raised_told (Some t) = refl

-- where no queue is left, the watermark stays
pub end_step : (queues queues' : View) (now told : Option ℤ) (b : Bool) → none_left queues'.queues ≡ b → queues'.low ≡ greater queues.low now → RisesToLeast queues.low queues' → told ≡ told_by (change_of b queues.low queues'.low) → Step queues.low queues'.low told
end_step queues queues' now told false is low least answer = step queues.low queues'.low now told low (answer ∙ raised_told (risen queues.low queues'.low))
end_step queues queues' now told true is low least answer = by (step queues.low queues'.low now (risen queues.low queues'.low) low refl)
  where
    not_done : (done idle : Bool) → done ≡ true → not (done || idle) ≡ true → ⊥
    not_done true idle d c = cc
    not_done false idle d c = cc

    by : Step queues.low queues'.low (risen queues.low queues'.low) → Step queues.low queues'.low told
    by (Rose t tells new rose) = let h = least t new rose in absurd (not_done h.queue.done h.queue.idle (none_then queues'.queues h.q h.queue is h.is) h.counted)
    by (Stayed tells new) = Stayed answer new

pub notes_closed : (lag grain : ℤ) (markers : List MarkerValue) (queues queues' : View) (taken : List CallEntry) (k : ℕ) (told : Option ℤ) → k < length markers → Called queues queues' k with_queue_done told → Knows lag grain markers queues taken → Notes lag grain markers queues markers queues' taken (QueueClosed Stream k) told
notes_closed lag grain markers queues queues' taken k told inside called knows =
    let entry : CallEntry = QueueClosed Stream k in
    let own : is_closed k (taken ++ entry ∷ []) ≡ true = closed_next k taken entry ∙ (ap (λ b. is_closed k taken || b) (same_queue k) ∙ or-true (is_closed k taken)) in
    notes_called lag grain markers markers queues queues' taken entry k with_queue_done told inside refl
    (λ q lt. knows.markers_are q lt ∙ ap (marker_at lag grain) (sym (times_same q taken entry refl)))
    called
    (queue_is (queue_mark lag grain k taken) (queue_mark lag grain k (taken ++ entry ∷ [])) true (is_closed k (taken ++ entry ∷ [])) (is_idle k taken) (is_idle k (taken ++ entry ∷ []))
    (ap (mark_of lag grain) (sym (times_same k taken entry refl))) (sym own) (sym (idle_same k taken entry refl)))
    (λ q apart. queue_same lag grain q taken entry refl (not_queue (k == q) k q refl apart) refl) knows

-- ---- a new stamp

get_replicate : {X : Type 0} (n q : ℕ) (x : X) → q < n → slice_get (replicate n x) q ≡ Some x
get_replicate {X} n q x inside = slice_get-get_or (replicate n x) q x (subst (λ (m : ℕ). q < m) (sym (length-replicate n x)) inside) ∙ ap Some (get_or-replicate n q x x inside)

no_mark : (t : ℤ) → None ≡ Some t → ⊥
no_mark t h = cc

-- where nothing was taken there was no least mark
none_was : (n : ℕ) (lag grain : ℤ) (t : ℤ) → WasLeast n lag grain [] t → ⊥
none_was n lag grain t was = no_mark t (sym (ap (λ (es : List CallEntry). queue_mark lag grain was.least.queue es) (empty was.front was.parts)) ∙ was.least.has)
  where
    empty : (front : List CallEntry) → [] ≡ front ++ was.back → front ≡ []
    empty [] h = refl
    empty (x ∷ front) h = cc

stamped_new : (n : ℕ) (lag grain : ℤ) → Stamped n lag grain [] []
stamped_new n lag grain =
    record {
      bag = refl;
      marks = record { placed = λ before after t at. absurd (nowhere [] before after t refl at); last = λ t low. absurd (none_was n lag grain t low.was) };
      past = tt;
      sound = λ behind files. record { after = tt; lates = tt };
      closed = λ none. record { after = tt };
    }

new_holds : (n : ℕ) (queues : View) → queues ≡ record { queues = replicate n unknown; low = None } → HoldsNoneBack queues
new_holds n queues is = λ s q queue all at counts_q.
    let inside : q < n = subst (λ (m : ℕ). q < m) (ap (λ (v : View). length v.queues) is ∙ length-replicate n unknown) (slice_get_within queues.queues q queue at) in
    let same : queue ≡ unknown = some_is (sym at ∙ (ap (λ (v : View). slice_get v.queues q) is ∙ get_replicate n q unknown inside)) in
    absurd (subst (λ (p : Queue). IsSomeAnd p.mark (λ m. s ≤ℤ m)) same (all q queue at counts_q))
  where
    some_is : {p r : Queue} → Some p ≡ Some r → p ≡ r
    some_is {p} {r} h = cc

pub stands_new : (n : ℕ) (lag grain : ℤ) (markers : List MarkerValue) (queues : View) → pos 1 ≤ℤ grain → markers ≡ replicate n (record { lag = lag; grain = grain; greatest = None }) → queues ≡ record { queues = replicate n unknown; low = None } → StampStands lag grain markers queues None [] []
stands_new n lag grain markers queues step markers_is queues_is =
    let len : length markers ≡ n = ap length markers_is ∙ length-replicate n (record { lag = lag; grain = grain; greatest = None }) in
    record {
      none_owed = refl;
      knows = record {
        step = step;
        count = ap (λ (v : View). length v.queues) queues_is ∙ (length-replicate n unknown ∙ sym len);
        holds = new_holds n queues queues_is;
        markers_are = λ q inside. ap (λ (ms : List MarkerValue). slice_get ms q) markers_is ∙ get_replicate n q (record { lag = lag; grain = grain; greatest = None }) (subst (λ (m : ℕ). q < m) len inside);
        queues_are = λ q inside. ap (λ (v : View). slice_get v.queues q) queues_is ∙ get_replicate n q unknown (subst (λ (m : ℕ). q < m) len inside);
        low_is = subst (LowIs (length markers) lag grain []) (sym (ap (λ (v : View). v.low) queues_is)) (none_was (length markers) lag grain);
      };
      stamped = stamped_new (length markers) lag grain;
    }
