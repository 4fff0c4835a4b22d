-- The last mark of a stamp at rest is the least mark of its open queues.
use Rattle.std.proofs.Common.{◌≡◌, ℕ, zero, suc, ◌<◌, ◌==◌, ◌||◌, Bool, true, false, cond, ℤ, ◌≤ℤ◌, List, [], ◌∷◌, ◌++◌, map, length, get_or, refl, sym, ◌∙◌, ap, subst, append-nil, inl, inr, arith}
use Rattle.std.specs.Prelude.{◌⊎◌, Option, Some, None}
use Rattle.std.specs.List.{flat_map, last_or, list_any}
use Rattle.std.specs.Option.{IsSomeAnd}
use Rattle.std.proofs.lemmas.Int.{ints, by_lt_z}
use Rattle.std.proofs.lemmas.List.Concat.{flat_map-append}
use Rattle.std.proofs.lemmas.List.Folds.{list_any-append}
use Rattle.jet_items.specs.declared.item.Item.{Item}
use Rattle.jet_items.specs.declared.item.Item.TheVariants as item
use Rattle.jet_items.specs.Done.{is_done}
use Rattle.jet_items.specs.Kinds.{events_of, marks_of}
use Rattle.jet_items.specs.Marks.{mark_of}
use Rattle.jet_items.specs.Values.{EventValue}
use Rattle.jet_items.proofs.Orders.{Each-more}
use Rattle.jet_boxes.specs.declared.port.Port.{Port}
use Rattle.jet_boxes.specs.declared.port.Port.TheVariants.{Stream, Build}
use Rattle.jet_boxes.specs.Entry.{CallEntry}
use Rattle.jet_router.specs.Router as router
use Rattle.jet_coalescer.specs.Notes.{last_said}
use Rattle.jet_stages.specs.Stamp.{IsLeastMark, IsLow, closes, idle_from, idle_in, is_closed, is_idle, queue_mark}
use Rattle.jet_stages.specs.declared.stamp.Stamp.{Stamp}
use Rattle.jet_tasklet.specs.declared.arrival.Arrival.{Arrival}
use Rattle.jet_tasklet.specs.declared.step.Step.{Step}
use Rattle.jet_tasklet.specs.declared.step.Step.TheVariants as step
use Rattle.jet_tasklet.specs.declared.tasklet.Tasklet.{Tasklet}
use Rattle.jet_tasklet.specs.Inputs.{InputView, inputs_view, dones, queue_count}
use Rattle.jet_tasklet.specs.Keeps.{Keeps, told}
use Rattle.jet_tasklet.specs.Kinds.{stamps}
use Rattle.jet_tasklet.specs.MarksGiven.{FilesReached, HasAwake, IsAtRest, IsLowIf, file_mark, is_idle_at, last_mark}
use Rattle.jet_tasklet.specs.Outputs.{OutputView, outputs_view}
use Rattle.jet_tasklet.specs.Sending.{EachSent}
use Rattle.jet_tasklet.specs.Steps.{Working}
use Rattle.jet_tasklet.specs.Trace.{asks, called, entries, entries_after, has_ended, is_from, of_queue, tells}
use Rattle.jet_tasklet.proofs.Greatest.{Was, greatest_was}
use Rattle.jet_tasklet.proofs.MarksGiven.{sent_marks}
use Rattle.jet_tasklet.proofs.StampFronts.{GivenMarks, GivenMarksAmid}
use Rattle.jet_tasklet.proofs.Stamping.{events_told}

-- ---- which queues have ended
or_none : (b : Bool) → (b || false) ≡ b
or_none true = refl
or_none false = refl

tells_close : (q : ℕ) (o : Option ℤ) → list_any (closes q) (tells o) ≡ false
tells_close q None = refl
tells_close q (Some t) = refl

none_picked : (b : Bool) (x : Item) → is_done x ≡ false → false ≡ has_ended (cond b (x ∷ []) [])
none_picked true x h = sym (ap (λ (c : Bool). c || false) h)
none_picked false x h = refl

done_picked : (b : Bool) → (b || false) ≡ has_ended (cond b (item.Done ∷ []) [])
done_picked true = refl
done_picked false = refl

called_close : (q : ℕ) (port : Port) (r : ℕ) (x : Item) → list_any (closes q) (called port r x) ≡ has_ended (cond (is_from Stream q (record { port = port; queue = r; item = x })) (x ∷ []) [])
called_close q Stream r (item.Event e) = none_picked (r == q) (item.Event e) refl
called_close q Stream r (item.Side s) = none_picked (r == q) (item.Side s) refl
called_close q Stream r (item.Frame f) = none_picked (r == q) (item.Frame f) refl
called_close q Stream r (item.Row w) = none_picked (r == q) (item.Row w) refl
called_close q Stream r (item.Late l) = none_picked (r == q) (item.Late l) refl
called_close q Stream r item.Idle = none_picked (r == q) item.Idle refl
called_close q Stream r (item.Mark m) = none_picked (r == q) (item.Mark m) refl
called_close q Stream r item.Done = done_picked (r == q)
called_close q Build r (item.Event e) = refl
called_close q Build r (item.Side s) = refl
called_close q Build r (item.Frame f) = refl
called_close q Build r (item.Row w) = refl
called_close q Build r (item.Late l) = refl
called_close q Build r item.Idle = refl
called_close q Build r (item.Mark m) = refl
called_close q Build r item.Done = refl

either_alike : (a b c d : Bool) → a ≡ c → b ≡ d → (a || b) ≡ (c || d)
either_alike a b c d e f = cc

after_close : (q n : ℕ) (before came : List Arrival) → list_any (closes q) (entries_after n before came) ≡ has_ended (of_queue Stream q came)
after_close q n before [] = refl
after_close q n before (a ∷ came) =
    let rest : List CallEntry = entries_after n (before ++ a ∷ []) came in
    let mine : List Item = cond (is_from Stream q a) (a.item ∷ []) [] in
    let own : list_any (closes q) (asks n before a) ≡ has_ended mine =
    list_any-append (closes q) (called a.port a.queue a.item) _ ∙ (either_alike (list_any (closes q) (called a.port a.queue a.item)) _ (has_ended mine) false (called_close q a.port a.queue a.item) (tells_close q _) ∙ or_none (has_ended mine)) in
    list_any-append (closes q) (asks n before a) rest
    ∙ (either_alike (list_any (closes q) (asks n before a)) (list_any (closes q) rest) (has_ended mine) (has_ended (of_queue Stream q came)) own (after_close q n (before ++ a ∷ []) came)
    ∙ sym (list_any-append is_done mine (of_queue Stream q came)))

closed_told : (q n : ℕ) (came : List Arrival) → is_closed q (told step.Poll n came) ≡ has_ended (of_queue Stream q came)
closed_told q n came = ap (list_any (closes q)) (append-nil (entries n came)) ∙ after_close q n [] came

-- ---- which queues are idle
picked_idle : (b : Bool) (x : Item) → flat_map idle_in (cond b (x ∷ []) []) ≡ cond b (idle_in x) []
picked_idle true x = append-nil (idle_in x)
picked_idle false x = refl

said_if : (b : Bool) (x : Item) → cond b (idle_in x) [] ++ [] ≡ flat_map idle_in (cond b (x ∷ []) [])
said_if true x = refl
said_if false x = refl

none_said : (b : Bool) (x : Item) → idle_in x ≡ [] → [] ≡ flat_map idle_in (cond b (x ∷ []) [])
none_said true x none = sym (ap (λ (l : List Bool). l ++ []) none)
none_said false x none = refl

tells_idle : (q : ℕ) (o : Option ℤ) → flat_map (idle_from q) (tells o) ≡ []
tells_idle q None = refl
tells_idle q (Some t) = refl

called_idle : (q : ℕ) (port : Port) (r : ℕ) (x : Item) → flat_map (idle_from q) (called port r x) ≡ flat_map idle_in (cond (is_from Stream q (record { port = port; queue = r; item = x })) (x ∷ []) [])
called_idle q Stream r (item.Event e) = said_if (r == q) (item.Event e)
called_idle q Stream r (item.Side s) = said_if (r == q) (item.Side s)
called_idle q Stream r (item.Frame f) = said_if (r == q) (item.Frame f)
called_idle q Stream r (item.Row w) = said_if (r == q) (item.Row w)
called_idle q Stream r (item.Late l) = said_if (r == q) (item.Late l)
called_idle q Stream r item.Idle = said_if (r == q) item.Idle
called_idle q Stream r (item.Mark m) = none_said (r == q) (item.Mark m) refl
called_idle q Stream r item.Done = none_said (r == q) item.Done refl
called_idle q Build r (item.Event e) = refl
called_idle q Build r (item.Side s) = refl
called_idle q Build r (item.Frame f) = refl
called_idle q Build r (item.Row w) = refl
called_idle q Build r (item.Late l) = refl
called_idle q Build r item.Idle = refl
called_idle q Build r (item.Mark m) = refl
called_idle q Build r item.Done = refl

after_idle : (q n : ℕ) (before came : List Arrival) → flat_map (idle_from q) (entries_after n before came) ≡ flat_map idle_in (of_queue Stream q came)
after_idle q n before [] = refl
after_idle q n before (a ∷ came) =
    let rest : List CallEntry = entries_after n (before ++ a ∷ []) came in
    let mine : List Item = cond (is_from Stream q a) (a.item ∷ []) [] in
    flat_map-append (idle_from q) (asks n before a) rest
    ∙ ap (λ (l : List Bool). l ++ flat_map (idle_from q) rest) (flat_map-append (idle_from q) (called a.port a.queue a.item) _ ∙ ap (λ (l : List Bool). flat_map (idle_from q) (called a.port a.queue a.item) ++ l) (tells_idle q _)
    ∙ append-nil (flat_map (idle_from q) (called a.port a.queue a.item)) ∙ called_idle q a.port a.queue a.item)
    ∙ ap (λ (l : List Bool). flat_map idle_in mine ++ l) (after_idle q n (before ++ a ∷ []) came)
    ∙ sym (flat_map-append idle_in mine (of_queue Stream q came))

idle_told : (q n : ℕ) (came : List Arrival) → is_idle q (told step.Poll n came) ≡ last_said (flat_map idle_in (of_queue Stream q came))
idle_told q n came = ap (λ (es : List CallEntry). last_said (flat_map (idle_from q) es)) (append-nil (entries n came)) ∙ ap last_said (after_idle q n [] came)

-- ---- the least of the marks of some queues
value_of : (o : Option ℤ) → (o ≡ None) ⊎ ((t : ℤ) × (o ≡ Some t))
value_of None = inl refl
value_of (Some t) = inr (t, refl)

weaker : (o : Option ℤ) (s t : ℤ) → s ≤ℤ t → IsSomeAnd o (λ m. t ≤ℤ m) → IsSomeAnd o (λ m. s ≤ℤ m)
weaker None s t le h = h
weaker (Some m) s t le h = omega (arith, ints, le, h)

is_reached : (o : Option ℤ) (t : ℤ) → o ≡ Some t → IsSomeAnd o (λ m. t ≤ℤ m)
is_reached None t is = absurd (cc)
is_reached (Some m) t is = let same : m ≡ t = cc in omega (arith, ints, same)

at_least : (o : Option ℤ) (s t : ℤ) → IsSomeAnd o (λ m. s ≤ℤ m) → o ≡ Some t → s ≤ℤ t
at_least None s t h is = absurd h
at_least (Some m) s t h is = let same : m ≡ t = cc in omega (arith, ints, same, h)

not_some : (o : Option ℤ) (s : ℤ) → o ≡ None → IsSomeAnd o (λ m. s ≤ℤ m) → ⊥
not_some None s is h = h
not_some (Some m) s is h = absurd (cc)

last_or_below : (p m : ℕ) → p < suc m → (p < m) ⊎ (p ≡ m)
last_or_below zero zero lt = inr refl
last_or_below zero (suc m) lt = inl (omega arith)
last_or_below (suc p) zero lt = absurd (omega (arith, lt))
last_or_below (suc p) (suc m) lt = elim (last_or_below p m (omega (arith, lt))) [ inl below ↦ inl (omega (arith, below)) | inr is ↦ inr (ap suc is) ]

module _ (out : ℕ → Bool) (mark : ℕ → Option ℤ) where
  abbrev Reaches : ℕ → ℤ → Type 0
  Reaches m t = (p : ℕ) → p < m → out p ≡ false → IsSomeAnd (mark p) (λ u. t ≤ℤ u)

  -- a queue that counts has no mark
  record Unmarked (m : ℕ) : Type 0 where
    queue : ℕ
    exists : queue < m
    counts : out queue ≡ false
    none : mark queue ≡ None

  record Least (m : ℕ) : Type 0 where
    t : ℤ
    queue : ℕ
    exists : queue < m
    counts : out queue ≡ false
    has : mark queue ≡ Some t
    reached : Reaches m t

  bool_is : (b : Bool) → (b ≡ true) ⊎ (b ≡ false)
  bool_is true = inl refl
  bool_is false = inr refl

  one_more : (m : ℕ) (t : ℤ) → Reaches m t → (out m ≡ false → IsSomeAnd (mark m) (λ u. t ≤ℤ u)) → Reaches (suc m) t
  one_more m t all here p lt is = elim (last_or_below p m lt) [ inl below ↦ all p below is | inr same ↦ subst (λ (r : ℕ). IsSomeAnd (mark r) (λ u. t ≤ℤ u)) (sym same) (here (ap out (sym same) ∙ is)) ]

  lower : (m : ℕ) (t u : ℤ) → u ≤ℤ t → Reaches m t → Reaches m u
  lower m t u le all p lt is = weaker (mark p) u t le (all p lt is)

  abbrev Found : ℕ → Type 0
  Found m = Unmarked m ⊎ (((p : ℕ) → p < m → out p ≡ false → ⊥) ⊎ Least m)

  more_least : (m : ℕ) (l : Least m) → (out m ≡ false → IsSomeAnd (mark m) (λ u. l.t ≤ℤ u)) → Least (suc m)
  more_least m l here = record { t = l.t; queue = l.queue; exists = (let lt : l.queue < m = l.exists in omega (arith, lt)); counts = l.counts; has = l.has; reached = one_more m l.t l.reached here }

  new_least : (m : ℕ) (u : ℤ) → out m ≡ false → mark m ≡ Some u → Reaches m u → Least (suc m)
  new_least m u counts has all = record { t = u; queue = m; exists = omega arith; counts = counts; has = has; reached = one_more m u all (λ is. is_reached (mark m) u has) }

  least_below : (m : ℕ) → Found m
  least_below zero = inr (inl (λ p lt is. omega (arith, lt)))
  least_below (suc m) = elim (least_below m) [
    | inl u ↦ inl (record { queue = u.queue; exists = (let lt : u.queue < m = u.exists in omega (arith, lt)); counts = u.counts; none = u.none })
    | inr found ↦ elim (bool_is (out m)) [
      | inl left ↦ elim found [
        | inl none ↦ inr (inl (λ p lt is. elim (last_or_below p m lt) [ inl b ↦ none p b is | inr same ↦ (let e : out p ≡ true = ap out same ∙ left in cc) ]))
        | inr l ↦ inr (inr (more_least m l (λ is. absurd (cc))))
      ]
      | inr counts ↦ elim (value_of (mark m)) [
        | inl none ↦ inl (record { queue = m; exists = omega arith; counts = counts; none = none })
        | inr v ↦ elim found [
          | inl none ↦ inr (inr (new_least m v.0 counts v.1 (λ p lt is. absurd (none p lt is))))
          | inr l ↦ by_lt_z v.0 l.t
              (λ lt. inr (inr (new_least m v.0 counts v.1 (lower m l.t v.0 (omega (arith, ints, lt)) l.reached))))
              (λ le. inr (inr (more_least m l (λ is. weaker (mark m) l.t v.0 le (is_reached (mark m) v.0 v.1)))))
        ]
      ]
    ]
  ]

-- ---- the watermark of a stamp
both_false : (a b : Bool) → (a || b) ≡ false → (a ≡ false) × (b ≡ false)
both_false true b h = absurd (cc)
both_false false b h = (refl, h)

neither : (a b : Bool) → a ≡ false → b ≡ false → (a || b) ≡ false
neither a b h k = cc

module _ (n : ℕ) (lag grain : ℤ) where
  abbrev is_out : List CallEntry → ℕ → Bool
  is_out es q = is_closed q es || is_idle q es

  to_least : (es : List CallEntry) → (l : Least (is_out es) (λ q. queue_mark lag grain q es) n) → IsLeastMark n lag grain es l.t
  to_least es l =
      let counts = both_false (is_closed l.queue es) (is_idle l.queue es) l.counts in
      record { reached = λ q lt closed idle. l.reached q lt (neither (is_closed q es) (is_idle q es) closed idle); queue = l.queue; exists = l.exists; going = counts.0; awake = counts.1; has = l.has }

  decide : (es : List CallEntry) → ((t : ℤ) × IsLeastMark n lag grain es t) ⊎ ((t : ℤ) → IsLeastMark n lag grain es t → ⊥)
  decide es = elim (least_below (is_out es) (λ q. queue_mark lag grain q es) n) [
    | inl u ↦ inr (λ t l. let counts = both_false (is_closed u.queue es) (is_idle u.queue es) u.counts in not_some (queue_mark lag grain u.queue es) t u.none (l.reached u.queue u.exists counts.0 counts.1))
    | inr found ↦ elim found [
      | inl none ↦ inr (λ t l. none l.queue l.exists (neither (is_closed l.queue es) (is_idle l.queue es) l.going l.awake))
      | inr l ↦ inl (l.t, to_least es l)
    ]
  ]

  same : (es : List CallEntry) (t u : ℤ) → IsLeastMark n lag grain es t → IsLeastMark n lag grain es u → t ≤ℤ u
  same es t u a b = at_least (queue_mark lag grain b.queue es) t u (a.reached b.queue b.exists b.going b.awake) b.has

  -- where there is a least mark now, there is a watermark, and it is not below that
  low_is : (es : List CallEntry) (t : ℤ) → IsLeastMark n lag grain es t → (u : ℤ) × IsLow n lag grain es u × (t ≤ℤ u)
  low_is es t l =
      let here : Was (IsLeastMark n lag grain) decide same es t = record { front = es; back = []; parts = sym (append-nil es); has = l } in
      elim (greatest_was (IsLeastMark n lag grain) decide same es) [
        | inl top ↦
            let w : Was (IsLeastMark n lag grain) decide same es top.t = top.was in
            (top.t, record { was = record { front = w.front; back = w.back; parts = w.parts; least = w.has }; greatest = λ s v. top.greatest s (record { front = v.front; back = v.back; parts = v.parts; has = v.least }) }, top.greatest t here)
        | inr none ↦ absurd (none t here)
      ]

-- ---- a stamp at rest
last_push : (o : Option ℤ) (xs : List ℤ) (t : ℤ) → last_or o (xs ++ t ∷ []) ≡ Some t
last_push o [] t = refl
last_push o (x ∷ xs) t = last_push (Some x) xs t

module _ (t : Tasklet Stamp) (came : List Arrival) (gave : List Item) (k : Keeps GivenMarks GivenMarksAmid stamps.takes t came gave) (r : IsAtRest t) where
  abbrev vs : List InputView
  vs = inputs_view t.inputs.items

  abbrev n : ℕ
  n = queue_count Stream vs

  abbrev lag : ℤ
  lag = t.processor.lag

  abbrev grain : ℤ
  grain = t.processor.grain

  abbrev all_told : List CallEntry
  all_told = told step.Poll n came

  -- the last mark that each destination was sent is the watermark
  stamp_rests : (w : ℤ) → IsLow (length t.processor.markers.items) lag grain all_told w → EachSent (λ xs. last_mark xs ≡ Some w) (outputs_view t.outputs.items)
  stamp_rests w l =
      let stood : GivenMarks t.processor all_told (gave ++ t.outbox.items) = subst (λ (s : Step). Working GivenMarks GivenMarksAmid stamps.takes t.processor s (told s n came) (gave ++ t.outbox.items)) r.free k.works in
      let whole : gave ++ t.outbox.items ≡ gave = ap (λ (xs : List Item). gave ++ xs) r.sent ∙ append-nil gave in
      let last = stood.last w l in
      let is : last_mark gave ≡ Some w = ap (λ (xs : List Item). last_or None (marks_of xs)) (sym whole) ∙ (ap (λ (ms : List ℤ). last_or None ms) last.1 ∙ last_push None last.0 w) in
      Each-more (λ (v : OutputView). (k : ℕ) → k < length v.router.dests → marks_of (get_or (router.sents v.router) k []) ≡ marks_of gave) (λ (v : OutputView). (k : ℕ) → k < length v.router.dests → last_mark (get_or (router.sents v.router) k []) ≡ Some w)
      (λ v h k lt. ap (λ (ms : List ℤ). last_or None ms) (h k lt) ∙ is) (outputs_view t.outputs.items)
      (sent_marks gave t.outbox.items (outputs_view t.outputs.items) k.gives_out r.sent)

  pub stamp_low : (low : Option ℤ) → IsLowIf (length t.processor.markers.items) lag grain all_told low → EachSent (λ xs. last_mark xs ≡ low) (outputs_view t.outputs.items)
  stamp_low None l = absurd l
  stamp_low (Some w) l = stamp_rests w l

  mark_is : (q : ℕ) → q < n → queue_mark lag grain q all_told ≡ file_mark lag grain vs q
  mark_is q lt = ap (λ (es : List EventValue). mark_of lag grain (map (λ e. e.ts) es)) (events_told q n step.Poll came ∙ ap events_of (sym (k.takes_in.received_is Stream q lt)))

  out_is : (q : ℕ) → q < n → is_out n lag grain all_told q ≡ (get_or (dones Stream vs) q true || is_idle_at vs q)
  out_is q lt =
      either_alike (is_closed q all_told) (is_idle q all_told) (get_or (dones Stream vs) q true) (is_idle_at vs q)
      (closed_told q n came ∙ sym (k.takes_in.done_is Stream q lt))
      (idle_told q n came ∙ ap (λ (xs : List Item). last_said (flat_map idle_in xs)) (sym (k.takes_in.received_is Stream q lt)))

  -- where each queue that counts has reached s, so has the last mark
  pub stamp_passes : length t.processor.markers.items ≡ n → HasAwake vs → (s : ℤ) → FilesReached lag grain vs s → EachSent (λ xs. IsSomeAnd (last_mark xs) (λ m. s ≤ℤ m)) (outputs_view t.outputs.items)
  stamp_passes count o s all =
      elim (least_below (is_out n lag grain all_told) (λ q. queue_mark lag grain q all_told) n) [
        | inl u ↦
            let counts = both_false (get_or (dones Stream vs) u.queue true) (is_idle_at vs u.queue) (sym (out_is u.queue u.exists) ∙ u.counts) in
            absurd (not_some (file_mark lag grain vs u.queue) s (sym (mark_is u.queue u.exists) ∙ u.none) (all u.queue u.exists counts.0 counts.1))
        | inr found ↦ elim found [
          | inl none ↦ absurd (none o.queue o.exists (out_is o.queue o.exists ∙ neither (get_or (dones Stream vs) o.queue true) (is_idle_at vs o.queue) o.still o.awake))
          | inr l ↦
              let counts = both_false (get_or (dones Stream vs) l.queue true) (is_idle_at vs l.queue) (sym (out_is l.queue l.exists) ∙ l.counts) in
              let bound : s ≤ℤ l.t = at_least (file_mark lag grain vs l.queue) s l.t (all l.queue l.exists counts.0 counts.1) (sym (mark_is l.queue l.exists) ∙ l.has) in
              let low = low_is n lag grain all_told l.t (to_least n lag grain all_told l) in
              let above : l.t ≤ℤ low.0 = low.2 in
              let reaches : s ≤ℤ low.0 = omega (arith, ints, bound, above) in
              Each-more (λ (v : OutputView). (k : ℕ) → k < length v.router.dests → last_mark (get_or (router.sents v.router) k []) ≡ Some low.0) (λ (v : OutputView). (k : ℕ) → k < length v.router.dests → IsSomeAnd (last_mark (get_or (router.sents v.router) k [])) (λ m. s ≤ℤ m))
              (λ v h k lt. subst (λ (m : Option ℤ). IsSomeAnd m (λ u. s ≤ℤ u)) (sym (h k lt)) reaches) (outputs_view t.outputs.items)
              (stamp_rests low.0 (subst (λ (m : ℕ). IsLow m lag grain all_told low.0) (sym count) low.1))
        ]
      ]
