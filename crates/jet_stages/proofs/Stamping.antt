-- What a stamp's laws say goes on by one entry.
use Rattle.std.proofs.Common.{◌≡◌, ◌≢◌, inl, inr, ◌<ℤ◌, ℕ, ◌<◌, ◌==◌, Bool, true, false, cond, ◌||◌, ℤ, pos, ◌≤ℤ◌, List, [], ◌∷◌, ◌++◌, map, Option, Some, None, refl, ap, sym, ◌∙◌, subst, arith, append_assoc, append-nil}
use Rattle.std.proofs.Math.Bool.{or-false}
use Rattle.std.proofs.lemmas.Bool.Decides.{Decides-eqb}
use Rattle.std.proofs.lemmas.Int.{ints}
use Rattle.std.specs.Prelude.{◌⊎◌, nat_lt}
use Rattle.std.specs.List.{fold, list_any, flat_map}
use Rattle.std.specs.Int.Signed.{≤ℤ_refl}
use Rattle.jet_coalescer.specs.Notes.{last_said}
use Rattle.std.proofs.lemmas.List.{map-append}
use Rattle.std.proofs.lemmas.List.Concat.{flat_map-append}
use Rattle.std.proofs.lemmas.List.Folds.{list_any-append}
use Rattle.jet_items.specs.Values.{EventValue}
use Rattle.jet_items.specs.declared.item.Item.{Item}
use Rattle.jet_items.specs.declared.item.Item.TheVariants as item
use Rattle.jet_items.specs.Order.{Each, EachPair, Sound, SoundAfter, SoundBelow, LateIsBehind, Closed as ClosedItems, ClosedAfter, IsAbove}
use Rattle.jet_items.specs.Kinds.{as_mark, as_data, marks_of, data_of}
use Rattle.jet_items.specs.Marks.{is_behind, is_under, idle_before}
use Rattle.jet_items.proofs.Orders.{Each-append, Each-front, Each-back, Each-more, EachPair-append, EachPair-across}
use Rattle.jet_boxes.specs.declared.port.Port.TheVariants.{Stream, Build}
use Rattle.jet_boxes.specs.Entry.{CallEntry, Given, MarkTold, QueueClosed, Finish, IsData, items_of}
use Rattle.jet_stages.specs.Stamp.{event_from, queue_events, queue_times, closes, is_closed, is_idle, idle_in, idle_from, unless_idle, queue_mark, IsLeastMark, WasLeast, IsLow, IsPlaced, StampMarks, StampBag, StandsIn, IsNotLate, FromFiles, IsNoResult, HasNoResults}
use Rattle.jet_stages.specs.StampLaws.{items_next, events_next, data_next, data_marks, files_before, results_before}
use Rattle.jet_stages.specs.Stamping.{Rises, IsPast, Stamped, passed, mark_items}
use Rattle.jet_stages.specs.Placing.{Half, First, Second, half, tail_is, nowhere}
use Rattle.jet_stages.proofs.Marking.{Reaches, stands_behind, stands_under}

-- what every call's condition gives of its entry
abbrev pub Comes : ℕ → List CallEntry → CallEntry → Type 0
Comes n taken (Given Stream queue x) = (queue < n) × IsData x × (is_closed queue taken ≡ false)
Comes n taken (Given Build queue x) = ⊥
Comes n taken (MarkTold t) = Unit {0}
Comes n taken (QueueClosed Stream queue) = (queue < n) × (is_closed queue taken ≡ false)
Comes n taken (QueueClosed Build queue) = ⊥
Comes n taken Finish = Unit {0}

-- ---- the queues after one entry more

pub times_next : (q : ℕ) (taken : List CallEntry) (entry : CallEntry) → queue_times q (taken ++ entry ∷ []) ≡ queue_times q taken ++ map (λ e. e.ts) (event_from q entry)
times_next q taken entry = ap (map (λ (e : EventValue). e.ts)) (events_next q taken entry) ∙ map-append (λ (e : EventValue). e.ts) (queue_events q taken) (event_from q entry)

pub closed_next : (q : ℕ) (taken : List CallEntry) (entry : CallEntry) → is_closed q (taken ++ entry ∷ []) ≡ (is_closed q taken || closes q entry)
closed_next q taken entry = list_any-append (closes q) taken (entry ∷ []) ∙ ap (λ b. is_closed q taken || b) (or-false (closes q entry))

neither : (a b : Bool) → (a || b) ≡ false → a ≡ false
neither true b h = cc
neither false b h = refl

-- a queue that is open after an entry was open before it
pub was_open : (q : ℕ) (taken : List CallEntry) (entry : CallEntry) → is_closed q (taken ++ entry ∷ []) ≡ false → is_closed q taken ≡ false
was_open q taken entry h = neither (is_closed q taken) (closes q entry) (sym (closed_next q taken entry) ∙ h)

or_none : (b : Bool) → (b || false) ≡ b
or_none true = refl
or_none false = refl

-- the same of a front
open_front : (q : ℕ) (front back : List CallEntry) → is_closed q (front ++ back) ≡ false → is_closed q front ≡ false
open_front q front back h = neither (is_closed q front) (is_closed q back) (sym (list_any-append (closes q) front back) ∙ h)

pub idle_next : (q : ℕ) (taken : List CallEntry) (entry : CallEntry) → is_idle q (taken ++ entry ∷ []) ≡ last_said (flat_map (idle_from q) taken ++ idle_from q entry)
idle_next q taken entry = ap last_said (flat_map-append (idle_from q) taken (entry ∷ []) ∙ ap (λ bs. flat_map (idle_from q) taken ++ bs) (append-nil (idle_from q entry)))

-- ---- a queue that is idle had an idle note

record HasIdle (q : ℕ) (taken : List CallEntry) : Type 0 where
  front : List CallEntry
  back : List CallEntry
  parts : taken ≡ front ++ Given Stream q item.Idle ∷ back

data Says (q : ℕ) (entry : CallEntry) : Type 0 where
  Nothing : idle_from q entry ≡ [] → Says q entry
  Awake : idle_from q entry ≡ false ∷ [] → Says q entry
  Idles : idle_from q entry ≡ true ∷ [] → entry ≡ Given Stream q item.Idle → Says q entry

says_item : (q k : ℕ) (x : Item) (b : Bool) → (k == q) ≡ b → Says q (Given Stream k x)
says_item q k x false is = Nothing (ap (λ c. cond c (idle_in x) []) is)
says_item q k (item.Event e) true is = Awake (ap (λ c. cond c (false ∷ []) []) is)
says_item q k item.Idle true is = Idles (ap (λ c. cond c (true ∷ []) []) is) (ap (λ j. Given Stream j item.Idle) ((Decides-eqb k q).0 is))
says_item q k x true is = Nothing (ap (λ c. cond c [] []) is)

says : (q : ℕ) (entry : CallEntry) → Says q entry
says q (Given Stream k x) = says_item q k x (k == q) refl
says q (Given Build k x) = Nothing refl
says q (MarkTold t) = Nothing refl
says q (QueueClosed port k) = Nothing refl
says q Finish = Nothing refl

there_later : (q : ℕ) (entry : CallEntry) (taken : List CallEntry) → HasIdle q taken → HasIdle q (entry ∷ taken)
there_later q entry taken h = record { front = entry ∷ h.front; back = h.back; parts = ap (λ es. entry ∷ es) h.parts }

abbrev LastWord : Bool → ℕ → List CallEntry → Bool
LastWord b q taken = fold (λ before now. now) b (flat_map (idle_from q) taken)

there_from : (q : ℕ) (taken : List CallEntry) (b : Bool) → LastWord b q taken ≡ true → (b ≡ true) ⊎ HasIdle q taken
there_from q [] b h = inl h
there_from q (entry ∷ taken) b h = by (says q entry) (λ c k. there_from q taken c k)
  where
    after : (ws : List Bool) → idle_from q entry ≡ ws → fold (λ before now. now) b (ws ++ flat_map (idle_from q) taken) ≡ true
    after ws is = subst (λ (vs : List Bool). fold (λ before now. now) b (vs ++ flat_map (idle_from q) taken) ≡ true) is h

    later : (b ≡ true) ⊎ HasIdle q taken → (b ≡ true) ⊎ HasIdle q (entry ∷ taken)
    later (inl e) = inl e
    later (inr k) = inr (there_later q entry taken k)

    woken : (false ≡ true) ⊎ HasIdle q taken → (b ≡ true) ⊎ HasIdle q (entry ∷ taken)
    woken (inl e) = cc
    woken (inr k) = inr (there_later q entry taken k)

    by : Says q entry → ((c : Bool) → LastWord c q taken ≡ true → (c ≡ true) ⊎ HasIdle q taken) → (b ≡ true) ⊎ HasIdle q (entry ∷ taken)
    by (Nothing is) rest = later (rest b (after [] is))
    by (Awake is) rest = woken (rest false (after (false ∷ []) is))
    by (Idles is what) rest = inr (record { front = []; back = taken; parts = ap (λ e. e ∷ taken) what })

idle_there : (q : ℕ) (taken : List CallEntry) → is_idle q taken ≡ true → HasIdle q taken
idle_there q taken h = some (there_from q taken false h)
  where
    some : (false ≡ true) ⊎ HasIdle q taken → HasIdle q taken
    some (inl e) = cc
    some (inr k) = k

-- ---- the least mark

at_least : (t s : ℤ) (mark : Option ℤ) → mark ≡ Some s → Reaches t mark → t ≤ℤ s
at_least t s mark is h = subst (Reaches t) is h

pub both_ways : (s t : ℤ) → s ≤ℤ t → t ≤ℤ s → s ≡ t
both_ways s t h k = omega (arith, ints, h, k)

pub least_is_one : (n : ℕ) (lag grain s t : ℤ) (taken : List CallEntry) → IsLeastMark n lag grain taken s → IsLeastMark n lag grain taken t → s ≡ t
least_is_one n lag grain s t taken h k =
    both_ways s t (at_least s t (queue_mark lag grain k.queue taken) k.has (h.reached k.queue k.exists k.going k.awake)) (at_least t s (queue_mark lag grain h.queue taken) h.has (k.reached h.queue h.exists h.going h.awake))

pub low_is_one : (n : ℕ) (lag grain s t : ℤ) (taken : List CallEntry) → IsLow n lag grain taken s → IsLow n lag grain taken t → s ≡ t
low_is_one n lag grain s t taken h k = both_ways s t (k.greatest s h.was) (h.greatest t k.was)

-- ---- fronts

pub was_before : (n : ℕ) (lag grain : ℤ) (taken : List CallEntry) (entry : CallEntry) (t : ℤ) → WasLeast n lag grain taken t → WasLeast n lag grain (taken ++ entry ∷ []) t
was_before n lag grain taken entry t h =
    record { front = h.front; back = h.back ++ entry ∷ []; parts = ap (λ es. es ++ entry ∷ []) h.parts ∙ append_assoc h.front h.back (entry ∷ []); least = h.least }

pub was_now : (n : ℕ) (lag grain : ℤ) (taken : List CallEntry) (t : ℤ) → IsLeastMark n lag grain taken t → WasLeast n lag grain taken t
was_now n lag grain taken t h = record { front = taken; back = []; parts = sym (append-nil taken); least = h }

-- a front of one entry more is the whole or a front of what was before
data FrontOf (taken : List CallEntry) (entry : CallEntry) (front : List CallEntry) : Type 0 where
  Whole : front ≡ taken ++ entry ∷ [] → FrontOf taken entry front
  Less : (rest : List CallEntry) → taken ≡ front ++ rest → FrontOf taken entry front

entries_tail : (x y : CallEntry) (xs ys : List CallEntry) → x ∷ xs ≡ y ∷ ys → xs ≡ ys
entries_tail x y xs ys h = cc

entries_head : (x y : CallEntry) (xs ys : List CallEntry) → x ∷ xs ≡ y ∷ ys → x ≡ y
entries_head x y xs ys h = cc

front_of : (taken : List CallEntry) (entry : CallEntry) (front back : List CallEntry) → taken ++ entry ∷ [] ≡ front ++ back → FrontOf taken entry front
front_of taken entry [] back is = Less taken refl
front_of [] entry (y ∷ front) back is = Whole (ap (λ x. x ∷ front) (sym (entries_head entry y [] (front ++ back) is)) ∙ ap (λ xs. entry ∷ xs) (none front (entries_tail entry y [] (front ++ back) is)))
  where
    none : (xs : List CallEntry) → [] ≡ xs ++ back → xs ≡ []
    none [] h = refl
    none (x ∷ xs) h = cc
front_of (z ∷ taken) entry (y ∷ front) back is = further (front_of taken entry front back (entries_tail z y (taken ++ entry ∷ []) (front ++ back) is))
  where
    same : z ≡ y
    same = entries_head z y (taken ++ entry ∷ []) (front ++ back) is

    further : FrontOf taken entry front → FrontOf (z ∷ taken) entry (y ∷ front)
    further (Whole e) = Whole (ap (λ x. x ∷ front) (sym same) ∙ ap (λ xs. z ∷ xs) e)
    further (Less rest e) = Less rest (ap (λ xs. z ∷ xs) e ∙ ap (λ x. x ∷ front ++ rest) same)

-- a front that is followed by an entry is one of what was before
proper_of : (taken : List CallEntry) (entry : CallEntry) (earlier : List CallEntry) (y : CallEntry) (later : List CallEntry) → taken ++ entry ∷ [] ≡ earlier ++ y ∷ later → (rest : List CallEntry) × (taken ≡ earlier ++ rest)
proper_of taken entry [] y later is = (taken, refl)
proper_of [] entry (z ∷ earlier) y later is = absurd (none earlier (entries_tail entry z [] (earlier ++ y ∷ later) is))
  where
    none : (xs : List CallEntry) → [] ≡ xs ++ y ∷ later → ⊥
    none [] h = cc
    none (x ∷ xs) h = cc
proper_of (w ∷ taken) entry (z ∷ earlier) y later is =
    let rest = proper_of taken entry earlier y later (entries_tail w z (taken ++ entry ∷ []) (earlier ++ y ∷ later) is) in
    (rest.0, ap (λ xs. w ∷ xs) rest.1 ∙ ap (λ x. x ∷ earlier ++ rest.0) (entries_head w z (taken ++ entry ∷ []) (earlier ++ y ∷ later) is))

was_of_front : (n : ℕ) (lag grain : ℤ) (taken front rest : List CallEntry) (t : ℤ) → taken ≡ front ++ rest → WasLeast n lag grain front t → WasLeast n lag grain taken t
was_of_front n lag grain taken front rest t is h =
    record { front = h.front; back = h.back ++ rest; parts = is ∙ (ap (λ es. es ++ rest) h.parts ∙ append_assoc h.front h.back rest); least = h.least }

-- a least mark of one entry more is that of the whole, or was one before
pub was_either : (n : ℕ) (lag grain : ℤ) (taken : List CallEntry) (entry : CallEntry) (t : ℤ) → WasLeast n lag grain (taken ++ entry ∷ []) t → IsLeastMark n lag grain (taken ++ entry ∷ []) t ⊎ WasLeast n lag grain taken t
was_either n lag grain taken entry t h = by (front_of taken entry h.front h.back h.parts)
  where
    by : FrontOf taken entry h.front → IsLeastMark n lag grain (taken ++ entry ∷ []) t ⊎ WasLeast n lag grain taken t
    by (Whole e) = inl (subst (λ (es : List CallEntry). IsLeastMark n lag grain es t) e h.least)
    by (Less rest e) = inr (record { front = h.front; back = rest; parts = e; least = h.least })

-- ---- what was given

pub passed_marks : (n : ℕ) (taken : List CallEntry) (entry : CallEntry) → Comes n taken entry → marks_of (passed entry) ≡ []
passed_marks n taken (Given Stream queue x) h = data_marks x h.1
passed_marks n taken (Given Build queue x) h = absurd h
passed_marks n taken (MarkTold t) h = refl
passed_marks n taken (QueueClosed port queue) h = refl
passed_marks n taken Finish h = refl

abbrev mark_list : Option ℤ → List ℤ
mark_list None = []
mark_list (Some t) = t ∷ []

marks_list : (told : Option ℤ) → marks_of (mark_items told) ≡ mark_list told
marks_list None = refl
marks_list (Some t) = refl

pub marks_next : (n : ℕ) (taken : List CallEntry) (entry : CallEntry) (given : List Item) (told : Option ℤ) → Comes n taken entry → marks_of ((given ++ passed entry) ++ mark_items told) ≡ marks_of given ++ mark_list told
marks_next n taken entry given told h =
    flat_map-append as_mark (given ++ passed entry) (mark_items told)
    ∙ (ap (λ ts. ts ++ marks_of (mark_items told)) (flat_map-append as_mark given (passed entry) ∙ (ap (λ ts. marks_of given ++ ts) (passed_marks n taken entry h) ∙ append-nil (marks_of given)))
    ∙ ap (λ ts. marks_of given ++ ts) (marks_list told))

pub bag_next : (taken : List CallEntry) (entry : CallEntry) (given : List Item) (told : Option ℤ) → StampBag taken given → StampBag (taken ++ entry ∷ []) ((given ++ passed entry) ++ mark_items told)
bag_next taken entry given told h =
    flat_map-append as_data (given ++ passed entry) (mark_items told)
    ∙ (ap (λ xs. data_of (given ++ passed entry) ++ xs) (no_data told)
    ∙ (append-nil (data_of (given ++ passed entry)) ∙ data_next taken entry given h))
  where
    no_data : (o : Option ℤ) → data_of (mark_items o) ≡ []
    no_data None = refl
    no_data (Some t) = refl

placed_before : (n : ℕ) (lag grain : ℤ) (taken : List CallEntry) (entry : CallEntry) (before : List Item) (t : ℤ) → IsPlaced n lag grain taken before t → IsPlaced n lag grain (taken ++ entry ∷ []) before t
placed_before n lag grain taken entry before t h =
    record {
      front = h.front;
      back = h.back ++ entry ∷ [];
      parts = ap (λ es. es ++ entry ∷ []) h.parts ∙ append_assoc h.front h.back (entry ∷ []);
      least = h.least;
      above = h.above;
      behind = h.behind;
    }

same_mark : (s t : ℤ) (after : List Item) → item.Mark s ∷ [] ≡ item.Mark t ∷ after → s ≡ t
same_mark s t after h = cc

less_not : (a b : ℤ) → a <ℤ b → b ≤ℤ a → ⊥
less_not a b h k = omega (arith, ints, h, k)

-- a watermark that rose is the least mark of now
risen_low : (n : ℕ) (lag grain : ℤ) (taken : List CallEntry) (entry : CallEntry) (s t : ℤ) → Rises n lag grain taken (taken ++ entry ∷ []) (Some s) → IsLow n lag grain (taken ++ entry ∷ []) t → s ≡ t
risen_low n lag grain taken entry s t r low = same (was_either n lag grain taken entry t low.was)
  where
    same : IsLeastMark n lag grain (taken ++ entry ∷ []) t ⊎ WasLeast n lag grain taken t → s ≡ t
    same (inl now) = least_is_one n lag grain s t (taken ++ entry ∷ []) r.rose.0 now
    same (inr was) = absurd (less_not t s (r.rose.1 t was) (low.greatest s (was_now n lag grain (taken ++ entry ∷ []) s r.rose.0)))

marks_go_on : (n : ℕ) (lag grain : ℤ) (taken : List CallEntry) (entry : CallEntry) (given : List Item) (told : Option ℤ) → Comes n taken entry → Rises n lag grain taken (taken ++ entry ∷ []) told → StampBag taken given → StampMarks n lag grain taken given → StampMarks n lag grain (taken ++ entry ∷ []) ((given ++ passed entry) ++ mark_items told)
marks_go_on n lag grain taken entry given told comes rises bag h =
    record {
      placed = λ before after t at. new told rises before after t (half (given ++ passed entry) (mark_items told) before after t at);
      last = λ t least. last_is told rises t least (marks_next n taken entry given told comes);
    }
  where
    old : (before after : List Item) (t : ℤ) → Half given (passed entry) before after t → IsPlaced n lag grain (taken ++ entry ∷ []) before t
    old before after t (First rest is) = placed_before n lag grain taken entry before t (h.placed before rest t is)
    old before after t (Second front is at) = absurd (nowhere (passed entry) front after t (passed_marks n taken entry comes) at)

    new : (o : Option ℤ) → Rises n lag grain taken (taken ++ entry ∷ []) o → (before after : List Item) (t : ℤ) → Half (given ++ passed entry) (mark_items o) before after t → IsPlaced n lag grain (taken ++ entry ∷ []) before t
    new o r before after t (First rest is) = old before rest t (half given (passed entry) before rest t is)
    new None r before after t (Second front is at) = absurd (nowhere [] front after t refl at)
    new (Some s) r before after t (Second [] is at) =
        record {
          front = taken ++ entry ∷ [];
          back = [];
          parts = sym (append-nil (taken ++ entry ∷ []));
          least = subst (IsLeastMark n lag grain (taken ++ entry ∷ [])) (same_mark s t after at) r.rose.0;
          above = λ earlier later y u cut was.
              let rest = proper_of taken entry earlier y later cut in
              subst (λ (z : ℤ). u <ℤ z) (same_mark s t after at) (r.rose.1 u (was_of_front n lag grain taken earlier rest.0 u rest.1 was));
          behind = ap data_of (is ∙ append-nil (given ++ passed entry)) ∙ data_next taken entry given bag;
        }
    new (Some s) r before after t (Second (x ∷ front) is at) = absurd (nowhere [] front after t refl (tail_is (item.Mark s) x [] (front ++ item.Mark t ∷ after) at))

    last_is : (o : Option ℤ) → Rises n lag grain taken (taken ++ entry ∷ []) o → (t : ℤ) → IsLow n lag grain (taken ++ entry ∷ []) t → marks_of ((given ++ passed entry) ++ mark_items told) ≡ marks_of given ++ mark_list o → (before : List ℤ) × (marks_of ((given ++ passed entry) ++ mark_items told) ≡ before ++ t ∷ [])
    last_is None r t least is = let was = h.last t (r.stayed t least) in (was.0, is ∙ (append-nil (marks_of given) ∙ was.1))
    last_is (Some s) r t least is = (marks_of given, is ∙ ap (λ (z : ℤ). marks_of given ++ z ∷ []) (risen_low n lag grain taken entry s t r least))

-- ---- the order

past_next : (n : ℕ) (lag grain : ℤ) (taken : List CallEntry) (entry : CallEntry) → pos 1 ≤ℤ grain → (x : Item) → IsPast n lag grain taken x → IsPast n lag grain (taken ++ entry ∷ []) x
past_next n lag grain taken entry step (item.Mark w) h = was_before n lag grain taken entry w h
past_next n lag grain taken entry step item.Done h = h
past_next n lag grain taken entry step x h = tt

data_past : (n : ℕ) (lag grain : ℤ) (taken : List CallEntry) (x : Item) → IsData x → Each (IsPast n lag grain taken) (unless_idle x)
data_past n lag grain taken item.Idle h = tt
data_past n lag grain taken (item.Mark m) h = absurd h
data_past n lag grain taken item.Done h = absurd h
data_past n lag grain taken x h = (tt, tt)

passed_past : (n : ℕ) (lag grain : ℤ) (before taken : List CallEntry) (entry : CallEntry) → Comes n before entry → Each (IsPast n lag grain taken) (passed entry)
passed_past n lag grain before taken (Given Stream queue x) h = data_past n lag grain taken x h.1
passed_past n lag grain before taken (Given Build queue x) h = absurd h
passed_past n lag grain before taken (MarkTold t) h = tt
passed_past n lag grain before taken (QueueClosed port queue) h = tt
passed_past n lag grain before taken Finish h = tt

marks_past : (n : ℕ) (lag grain : ℤ) (before after : List CallEntry) (told : Option ℤ) → Rises n lag grain before after told → Each (IsPast n lag grain after) (mark_items told)
marks_past n lag grain before after None r = tt
marks_past n lag grain before after (Some t) r = (was_now n lag grain after t r.rose.0, tt)

pairs_push : (R : Item → Item → Type 0) (xs : List Item) (x : Item) → EachPair R xs → Each (λ y. R y x) xs → EachPair R (xs ++ x ∷ [])
pairs_push R xs x h k = EachPair-append R xs (x ∷ []) h (tt, tt) (Each-more (λ y. R y x) (λ y. Each (R y) (x ∷ [])) (λ y r. (r, tt)) xs k)

sound_mark : (behind : ℕ → ℕ → Bool) (t : ℤ) (y : Item) → SoundAfter behind y (item.Mark t)
sound_mark behind t (item.Event e) = tt
sound_mark behind t x = tt

every : (P : Item → Type 0) → ((x : Item) → P x) → (xs : List Item) → Each P xs
every P p [] = tt
every P p (x ∷ xs) = (p x, every P p xs)

pub sound_marks : (behind : ℕ → ℕ → Bool) (xs : List Item) (told : Option ℤ) → Sound behind xs → Sound behind (xs ++ mark_items told)
sound_marks behind xs None s = subst (Sound behind) (sym (append-nil xs)) s
sound_marks behind xs (Some t) s =
    record {
      after = pairs_push (SoundAfter behind) xs (item.Mark t) s.after (every (λ y. SoundAfter behind y (item.Mark t)) (sound_mark behind t) xs);
      lates = Each-append (LateIsBehind behind) xs (item.Mark t ∷ []) s.lates (tt, tt);
    }

-- an item of an open queue, after what was given before it
abbrev Below : (ℕ → ℕ → Bool) → ℕ → ℤ → ℤ → List CallEntry → Item → Type 0
Below behind n lag grain taken x = (w : ℤ) → WasLeast n lag grain taken w → SoundBelow behind w x

sound_past : (behind : ℕ → ℕ → Bool) (n : ℕ) (lag grain : ℤ) (taken : List CallEntry) (x : Item) → Below behind n lag grain taken x → (y : Item) → IsPast n lag grain taken y → SoundAfter behind y x
sound_past behind n lag grain taken x below (item.Mark w) h = below w h
sound_past behind n lag grain taken x below item.Done h = absurd h
sound_past behind n lag grain taken x below y h = tt

late_not : (behind : ℕ → ℕ → Bool) (x : Item) → IsNotLate x → LateIsBehind behind x
late_not behind (item.Late l) h = absurd h
late_not behind x h = tt

pub same_queue : (q : ℕ) → (q == q) ≡ true
same_queue q = grind arith

own_event : (q : ℕ) (taken : List CallEntry) (e : EventValue) → queue_events q (taken ++ Given Stream q (item.Event e) ∷ []) ≡ queue_events q taken ++ e ∷ []
own_event q taken e = events_next q taken (Given Stream q (item.Event e)) ∙ ap (λ (b : Bool). queue_events q taken ++ cond b (e ∷ []) []) (same_queue q)

last_each : (P : EventValue → Type 0) (es : List EventValue) (e : EventValue) → Each P (es ++ e ∷ []) → P e
last_each P es e h = (Each-back P es (e ∷ []) h).0

told_at : (P : EventValue → Type 0) (file : List EventValue) (e : EventValue) → StandsIn file e → Each P file → P e
told_at P file e stands h = (Each-back P stands.0 (e ∷ stands.1) (subst (Each P) stands.2 h)).0

before_last : (e : EventValue) (es : List EventValue) → Each (λ d. Each (λ x. d.line < x.line) (e ∷ [])) es → Each (λ d. d.line < e.line) es
before_last e es h = Each-more (λ d. Each (λ x. d.line < x.line) (e ∷ [])) (λ d. d.line < e.line) (λ d k. k.0) es h

-- where an event of an open queue stands
record Stands (files : List EventValue) (taken : List CallEntry) (q : ℕ) (e : EventValue) : Type 0 where
  stand : Each (StandsIn files) (queue_events q taken)
  here : StandsIn files e
  before : Each (λ d. d.line < e.line) (queue_events q taken)

event_stands : (behind : ℕ → ℕ → Bool) (n : ℕ) (lag grain : ℤ) (taken : List CallEntry) (q : ℕ) (e : EventValue) → q < n → (files : FromFiles n lag grain behind (taken ++ Given Stream q (item.Event e) ∷ [])) → Stands (files.files q) taken q e
event_stands behind n lag grain taken q e inside files =
    let es = queue_events q taken in
    let stand : Each (StandsIn (files.files q)) (es ++ e ∷ []) = subst (Each (StandsIn (files.files q))) (own_event q taken e) (files.inside q inside) in
    let order : EachPair (λ d x. d.line < x.line) (es ++ e ∷ []) = subst (EachPair (λ d x. d.line < x.line)) (own_event q taken e) (files.order q inside) in
    record {
      stand = Each-front (StandsIn (files.files q)) es (e ∷ []) stand;
      here = last_each (StandsIn (files.files q)) es e stand;
      before = before_last e es (EachPair-across (λ d x. d.line < x.line) es (e ∷ []) order);
    }

events_front : (P : EventValue → Type 0) (q : ℕ) (taken front back : List CallEntry) → taken ≡ front ++ back → Each P (queue_events q taken) → Each P (queue_events q front)
events_front P q taken front back is h =
    Each-front P (queue_events q front) (queue_events q back) (subst (Each P) (ap (queue_events q) is ∙ flat_map-append (event_from q) front back) h)

-- an event below a mark that its own queue had reached
own_below : (behind : ℕ → ℕ → Bool) (n : ℕ) (lag grain : ℤ) (taken : List CallEntry) (q : ℕ) (e : EventValue) (w : ℤ) → pos 1 ≤ℤ grain → q < n → is_closed q taken ≡ false → FromFiles n lag grain behind (taken ++ Given Stream q (item.Event e) ∷ []) → (was : WasLeast n lag grain taken w) → is_idle q was.front ≡ false → e.ts <ℤ w → behind e.part e.line ≡ true
own_below behind n lag grain taken q e w step inside going files was awake below =
    let s = event_stands behind n lag grain taken q e inside files in
    let going_then : is_closed q was.front ≡ false = open_front q was.front was.back (subst (λ (es : List CallEntry). is_closed q es ≡ false) was.parts going) in
    told_at (λ x. is_behind lag grain (files.files q) x ≡ true → behind x.part x.line ≡ true) (files.files q) e s.here (files.told q inside)
    (stands_behind lag grain (files.files q) (queue_events q was.front) e w step
    (events_front (StandsIn (files.files q)) q taken was.front was.back was.parts s.stand)
    (events_front (λ d. d.line < e.line) q taken was.front was.back was.parts s.before)
    (was.least.reached q inside going_then awake) below)

line_before : (idles : List ℕ) (line n : ℕ) → StandsIn idles n → n < line → idle_before line idles ≡ true
line_before idles line n stands lt =
    let is : nat_lt n line ≡ true = grind (arith, lt) in
    ap (idle_before line) stands.2 ∙ (list_any-append (λ m. nat_lt m line) stands.0 (n ∷ stands.1) ∙ (ap (λ b. list_any (λ m. nat_lt m line) stands.0 || (b || list_any (λ m. nat_lt m line) stands.1)) is ∙ any_true (list_any (λ m. nat_lt m line) stands.0)))
  where
    any_true : (b : Bool) → (b || true) ≡ true
    any_true true = refl
    any_true false = refl

-- an event behind an idle line, below the mark that another queue had
idle_below : (behind : ℕ → ℕ → Bool) (n : ℕ) (lag grain : ℤ) (taken : List CallEntry) (q : ℕ) (e : EventValue) (w : ℤ) → pos 1 ≤ℤ grain → q < n → FromFiles n lag grain behind (taken ++ Given Stream q (item.Event e) ∷ []) → (was : WasLeast n lag grain taken w) → is_idle q was.front ≡ true → e.ts <ℤ w → behind e.part e.line ≡ true
idle_below behind n lag grain taken q e w step inside files was idle below =
    let s = event_stands behind n lag grain taken q e inside files in
    let h = idle_there q was.front idle in
    let event : CallEntry = Given Stream q (item.Event e) in
    let note : CallEntry = Given Stream q item.Idle in
    let whole : taken ++ event ∷ [] ≡ h.front ++ note ∷ ((h.back ++ was.back) ++ event ∷ []) =
    ap (λ es. es ++ event ∷ []) (was.parts ∙ (ap (λ es. es ++ was.back) h.parts ∙ append_assoc h.front (note ∷ h.back) was.back)) ∙ append_assoc h.front (note ∷ h.back ++ was.back) (event ∷ []) in
    let place = files.places q inside h.front ((h.back ++ was.back) ++ event ∷ []) whole in
    let ahead : place.line < e.line = last_each (λ d. place.line < d.line) (queue_events q (h.back ++ was.back)) e (subst (Each (λ d. place.line < d.line)) (own_event q (h.back ++ was.back) e) place.ahead) in
    let r = was.least.queue in
    let other : r ≢ q = λ same. not_both (sym was.least.awake ∙ (ap (λ (k : ℕ). is_idle k was.front) same ∙ idle)) in
    let more : queue_events r (taken ++ event ∷ []) ≡ queue_events r was.front ++ queue_events r (was.back ++ event ∷ []) = ap (queue_events r) (ap (λ es. es ++ event ∷ []) was.parts ∙ append_assoc was.front was.back (event ∷ [])) ∙ flat_map-append (event_from r) was.front (was.back ++ event ∷ []) in
    let stand : Each (StandsIn (files.files r)) (queue_events r was.front) = Each-front (StandsIn (files.files r)) (queue_events r was.front) (queue_events r (was.back ++ event ∷ [])) (subst (Each (StandsIn (files.files r))) more (files.inside r was.least.exists)) in
    told_at (λ x. idle_before x.line (files.idles q) ≡ true → is_under lag grain (files.files r) x ≡ true → behind x.part x.line ≡ true) (files.files q) e s.here (files.told_idle q r inside was.least.exists other)
    (line_before (files.idles q) e.line place.line place.is ahead)
    (stands_under lag grain (files.files r) (queue_events r was.front) e w step stand (subst (Reaches w) (sym was.least.has) (own_reach w)) below)
  where
    not_both : false ≡ true → ⊥
    not_both h = cc

    own_reach : (u : ℤ) → Reaches u (Some u)
    own_reach u = ≤ℤ_refl u

event_below : (behind : ℕ → ℕ → Bool) (n : ℕ) (lag grain : ℤ) (taken : List CallEntry) (q : ℕ) (e : EventValue) → pos 1 ≤ℤ grain → q < n → is_closed q taken ≡ false → FromFiles n lag grain behind (taken ++ Given Stream q (item.Event e) ∷ []) → Below behind n lag grain taken (item.Event e)
event_below behind n lag grain taken q e step inside going files = λ w was below. by w was below (is_idle q was.front) refl
  where
    by : (w : ℤ) (was : WasLeast n lag grain taken w) → e.ts <ℤ w → (b : Bool) → is_idle q was.front ≡ b → behind e.part e.line ≡ true
    by w was below false is = own_below behind n lag grain taken q e w step inside going files was is below
    by w was below true is = idle_below behind n lag grain taken q e w step inside files was is below

item_below : (behind : ℕ → ℕ → Bool) (n : ℕ) (lag grain : ℤ) (taken : List CallEntry) (q : ℕ) (x : Item) → pos 1 ≤ℤ grain → q < n → is_closed q taken ≡ false → FromFiles n lag grain behind (taken ++ Given Stream q x ∷ []) → Below behind n lag grain taken x
item_below behind n lag grain taken q (item.Event e) step inside going files = event_below behind n lag grain taken q e step inside going files
item_below behind n lag grain taken q x step inside going files = λ w h. tt

-- an item is kept, or it is an idle note
kept_or_not : (P : List Item → Type 0) (given : List Item) (x : Item) → P given → P (given ++ x ∷ []) → P (given ++ unless_idle x)
kept_or_not P given item.Idle h k = subst P (sym (append-nil given)) h
kept_or_not P given x h k = k

sound_passed : (behind : ℕ → ℕ → Bool) (n : ℕ) (lag grain : ℤ) (taken : List CallEntry) (entry : CallEntry) (given : List Item) → pos 1 ≤ℤ grain → Comes n taken entry → Each (IsPast n lag grain taken) given → FromFiles n lag grain behind (taken ++ entry ∷ []) → Sound behind given → Sound behind (given ++ passed entry)
sound_passed behind n lag grain taken (Given Stream q x) given step comes past files s = kept_or_not (Sound behind) given x s
    (record {
      after = pairs_push (SoundAfter behind) given x s.after (Each-more (IsPast n lag grain taken) (λ y. SoundAfter behind y x) (sound_past behind n lag grain taken x (item_below behind n lag grain taken q x step comes.0 comes.2 files)) given past);
      lates = Each-append (LateIsBehind behind) given (x ∷ []) s.lates (late_not behind x (Each-back IsNotLate (items_of taken) (x ∷ []) (subst (Each IsNotLate) (items_next taken (Given Stream q x)) files.no_late)).0, tt);
    })
sound_passed behind n lag grain taken (Given Build q x) given step comes past files s = absurd comes
sound_passed behind n lag grain taken (MarkTold t) given step comes past files s = subst (Sound behind) (sym (append-nil given)) s
sound_passed behind n lag grain taken (QueueClosed port q) given step comes past files s = subst (Sound behind) (sym (append-nil given)) s
sound_passed behind n lag grain taken Finish given step comes past files s = subst (Sound behind) (sym (append-nil given)) s

above_any : (w : ℤ) (x : Item) → IsData x → IsNoResult x → IsAbove w x
above_any w (item.Frame f) h k = absurd k
above_any w (item.Row r) h k = absurd k
above_any w (item.Mark m) h k = absurd h
above_any w x h k = tt

closed_past : (n : ℕ) (lag grain : ℤ) (taken : List CallEntry) (x : Item) → ((w : ℤ) → WasLeast n lag grain taken w → IsAbove w x) → (y : Item) → IsPast n lag grain taken y → ClosedAfter y x
closed_past n lag grain taken x above (item.Mark w) h = above w h
closed_past n lag grain taken x above item.Done h = absurd h
closed_past n lag grain taken x above y h = tt

closed_push : (n : ℕ) (lag grain : ℤ) (taken : List CallEntry) (xs : List Item) (x : Item) → Each (IsPast n lag grain taken) xs → ((w : ℤ) → WasLeast n lag grain taken w → IsAbove w x) → ClosedItems xs → ClosedItems (xs ++ x ∷ [])
closed_push n lag grain taken xs x past above s =
    record { after = pairs_push ClosedAfter xs x s.after (Each-more (IsPast n lag grain taken) (λ y. ClosedAfter y x) (closed_past n lag grain taken x above) xs past) }

closed_passed : (n : ℕ) (lag grain : ℤ) (taken : List CallEntry) (entry : CallEntry) (given : List Item) → Comes n taken entry → Each (IsPast n lag grain taken) given → HasNoResults (taken ++ entry ∷ []) → ClosedItems given → ClosedItems (given ++ passed entry)
closed_passed n lag grain taken (Given Stream q x) given comes past none s = kept_or_not ClosedItems given x s
    (closed_push n lag grain taken given x past (λ w h. above_any w x comes.1 (Each-back IsNoResult (items_of taken) (x ∷ []) (subst (Each IsNoResult) (items_next taken (Given Stream q x)) none)).0) s)
closed_passed n lag grain taken (Given Build q x) given comes past none s = absurd comes
closed_passed n lag grain taken (MarkTold t) given comes past none s = subst ClosedItems (sym (append-nil given)) s
closed_passed n lag grain taken (QueueClosed port q) given comes past none s = subst ClosedItems (sym (append-nil given)) s
closed_passed n lag grain taken Finish given comes past none s = subst ClosedItems (sym (append-nil given)) s

closed_marks : (n : ℕ) (lag grain : ℤ) (before after : List CallEntry) (xs : List Item) (told : Option ℤ) → Rises n lag grain before after told → Each (IsPast n lag grain before) xs → ClosedItems xs → ClosedItems (xs ++ mark_items told)
closed_marks n lag grain before after xs None r past s = subst ClosedItems (sym (append-nil xs)) s
closed_marks n lag grain before after xs (Some t) r past s = closed_push n lag grain before xs (item.Mark t) past r.rose.1 s

-- one entry more, with its item and then its mark
pub stamped_next : (n : ℕ) (lag grain : ℤ) (taken : List CallEntry) (entry : CallEntry) (given : List Item) (told : Option ℤ) → pos 1 ≤ℤ grain → Comes n taken entry → Rises n lag grain taken (taken ++ entry ∷ []) told → Stamped n lag grain taken given → Stamped n lag grain (taken ++ entry ∷ []) ((given ++ passed entry) ++ mark_items told)
stamped_next n lag grain taken entry given told step comes rises h =
    let past : Each (IsPast n lag grain taken) (given ++ passed entry) = Each-append (IsPast n lag grain taken) given (passed entry) h.past (passed_past n lag grain taken taken entry comes) in
    record {
      bag = bag_next taken entry given told h.bag;
      marks = marks_go_on n lag grain taken entry given told comes rises h.bag h.marks;
      past =
          Each-append (IsPast n lag grain (taken ++ entry ∷ [])) (given ++ passed entry) (mark_items told)
          (Each-more (IsPast n lag grain taken) (IsPast n lag grain (taken ++ entry ∷ [])) (past_next n lag grain taken entry step) (given ++ passed entry) past)
          (marks_past n lag grain taken (taken ++ entry ∷ []) told rises);
      sound = λ behind files.
          sound_marks behind (given ++ passed entry) told
          (sound_passed behind n lag grain taken entry given step comes h.past files (h.sound behind (files_before n lag grain behind taken entry files)));
      closed = λ none.
          closed_marks n lag grain taken (taken ++ entry ∷ []) (given ++ passed entry) told rises past
          (closed_passed n lag grain taken entry given comes h.past none (h.closed (results_before taken entry none)));
    }
