-- The laws of stamps: what they keep says them all.
use Rattle.std.proofs.Common.{◌≡◌, ℕ, Bool, ℤ, List, [], ◌∷◌, ◌++◌, length, Option, Some, None, refl, ap, sym, ◌∙◌, subst, append_assoc, append-nil, ◌<◌}
use Rattle.std.proofs.lemmas.List.Concat.{flat_map-append}
use Rattle.jet_items.specs.declared.item.Item.{Item}
use Rattle.jet_items.specs.declared.item.Item.TheVariants as item
use Rattle.jet_items.specs.Order.{Each, EachPair, Sound, Closed as ClosedItems}
use Rattle.jet_items.specs.Kinds.{as_mark, as_data, events_of, others_of, marks_of, data_of}
use Rattle.jet_items.proofs.Orders.{Each-front, Each-more, EachPair-front, Sound-front, Closed-front}
use Rattle.jet_policy.specs.MarkerValue.{MarkerValue}
use Rattle.jet_coalescer.specs.View.{View}
use Rattle.jet_boxes.specs.declared.port.Port.TheVariants.{Stream}
use Rattle.jet_boxes.specs.Entry.{CallEntry, Given, MarkTold, QueueClosed, Finish, IsData, NotDone, entry_items, items_of}
use Rattle.jet_stages.specs.Stamp.{event_from, queue_events, unless_idle, but_idle, IsPlaced, StampMarks, StampBag, StampBagAmid, StandsIn, IsNotLate, InPlace, FromFiles, IsNoResult, HasNoResults}
use Rattle.jet_stages.specs.Placing.{Half, First, Second, half, nowhere}
use Rattle.jet_stages.specs.Stamping.{IsPast, Stamped, Owes, StampStands, StampAmid, passed}

pub items_next : (taken : List CallEntry) (entry : CallEntry) → items_of (taken ++ entry ∷ []) ≡ items_of taken ++ entry_items entry
items_next taken entry = flat_map-append entry_items taken (entry ∷ []) ∙ ap (λ xs. items_of taken ++ xs) (append-nil (entry_items entry))

pub events_next : (q : ℕ) (taken : List CallEntry) (entry : CallEntry) → queue_events q (taken ++ entry ∷ []) ≡ queue_events q taken ++ event_from q entry
events_next q taken entry = flat_map-append (event_from q) taken (entry ∷ []) ∙ ap (λ es. queue_events q taken ++ es) (append-nil (event_from q entry))

place_before : (idles : List ℕ) (q : ℕ) (front back : List CallEntry) (entry : CallEntry) → InPlace idles (queue_events q front) (queue_events q (back ++ entry ∷ [])) → InPlace idles (queue_events q front) (queue_events q back)
place_before idles q front back entry p =
    record {
      line = p.line;
      is = p.is;
      behind = p.behind;
      ahead = Each-front (λ e. p.line < e.line) (queue_events q back) (event_from q entry) (subst (Each (λ e. p.line < e.line)) (events_next q back entry) p.ahead);
    }

-- what was asked of more was asked of less
pub files_before : (n : ℕ) (lag grain : ℤ) (behind : ℕ → ℕ → Bool) (taken : List CallEntry) (entry : CallEntry) → FromFiles n lag grain behind (taken ++ entry ∷ []) → FromFiles n lag grain behind taken
files_before n lag grain behind taken entry f =
    record {
      files = f.files;
      inside = λ q lt. Each-front (StandsIn (f.files q)) (queue_events q taken) (event_from q entry) (subst (Each (StandsIn (f.files q))) (events_next q taken entry) (f.inside q lt));
      order = λ q lt. EachPair-front _ (queue_events q taken) (event_from q entry) (subst (EachPair _) (events_next q taken entry) (f.order q lt));
      idles = f.idles;
      places = λ q lt front back parts. place_before (f.idles q) q front back entry (f.places q lt front (back ++ entry ∷ []) (ap (λ es. es ++ entry ∷ []) parts ∙ append_assoc front (Given Stream q item.Idle ∷ back) (entry ∷ [])));
      told = f.told;
      told_idle = f.told_idle;
      no_late = Each-front IsNotLate (items_of taken) (entry_items entry) (subst (Each IsNotLate) (items_next taken entry) f.no_late);
    }

pub results_before : (taken : List CallEntry) (entry : CallEntry) → HasNoResults (taken ++ entry ∷ []) → HasNoResults taken
results_before taken entry h = Each-front IsNoResult (items_of taken) (entry_items entry) (subst (Each IsNoResult) (items_next taken entry) h)

pub stamp_begins : (lag grain : ℤ) (markers : List MarkerValue) (queues : View) (owed : Option ℤ) (taken : List CallEntry) (entry : CallEntry) (given : List Item) → StampStands lag grain markers queues owed taken given → StampAmid lag grain markers queues owed taken entry given
stamp_begins lag grain markers queues owed taken entry given h =
    subst (λ (o : Option ℤ). StampAmid lag grain markers queues o taken entry given) (sym h.none_owed)
    (record { none_owed = refl; knows = h.knows; stamped = h.stamped })

pub stamp_sound_amid : (behind : ℕ → ℕ → Bool) (lag grain : ℤ) (markers : List MarkerValue) (queues : View) (owed : Option ℤ) (taken : List CallEntry) (entry : CallEntry) (given : List Item) → StampAmid lag grain markers queues owed taken entry given → FromFiles (length markers) lag grain behind (taken ++ entry ∷ []) → Sound behind given
stamp_sound_amid behind lag grain markers queues None taken entry given h files = h.stamped.sound behind (files_before (length markers) lag grain behind taken entry files)
stamp_sound_amid behind lag grain markers queues (Some t) taken entry given h files = Sound-front behind given (item.Mark t ∷ []) (h.whole.sound behind files)

pub stamp_closed_amid : (lag grain : ℤ) (markers : List MarkerValue) (queues : View) (owed : Option ℤ) (taken : List CallEntry) (entry : CallEntry) (given : List Item) → StampAmid lag grain markers queues owed taken entry given → HasNoResults (taken ++ entry ∷ []) → ClosedItems given
stamp_closed_amid lag grain markers queues None taken entry given h none = h.stamped.closed (results_before taken entry none)
stamp_closed_amid lag grain markers queues (Some t) taken entry given h none = Closed-front given (item.Mark t ∷ []) (h.whole.closed none)

past_open : (n : ℕ) (lag grain : ℤ) (taken : List CallEntry) (x : Item) → IsPast n lag grain taken x → NotDone x
past_open n lag grain taken item.Done h = h
past_open n lag grain taken x h = tt

pub stamped_open : (n : ℕ) (lag grain : ℤ) (taken : List CallEntry) (given : List Item) → Stamped n lag grain taken given → Each NotDone given
stamped_open n lag grain taken given h = Each-more (IsPast n lag grain taken) NotDone (past_open n lag grain taken) given h.past

pub stamp_open_amid : (lag grain : ℤ) (markers : List MarkerValue) (queues : View) (owed : Option ℤ) (taken : List CallEntry) (entry : CallEntry) (given : List Item) → StampAmid lag grain markers queues owed taken entry given → Each NotDone given
stamp_open_amid lag grain markers queues None taken entry given h = stamped_open (length markers) lag grain taken given h.stamped
stamp_open_amid lag grain markers queues (Some t) taken entry given h =
    Each-front NotDone given (item.Mark t ∷ []) (stamped_open (length markers) lag grain (taken ++ entry ∷ []) (given ++ item.Mark t ∷ []) h.whole)

-- the events of the data of a list are those of the list, and so are its other items
data_events : (xs : List Item) → events_of (data_of xs) ≡ events_of xs
data_events [] = refl
data_events (item.Event e ∷ xs) = ap (λ es. e ∷ es) (data_events xs)
data_events (x ∷ xs) = data_events xs

data_others : (xs : List Item) → others_of (data_of xs) ≡ others_of xs
data_others [] = refl
data_others (item.Event e ∷ xs) = data_others xs
data_others (item.Mark m ∷ xs) = data_others xs
data_others (item.Done ∷ xs) = data_others xs
data_others (x ∷ xs) = ap (λ ys. x ∷ ys) (data_others xs)

idle_events : (xs : List Item) → events_of (but_idle xs) ≡ events_of xs
idle_events [] = refl
idle_events (item.Event e ∷ xs) = ap (λ es. e ∷ es) (idle_events xs)
idle_events (x ∷ xs) = idle_events xs

-- the bag law kind by kind
pub bag_events : (taken : List CallEntry) (given : List Item) → StampBag taken given → events_of given ≡ events_of (items_of taken)
bag_events taken given h = sym (data_events given) ∙ (ap events_of h ∙ (data_events (but_idle (items_of taken)) ∙ idle_events (items_of taken)))

pub bag_others : (taken : List CallEntry) (given : List Item) → StampBag taken given → others_of given ≡ others_of (but_idle (items_of taken))
bag_others taken given h = sym (data_others given) ∙ (ap others_of h ∙ data_others (but_idle (items_of taken)))

-- one entry more, with its item
pub data_next : (taken : List CallEntry) (entry : CallEntry) (given : List Item) → StampBag taken given → StampBag (taken ++ entry ∷ []) (given ++ passed entry)
data_next taken entry given h =
    let old : List Item = items_of taken in
    flat_map-append as_data given (passed entry)
    ∙ (ap (λ xs. xs ++ data_of (passed entry)) h
    ∙ (ap (λ xs. data_of (but_idle old) ++ xs) (same_data entry)
    ∙ (sym (flat_map-append as_data (but_idle old) (but_idle (entry_items entry)))
    ∙ (ap data_of (sym (flat_map-append unless_idle old (entry_items entry))) ∙ ap (λ xs. data_of (but_idle xs)) (sym (items_next taken entry))))))
  where
    same_data : (e : CallEntry) → data_of (passed e) ≡ data_of (but_idle (entry_items e))
    same_data (Given port queue x) = ap data_of (sym (append-nil (unless_idle x)))
    same_data (MarkTold t) = refl
    same_data (QueueClosed port queue) = refl
    same_data Finish = refl

pub stamp_bag_amid : (lag grain : ℤ) (markers : List MarkerValue) (queues : View) (owed : Option ℤ) (taken : List CallEntry) (entry : CallEntry) (given : List Item) → StampAmid lag grain markers queues owed taken entry given → StampBagAmid taken entry given
stamp_bag_amid lag grain markers queues None taken entry given h = record { held = passed entry; bag = data_next taken entry given h.stamped.bag }
stamp_bag_amid lag grain markers queues (Some t) taken entry given h = record { held = item.Mark t ∷ []; bag = h.whole.bag }

pub data_marks : (x : Item) → IsData x → marks_of (unless_idle x) ≡ []
data_marks (item.Mark m) h = absurd h
data_marks item.Done h = absurd h
data_marks x h = refl

owed_marks : (lag grain : ℤ) (markers : List MarkerValue) (queues : View) (t : ℤ) (taken : List CallEntry) (entry : CallEntry) (given : List Item) → (h : Owes lag grain markers queues t taken entry given) → marks_of (passed entry) ≡ []
owed_marks lag grain markers queues t taken (Given port queue x) given h = data_marks x h.may
owed_marks lag grain markers queues t taken (MarkTold s) given h = refl
owed_marks lag grain markers queues t taken (QueueClosed port queue) given h = refl
owed_marks lag grain markers queues t taken Finish given h = refl

owed_placed : (lag grain : ℤ) (markers : List MarkerValue) (queues : View) (t : ℤ) (taken : List CallEntry) (entry : CallEntry) (given : List Item) → (h : Owes lag grain markers queues t taken entry given) → (before after : List Item) (w : ℤ) → Half h.before (passed entry) before after w → IsPlaced (length markers) lag grain taken before w
owed_placed lag grain markers queues t taken entry given h before after w (First rest is) = h.stood.marks.placed before rest w is
owed_placed lag grain markers queues t taken entry given h before after w (Second front is at) = absurd (nowhere (passed entry) front after w (owed_marks lag grain markers queues t taken entry given h) at)

pub stamp_marks_amid : (lag grain : ℤ) (markers : List MarkerValue) (queues : View) (owed : Option ℤ) (taken : List CallEntry) (entry : CallEntry) (given : List Item) → StampAmid lag grain markers queues owed taken entry given → StampMarks (length markers) lag grain taken given
stamp_marks_amid lag grain markers queues None taken entry given h = h.stamped.marks
stamp_marks_amid lag grain markers queues (Some t) taken entry given h =
    let same : marks_of given ≡ marks_of h.before =
    ap marks_of h.puts ∙ (flat_map-append as_mark h.before (passed entry) ∙ (ap (λ ts. marks_of h.before ++ ts) (owed_marks lag grain markers queues t taken entry given h) ∙ append-nil (marks_of h.before))) in
    record {
      placed = λ before after w at. owed_placed lag grain markers queues t taken entry given h before after w (half h.before (passed entry) before after w (sym h.puts ∙ at));
      last = λ s least. let was = h.stood.marks.last s least in (was.0, same ∙ was.1);
    }
