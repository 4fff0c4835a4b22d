-- The laws of a frame vertex: what follows from what it stands for.
use Rattle.std.proofs.Common.{◌≡◌, ℕ, ◌+◌, Bool, true, false, ◌||◌, cond, ℤ, List, [], ◌∷◌, ◌++◌, map, Option, Some, None, refl, ◌∙◌, ap, subst, arith, ◌≤◌, length, sym}
use Rattle.std.proofs.lemmas.List.{length-map}
use Rattle.std.specs.Prelude.{sum_by}
use Rattle.std.proofs.lemmas.List.Sums.{sum_by-cons, sum_by-append}
use Rattle.jet_items.specs.Bag.{SameBag}
use Rattle.jet_items.specs.Kinds.{events_of, lates_of, late_events}
use Rattle.jet_items.specs.Order.{Each, Sound, Closed as ClosedItems}
use Rattle.jet_items.specs.Values.{AccValue, EventValue, FrameValue, LateValue}
use Rattle.jet_items.specs.declared.item.Item.{Item}
use Rattle.jet_items.specs.declared.item.Item.TheVariants as item
use Rattle.jet_items.proofs.Orders.{Each-front, Each-more}
use Rattle.jet_boxes.specs.Entry.{CallEntry, entry_items, items_of, NotDone}
use Rattle.jet_window.specs.FrameStands.{FrameBag, FrameStands}
use Rattle.jet_window.specs.FrameTables.{Table, frame_of}
use Rattle.jet_window.specs.LateEvents.{comes_late, brought, late_by, kept_by, late_items, kept_events, BelowIsBehind, FrameSound}
use Rattle.jet_window.specs.Passing.{items_push, closed_front, sound_front, input_front, input_open, no_events_none, no_events_sound, open_due, due_next}
use Rattle.jet_window.specs.Tables.{Place}
use Rattle.jet_window.specs.Taken.{is_due, due_after}

late_event_of : (e : EventValue) (b : Bool) (vertex : ℕ) (w : EventValue → ℕ) → sum_by w (map (λ (l : LateValue). l.event) (cond b (record { vertex = vertex; event = e } ∷ []) [])) ≡ sum_by w (cond b (e ∷ []) [])
late_event_of e true vertex w = refl
late_event_of e false vertex w = refl

map_append : {X Y : Type 0} (f : X → Y) (xs ys : List X) → map f (xs ++ ys) ≡ map f xs ++ map f ys
map_append f [] ys = refl
map_append f (x ∷ xs) ys = ap (λ zs. f x ∷ zs) (map_append f xs ys)

either_way : (e : EventValue) (b : Bool) (w : EventValue → ℕ) → sum_by w (cond b (e ∷ []) []) + sum_by w (cond b [] (e ∷ [])) ≡ sum_by w (e ∷ [])
either_way e true w = omega arith
either_way e false w = omega arith

-- each event is late or kept
parts_from : (vertex : ℕ) (slide : ℤ) (begun last : Option ℤ) (xs : List Item) (w : EventValue → ℕ)
    → sum_by w (events_of xs) + sum_by w (late_events xs) ≡ sum_by w (map (λ (l : LateValue). l.event) (brought (late_by vertex slide begun) last xs)) + sum_by w (brought (kept_by slide begun) last xs)
parts_from vertex slide begun last [] w = refl
parts_from vertex slide begun last (item.Event e ∷ xs) w =
    let b : Bool = comes_late slide begun last e.ts in
    let l : List LateValue = cond b (record { vertex = vertex; event = e } ∷ []) [] in
    let ev : LateValue → EventValue = λ l. l.event in
    let ih = parts_from vertex slide begun last xs w in
    let m : sum_by w (map ev (l ++ brought (late_by vertex slide begun) last xs)) ≡ sum_by w (map ev l) + sum_by w (map ev (brought (late_by vertex slide begun) last xs)) =
    ap (sum_by w) (map_append ev l (brought (late_by vertex slide begun) last xs)) ∙ sum_by-append w (map ev l) (map ev (brought (late_by vertex slide begun) last xs)) in
    omega (arith, ih, m, late_event_of e b vertex w, either_way e b w, sum_by-append w (cond b [] (e ∷ [])) (brought (kept_by slide begun) last xs), sum_by-cons w e (events_of xs), sum_by-cons w e [])
parts_from vertex slide begun last (item.Side e ∷ xs) w = parts_from vertex slide begun last xs w
parts_from vertex slide begun last (item.Frame e ∷ xs) w = parts_from vertex slide begun last xs w
parts_from vertex slide begun last (item.Row e ∷ xs) w = parts_from vertex slide begun last xs w
parts_from vertex slide begun last (item.Late l ∷ xs) w = omega (arith, parts_from vertex slide begun last xs w, sum_by-cons w l.event (late_events xs), sum_by-cons w l.event (map (λ (l : LateValue). l.event) (brought (late_by vertex slide begun) last xs)))
parts_from vertex slide begun last (item.Idle ∷ xs) w = parts_from vertex slide begun last xs w
parts_from vertex slide begun last (item.Mark t ∷ xs) w = parts_from vertex slide begun (Some t) xs w
parts_from vertex slide begun last (item.Done ∷ xs) w = parts_from vertex slide begun last xs w

parts_of : (vertex : ℕ) (slide : ℤ) (begun : Option ℤ) (xs given : List Item) → lates_of given ≡ late_items vertex slide begun xs → SameBag (events_of xs ++ late_events xs) (late_events given ++ kept_events slide begun xs)
parts_of vertex slide begun xs given h = record {
  weighs = λ w.
      let ev : LateValue → EventValue = λ l. l.event in
      let same : sum_by w (late_events given) ≡ sum_by w (map ev (late_items vertex slide begun xs)) = ap (λ (ls : List LateValue). sum_by w (map ev ls)) h in
      omega (arith, same, parts_from vertex slide begun None xs w, sum_by-append w (events_of xs) (late_events xs), sum_by-append w (late_events given) (kept_events slide begun xs));
}

-- ---- the laws
above_frames : (vertex : ℕ) (begun last : Option ℤ) (held : Table) → Each (λ (f : Place × AccValue). (is_due begun f.0.0 || is_due last f.0.0) ≡ false) held → Each (λ (f : FrameValue). (is_due begun f.end || is_due last f.end) ≡ false) (map (frame_of vertex) held)
above_frames vertex begun last [] h = tt
above_frames vertex begun last (f ∷ fs) h = (h.0, above_frames vertex begun last fs h.1)

-- nothing is lost, made up or given twice
pub frame_bag : (vertex : ℕ) (slide : ℤ) (begun last : Option ℤ) (held : Table) (told taken : List CallEntry) (given : List Item) → FrameStands vertex slide begun last held told taken given → FrameBag vertex slide begun (map (frame_of vertex) held) told taken given
frame_bag vertex slide begun last held told taken given h = record {
  lates = h.lates;
  parts = parts_of vertex slide begun (items_of taken) given h.lates;
  own = h.own;
  passed = h.passed;
  alone = h.alone;
  closed = h.own_closed;
  rising = h.rising;
  vertices = h.vertices;
  sums = h.sums;
  few = subst (λ (n : ℕ). length h.own + n ≤ length (kept_events slide begun (items_of taken))) (sym (length-map held (frame_of vertex))) h.few;
  above = subst (λ (o : Option ℤ). Each (λ (f : FrameValue). (is_due begun f.end || is_due o f.end) ≡ false) (map (frame_of vertex) held)) h.tie (above_frames vertex begun last held h.above);
  ended = λ front is. ap (λ (t : Table). map (frame_of vertex) t) (h.ended front is);
  excused = h.excused;
  events = no_events_none given h.no_events;
  rows = h.rows;
  sides = h.sides;
  idles = h.idles;
}

-- what was taken before was as it is to be
pub frame_sound_front : (behind : ℕ → ℕ → Bool) (begun : Option ℤ) (taken : List CallEntry) (e : CallEntry) → FrameSound behind begun (items_of (taken ++ e ∷ [])) → FrameSound behind begun (items_of taken)
frame_sound_front behind begun taken e h = record {
  sound = sound_front behind taken e h.sound;
  below = Each-front (BelowIsBehind behind begun) (items_of taken) (entry_items e ++ []) (subst (Each (BelowIsBehind behind begun)) (items_push taken e) h.below);
}

-- where what was taken is sound, and events below the mark that it began with are called behind, what was given is sound
pub frame_sound : (behind : ℕ → ℕ → Bool) (vertex : ℕ) (slide : ℤ) (begun last : Option ℤ) (held : Table) (told taken : List CallEntry) (given : List Item) → FrameStands vertex slide begun last held told taken given → FrameSound behind begun (items_of taken) → Sound behind given
frame_sound behind vertex slide begun last held told taken given h s = record { after = no_events_sound behind given h.no_events; lates = h.behind_lates behind s }

-- where what was taken is closed, what was given is
pub frame_closed : (vertex : ℕ) (slide : ℤ) (begun last : Option ℤ) (held : Table) (told taken : List CallEntry) (given : List Item) → FrameStands vertex slide begun last held told taken given → ClosedItems (items_of taken) → ClosedItems given
frame_closed vertex slide begun last held told taken given h i = record { after = h.closed i.after }

pub frame_sound_amid : (behind : ℕ → ℕ → Bool) (vertex : ℕ) (slide : ℤ) (begun last : Option ℤ) (held : Table) (taken : List CallEntry) (entry : CallEntry) (given : List Item) → FrameStands vertex slide begun last held (taken ++ entry ∷ []) taken given → FrameSound behind begun (items_of (taken ++ entry ∷ [])) → Sound behind given
frame_sound_amid behind vertex slide begun last held taken entry given h s = frame_sound behind vertex slide begun last held (taken ++ entry ∷ []) taken given h (frame_sound_front behind begun taken entry s)

pub frame_closed_amid : (vertex : ℕ) (slide : ℤ) (begun last : Option ℤ) (held : Table) (taken : List CallEntry) (entry : CallEntry) (given : List Item) → FrameStands vertex slide begun last held (taken ++ entry ∷ []) taken given → ClosedItems (items_of (taken ++ entry ∷ [])) → ClosedItems given
frame_closed_amid vertex slide begun last held taken entry given h s = frame_closed vertex slide begun last held (taken ++ entry ∷ []) taken given h (record { after = closed_front taken entry s.after })

-- no end was given
pub frame_open : (vertex : ℕ) (slide : ℤ) (begun last : Option ℤ) (held : Table) (told taken : List CallEntry) (given : List Item) → FrameStands vertex slide begun last held told taken given → Each NotDone given
frame_open vertex slide begun last held told taken given h = h.open_ended

-- a call may begin: what was closed before stays closed
pub frame_begins : (vertex : ℕ) (slide : ℤ) (begun last : Option ℤ) (held : Table) (taken : List CallEntry) (entry : CallEntry) (given : List Item) → FrameStands vertex slide begun last held taken taken given → FrameStands vertex slide begun last held (taken ++ entry ∷ []) taken given
frame_begins vertex slide begun last held taken entry given h = record {
  tie = h.tie;
  excused = h.excused;
  behind_lates = h.behind_lates;
  no_events = h.no_events;
  open_ended = h.open_ended;
  marks = h.marks;
  marks_due = h.marks_due;
  closed = h.closed;
  lates = h.lates;
  own = h.own;
  passed = h.passed;
  alone = h.alone;
  own_closed = λ i. Each-more (λ (f : FrameValue). due_after taken f.end ≡ true) (λ (f : FrameValue). due_after (taken ++ entry ∷ []) f.end ≡ true)
      (λ f d. due_next taken entry i f.end (open_due taken f.end (input_open taken entry i) d)) h.own (h.own_closed (input_front taken entry i));
  rising = λ i. h.rising (input_front taken entry i);
  vertices = h.vertices;
  sums = h.sums;
  few = h.few;
  above = h.above;
  ended = h.ended;
  rows = h.rows;
  sides = h.sides;
  idles = h.idles;
  kept = h.kept;
}
