-- The calls of a frame vertex, whole.
use Rattle.std.proofs.Common.{◌≡◌, ℕ, Bool, true, false, ◌&&◌, ℤ, pos, ◌≤ℤ◌, List, [], ◌∷◌, ◌++◌, map, Option, Some, Result, Ok, Err, refl, sym, ◌∙◌, ap, subst, arith, length, append-nil, append_assoc}
use Rattle.std.specs.Prelude.{◌||◌, bytes_eq, slice_index_or, IsErr}
use Rattle.std.specs.List.{AllByRecursion}
use Rattle.std.proofs.lemmas.Int.{ints}
use Rattle.jet_items.specs.Order.{Each}
use Rattle.jet_items.proofs.Orders.{Each-back, Each-more}
use Rattle.std.specs.Ordering.{int_eq}
use Rattle.jet_items.specs.Frames.{only, frame_end, frame_at, event_at}
use Rattle.jet_items.specs.Ranges.{IsWithin, most_time, most_frame_end}
use Rattle.jet_items.specs.Rows.{first_value}
use Rattle.jet_items.specs.Totals.{one, both, total}
use Rattle.jet_items.specs.Values.{AccValue, EventValue, LateValue}
use Rattle.jet_items.specs.declared.item.Item.{Item}
use Rattle.jet_items.specs.declared.item.Item.TheVariants as item
use Rattle.jet_items.specs.declared.no_memory.NoMemory.{NoMemory}
use Rattle.jet_items.proofs.Totaling.{total-map}
use Rattle.jet_boxes.specs.declared.port.Port.{Port}
use Rattle.jet_boxes.specs.Calls.{Call}
use Rattle.jet_boxes.specs.Entry.{CallEntry, Given, MarkTold, QueueClosed, Finish, IsData}
use Rattle.jet_boxes.specs.Held.{BoxView}
use Rattle.jet_window.specs.FrameCalls.{Stands, Amid, Alike}
use Rattle.jet_window.specs.declared.frame.FrameP.{FrameP}
use Rattle.jet_window.specs.inner.FrameMoves.{Moved, StopsAbove}
use Rattle.jet_window.specs.FrameStands.{FrameStands, IsEvent}
use Rattle.jet_window.specs.FrameView.{held_by}
use Rattle.jet_window.specs.FrameTables.{Table, joined_in, frame_of, IsKept}
use Rattle.jet_window.specs.LateEvents.{comes_late}
use Rattle.jet_window.specs.Tables.{Place, place_cmp}
use Rattle.jet_window.specs.Passing.{told_due, finish_due, due_before}
use Rattle.jet_window.specs.Times.{TimesValue}
use Rattle.jet_window.specs.Taken.{is_due, due_after}
use Rattle.jet_window.proofs.Framing.{frames_given, frame_mark, frame_close, frame_finish, frame_pass, frame_late, frame_kept, kept_above_both}
use Rattle.jet_window.proofs.Tabling.{place_total, place_equal, total-joined_in, ordered_insert, each_insert, length_insert}

not_false : true ≡ false → ⊥
not_false h = absurd (cc)

ok_apart : (let yes : Result Bool NoMemory = Ok true in yes ≡ Ok false) → ⊥
ok_apart h = absurd (cc)

-- an item was put, or there was no room
pub put_call : (p : FrameP) (entry : CallEntry) (x : Item) (before after : BoxView) (b : Bool) → (b ≡ true → after ≡ record before { items = before.items ++ x ∷ [] }) → (b ≡ false → after ≡ before) → (b ≡ false → length before.items ≡ before.room)
    → ((taken : List CallEntry) (given : List Item) → Amid p taken entry given → Stands p (taken ++ entry ∷ []) (given ++ x ∷ [])) → Call Stands Amid Alike false p entry before (Ok b) p after
put_call p entry x before after true gave none full step = record {
  put = x ∷ [];
  settings = (refl, refl, refl);
  room = ap (λ (b : BoxView). b.room) (gave refl);
  puts = ap (λ (b : BoxView). b.items) (gave refl);
  full = λ e. absurd (ok_apart e);
  wants = tt;
  keeps = λ taken given h. step taken given h;
}
put_call p entry x before after false gave none full step = record {
  put = [];
  settings = (refl, refl, refl);
  room = ap (λ (b : BoxView). b.room) (none refl);
  puts = ap (λ (b : BoxView). b.items) (none refl) ∙ sym (append-nil before.items);
  full = λ e. subst (λ (b : BoxView). length b.items ≡ b.room) (sym (none refl)) (full refl);
  wants = tt;
  keeps = λ taken given h. subst (Amid p taken entry) (sym (append-nil given)) h;
}

-- the frames that end at most at t are closed by the entry
abbrev Closes : ℤ → CallEntry → Type 0
Closes t entry = (taken : List CallEntry) (e : ℤ) → e ≤ℤ t → due_after (taken ++ entry ∷ []) e ≡ true

-- after some frames were put
moved : (p q : FrameP) (t : ℤ) (entry : CallEntry) (before after : List Item) (m : Moved p.vertex t (held_by p) before (held_by q) after) → Closes t entry → q.vertex ≡ p.vertex → q.times ≡ p.times
    → (taken : List CallEntry) (given : List Item) → Amid p taken entry given → Amid q taken entry (given ++ map (λ f. item.Frame (frame_of p.vertex f)) m.first)
moved p q t entry before after m closes v o taken given h =
    let told : List CallEntry = taken ++ entry ∷ [] in
    let xs : List Item = given ++ map (λ f. item.Frame (frame_of p.vertex f)) m.first in
    let one : FrameStands p.vertex p.times.policy.slide p.times.begun p.times.last (held_by q) told taken xs = frames_given p.vertex p.times.policy.slide p.times.begun p.times.last m.first (held_by q) told taken given
    (Each-more (λ (f : Place × AccValue). f.0.0 ≤ℤ t) (λ (f : Place × AccValue). due_after told f.0.0 ≡ true) (λ f le. closes taken f.0.0 le) m.first m.closed)
    (subst (λ (z : Table). FrameStands p.vertex p.times.policy.slide p.times.begun p.times.last z told taken given) m.held h) in
    rw (v, o) one

pub moved_call : (p q : FrameP) (t : ℤ) (entry : CallEntry) (before after : BoxView) → (m : Moved p.vertex t (held_by p) before.items (held_by q) after.items) → Closes t entry → q.vertex ≡ p.vertex → q.times ≡ p.times → after.room ≡ before.room → length after.items ≡ after.room → Call Stands Amid Alike false p entry before (Ok false) q after
moved_call p q t entry before after m closes v o room full = record {
  put = map (λ f. item.Frame (frame_of p.vertex f)) m.first;
  settings = (v, ap (λ (t : TimesValue). t.policy) o, ap (λ (t : TimesValue). t.begun) o);
  room = room;
  puts = m.puts;
  full = λ e. full;
  wants = tt;
  keeps = λ taken given h. moved p q t entry before.items after.items m closes v o taken given h;
}

pub finish_call : (p q : FrameP) (t : ℤ) (before after : BoxView) (b : Bool) → (m : Moved p.vertex t (held_by p) before.items (held_by q) after.items) → q.vertex ≡ p.vertex → q.times ≡ p.times → after.room ≡ before.room → (b ≡ true → (held_by q) ≡ []) → (b ≡ false → length after.items ≡ after.room) → Call Stands Amid Alike false p Finish before (Ok b) q after
finish_call p q t before after true m v o room none full = record {
  put = map (λ f. item.Frame (frame_of p.vertex f)) m.first;
  settings = (v, ap (λ (t : TimesValue). t.policy) o, ap (λ (t : TimesValue). t.begun) o);
  room = room;
  puts = m.puts;
  full = λ e. absurd (ok_apart e);
  wants = tt;
  keeps = λ taken given h. frame_finish q.vertex q.times.policy.slide q.times.begun q.times.last (held_by q) (taken ++ Finish ∷ []) taken _ (none refl) (moved p q t Finish before.items after.items m (λ taken e le. finish_due taken e) v o taken given h);
}
finish_call p q t before after false m v o room none full = moved_call p q t Finish before after m (λ taken e le. finish_due taken e) v o room (full refl)

pub mark_call : (p q s : FrameP) (t : ℤ) (before middle after : BoxView) → (m : Moved p.vertex t (held_by p) before.items (held_by q) middle.items) → q.vertex ≡ p.vertex → q.times ≡ p.times → middle.room ≡ before.room → StopsAbove t (held_by q)
    → s.vertex ≡ q.vertex → s.times ≡ record q.times { last = Some t } → held_by s ≡ held_by q → after ≡ record middle { items = middle.items ++ item.Mark t ∷ [] } → Call Stands Amid Alike false p (MarkTold t) before (Ok true) s after
mark_call p q s t before middle after m v o room stops sv so sh put =
    let fs : List Item = map (λ f. item.Frame (frame_of p.vertex f)) m.first in
    record {
      put = fs ++ item.Mark t ∷ [];
      settings = (sv ∙ v, ap (λ (t : TimesValue). t.policy) so ∙ ap (λ (t : TimesValue). t.policy) o, ap (λ (t : TimesValue). t.begun) so ∙ ap (λ (t : TimesValue). t.begun) o);
      room = ap (λ (b : BoxView). b.room) put ∙ room;
      puts = ap (λ (b : BoxView). b.items) put ∙ (ap (λ (xs : List Item). xs ++ item.Mark t ∷ []) m.puts ∙ append_assoc before.items fs (item.Mark t ∷ []));
      full = λ e. absurd (ok_apart e);
      wants = tt;
      keeps = λ taken given h.
          let a : Amid q taken (MarkTold t) (given ++ fs) = moved p q t (MarkTold t) before.items middle.items m (λ taken e le. told_due taken t e le) v o taken given h in
          let b : FrameStands q.vertex q.times.policy.slide q.times.begun (Some t) (held_by q) (taken ++ MarkTold t ∷ []) (taken ++ MarkTold t ∷ []) ((given ++ fs) ++ item.Mark t ∷ []) =
          frame_mark q.vertex q.times.policy.slide q.times.begun q.times.last (held_by q) (taken ++ MarkTold t ∷ []) taken (given ++ fs) t stops a in
          let c : FrameStands q.vertex q.times.policy.slide q.times.begun (Some t) (held_by q) (taken ++ MarkTold t ∷ []) (taken ++ MarkTold t ∷ []) (given ++ (fs ++ item.Mark t ∷ [])) = subst (FrameStands q.vertex q.times.policy.slide q.times.begun (Some t) (held_by q) (taken ++ MarkTold t ∷ []) (taken ++ MarkTold t ∷ [])) (append_assoc given fs (item.Mark t ∷ [])) b in
          rw (sv, so, sh) c;
    }

pub not_event : (x : Item) → ((e : EventValue) → x ≡ item.Event e → ⊥) → IsEvent x → ⊥
not_event (item.Event e) h k = h e refl
not_event (item.Side e) h k = k
not_event (item.Frame e) h k = k
not_event (item.Row e) h k = k
not_event (item.Late e) h k = k
not_event item.Idle h k = k
not_event (item.Mark e) h k = k
not_event item.Done h k = k

pub pass_call : (p : FrameP) (port : Port) (q : ℕ) (x : Item) (before after : BoxView) (b : Bool) → (IsEvent x → ⊥) → IsData x → (b ≡ true → after ≡ record before { items = before.items ++ x ∷ [] }) → (b ≡ false → after ≡ before) → (b ≡ false → length before.items ≡ before.room) → Call Stands Amid Alike false p (Given port q x) before (Ok b) p after
pass_call p port q x before after b none data_is gave not full = put_call p (Given port q x) x before after b gave not full (λ taken given h. frame_pass p.vertex p.times.policy.slide p.times.begun p.times.last (held_by p) (taken ++ Given port q x ∷ []) taken given port q x none data_is h)

pub late_call : (p : FrameP) (port : Port) (q : ℕ) (e : EventValue) (before after : BoxView) (b : Bool) → pos 1 ≤ℤ p.times.policy.slide → comes_late p.times.policy.slide p.times.begun p.times.last e.ts ≡ true
    → (let l : LateValue = record { vertex = p.vertex; event = e } in b ≡ true → after ≡ record before { items = before.items ++ item.Late l ∷ [] }) → (b ≡ false → after ≡ before) → (b ≡ false → length before.items ≡ before.room)
    → Call Stands Amid Alike false p (Given port q (item.Event e)) before (Ok b) p after
late_call p port q e before after b low late gave not full = put_call p (Given port q (item.Event e)) (item.Late (record { vertex = p.vertex; event = e })) before after b gave not full (λ taken given h. frame_late p.vertex p.times.policy.slide p.times.begun p.times.last (held_by p) (taken ++ Given port q (item.Event e) ∷ []) taken given port q e low late h)

-- an event's first value is as its values are
pub first_within : (vs : List ℤ) → AllByRecursion (IsWithin most_time) vs → IsWithin most_time (slice_index_or vs 0 (pos 0))
first_within [] h = (omega (arith, ints), omega (arith, ints))
first_within (v ∷ vs) h = h.0

shares : (vertex : ℕ) (end : ℤ) (key : List ℕ) (t : Table) → total (frame_at end key) (map (frame_of vertex) t) ≡ total (λ (f : Place × AccValue). only (bytes_eq f.0.1 key && int_eq f.0.0 end) f.1) t
shares vertex end key t = total-map (frame_at end key) (frame_of vertex) t

pub kept_call : (p s : FrameP) (port : Port) (q : ℕ) (e : EventValue) (before : BoxView) → pos 1 ≤ℤ p.times.policy.slide → comes_late p.times.policy.slide p.times.begun p.times.last e.ts ≡ false → IsWithin most_frame_end (frame_end p.times.policy.slide e.ts)
    → s.vertex ≡ p.vertex → s.times ≡ p.times → (held_by s) ≡ joined_in (held_by p) (frame_end p.times.policy.slide e.ts, e.key) (one (first_value e)) → Call Stands Amid Alike false p (Given port q (item.Event e)) before (Ok true) s before
kept_call p s port q e before low late range v o held =
    let k : Place = (frame_end p.times.policy.slide e.ts, e.key) in
    let new : Table = joined_in (held_by p) k (one (first_value e)) in
    record {
      put = [];
      settings = (v, ap (λ (t : TimesValue). t.policy) o, ap (λ (t : TimesValue). t.begun) o);
      room = refl;
      puts = sym (append-nil before.items);
      full = λ g. absurd (ok_apart g);
      wants = tt;
      keeps = λ taken given h.
          let a : FrameStands p.vertex p.times.policy.slide p.times.begun p.times.last new (taken ++ Given port q (item.Event e) ∷ []) (taken ++ Given port q (item.Event e) ∷ []) given =
          frame_kept p.vertex p.times.policy.slide p.times.begun p.times.last (held_by p) new (taken ++ Given port q (item.Event e) ∷ []) taken given port q e late
          (λ end key. shares p.vertex end key new ∙ (total-joined_in (λ z. bytes_eq z.1 key && int_eq z.0 end) k (one (first_value e)) (held_by p) h.kept.ordered ∙ ap (both (event_at p.times.policy.slide end key e)) (sym (shares p.vertex end key (held_by p)))))
          (length_insert place_cmp k _ (held_by p))
          (record { ordered = ordered_insert k _ (held_by p) h.kept.ordered; ranges = each_insert place_cmp place_total place_equal (λ (z : Place). IsWithin most_frame_end z.0) k _ (held_by p) h.kept.ranges range })
          (each_insert place_cmp place_total place_equal (λ (z : Place). (is_due p.times.begun z.0 || is_due p.times.last z.0) ≡ false) k _ (held_by p) h.above (kept_above_both p.times.policy.slide p.times.begun p.times.last e.ts low late))
          (λ i d k. subst (λ (o : Option ℤ). is_due o d ≡ true) (sym h.tie) (due_before taken port q (item.Event e) d refl i k)) h in
          let done : FrameStands p.vertex p.times.policy.slide p.times.begun p.times.last new (taken ++ Given port q (item.Event e) ∷ []) (taken ++ Given port q (item.Event e) ∷ []) (given ++ []) = subst (FrameStands p.vertex p.times.policy.slide p.times.begun p.times.last new (taken ++ Given port q (item.Event e) ∷ []) (taken ++ Given port q (item.Event e) ∷ [])) (sym (append-nil given)) a in
          rw (v, o, held) done;
    }

-- a queue ends
pub close_call : (p : FrameP) (port : Port) (q : ℕ) (before : BoxView) → Call Stands Amid Alike false p (QueueClosed port q) before (Ok true) p before
close_call p port q before = record {
  put = [];
  settings = (refl, refl, refl);
  room = refl;
  puts = sym (append-nil before.items);
  full = λ e. absurd (ok_apart e);
  wants = tt;
  keeps = λ taken given h. subst (Stands p (taken ++ QueueClosed port q ∷ [])) (sym (append-nil given)) (frame_close p.vertex p.times.policy.slide p.times.begun p.times.last (held_by p) (taken ++ QueueClosed port q ∷ []) taken given port q h);
}

-- no frame ends above a time beyond the range of frames
pub none_left : (vertex : ℕ) (old new : Table) (before after : List Item) (t : ℤ) → Moved vertex t old before new after → IsKept old → pos most_frame_end ≤ℤ t → StopsAbove t new → new ≡ []
none_left vertex old [] before after t m kept high stops = refl
none_left vertex old (f ∷ fs) before after t m kept high stops =
    let ranges = Each-back (λ (g : Place × AccValue). IsWithin most_frame_end g.0.0) m.first (f ∷ fs) (subst (Each (λ (g : Place × AccValue). IsWithin most_frame_end g.0.0)) m.held kept.ranges) in
    let here = ranges.0.1 in
    let above = stops.0 in
    absurd (omega (arith, ints))

-- a call that wanted memory
pub err_call : (p s : FrameP) (entry : CallEntry) (before : BoxView) (r : Result Bool NoMemory) → IsErr r → s.vertex ≡ p.vertex → s.times ≡ p.times → (held_by s) ≡ (held_by p) → Call Stands Amid Alike false p entry before r s before
err_call p s entry before (Ok done) h v o held = absurd (ok_no_err done h)
  where
    ok_no_err : (b : Bool) → (let yes : Result Bool NoMemory = Ok b in IsErr yes) → ⊥
    ok_no_err b h = absurd (cc)
err_call p s entry before (Err e) h v o held = record {
  put = [];
  settings = (v, ap (λ (t : TimesValue). t.policy) o, ap (λ (t : TimesValue). t.begun) o);
  room = refl;
  puts = sym (append-nil before.items);
  full = λ g. absurd (err_ok e g);
  wants = refl;
  keeps = λ taken given k. rw (v, o, held) (subst (Amid p taken entry) (sym (append-nil given)) k);
}
  where
    err_ok : (e : NoMemory) → (let failed : Result Bool NoMemory = Err e in failed ≡ Ok false) → ⊥
    err_ok e g = absurd (cc)
