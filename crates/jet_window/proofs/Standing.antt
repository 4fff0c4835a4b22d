-- What a combine vertex stands for, and that each step and call keeps it.
use Rattle.std.proofs.Common.{◌≡◌, ℕ, Bool, true, false, cond, ◌&&◌, ◌||◌, ℤ, ◌+ℤ◌, ◌-ℤ◌, ◌<ℤ◌, ◌≤ℤ◌, List, [], ◌∷◌, ◌++◌, Option, Some, None, refl, sym, ◌∙◌, ap, subst, arith, append-nil, append_assoc}
use Rattle.std.specs.Prelude.{int_le, bytes_eq}
use Rattle.std.specs.Ordering.{int_eq}
use Rattle.std.proofs.lemmas.Int.{ints}
use Rattle.jet_items.specs.Frames.{covers, frame_at, frame_in}
use Rattle.jet_items.specs.Kinds.{frames_of, marks_of}
use Rattle.jet_items.specs.Order.{Each, SoundAfter, IsAbove}
use Rattle.jet_items.specs.Ranges.{IsWithin, most_frame_end, most_row_end}
use Rattle.jet_items.specs.Totals.{both, total}
use Rattle.jet_items.specs.Values.{AccValue, FrameValue}
use Rattle.jet_items.specs.declared.item.Item.{Item}
use Rattle.jet_items.specs.declared.item.Item.TheVariants as item
use Rattle.jet_items.proofs.Covering.{Decides-int_le, false_from}
use Rattle.jet_items.proofs.Orders.{Each-more, Each-front, Each-back, Shadows-refl}
use Rattle.jet_policy.specs.Policy.{IsPolicy}
use Rattle.jet_boxes.specs.declared.port.Port.{Port}
use Rattle.jet_boxes.specs.Entry.{CallEntry, Given, MarkTold, QueueClosed, Finish, items_of, NotFinish, IsData}
use Rattle.jet_window.specs.CombineLaws.{no_pending, given_promised}
use Rattle.jet_window.specs.CombineStands.{IsFrame, Start, Combine, CombineStands, HeldOpen, Marking, Finishing, Promises, PromisesAfter, Gave, PutsReady, pending}
use Rattle.jet_window.specs.Combining.{Forgets, TakesUp, Clear, Passes, OpenAbove, TableOf}
use Rattle.jet_window.specs.FrameTables.{Table, IsKept, held_at, held_in, joined_in}
use Rattle.jet_window.specs.Later.{newly, later_of, later_due, newly_later}
use Rattle.jet_window.specs.Passing.{from_last, items_push, marks_none, same_last, told_last, input_front, input_open, input_above, finished_same, given_same, closed_same, told_same, open_due_false, never_finished}
use Rattle.jet_window.specs.Tables.{Place, place_cmp, is_multiple}
use Rattle.jet_window.specs.Taken.{is_due, last_from, last_mark, due_after, InOpenWindow, StageInput}
use Rattle.jet_window.proofs.Fitting.{Fits-forget, Fits-start, total-push, not_due_above, not_begun, not_covered}
use Rattle.jet_window.proofs.Ending.{open_at}
use Rattle.jet_window.proofs.Tabling.{place_total, place_equal, total-joined_in, ordered_insert, each_insert}
use Rattle.jet_window.proofs.Promising.{weaker, Promises-up, Promises-pass, Promises-frame, Promises-mark}

-- a frame that is taken next ends above what passed
tie_later : (taken : List CallEntry) (port : Port) (q : ℕ) (f : FrameValue) (o : Option ℤ) → o ≡ last_mark taken → StageInput (taken ++ Given port q (item.Frame f) ∷ []) → is_due o f.end ≡ false
tie_later taken port q f None is h = refl
tie_later taken port q f (Some p) is h =
    let below : Each (λ w. w <ℤ f.end) (marks_of (items_of taken)) = Each-more (λ w. Each (IsAbove w) (item.Frame f ∷ [])) (λ w. w <ℤ f.end) (λ w k. k.0) (marks_of (items_of taken)) (input_above taken (Given port q (item.Frame f)) h) in
    let lt : p <ℤ f.end = from_last (λ w. w <ℤ f.end) p (marks_of (items_of taken)) below (sym is) in
    false_from (int_le f.end p) (Decides-int_le f.end p) (λ le. absurd (omega (arith, ints)))

-- ---- parts of a call
pub Gave-refl : (p : Combine) (xs : List Item) → Gave p xs p xs
Gave-refl p xs = record {
  put = [];
  puts = sym (append-nil xs);
  forgets = [];
  held = refl;
  vertex = refl;
  size = refl;
  slide = refl;
  range = λ h. h;
  kept = λ h. h;
  keeps = λ s taken given h. subst (λ (ys : List Item). PromisesAfter s p taken ys) (sym (append-nil given)) h;
}

pub Gave-trans : (p : Combine) (xs : List Item) (q : Combine) (ys : List Item) (r : Combine) (zs : List Item) → Gave p xs q ys → Gave q ys r zs → Gave p xs r zs
Gave-trans p xs q ys r zs h k = record {
  put = h.put ++ k.put;
  puts = k.puts ∙ (ap (λ (us : List Item). us ++ k.put) h.puts ∙ append_assoc xs h.put k.put);
  forgets = h.forgets ++ k.forgets;
  held = h.held ∙ (ap (λ (t : Table). h.forgets ++ t) k.held ∙ sym (append_assoc h.forgets k.forgets r.held));
  vertex = k.vertex ∙ h.vertex;
  size = k.size ∙ h.size;
  slide = k.slide ∙ h.slide;
  range = λ i. k.range (h.range i);
  kept = λ i. k.kept (h.kept i);
  keeps = λ s taken given i. subst (λ (us : List Item). PromisesAfter s r taken us) (append_assoc given h.put k.put) (k.keeps s taken (given ++ h.put) (h.keeps s taken given i));
}

pub Gave-put : (p : Combine) (before : List Item) (new : List (List ℕ × AccValue)) (after : List Item) → PutsReady p.vertex p.end p.ready before new after → Gave p before (record p { ready = new }) after
Gave-put p before new after h = record {
  put = h.put;
  puts = h.puts;
  forgets = [];
  held = refl;
  vertex = refl;
  size = refl;
  slide = refl;
  range = λ i. i;
  kept = λ i. i;
  keeps = λ s taken given i. subst (λ (us : List Item). Promises p.vertex p.size p.slide s.begun s.frames p.passed p.held us (StageInput taken) (items_of taken))
      (ap (λ (us : List Item). given ++ us) (sym h.rest) ∙ sym (append_assoc given h.put (pending p.vertex p.end new))) i;
}

pub Gave-forget : (p : Combine) (xs : List Item) (rest : Table) → Forgets p.size p.slide p.passed p.held rest → Gave p xs (record p { held = rest }) xs
Gave-forget p xs rest f = record {
  put = [];
  puts = sym (append-nil xs);
  forgets = f.first;
  held = f.held_is;
  vertex = refl;
  size = refl;
  slide = refl;
  range = λ h. h;
  kept = f.kept;
  keeps = λ s taken given h. subst (λ (ys : List Item). PromisesAfter s (record p { held = rest }) taken ys) (sym (append-nil given)) (record {
    sound = h.sound;
    behind_lates = h.behind_lates;
    open_ended = h.open_ended;
    marks = h.marks;
    due = h.due;
    closed = h.closed;
    events = h.events;
    sides = h.sides;
    idles = h.idles;
    lates = h.lates;
    frames = h.frames;
    own = h.own;
    rows = h.rows;
    alone = h.alone;
    begins = h.begins;
    fits = λ i. Fits-forget p.vertex p.size p.slide s.begun p.passed p.held rest (s.frames ++ frames_of (items_of taken)) h.own (h.fits i) f;
    kept = f.kept h.kept;
  });
}

pub Gave-up : (p : Combine) (xs : List Item) (e : ℤ) (ready : List (List ℕ × AccValue)) → p.ready ≡ [] → IsWithin most_row_end e → (IsKept p.held → TakesUp p.size p.slide p.passed p.held e ready p.held) → Gave p xs (record p { passed = Some e; end = e; ready = ready }) xs
Gave-up p xs e ready none range up = record {
  put = [];
  puts = sym (append-nil xs);
  forgets = [];
  held = refl;
  vertex = refl;
  size = refl;
  slide = refl;
  range = λ h. range;
  kept = λ h. h;
  keeps = λ s taken given h. subst (λ (ys : List Item). PromisesAfter s (record p { passed = Some e; end = e; ready = ready }) taken ys) (sym (append-nil given))
      (Promises-up p.vertex p.size p.slide s.begun s.frames p.passed p.held given (StageInput taken) (items_of taken) e ready p.held
      (subst (λ (us : List Item). Promises p.vertex p.size p.slide s.begun s.frames p.passed p.held us (StageInput taken) (items_of taken)) (no_pending p.vertex p.end p.ready given none) h) (up h.kept));
}

-- ---- the calls
-- what is due, or was at the beginning
abbrev due_yet : Start → List CallEntry → ℤ → Bool
due_yet s taken e = is_due s.begun e || due_after taken e

-- what is due is as before
open_still : (size slide : ℤ) (s : Start) (taken more : List CallEntry) (held : Table) → ((d : ℤ) → due_after more d ≡ due_after taken d) → Each (λ (f : Place × AccValue). InOpenWindow size slide (due_yet s taken) f.0.0) held → Each (λ (f : Place × AccValue). InOpenWindow size slide (due_yet s more) f.0.0) held
open_still size slide s taken more held same h =
    Each-more (λ (f : Place × AccValue). InOpenWindow size slide (due_yet s taken) f.0.0) (λ (f : Place × AccValue). InOpenWindow size slide (due_yet s more) f.0.0) (λ f w. (w.0, w.1, w.2, ap (λ (b : Bool). is_due s.begun w.0 || b) (same w.0) ∙ w.3)) held h

neither : (b c : Bool) → b ≡ false → c ≡ false → (b || c) ≡ false
neither true c h k = absurd (cc)
neither false c h k = k

-- a frame that is taken next lies in no window whose rows were given
given_apart : (taken : List CallEntry) (port : Port) (q : ℕ) (f : FrameValue) (size : ℤ) (begun last : Option ℤ) → last ≡ last_mark taken → StageInput (taken ++ Given port q (item.Frame f) ∷ []) → (d : ℤ) → newly begun (is_due (later_of begun last)) d ≡ true → covers size d f.end ≡ false
given_apart taken port q f size begun last is i d new =
    not_covered last size d f.end (tie_later taken port q f last is i) (due_of (is_due begun d) (is_due last d) (sym (newly_later begun last d) ∙ new))
  where
    due_of : (x y : Bool) → cond x false y ≡ true → y ≡ true
    due_of true y h = absurd (cc)
    due_of false y h = h

pub stands_frame : (s : Start) (last : Option ℤ) (p : Combine) (taken : List CallEntry) (given : List Item) (port : Port) (q : ℕ) (f : FrameValue) (held' : Table)
    → ((d : ℤ) (key : List ℕ) → IsKept p.held → is_multiple p.slide d ≡ true → is_due s.begun d ≡ false → total (held_in p.size d key) held' ≡ both (frame_in p.size d key f) (total (held_in p.size d key) p.held))
    → ((d : ℤ) (key : List ℕ) → IsKept p.held → InOpenWindow p.size p.slide (is_due s.begun) d → total (held_at d key) held' ≡ both (frame_at d key f) (total (held_at d key) p.held)) → (IsKept p.held → IsKept held')
    → ((due : ℤ → Bool) → ((e : ℤ) → is_due s.begun e ≡ false → f.end ≤ℤ e → due e ≡ false) → Each (λ (g : Place × AccValue). InOpenWindow p.size p.slide due g.0.0) p.held → Each (λ (g : Place × AccValue). InOpenWindow p.size p.slide due g.0.0) held')
    → CombineStands s last p taken given → CombineStands s last (record p { held = held' }) (taken ++ Given port q (item.Frame f) ∷ []) (given ++ [])
stands_frame s last p taken given port q f held' grows grows_at kept adds h =
    let e : CallEntry = Given port q (item.Frame f) in
    let old : Promises p.vertex p.size p.slide s.begun s.frames p.passed p.held given (StageInput taken) (items_of taken) = given_promised s last p taken given h in
    let later : StageInput (taken ++ e ∷ []) → (d : ℤ) → is_multiple p.slide d ≡ true → newly s.begun (is_due p.passed) d ≡ true → covers p.size d f.end ≡ false =
    λ i d m new. given_apart taken port q f p.size s.begun last h.told i d (subst (λ (o : Option ℤ). newly s.begun (is_due o) d ≡ true) (h.tie (input_open taken e i)) new) in
    let new : Promises p.vertex p.size p.slide s.begun s.frames p.passed held' given (StageInput (taken ++ e ∷ [])) (items_of taken ++ item.Frame f ∷ []) =
    Promises-frame p.vertex p.size p.slide s.begun s.frames p.passed p.held given (StageInput (taken ++ e ∷ [])) (items_of taken) f held' later (λ d key m b. grows d key old.kept m (not_begun s.begun p.passed d old.begins b))
    (λ d key w. grows_at d key old.kept (w.0, w.1, w.2, not_begun s.begun p.passed w.0 old.begins w.3)) (kept old.kept) (weaker (input_front taken e) old) in
    let moved : Promises p.vertex p.size p.slide s.begun s.frames p.passed held' given (StageInput (taken ++ e ∷ [])) (items_of (taken ++ e ∷ [])) =
    subst (λ (xs : List Item). Promises p.vertex p.size p.slide s.begun s.frames p.passed held' given (StageInput (taken ++ e ∷ [])) xs) (sym (items_push taken e)) new in
    let still : (d : ℤ) → due_after (taken ++ e ∷ []) d ≡ due_after taken d = λ d. given_same taken port q (item.Frame f) d refl in
    record {
      promises = subst (λ (xs : List Item). Promises p.vertex p.size p.slide s.begun s.frames p.passed held' xs (StageInput (taken ++ e ∷ [])) (items_of (taken ++ e ∷ []))) (sym (no_pending p.vertex p.end p.ready (given ++ []) h.put ∙ append-nil given)) moved;
      range = h.range;
      told = h.told ∙ sym (same_last taken port q (item.Frame f) refl);
      put = h.put;
      tie = λ n. h.tie (Each-front NotFinish taken (e ∷ []) n);
      ended = λ i is. absurd (never_finished taken (sym (finished_same taken e tt) ∙ is) (input_open taken e i));
      held_open = λ grid i. adds (due_yet s (taken ++ e ∷ []))
          (λ d b above. neither (is_due s.begun d) (due_after (taken ++ e ∷ []) d) b (still d ∙ open_due_false taken d (input_open taken e i) (not_due_above (last_mark taken) f.end d (tie_later taken port q f (last_mark taken) refl i) above)))
          (open_still p.size p.slide s taken (taken ++ e ∷ []) p.held still (h.held_open grid (input_front taken e i)));
    }

-- what passes as it is
pub stands_pass : (s : Start) (last : Option ℤ) (p : Combine) (taken : List CallEntry) (given : List Item) (port : Port) (q : ℕ) (x : Item) → (IsFrame x → ⊥) → IsData x → CombineStands s last p taken given → CombineStands s last p (taken ++ Given port q x ∷ []) (given ++ x ∷ [])
stands_pass s last p taken given port q x not data_is h =
    let e : CallEntry = Given port q x in
    let new : Promises p.vertex p.size p.slide s.begun s.frames p.passed p.held (given ++ x ∷ []) (StageInput (taken ++ e ∷ [])) (items_of taken ++ x ∷ []) =
    Promises-pass p.vertex p.size p.slide s.begun s.frames p.passed p.held given (StageInput (taken ++ e ∷ [])) (items_of taken) x not data_is (weaker (input_front taken e) (given_promised s last p taken given h)) in
    let moved : Promises p.vertex p.size p.slide s.begun s.frames p.passed p.held (given ++ x ∷ []) (StageInput (taken ++ e ∷ [])) (items_of (taken ++ e ∷ [])) =
    subst (λ (xs : List Item). Promises p.vertex p.size p.slide s.begun s.frames p.passed p.held (given ++ x ∷ []) (StageInput (taken ++ e ∷ [])) xs) (sym (items_push taken e)) new in
    record {
      promises = subst (λ (xs : List Item). Promises p.vertex p.size p.slide s.begun s.frames p.passed p.held xs (StageInput (taken ++ e ∷ [])) (items_of (taken ++ e ∷ []))) (sym (no_pending p.vertex p.end p.ready (given ++ x ∷ []) h.put)) moved;
      range = h.range;
      told = h.told ∙ sym (same_last taken port q x (marks_none x data_is));
      put = h.put;
      tie = λ n. h.tie (Each-front NotFinish taken (e ∷ []) n);
      ended = λ i is. absurd (never_finished taken (sym (finished_same taken e tt) ∙ is) (input_open taken e i));
      held_open = λ grid i. open_still p.size p.slide s taken (taken ++ e ∷ []) p.held (λ d. given_same taken port q x d (marks_none x data_is)) (h.held_open grid (input_front taken e i));
    }

-- a queue ends
pub stands_close : (s : Start) (last : Option ℤ) (p : Combine) (taken : List CallEntry) (given : List Item) (port : Port) (q : ℕ) → CombineStands s last p taken given → CombineStands s last p (taken ++ QueueClosed port q ∷ []) given
stands_close s last p taken given port q h =
    let e : CallEntry = QueueClosed port q in
    let same : items_of (taken ++ e ∷ []) ≡ items_of taken = items_push taken e ∙ append-nil (items_of taken) in
    record {
      promises = subst (λ (xs : List Item). Promises p.vertex p.size p.slide s.begun s.frames p.passed p.held (given ++ pending p.vertex p.end p.ready) (StageInput (taken ++ e ∷ [])) xs) (sym same) (weaker (input_front taken e) h.promises);
      range = h.range;
      told = h.told ∙ sym (ap (λ (xs : List Item). last_from None (marks_of xs)) same);
      put = h.put;
      tie = λ n. h.tie (Each-front NotFinish taken (e ∷ []) n);
      ended = λ i is. absurd (never_finished taken (sym (finished_same taken e tt) ∙ is) (input_open taken e i));
      held_open = λ grid i. open_still p.size p.slide s taken (taken ++ e ∷ []) p.held (λ d. closed_same taken port q d) (h.held_open grid (input_front taken e i));
    }

-- what is held on is as open as before
open_gave : (s : Start) (p : Combine) (b : List Item) (q : Combine) (a : List Item) (taken : List CallEntry) → Gave p b q a → HeldOpen s p taken → HeldOpen s q taken
open_gave s p b q a taken g h = rw (g.size, g.slide)
    (λ grid i. Each-back (λ (f : Place × AccValue). InOpenWindow p.size p.slide (due_yet s taken) f.0.0) g.forgets q.held (subst (Each (λ (f : Place × AccValue). InOpenWindow p.size p.slide (due_yet s taken) f.0.0)) g.held (h grid i)))

pub marking_gave : (s : Start) (last : Option ℤ) (p : Combine) (b : List Item) (q : Combine) (a : List Item) (taken : List CallEntry) (t : ℤ) (given : List Item) → (g : Gave p b q a) → (Passes p.passed (later_of s.begun (Some t)) → Passes q.passed (later_of s.begun (Some t))) → Marking s last p taken t given → Marking s last q taken t (given ++ g.put)
marking_gave s last p b q a taken t given g bound h = record { promises = g.keeps s taken given h.promises; range = g.range h.range; told = h.told; bound = λ i. bound (h.bound i); held_open = open_gave s p b q a taken g h.held_open }

-- a mark that was told is passed on, once no window up to it, or up to the mark of the beginning, has a frame
pub stands_mark : (s : Start) (last : Option ℤ) (p : Combine) (taken : List CallEntry) (t u : ℤ) (given : List Item) → Some u ≡ later_of s.begun (Some t) → p.ready ≡ [] → Clear p.size p.slide p.passed p.held u → OpenAbove p.size p.slide u p.held → Marking s last p taken t given → CombineStands s (Some t) (record p { passed = Some u }) (taken ++ MarkTold t ∷ []) (given ++ item.Mark t ∷ [])
stands_mark s last p taken t u given up none clear above h =
    let e : CallEntry = MarkTold t in
    let next : Option ℤ = later_of s.begun (Some t) in
    let old : Promises p.vertex p.size p.slide s.begun s.frames p.passed p.held given (StageInput taken) (items_of taken) =
    subst (λ (xs : List Item). Promises p.vertex p.size p.slide s.begun s.frames p.passed p.held xs (StageInput taken) (items_of taken)) (no_pending p.vertex p.end p.ready given none) h.promises in
    let new : Promises p.vertex p.size p.slide s.begun s.frames next p.held (given ++ item.Mark t ∷ []) (StageInput (taken ++ e ∷ [])) (items_of taken ++ item.Mark t ∷ []) =
    Promises-mark p.vertex p.size p.slide s.begun s.frames p.passed p.held given (StageInput taken) (items_of taken) t (StageInput (taken ++ e ∷ [])) (input_front taken e) h.bound
    (λ d key m b c. clear.none d key m b ((Decides-int_le d u).0 (subst (λ (o : Option ℤ). is_due o d ≡ true) (sym up) c))) old in
    let moved : Promises p.vertex p.size p.slide s.begun s.frames (Some u) p.held (given ++ item.Mark t ∷ []) (StageInput (taken ++ e ∷ [])) (items_of (taken ++ e ∷ [])) =
    subst (λ (o : Option ℤ). Promises p.vertex p.size p.slide s.begun s.frames o p.held (given ++ item.Mark t ∷ []) (StageInput (taken ++ e ∷ [])) (items_of (taken ++ e ∷ []))) (sym up)
    (subst (λ (xs : List Item). Promises p.vertex p.size p.slide s.begun s.frames next p.held (given ++ item.Mark t ∷ []) (StageInput (taken ++ e ∷ [])) xs) (sym (items_push taken e)) new) in
    record {
      promises = subst (λ (xs : List Item). Promises p.vertex p.size p.slide s.begun s.frames (Some u) p.held xs (StageInput (taken ++ e ∷ [])) (items_of (taken ++ e ∷ []))) (sym (no_pending p.vertex p.end p.ready (given ++ item.Mark t ∷ []) none)) moved;
      range = h.range;
      told = sym (told_last taken t);
      put = none;
      tie = λ n. up;
      ended = λ i is. absurd (never_finished taken (sym (finished_same taken e tt) ∙ is) (input_open taken e i));
      held_open = λ grid i. Each-more (λ (f : Place × AccValue). InOpenWindow p.size p.slide (λ d. int_le d u) f.0.0) (λ (f : Place × AccValue). InOpenWindow p.size p.slide (due_yet s (taken ++ e ∷ [])) f.0.0)
          (λ f w. (w.0, w.1, w.2, ap (λ (b : Bool). is_due s.begun w.0 || b) (told_same taken t w.0 (input_open taken e i)) ∙ (sym (later_due s.begun (Some t) w.0) ∙ (ap (λ (o : Option ℤ). is_due o w.0) (sym up) ∙ w.3)))) p.held above;
    }

finish_is : (taken : List CallEntry) → Each NotFinish (taken ++ Finish ∷ []) → ⊥
finish_is taken h = (Each-back NotFinish taken (Finish ∷ []) h).0

pub finishing_gave : (s : Start) (last : Option ℤ) (p : Combine) (b : List Item) (q : Combine) (a : List Item) (taken : List CallEntry) (given : List Item) → (g : Gave p b q a) → Finishing s last p taken given → Finishing s last q taken (given ++ g.put)
finishing_gave s last p b q a taken given g h = record { promises = g.keeps s taken given h.promises; range = g.range h.range; told = h.told; held_open = open_gave s p b q a taken g h.held_open }

pub stands_finish : (s : Start) (last : Option ℤ) (p : Combine) (taken : List CallEntry) (given : List Item) → p.ready ≡ [] → p.held ≡ [] → Finishing s last p taken given → CombineStands s last p (taken ++ Finish ∷ []) given
stands_finish s last p taken given none empty h =
    let same : items_of (taken ++ Finish ∷ []) ≡ items_of taken = items_push taken Finish ∙ append-nil (items_of taken) in
    record {
      promises = subst (λ (xs : List Item). Promises p.vertex p.size p.slide s.begun s.frames p.passed p.held (given ++ pending p.vertex p.end p.ready) (StageInput (taken ++ Finish ∷ [])) xs) (sym same)
          (weaker (input_front taken Finish) h.promises);
      range = h.range;
      told = h.told ∙ sym (ap (λ (xs : List Item). last_from None (marks_of xs)) same);
      put = none;
      tie = λ n. absurd (finish_is taken n);
      ended = λ i is. empty;
      held_open = λ grid i. subst (Each (λ (f : Place × AccValue). InOpenWindow p.size p.slide (due_yet s (taken ++ Finish ∷ [])) f.0.0)) (sym empty) tt;
    }

-- the last window of a frame ends above the mark of the beginning
pub begins_open : (size slide : ℤ) (begun : Option ℤ) → IsPolicy size slide → (frames : List FrameValue) → Each (λ f. is_multiple slide f.end ≡ true) frames → Each (λ f. is_due begun ((f.end +ℤ size) -ℤ slide) ≡ false) frames
    → Each (λ f. InOpenWindow size slide (λ e. is_due begun e || due_after [] e) f.end) frames
begins_open size slide begun grid [] m o = tt
begins_open size slide begun grid (f ∷ fs) m o = (open_at size slide (λ e. is_due begun e || due_after [] e) f.end grid m.0 (neither (is_due begun ((f.end +ℤ size) -ℤ slide)) (due_after [] ((f.end +ℤ size) -ℤ slide)) o.0 refl), begins_open size slide begun grid fs m.1 o.1)

-- a combine vertex that has taken nothing
pub stands_new : (s : Start) (p : Combine) → p.passed ≡ s.begun → TableOf s.frames p.held → (IsPolicy p.size p.slide → Each (λ f. InOpenWindow p.size p.slide (λ e. is_due s.begun e || due_after [] e) f.end) s.frames) → p.ready ≡ [] → IsWithin most_row_end p.end → CombineStands s None p [] []
stands_new s p is held from_start put range =
    record {
      promises = subst (λ (o : Option ℤ). Promises p.vertex p.size p.slide s.begun s.frames o p.held ([] ++ pending p.vertex p.end p.ready) (StageInput []) []) (sym is)
          (subst (λ (xs : List Item). Promises p.vertex p.size p.slide s.begun s.frames s.begun p.held xs (StageInput []) []) (sym (no_pending p.vertex p.end p.ready [] put))
          (record {
            sound = λ behind. Shadows-refl (SoundAfter behind) [];
            behind_lates = λ behind h. tt;
            open_ended = tt;
            marks = refl;
            due = λ i. tt;
            closed = λ i. tt;
            events = refl;
            sides = refl;
            idles = refl;
            lates = refl;
            frames = refl;
            own = [];
            rows = record { weighs = λ w. refl };
            alone = λ none. refl;
            begins = record { stays = λ d b. b };
            fits = λ i. Fits-start p.vertex p.size p.slide s.begun p.held (s.frames ++ []) (λ e key. held.joins p.size e key ∙ ap (total (frame_in p.size e key)) (sym (append-nil s.frames)))
                (λ end key. held.joins_at end key ∙ ap (total (frame_at end key)) (sym (append-nil s.frames)));
            kept = held.kept;
          }));
      range = range;
      told = refl;
      put = put;
      tie = λ n. is ∙ none_later s.begun;
      ended = λ i none. absurd (never_true none);
      held_open = λ grid i. held.opens p.size p.slide (due_yet s []) (from_start grid);
    }
  where
    none_later : (o : Option ℤ) → o ≡ later_of o None
    none_later None = refl
    none_later (Some b) = refl

    never_true : false ≡ true → ⊥
    never_true h = absurd (cc)

-- no frames bring nothing
pub table_none : (frames : List FrameValue) (held : Table) → frames ≡ [] → held ≡ [] → TableOf frames held
table_none frames held none empty = subst (λ (fs : List FrameValue). TableOf fs held) (sym none) (subst (TableOf []) (sym empty) (record { joins = λ size e key. refl; joins_at = λ end key. refl; opens = λ size slide due h. tt; kept = record { ordered = tt; ranges = tt } }))

-- one frame more is joined in
pub table_more : (frames : List FrameValue) (held : Table) (f : FrameValue) → IsWithin most_frame_end f.end → TableOf frames held → TableOf (frames ++ f ∷ []) (joined_in held (f.end, f.key) f.acc)
table_more frames held f range h = record {
  joins = λ size e key. total-joined_in (λ z. bytes_eq z.1 key && covers size e z.0) (f.end, f.key) f.acc held h.kept.ordered
      ∙ (ap (both (frame_in size e key f)) (h.joins size e key) ∙ sym (total-push (frame_in size e key) frames f));
  joins_at = λ end key. total-joined_in (λ z. bytes_eq z.1 key && int_eq z.0 end) (f.end, f.key) f.acc held h.kept.ordered
      ∙ (ap (both (frame_at end key f)) (h.joins_at end key) ∙ sym (total-push (frame_at end key) frames f));
  opens = λ size slide due each. each_insert place_cmp place_total place_equal (λ (z : Place). InOpenWindow size slide due z.0) (f.end, f.key) _ held
      (h.opens size slide due (Each-front (λ g. InOpenWindow size slide due g.end) frames (f ∷ []) each)) (Each-back (λ g. InOpenWindow size slide due g.end) frames (f ∷ []) each).0;
  kept = record {
    ordered = ordered_insert (f.end, f.key) _ held h.kept.ordered;
    ranges = each_insert place_cmp place_total place_equal (λ (z : Place). IsWithin most_frame_end z.0) (f.end, f.key) _ held h.kept.ranges range;
  };
}
