-- What a frame vertex stands for, and that each step keeps it.
use Rattle.std.proofs.Common.{◌≡◌, ℕ, Bool, true, false, cond, ℤ, pos, ◌+ℤ◌, ◌<ℤ◌, ◌≤ℤ◌, List, [], ◌∷◌, ◌++◌, map, Option, Some, None, refl, sym, ◌∙◌, ap, subst, arith, append-nil, append_assoc, ◌+◌, ◌≤◌, length}
use Rattle.std.proofs.lemmas.List.{length-append}
use Rattle.std.specs.Prelude.{◌||◌, int_le, int_lt}
use Rattle.std.proofs.lemmas.Int.{ints, by_lt_z}
use Rattle.std.specs.declared.cmp.Ordering.TheVariants.{Less}
use Rattle.std.proofs.lemmas.List.Concat.{flat_map-append}
use Rattle.std.proofs.lemmas.List.Sums.{sum_by-append}
use Rattle.jet_items.specs.Bag.{SameBag}
use Rattle.jet_items.specs.Frames.{frame_end, frame_at, event_at, FramesSum}
use Rattle.jet_items.specs.Grid.{IsFloor, IsFrameEnd, floor_to}
use Rattle.jet_items.specs.Kinds.{sides_of, frames_of, rows_of, lates_of, marks_of, as_side, as_frame, as_row, as_late, as_mark}
use Rattle.jet_items.specs.Order.{Each, EachPair, Sound, SoundAfter, SoundBelow, LateIsBehind, ClosedAfter, IsAbove}
use Rattle.jet_items.specs.Totals.{both, total}
use Rattle.jet_items.specs.Values.{AccValue, EventValue, FrameValue, LateValue}
use Rattle.jet_items.specs.declared.item.Item.{Item}
use Rattle.jet_items.specs.declared.item.Item.TheVariants as item
use Rattle.jet_items.proofs.Covering.{Decides-int_le, Decides-int_lt, false_from, not_so}
use Rattle.jet_items.proofs.GridLemmas.{floor_is, frame_end_is, multiple_apart}
use Rattle.jet_items.proofs.Orders.{Each-append, Each-more, Each-back, EachPair-append, EachPair-front, EachPair-across}
use Rattle.jet_items.proofs.Totaling.{both_none, both_comm, both_swap, total-append}
use Rattle.jet_boxes.specs.declared.port.Port.{Port}
use Rattle.jet_boxes.specs.Entry.{CallEntry, Given, MarkTold, QueueClosed, Finish, items_of, entry_items, IsData, NotDone}
use Rattle.jet_window.specs.Idles.{as_idle, idles_of}
use Rattle.jet_window.specs.FrameStands.{FrameStands, IsEvent, NoEvent}
use Rattle.jet_window.specs.FrameTables.{Table, frame_of, FramesRise, Ordered, IsKept}
use Rattle.jet_window.specs.FrameLaws.{frame_sound_front}
use Rattle.jet_window.specs.LateEvents.{is_late, is_below, comes_late, LateIsExcused, BelowIsBehind, FrameSound, brought, late_by, kept_by, late_items, kept_events}
use Rattle.jet_window.specs.Tables.{Place, place_cmp}
use Rattle.jet_window.specs.Taken.{is_due, last_from, last_mark, due_after, StageInput}
use Rattle.jet_window.proofs.Fitting.{le_true, less_then}
use Rattle.jet_window.specs.Passing.{last_append, told_last, from_last, items_push, of_none, of_both, bag_both, alone_push, marks_none, data_open, same_last, after_marks, marks_below, closed_push, closed_front, marks_sound, sound_front, not_last}

-- ---- which events are late
-- what one more item brings
pub brought_push : {X : Type 0} (f : Option ℤ → Item → List X) (last : Option ℤ) (xs : List Item) (x : Item) → brought f last (xs ++ x ∷ []) ≡ brought f last xs ++ f (last_from last (marks_of xs)) x
brought_push f last [] x = append-nil (f last x)
brought_push f last (y ∷ xs) x =
    ap (λ (us : List _). f last y ++ us) (brought_push f (last_from last (as_mark y)) xs x
    ∙ ap (λ (o : Option ℤ). brought f (last_from last (as_mark y)) xs ++ f o x) (sym (last_append last (as_mark y) (marks_of xs))))
    ∙ sym (append_assoc (f last y) (brought f (last_from last (as_mark y)) xs) (f (last_from last (marks_of (y ∷ xs))) x))

-- the same of one more entry, told the last mark
pub brought_entry : {X : Type 0} (f : Option ℤ → Item → List X) (last : Option ℤ) (taken : List CallEntry) (port : Port) (q : ℕ) (x : Item) → last ≡ last_mark taken
    → brought f None (items_of (taken ++ Given port q x ∷ [])) ≡ brought f None (items_of taken) ++ f last x
brought_entry f last taken port q x tie =
    ap (λ (xs : List Item). brought f None xs) (items_push taken (Given port q x))
    ∙ (brought_push f None (items_of taken) x ∙ ap (λ (o : Option ℤ). brought f None (items_of taken) ++ f o x) (sym tie))

brought_mark : {X : Type 0} (f : Option ℤ → Item → List X) (xs : List Item) (t : ℤ) → ((o : Option ℤ) → f o (item.Mark t) ≡ []) → brought f None (xs ++ item.Mark t ∷ []) ≡ brought f None xs
brought_mark f xs t none = brought_push f None xs (item.Mark t) ∙ (ap (λ (us : List _). brought f None xs ++ us) (none (last_from None (marks_of xs))) ∙ append-nil (brought f None xs))

pub first_not : (b c : Bool) → (b || c) ≡ false → b ≡ false
first_not true c h = absurd (cc)
first_not false c h = refl

pub second_not : (b c : Bool) → (b || c) ≡ false → c ≡ false
second_not true c h = absurd (cc)
second_not false c h = h

neither : (b c : Bool) → b ≡ false → c ≡ false → (b || c) ≡ false
neither true c h k = absurd (cc)
neither false c h k = k

-- ---- a frame that is held is given
above_all : (last : Option ℤ) (e : ℤ) → is_due last e ≡ false → (w : ℤ) → is_due last w ≡ true → w <ℤ e
above_all None e h w k = absurd (cc)
above_all (Some p) e h w k =
    let le : w ≤ℤ p = (Decides-int_le w p).0 k in
    by_lt_z w e (λ lt. lt) (λ ge. absurd (not_so (int_le e p) (Decides-int_le e p) h (omega (arith, ints))))

not_empty : {X : Type 0} (x : X) (xs : List X) → x ∷ xs ≡ [] → ⊥
not_empty x xs h = absurd (cc)

own_push : (given taken own : List FrameValue) (f : FrameValue) → SameBag given (taken ++ own) → SameBag (given ++ f ∷ []) (taken ++ (own ++ f ∷ []))
own_push given taken own f h = record {
  weighs = λ w. omega (arith, h.weighs w, sum_by-append w given (f ∷ []), sum_by-append w taken own, sum_by-append w taken (own ++ f ∷ []), sum_by-append w own (f ∷ []));
}

-- a frame moves from those held to those given
few_given : {X Y : Type 0} (own : List X) (v : X) (f : Y) (fs : List Y) (n : ℕ) → length own + length (f ∷ fs) ≤ n → length (own ++ v ∷ []) + length fs ≤ n
few_given own v f fs n h = omega (arith, h, length-append own (v ∷ []))

-- one more event is kept, and at most one more frame is held
few_kept : {X : Type 0} (own held held' n : ℕ) (xs : List X) (x : X) → own + held ≤ n → length xs ≡ n → held' ≤ held + 1 → own + held' ≤ length (xs ++ x ∷ [])
few_kept own held held' n xs x h is less = omega (arith, h, is, less, length-append xs (x ∷ []))

pub frame_given : (vertex : ℕ) (slide : ℤ) (begun last : Option ℤ) (f : Place × AccValue) (fs : Table) (told taken : List CallEntry) (given : List Item) → due_after told f.0.0 ≡ true
    → FrameStands vertex slide begun last (f ∷ fs) told taken given → FrameStands vertex slide begun last fs told taken (given ++ item.Frame (frame_of vertex f) ∷ [])
frame_given vertex slide begun last f fs told taken given now h =
    let v : FrameValue = frame_of vertex f in
    let x : List Item = item.Frame v ∷ [] in
    let same_marks : marks_of (given ++ x) ≡ marks_of given = of_none as_mark given (item.Frame v) refl in
    record {
      tie = h.tie;
      excused = λ behind s. Each-append (LateIsExcused behind begun) given x (h.excused behind s) (tt, tt);
      behind_lates = λ behind s. Each-append (LateIsBehind behind) given x (h.behind_lates behind s) (tt, tt);
      no_events = Each-append NoEvent given x h.no_events (tt, tt);
      open_ended = Each-append NotDone given x h.open_ended (tt, tt);
      marks = same_marks ∙ h.marks;
      marks_due = λ i. subst (Each (λ w. is_due last w ≡ true)) (sym same_marks) (h.marks_due i);
      closed = λ i. EachPair-append ClosedAfter given x (h.closed i) (tt, tt)
          (after_marks given x h.open_ended (Each-more (λ w. is_due last w ≡ true) (λ w. Each (IsAbove w) x) (λ w k. (above_all last f.0.0 (second_not (is_due begun f.0.0) (is_due last f.0.0) h.above.0) w k, tt)) (marks_of given) (h.marks_due i)));
      lates = of_none as_late given (item.Frame v) refl ∙ h.lates;
      own = h.own ++ v ∷ [];
      passed = subst (λ (fs' : List FrameValue). SameBag fs' (frames_of (items_of taken) ++ (h.own ++ v ∷ []))) (sym (flat_map-append as_frame given x)) (own_push (frames_of given) (frames_of (items_of taken)) h.own v h.passed);
      alone = λ none. flat_map-append as_frame given x ∙ ap (λ (gs : List FrameValue). gs ++ v ∷ []) (h.alone none);
      own_closed = λ i. Each-append (λ (g : FrameValue). due_after told g.end ≡ true) h.own (v ∷ []) (h.own_closed i) (now, tt);
      rising = λ i. subst (EachPair FramesRise) (sym (append_assoc h.own (v ∷ []) (map (frame_of vertex) fs))) (h.rising i);
      vertices = Each-append (λ (g : FrameValue). g.vertex ≡ vertex) h.own (v ∷ []) h.vertices (refl, tt);
      sums = subst (λ (fs' : List FrameValue). FramesSum slide fs' (kept_events slide begun (items_of taken))) (sym (append_assoc h.own (v ∷ []) (map (frame_of vertex) fs))) h.sums;
      few = few_given h.own v f fs _ h.few;
      above = h.above.1;
      ended = λ front is. absurd (not_empty f fs (h.ended front is));
      rows = of_none as_row given (item.Frame v) refl ∙ h.rows;
      sides = of_none as_side given (item.Frame v) refl ∙ h.sides;
      idles = of_none as_idle given (item.Frame v) refl ∙ h.idles;
      kept = record { ordered = h.kept.ordered.1; ranges = h.kept.ranges.1 };
    }

-- some first frames are given
pub frames_given : (vertex : ℕ) (slide : ℤ) (begun last : Option ℤ) (first new : Table) (told taken : List CallEntry) (given : List Item) → Each (λ (f : Place × AccValue). due_after told f.0.0 ≡ true) first
    → FrameStands vertex slide begun last (first ++ new) told taken given → FrameStands vertex slide begun last new told taken (given ++ map (λ f. item.Frame (frame_of vertex f)) first)
frames_given vertex slide begun last [] new told taken given now h = subst (FrameStands vertex slide begun last new told taken) (sym (append-nil given)) h
frames_given vertex slide begun last (f ∷ fs) new told taken given now h =
    subst (FrameStands vertex slide begun last new told taken) (append_assoc given (item.Frame (frame_of vertex f) ∷ []) (map (λ g. item.Frame (frame_of vertex g)) fs))
    (frames_given vertex slide begun last fs new told taken (given ++ item.Frame (frame_of vertex f) ∷ []) now.1 (frame_given vertex slide begun last f (fs ++ new) told taken given now.0 h))

-- ---- a late event
-- a late event is behind
late_behind : (behind : ℕ → ℕ → Bool) (slide : ℤ) (last : Option ℤ) (taken : List CallEntry) (port : Port) (q : ℕ) (e : EventValue) → pos 1 ≤ℤ slide → last ≡ last_mark taken → is_late slide last e.ts ≡ true → Sound behind (items_of (taken ++ Given port q (item.Event e) ∷ [])) → behind e.part e.line ≡ true
late_behind behind slide None taken port q e low tie h s = absurd (cc)
late_behind behind slide (Some w) taken port q e low tie h s =
    let floor : IsFloor slide w (floor_to slide w) = floor_is slide w low in
    let at_most : floor_to slide w ≤ℤ w = floor.at_most in
    let lt : e.ts <ℤ floor_to slide w = (Decides-int_lt e.ts (floor_to slide w)).0 h in
    let across = EachPair-across (SoundAfter behind) (items_of taken) (item.Event e ∷ []) (subst (EachPair (SoundAfter behind)) (items_push taken (Given port q (item.Event e))) s.after) in
    let all : Each (λ w. SoundBelow behind w (item.Event e)) (marks_of (items_of taken)) = marks_sound behind (item.Event e) (items_of taken) across in
    from_last (λ v. SoundBelow behind v (item.Event e)) w (marks_of (items_of taken)) all (sym tie) (omega (arith, ints))

-- an event that is late by the mark that the vertex began with is below it
late_below : (slide : ℤ) (begun : Option ℤ) (ts : ℤ) → pos 1 ≤ℤ slide → is_late slide begun ts ≡ true → is_below begun ts ≡ true
late_below slide None ts low h = absurd (cc)
late_below slide (Some w) ts low h =
    let floor : IsFloor slide w (floor_to slide w) = floor_is slide w low in
    let at_most : floor_to slide w ≤ℤ w = floor.at_most in
    let lt : ts <ℤ floor_to slide w = (Decides-int_lt ts (floor_to slide w)).0 h in
    (Decides-int_lt ts w).1 (omega (arith, ints))

by_either : {P : Type 0} (b c : Bool) → (b || c) ≡ true → (b ≡ true → P) → (c ≡ true → P) → P
by_either true c h f g = f refl
by_either false c h f g = g h

first_or : (b c : Bool) → b ≡ true → (b || c) ≡ true
first_or true c h = refl
first_or false c h = absurd (cc)

second_or : (b c : Bool) → c ≡ true → (b || c) ≡ true
second_or true c h = refl
second_or false c h = h

late_is_excused : (behind : ℕ → ℕ → Bool) (slide : ℤ) (begun last : Option ℤ) (taken : List CallEntry) (port : Port) (q : ℕ) (e : EventValue) → pos 1 ≤ℤ slide → last ≡ last_mark taken → comes_late slide begun last e.ts ≡ true
    → Sound behind (items_of (taken ++ Given port q (item.Event e) ∷ [])) → (behind e.part e.line || is_below begun e.ts) ≡ true
late_is_excused behind slide begun last taken port q e low tie late s =
    by_either (is_late slide begun e.ts) (is_late slide last e.ts) late
    (λ h. second_or (behind e.part e.line) (is_below begun e.ts) (late_below slide begun e.ts low h))
    (λ h. first_or (behind e.part e.line) (is_below begun e.ts) (late_behind behind slide last taken port q e low tie h s))

late_is_behind : (behind : ℕ → ℕ → Bool) (slide : ℤ) (begun last : Option ℤ) (taken : List CallEntry) (port : Port) (q : ℕ) (e : EventValue) → pos 1 ≤ℤ slide → last ≡ last_mark taken → comes_late slide begun last e.ts ≡ true
    → FrameSound behind begun (items_of (taken ++ Given port q (item.Event e) ∷ [])) → behind e.part e.line ≡ true
late_is_behind behind slide begun last taken port q e low tie late s =
    let n : CallEntry = Given port q (item.Event e) in
    let own = Each-back (BelowIsBehind behind begun) (items_of taken) (item.Event e ∷ []) (subst (Each (BelowIsBehind behind begun)) (items_push taken n) s.below) in
    by_either (is_late slide begun e.ts) (is_late slide last e.ts) late
    (λ h. own.0 (late_below slide begun e.ts low h))
    (λ h. late_behind behind slide last taken port q e low tie h s.sound)

late_excused : (behind : ℕ → ℕ → Bool) (begun : Option ℤ) (x : Item) → LateIsBehind behind x → LateIsExcused behind begun x
late_excused behind begun (item.Event e) h = tt
late_excused behind begun (item.Side e) h = tt
late_excused behind begun (item.Frame e) h = tt
late_excused behind begun (item.Row e) h = tt
late_excused behind begun (item.Late l) h = first_or (behind l.event.part l.event.line) (is_below begun l.event.ts) h
late_excused behind begun item.Idle h = tt
late_excused behind begun (item.Mark e) h = tt
late_excused behind begun item.Done h = tt

pick_true : {X : Type 0} (b : Bool) (x y : X) → b ≡ true → cond b x y ≡ x
pick_true true x y h = refl
pick_true false x y h = absurd (cc)

pick_false : {X : Type 0} (b : Bool) (x y : X) → b ≡ false → cond b x y ≡ y
pick_false true x y h = absurd (cc)
pick_false false x y h = refl

late_free : (l : LateValue) (ws : List ℤ) → Each (λ w. Each (IsAbove w) (item.Late l ∷ [])) ws
late_free l [] = tt
late_free l (w ∷ ws) = ((tt, tt), late_free l ws)

pub frame_late : (vertex : ℕ) (slide : ℤ) (begun last : Option ℤ) (held : Table) (told taken : List CallEntry) (given : List Item) (port : Port) (q : ℕ) (e : EventValue) → pos 1 ≤ℤ slide → comes_late slide begun last e.ts ≡ true
    → FrameStands vertex slide begun last held told taken given → FrameStands vertex slide begun last held told (taken ++ Given port q (item.Event e) ∷ []) (given ++ item.Late (record { vertex = vertex; event = e }) ∷ [])
frame_late vertex slide begun last held told taken given port q e low late h =
    let n : CallEntry = Given port q (item.Event e) in
    let l : LateValue = record { vertex = vertex; event = e } in
    let x : List Item = item.Late l ∷ [] in
    let same_marks : marks_of (given ++ x) ≡ marks_of given = of_none as_mark given (item.Late l) refl in
    let push = items_push taken n in
    let same_kept : kept_events slide begun (items_of (taken ++ n ∷ [])) ≡ kept_events slide begun (items_of taken) =
    brought_entry (kept_by slide begun) last taken port q (item.Event e) h.tie ∙ (ap (λ (us : List EventValue). kept_events slide begun (items_of taken) ++ us) (pick_true (comes_late slide begun last e.ts) [] (e ∷ []) late) ∙ append-nil (kept_events slide begun (items_of taken))) in
    record {
      tie = h.tie ∙ sym (same_last taken port q (item.Event e) refl);
      excused = λ behind s. Each-append (LateIsExcused behind begun) given x (h.excused behind (sound_front behind taken n s)) (late_is_excused behind slide begun last taken port q e low h.tie late s, tt);
      behind_lates = λ behind s. Each-append (LateIsBehind behind) given x (h.behind_lates behind (frame_sound_front behind begun taken n s)) (late_is_behind behind slide begun last taken port q e low h.tie late s, tt);
      no_events = Each-append NoEvent given x h.no_events (tt, tt);
      open_ended = Each-append NotDone given x h.open_ended (tt, tt);
      marks = same_marks ∙ (h.marks ∙ sym (ap marks_of push ∙ of_none as_mark (items_of taken) (item.Event e) refl));
      marks_due = λ i. subst (Each (λ w. is_due last w ≡ true)) (sym same_marks) (h.marks_due (closed_front taken n i));
      closed = λ i. EachPair-append ClosedAfter given x (h.closed (closed_front taken n i)) (tt, tt) (after_marks given x h.open_ended (late_free l (marks_of given)));
      lates = flat_map-append as_late given x ∙ (ap (λ (ls : List LateValue). ls ++ l ∷ []) h.lates
          ∙ sym (brought_entry (late_by vertex slide begun) last taken port q (item.Event e) h.tie ∙ ap (λ (us : List LateValue). late_items vertex slide begun (items_of taken) ++ us) (pick_true (comes_late slide begun last e.ts) (l ∷ []) [] late)));
      own = h.own;
      passed = subst (λ (fs : List FrameValue). SameBag fs (frames_of (items_of (taken ++ n ∷ [])) ++ h.own)) (sym (of_none as_frame given (item.Late l) refl))
          (subst (λ (fs : List FrameValue). SameBag (frames_of given) (fs ++ h.own)) (sym (ap frames_of push ∙ of_none as_frame (items_of taken) (item.Event e) refl)) h.passed);
      alone = λ none. of_none as_frame given (item.Late l) refl ∙ h.alone (sym (ap frames_of push ∙ of_none as_frame (items_of taken) (item.Event e) refl) ∙ none);
      own_closed = h.own_closed;
      rising = h.rising;
      vertices = h.vertices;
      sums = subst (FramesSum slide (h.own ++ map (frame_of vertex) held)) (sym same_kept) h.sums;
      few = subst (λ (es : List EventValue). length h.own + length held ≤ length es) (sym same_kept) h.few;
      above = h.above;
      ended = λ front is. absurd (not_last taken n tt front is);
      rows = of_none as_row given (item.Late l) refl ∙ (h.rows ∙ sym (ap rows_of push ∙ of_none as_row (items_of taken) (item.Event e) refl));
      sides = of_none as_side given (item.Late l) refl ∙ (h.sides ∙ sym (ap sides_of push ∙ of_none as_side (items_of taken) (item.Event e) refl));
      idles = of_none as_idle given (item.Late l) refl ∙ (h.idles ∙ sym (ap idles_of push ∙ of_none as_idle (items_of taken) (item.Event e) refl));
      kept = h.kept;
    }

-- ---- an event that is kept
-- what is held ends above what was given
held_after : (vertex : ℕ) (last : Option ℤ) (f : FrameValue) (held : Table) → is_due last f.end ≡ true → Each (λ (g : Place × AccValue). is_due last g.0.0 ≡ false) held → Each (FramesRise f) (map (frame_of vertex) held)
held_after vertex last f [] d h = tt
held_after vertex last f (g ∷ gs) d h = (less_then f.end g.0.0 _ (above_all last g.0.0 h.0 f.end d), held_after vertex last f gs d h.1)

held_rises : (vertex : ℕ) (held : Table) → Ordered held → EachPair FramesRise (map (frame_of vertex) held)
held_rises vertex [] h = tt
held_rises vertex (f ∷ fs) h = (each fs h.0, held_rises vertex fs h.1)
  where
    each : (gs : Table) → Each (λ (g : Place × AccValue). place_cmp f.0 g.0 ≡ Less) gs → Each (FramesRise (frame_of vertex f)) (map (frame_of vertex) gs)
    each [] h = tt
    each (g ∷ gs) h = (h.0, each gs h.1)

rises_on : (vertex : ℕ) (last : Option ℤ) (own : List FrameValue) (held held' : Table) → Each (λ (f : FrameValue). is_due last f.end ≡ true) own → Each (λ (g : Place × AccValue). is_due last g.0.0 ≡ false) held' → Ordered held'
    → EachPair FramesRise (own ++ map (frame_of vertex) held) → EachPair FramesRise (own ++ map (frame_of vertex) held')
rises_on vertex last own held held' due above order h =
    EachPair-append FramesRise own (map (frame_of vertex) held') (EachPair-front FramesRise own (map (frame_of vertex) held) h) (held_rises vertex held' order)
    (Each-more (λ (f : FrameValue). is_due last f.end ≡ true) (λ (f : FrameValue). Each (FramesRise f) (map (frame_of vertex) held')) (λ f d. held_after vertex last f held' d above) own due)

-- its frame ends above the last mark
pub kept_above : (slide : ℤ) (last : Option ℤ) (ts : ℤ) → pos 1 ≤ℤ slide → is_late slide last ts ≡ false → is_due last (frame_end slide ts) ≡ false
kept_above slide None ts low h = refl
kept_above slide (Some w) ts low h =
    let floor : IsFloor slide w (floor_to slide w) = floor_is slide w low in
    let end : IsFrameEnd slide ts (frame_end slide ts) = frame_end_is slide ts low in
    let above : ts <ℤ frame_end slide ts = end.above in
    let ge : floor_to slide w ≤ℤ ts = by_lt_z ts (floor_to slide w) (λ lt. absurd (not_so (int_lt ts (floor_to slide w)) (Decides-int_lt ts (floor_to slide w)) h lt)) (λ le. le) in
    let lt : floor_to slide w <ℤ frame_end slide ts = omega (arith, ints) in
    let apart : (floor_to slide w +ℤ slide) ≤ℤ frame_end slide ts = multiple_apart slide (floor_to slide w) (frame_end slide ts) low floor.multiple end.multiple lt in
    let next : IsFrameEnd slide w (floor_to slide w +ℤ slide) = frame_end_is slide w low in
    let over : w <ℤ (floor_to slide w +ℤ slide) = next.above in
    false_from (int_le (frame_end slide ts) w) (Decides-int_le (frame_end slide ts) w) (λ le. absurd (omega (arith, ints)))

-- and above the mark that the vertex began with
pub kept_above_both : (slide : ℤ) (begun last : Option ℤ) (ts : ℤ) → pos 1 ≤ℤ slide → comes_late slide begun last ts ≡ false → (is_due begun (frame_end slide ts) || is_due last (frame_end slide ts)) ≡ false
kept_above_both slide begun last ts low h =
    neither (is_due begun (frame_end slide ts)) (is_due last (frame_end slide ts)) (kept_above slide begun ts low (first_not (is_late slide begun ts) (is_late slide last ts) h)) (kept_above slide last ts low (second_not (is_late slide begun ts) (is_late slide last ts) h))

pub frame_kept : (vertex : ℕ) (slide : ℤ) (begun last : Option ℤ) (held held' : Table) (told taken : List CallEntry) (given : List Item) (port : Port) (q : ℕ) (e : EventValue) → comes_late slide begun last e.ts ≡ false
    → ((end : ℤ) (key : List ℕ) → total (frame_at end key) (map (frame_of vertex) held') ≡ both (event_at slide end key e) (total (frame_at end key) (map (frame_of vertex) held)))
    → length held' ≤ length held + 1 → IsKept held' → Each (λ (f : Place × AccValue). (is_due begun f.0.0 || is_due last f.0.0) ≡ false) held' → (StageInput told → (d : ℤ) → due_after told d ≡ true → is_due last d ≡ true)
    → FrameStands vertex slide begun last held told taken given → FrameStands vertex slide begun last held' told (taken ++ Given port q (item.Event e) ∷ []) given
frame_kept vertex slide begun last held held' told taken given port q e late grows less kept above passed h =
    let n : CallEntry = Given port q (item.Event e) in
    let push = items_push taken n in
    let more : kept_events slide begun (items_of (taken ++ n ∷ [])) ≡ kept_events slide begun (items_of taken) ++ e ∷ [] =
    brought_entry (kept_by slide begun) last taken port q (item.Event e) h.tie ∙ ap (λ (us : List EventValue). kept_events slide begun (items_of taken) ++ us) (pick_false (comes_late slide begun last e.ts) [] (e ∷ []) late) in
    record {
      tie = h.tie ∙ sym (same_last taken port q (item.Event e) refl);
      excused = λ behind s. h.excused behind (sound_front behind taken n s);
      behind_lates = λ behind s. h.behind_lates behind (frame_sound_front behind begun taken n s);
      no_events = h.no_events;
      open_ended = h.open_ended;
      marks = h.marks ∙ sym (ap marks_of push ∙ of_none as_mark (items_of taken) (item.Event e) refl);
      marks_due = λ i. h.marks_due (closed_front taken n i);
      closed = λ i. h.closed (closed_front taken n i);
      lates = h.lates ∙ sym (brought_entry (late_by vertex slide begun) last taken port q (item.Event e) h.tie
          ∙ (ap (λ (us : List LateValue). late_items vertex slide begun (items_of taken) ++ us) (pick_false (comes_late slide begun last e.ts) (record { vertex = vertex; event = e } ∷ []) [] late) ∙ append-nil (late_items vertex slide begun (items_of taken))));
      own = h.own;
      passed = subst (λ (fs : List FrameValue). SameBag (frames_of given) (fs ++ h.own)) (sym (ap frames_of push ∙ of_none as_frame (items_of taken) (item.Event e) refl)) h.passed;
      alone = λ none. h.alone (sym (ap frames_of push ∙ of_none as_frame (items_of taken) (item.Event e) refl) ∙ none);
      own_closed = h.own_closed;
      rising = λ i. rises_on vertex last h.own held held' (Each-more (λ (f : FrameValue). due_after told f.end ≡ true) (λ (f : FrameValue). is_due last f.end ≡ true) (λ f d. passed i f.end d) h.own (h.own_closed i))
          (Each-more (λ (f : Place × AccValue). (is_due begun f.0.0 || is_due last f.0.0) ≡ false) (λ (f : Place × AccValue). is_due last f.0.0 ≡ false) (λ f k. second_not (is_due begun f.0.0) (is_due last f.0.0) k) held' above) kept.ordered (h.rising i);
      vertices = h.vertices;
      sums = subst (FramesSum slide (h.own ++ map (frame_of vertex) held')) (sym more) (record {
        at = λ end key.
            let s : Option AccValue = total (frame_at end key) h.own in
            let ev : Option AccValue = event_at slide end key e in
            total-append (frame_at end key) h.own (map (frame_of vertex) held')
            ∙ (ap (both s) (grows end key)
            ∙ (both_swap s ev (total (frame_at end key) (map (frame_of vertex) held))
            ∙ (ap (both ev) (sym (total-append (frame_at end key) h.own (map (frame_of vertex) held)) ∙ h.sums.at end key)
            ∙ (both_comm ev (total (event_at slide end key) (kept_events slide begun (items_of taken)))
            ∙ (ap (both (total (event_at slide end key) (kept_events slide begun (items_of taken)))) (sym (both_none ev))
            ∙ sym (total-append (event_at slide end key) (kept_events slide begun (items_of taken)) (e ∷ [])))))));
      });
      few = subst (λ (es : List EventValue). length h.own + length held' ≤ length es) (sym more) (few_kept (length h.own) (length held) (length held') _ (kept_events slide begun (items_of taken)) e h.few refl less);
      above = above;
      ended = λ front is. absurd (not_last taken n tt front is);
      rows = h.rows ∙ sym (ap rows_of push ∙ of_none as_row (items_of taken) (item.Event e) refl);
      sides = h.sides ∙ sym (ap sides_of push ∙ of_none as_side (items_of taken) (item.Event e) refl);
      idles = h.idles ∙ sym (ap idles_of push ∙ of_none as_idle (items_of taken) (item.Event e) refl);
      kept = kept;
    }

-- ---- a mark
-- what is held ends above a mark that closed all up to it
still_above : (begun last : Option ℤ) (t : ℤ) (held : Table) → Each (λ (f : Place × AccValue). (is_due begun f.0.0 || is_due last f.0.0) ≡ false) held → Each (λ (f : Place × AccValue). t <ℤ f.0.0) held
    → Each (λ (f : Place × AccValue). (is_due begun f.0.0 || is_due (Some t) f.0.0) ≡ false) held
still_above begun last t [] h k = tt
still_above begun last t (f ∷ fs) h k =
    let lt : t <ℤ f.0.0 = k.0 in
    (neither (is_due begun f.0.0) (int_le f.0.0 t) (first_not (is_due begun f.0.0) (is_due last f.0.0) h.0) (false_from (int_le f.0.0 t) (Decides-int_le f.0.0 t) (λ le. absurd (omega (arith, ints)))), still_above begun last t fs h.1 k.1)

pub frame_mark : (vertex : ℕ) (slide : ℤ) (begun last : Option ℤ) (held : Table) (told taken : List CallEntry) (given : List Item) (t : ℤ) → Each (λ (f : Place × AccValue). t <ℤ f.0.0) held
    → FrameStands vertex slide begun last held told taken given → FrameStands vertex slide begun (Some t) held told (taken ++ MarkTold t ∷ []) (given ++ item.Mark t ∷ [])
frame_mark vertex slide begun last held told taken given t above h =
    let n : CallEntry = MarkTold t in
    let m : Item = item.Mark t in
    let x : List Item = m ∷ [] in
    let push = items_push taken n in
    let below : EachPair ClosedAfter (items_of (taken ++ n ∷ [])) → Each (λ w. Each (IsAbove w) x) (marks_of given) =
    λ i. subst (Each (λ w. Each (IsAbove w) x)) (sym h.marks) (marks_below (items_of taken) m (subst (EachPair ClosedAfter) push i)) in
    record {
      tie = sym (told_last taken t);
      excused = λ behind s. Each-append (LateIsExcused behind begun) given x (h.excused behind (sound_front behind taken n s)) (tt, tt);
      behind_lates = λ behind s. Each-append (LateIsBehind behind) given x (h.behind_lates behind (frame_sound_front behind begun taken n s)) (tt, tt);
      no_events = Each-append NoEvent given x h.no_events (tt, tt);
      open_ended = Each-append NotDone given x h.open_ended (tt, tt);
      marks = of_both as_mark given (items_of taken) m h.marks ∙ sym (ap marks_of push);
      marks_due = λ i. subst (Each (λ w. is_due (Some t) w ≡ true)) (sym (flat_map-append as_mark given x))
          (Each-append (λ w. is_due (Some t) w ≡ true) (marks_of given) (t ∷ [])
          (Each-more (λ w. Each (IsAbove w) x) (λ w. is_due (Some t) w ≡ true) (λ w k. let lt : w <ℤ t = k.0 in le_true w t (omega (arith, ints))) (marks_of given) (below i)) (le_true t t (omega (arith, ints)), tt));
      closed = λ i. EachPair-append ClosedAfter given x (h.closed (closed_front taken n i)) (tt, tt) (after_marks given x h.open_ended (below i));
      lates = of_none as_late given m refl ∙ (h.lates ∙ sym (ap (late_items vertex slide begun) push ∙ brought_mark (late_by vertex slide begun) (items_of taken) t (λ o. refl)));
      own = h.own;
      passed = subst (λ (fs : List FrameValue). SameBag fs (frames_of (items_of (taken ++ n ∷ [])) ++ h.own)) (sym (of_none as_frame given m refl))
          (subst (λ (fs : List FrameValue). SameBag (frames_of given) (fs ++ h.own)) (sym (ap frames_of push ∙ of_none as_frame (items_of taken) m refl)) h.passed);
      alone = λ none. of_none as_frame given m refl ∙ h.alone (sym (ap frames_of push ∙ of_none as_frame (items_of taken) m refl) ∙ none);
      own_closed = h.own_closed;
      rising = h.rising;
      vertices = h.vertices;
      sums = subst (FramesSum slide (h.own ++ map (frame_of vertex) held)) (sym (ap (kept_events slide begun) push ∙ brought_mark (kept_by slide begun) (items_of taken) t (λ o. refl))) h.sums;
      few = subst (λ (es : List EventValue). length h.own + length held ≤ length es) (sym (ap (kept_events slide begun) push ∙ brought_mark (kept_by slide begun) (items_of taken) t (λ o. refl))) h.few;
      above = still_above begun last t held h.above above;
      ended = λ front is. absurd (not_last taken n tt front is);
      rows = of_none as_row given m refl ∙ (h.rows ∙ sym (ap rows_of push ∙ of_none as_row (items_of taken) m refl));
      sides = of_none as_side given m refl ∙ (h.sides ∙ sym (ap sides_of push ∙ of_none as_side (items_of taken) m refl));
      idles = of_none as_idle given m refl ∙ (h.idles ∙ sym (ap idles_of push ∙ of_none as_idle (items_of taken) m refl));
      kept = h.kept;
    }

-- ---- an item passes
no_event : (x : Item) → (IsEvent x → ⊥) → NoEvent x
no_event (item.Event e) h = absurd (h tt)
no_event (item.Side e) h = tt
no_event (item.Frame e) h = tt
no_event (item.Row e) h = tt
no_event (item.Late e) h = tt
no_event item.Idle h = tt
no_event (item.Mark e) h = tt
no_event item.Done h = tt

none_kept : (slide : ℤ) (begun last : Option ℤ) (x : Item) → (IsEvent x → ⊥) → kept_by slide begun last x ≡ []
none_kept slide begun last (item.Event e) h = absurd (h tt)
none_kept slide begun last (item.Side e) h = refl
none_kept slide begun last (item.Frame e) h = refl
none_kept slide begun last (item.Row e) h = refl
none_kept slide begun last (item.Late e) h = refl
none_kept slide begun last item.Idle h = refl
none_kept slide begun last (item.Mark e) h = refl
none_kept slide begun last item.Done h = refl

late_passes : (vertex : ℕ) (slide : ℤ) (begun last : Option ℤ) (x : Item) → (IsEvent x → ⊥) → as_late x ≡ late_by vertex slide begun last x
late_passes vertex slide begun last (item.Event e) h = absurd (h tt)
late_passes vertex slide begun last (item.Side e) h = refl
late_passes vertex slide begun last (item.Frame e) h = refl
late_passes vertex slide begun last (item.Row e) h = refl
late_passes vertex slide begun last (item.Late e) h = refl
late_passes vertex slide begun last item.Idle h = refl
late_passes vertex slide begun last (item.Mark e) h = refl
late_passes vertex slide begun last item.Done h = refl

pub frame_pass : (vertex : ℕ) (slide : ℤ) (begun last : Option ℤ) (held : Table) (told taken : List CallEntry) (given : List Item) (port : Port) (q : ℕ) (x : Item) → (IsEvent x → ⊥) → IsData x
    → FrameStands vertex slide begun last held told taken given → FrameStands vertex slide begun last held told (taken ++ Given port q x ∷ []) (given ++ x ∷ [])
frame_pass vertex slide begun last held told taken given port q x none data_is h =
    let n : CallEntry = Given port q x in
    let push = items_push taken n in
    let same_marks : marks_of (given ++ x ∷ []) ≡ marks_of given = of_none as_mark given x (marks_none x data_is) in
    record {
      tie = h.tie ∙ sym (same_last taken port q x (marks_none x data_is));
      excused = λ behind s. Each-append (LateIsExcused behind begun) given (x ∷ []) (h.excused behind (sound_front behind taken n s))
          (Each-more (LateIsBehind behind) (LateIsExcused behind begun) (late_excused behind begun) (x ∷ []) (Each-back (LateIsBehind behind) (items_of taken) (x ∷ []) (subst (Each (LateIsBehind behind)) push s.lates)));
      behind_lates = λ behind s. Each-append (LateIsBehind behind) given (x ∷ []) (h.behind_lates behind (frame_sound_front behind begun taken n s))
          (Each-back (LateIsBehind behind) (items_of taken) (x ∷ []) (subst (Each (LateIsBehind behind)) push s.sound.lates));
      no_events = Each-append NoEvent given (x ∷ []) h.no_events (no_event x none, tt);
      open_ended = Each-append NotDone given (x ∷ []) h.open_ended (data_open x data_is, tt);
      marks = of_both as_mark given (items_of taken) x h.marks ∙ sym (ap marks_of push);
      marks_due = λ i. subst (Each (λ w. is_due last w ≡ true)) (sym same_marks) (h.marks_due (closed_front taken n i));
      closed = λ i. closed_push given (items_of taken) x h.open_ended h.marks (h.closed (closed_front taken n i)) (subst (EachPair ClosedAfter) push i);
      lates = flat_map-append as_late given (x ∷ []) ∙ (ap (λ (us : List LateValue). lates_of given ++ us) (append-nil (as_late x) ∙ late_passes vertex slide begun last x none)
          ∙ (ap (λ (ls : List LateValue). ls ++ late_by vertex slide begun last x) h.lates ∙ sym (brought_entry (late_by vertex slide begun) last taken port q x h.tie)));
      own = h.own;
      passed = subst (λ (xs : List Item). SameBag (frames_of (given ++ x ∷ [])) (frames_of xs ++ h.own)) (sym push) (bag_both as_frame given (items_of taken) h.own x h.passed);
      alone = λ none_taken. alone_push as_frame given (items_of taken) h.own x h.alone (sym (ap frames_of push) ∙ none_taken);
      own_closed = h.own_closed;
      rising = h.rising;
      vertices = h.vertices;
      sums = subst (FramesSum slide (h.own ++ map (frame_of vertex) held))
          (sym (brought_entry (kept_by slide begun) last taken port q x h.tie ∙ (ap (λ (us : List EventValue). kept_events slide begun (items_of taken) ++ us) (none_kept slide begun last x none) ∙ append-nil (kept_events slide begun (items_of taken))))) h.sums;
      few = subst (λ (es : List EventValue). length h.own + length held ≤ length es)
          (sym (brought_entry (kept_by slide begun) last taken port q x h.tie ∙ (ap (λ (us : List EventValue). kept_events slide begun (items_of taken) ++ us) (none_kept slide begun last x none) ∙ append-nil (kept_events slide begun (items_of taken))))) h.few;
      above = h.above;
      ended = λ front is. absurd (not_last taken n tt front is);
      rows = of_both as_row given (items_of taken) x h.rows ∙ sym (ap rows_of push);
      sides = of_both as_side given (items_of taken) x h.sides ∙ sym (ap sides_of push);
      idles = of_both as_idle given (items_of taken) x h.idles ∙ sym (ap idles_of push);
      kept = h.kept;
    }

-- ---- a queue ends, all end
-- an entry that brings no item
pub frame_entry : (vertex : ℕ) (slide : ℤ) (begun last : Option ℤ) (held : Table) (told taken : List CallEntry) (given : List Item) (n : CallEntry) → entry_items n ≡ [] → ((front : List CallEntry) → taken ++ n ∷ [] ≡ front ++ Finish ∷ [] → held ≡ [])
    → FrameStands vertex slide begun last held told taken given → FrameStands vertex slide begun last held told (taken ++ n ∷ []) given
frame_entry vertex slide begun last held told taken given n none ended h =
    let same : items_of (taken ++ n ∷ []) ≡ items_of taken = items_push taken n ∙ (ap (λ (xs : List Item). items_of taken ++ (xs ++ [])) none ∙ append-nil (items_of taken)) in
    record {
      tie = h.tie ∙ sym (ap (λ (xs : List Item). last_from None (marks_of xs)) same);
      excused = λ behind s. h.excused behind (subst (Sound behind) same s);
      behind_lates = λ behind s. h.behind_lates behind (subst (FrameSound behind begun) same s);
      no_events = h.no_events;
      open_ended = h.open_ended;
      marks = h.marks ∙ sym (ap marks_of same);
      marks_due = λ i. h.marks_due (subst (EachPair ClosedAfter) same i);
      closed = λ i. h.closed (subst (EachPair ClosedAfter) same i);
      lates = h.lates ∙ sym (ap (late_items vertex slide begun) same);
      own = h.own;
      passed = subst (λ (xs : List Item). SameBag (frames_of given) (frames_of xs ++ h.own)) (sym same) h.passed;
      alone = λ none. h.alone (sym (ap frames_of same) ∙ none);
      own_closed = h.own_closed;
      rising = h.rising;
      vertices = h.vertices;
      sums = subst (λ (xs : List Item). FramesSum slide (h.own ++ map (frame_of vertex) held) (kept_events slide begun xs)) (sym same) h.sums;
      few = subst (λ (xs : List Item). length h.own + length held ≤ length (kept_events slide begun xs)) (sym same) h.few;
      above = h.above;
      ended = ended;
      rows = h.rows ∙ sym (ap rows_of same);
      sides = h.sides ∙ sym (ap sides_of same);
      idles = h.idles ∙ sym (ap idles_of same);
      kept = h.kept;
    }

pub frame_close : (vertex : ℕ) (slide : ℤ) (begun last : Option ℤ) (held : Table) (told taken : List CallEntry) (given : List Item) (port : Port) (q : ℕ) → FrameStands vertex slide begun last held told taken given → FrameStands vertex slide begun last held told (taken ++ QueueClosed port q ∷ []) given
frame_close vertex slide begun last held told taken given port q h = frame_entry vertex slide begun last held told taken given (QueueClosed port q) refl (λ front is. absurd (not_last taken (QueueClosed port q) tt front is)) h

pub frame_finish : (vertex : ℕ) (slide : ℤ) (begun last : Option ℤ) (held : Table) (told taken : List CallEntry) (given : List Item) → held ≡ [] → FrameStands vertex slide begun last held told taken given → FrameStands vertex slide begun last held told (taken ++ Finish ∷ []) given
frame_finish vertex slide begun last held told taken given none h = frame_entry vertex slide begun last held told taken given Finish refl (λ front is. none) h

pub frame_new : (vertex : ℕ) (slide : ℤ) (begun : Option ℤ) → FrameStands vertex slide begun None [] [] [] []
frame_new vertex slide begun = record {
  tie = refl;
  excused = λ behind s. tt;
  behind_lates = λ behind s. tt;
  no_events = tt;
  open_ended = tt;
  marks = refl;
  marks_due = λ i. tt;
  closed = λ i. tt;
  lates = refl;
  own = [];
  passed = record { weighs = λ w. refl };
  alone = λ none. refl;
  own_closed = λ i. tt;
  rising = λ i. tt;
  vertices = tt;
  sums = record { at = λ end key. refl };
  few = omega arith;
  above = tt;
  ended = λ front is. refl;
  rows = refl;
  sides = refl;
  idles = refl;
  kept = record { ordered = tt; ranges = tt };
}
