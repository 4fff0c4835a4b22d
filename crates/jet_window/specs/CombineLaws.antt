-- The laws of a combine vertex: what follows from what it stands for.
use Rattle.std.proofs.Common.{◌≡◌, ℕ, Bool, true, false, cond, ◌&&◌, ◌||◌, ℤ, ◌≤ℤ◌, List, [], ◌∷◌, ◌++◌, map, Option, Some, None, refl, sym, ◌∙◌, ap, subst, arith, append-nil}
use Rattle.std.specs.Prelude.{int_le}
use Rattle.std.specs.List.{flat_map}
use Rattle.std.specs.declared.cmp.Ordering.TheVariants.{Less}
use Rattle.std.proofs.lemmas.Int.{ints}
use Rattle.std.proofs.lemmas.List.Concat.{flat_map-append}
use Rattle.jet_items.specs.Frames.{frame_at, frame_in}
use Rattle.jet_items.specs.Kinds.{frames_of, marks_of, as_mark}
use Rattle.jet_items.specs.Order.{Each, EachPair, Sound, SoundAfter, LateIsBehind, Closed as ClosedItems, ClosedAfter}
use Rattle.jet_items.specs.Totals.{total}
use Rattle.jet_items.specs.Values.{AccValue, FrameValue, RowValue}
use Rattle.jet_items.specs.declared.item.Item.{Item}
use Rattle.jet_items.specs.declared.item.Item.TheVariants as item
use Rattle.jet_items.proofs.Covering.{Decides-int_le}
use Rattle.jet_items.proofs.Totaling.{total-map}
use Rattle.jet_items.proofs.Orders.{Each-front, EachPair-front}
use Rattle.jet_boxes.specs.Entry.{CallEntry, Given, MarkTold, QueueClosed, Finish, items_of, NotDone}
use Rattle.jet_window.specs.CombineStands.{Combine, Start, CombineBag, CombineBagAmid, CombineStands, CombineAmid, HeldOpen, Promises, PromisesAfter, pending, pending_rows}
use Rattle.jet_window.specs.Combining.{Passes, row_of}
use Rattle.jet_window.specs.FrameTables.{Table, Ordered, FramesRise, frame_of, held_at, held_in}
use Rattle.jet_window.specs.Later.{newly, later_of, later_due, newly_later}
use Rattle.jet_window.specs.Passing.{from_last, sound_front, closed_front, input_front, input_open, not_finished, told_above, told_due, finish_due, open_due, due_next}
use Rattle.jet_window.specs.Tables.{Place, place_cmp, is_multiple}
use Rattle.jet_window.specs.Taken.{is_due, last_from, last_mark, is_finished, due_after, InOpenWindow, StageInput}
use Rattle.jet_window.specs.WindowRows.{as_list, RowsAre}

or_so : (a b c : Bool) → (a || b) ≡ true → (b ≡ true → c ≡ true) → (a || c) ≡ true
or_so true b c h k = refl
or_so false b c h k = k h

-- ---- a mark that is told next is above what passed
tie_bound : (taken : List CallEntry) (t : ℤ) (begun last : Option ℤ) → last ≡ last_mark taken → StageInput (taken ++ MarkTold t ∷ []) → Passes (later_of begun last) (later_of begun (Some t))
tie_bound taken t begun last is h = record { stays = λ d k. later_due begun (Some t) d ∙ or_so (is_due begun d) (is_due last d) (int_le d t) (sym (later_due begun last d) ∙ k) (λ due. (Decides-int_le d t).1 (told_above taken t d h (subst (λ (z : Option ℤ). is_due z d ≡ true) is due))) }

-- a call may begin
pub combine_begins : (s : Start) (last : Option ℤ) (p : Combine) (taken : List CallEntry) (entry : CallEntry) (given : List Item) → CombineStands s last p taken given → CombineAmid s last p taken entry given
combine_begins s last p taken (Given port q x) given h = h
combine_begins s last p taken (MarkTold t) given h = record { promises = h.promises; range = h.range; held_open = h.held_open; told = h.told; bound = λ i. subst (λ (o : Option ℤ). Passes o (later_of s.begun (Some t))) (sym (h.tie (input_open taken (MarkTold t) i))) (tie_bound taken t s.begun last h.told i) }
combine_begins s last p taken (QueueClosed port q) given h = h
combine_begins s last p taken Finish given h = record { promises = h.promises; range = h.range; told = h.told; held_open = h.held_open }

-- ---- what is promised
pub no_pending : (vertex : ℕ) (e : ℤ) (ready : List (List ℕ × AccValue)) (given : List Item) → ready ≡ [] → given ++ pending vertex e ready ≡ given
no_pending vertex e ready given h = rw h (append-nil given)

pub given_promised : (s : Start) (last : Option ℤ) (p : Combine) (taken : List CallEntry) (given : List Item) → CombineStands s last p taken given → Promises p.vertex p.size p.slide s.begun s.frames p.passed p.held given (StageInput taken) (items_of taken)
given_promised s last p taken given h =
    subst (λ (xs : List Item). Promises p.vertex p.size p.slide s.begun s.frames p.passed p.held xs (StageInput taken) (items_of taken)) (no_pending p.vertex p.end p.ready given h.put) h.promises

-- rows that are ready bring nothing of another kind
pub pending_none : {X : Type 0} (f : Item → List X) → ((r : RowValue) → f (item.Row r) ≡ []) → (vertex : ℕ) (e : ℤ) (ready : List (List ℕ × AccValue)) → flat_map f (pending vertex e ready) ≡ []
pending_none f h vertex e [] = refl
pending_none f h vertex e (p ∷ ps) = rw (h (row_of vertex e p)) (pending_none f h vertex e ps)

promised_sound : (s : Start) (last : Option ℤ) (p : Combine) (taken : List CallEntry) (given : List Item) → PromisesAfter s p taken given → (behind : ℕ → ℕ → Bool) → Sound behind (items_of taken) → Sound behind given
promised_sound s last p taken given h behind k = record {
  after = EachPair-front (SoundAfter behind) given (pending p.vertex p.end p.ready) ((h.sound behind).inside k.after);
  lates = Each-front (LateIsBehind behind) given (pending p.vertex p.end p.ready) (h.behind_lates behind k.lates);
}

promised_closed : (s : Start) (last : Option ℤ) (p : Combine) (taken : List CallEntry) (given : List Item) → PromisesAfter s p taken given → ClosedItems (items_of taken) → ClosedItems given
promised_closed s last p taken given h k = record { after = EachPair-front ClosedAfter given (pending p.vertex p.end p.ready) (h.closed k.after) }

promised_marks : (s : Start) (last : Option ℤ) (p : Combine) (taken : List CallEntry) (given : List Item) → PromisesAfter s p taken given → marks_of given ≡ marks_of (items_of taken)
promised_marks s last p taken given h =
    sym (append-nil (marks_of given)) ∙ (ap (λ (ws : List ℤ). marks_of given ++ ws) (sym (pending_none as_mark (λ r. refl) p.vertex p.end p.ready)) ∙ (sym (flat_map-append as_mark given (pending p.vertex p.end p.ready)) ∙ h.marks))

pub amid_promises : (s : Start) (last : Option ℤ) (p : Combine) (taken : List CallEntry) (entry : CallEntry) (given : List Item) → CombineAmid s last p taken entry given → PromisesAfter s p taken given
amid_promises s last p taken (Given port q x) given h = h.promises
amid_promises s last p taken (MarkTold t) given h = h.promises
amid_promises s last p taken (QueueClosed port q) given h = h.promises
amid_promises s last p taken Finish given h = h.promises

-- ---- the mark laws
-- where what was taken is sound, what was given is
pub combine_sound : (behind : ℕ → ℕ → Bool) (s : Start) (last : Option ℤ) (p : Combine) (taken : List CallEntry) (given : List Item) → CombineStands s last p taken given → Sound behind (items_of taken) → Sound behind given
combine_sound behind s last p taken given h k = promised_sound s last p taken given h.promises behind k

pub combine_sound_amid : (behind : ℕ → ℕ → Bool) (s : Start) (last : Option ℤ) (p : Combine) (taken : List CallEntry) (entry : CallEntry) (given : List Item) → CombineAmid s last p taken entry given → Sound behind (items_of (taken ++ entry ∷ [])) → Sound behind given
combine_sound_amid behind s last p taken entry given h k = promised_sound s last p taken given (amid_promises s last p taken entry given h) behind (sound_front behind taken entry k)

-- where what was taken is closed, what was given is
pub combine_closed : (s : Start) (last : Option ℤ) (p : Combine) (taken : List CallEntry) (given : List Item) → CombineStands s last p taken given → ClosedItems (items_of taken) → ClosedItems given
combine_closed s last p taken given h k = promised_closed s last p taken given h.promises k

pub combine_closed_amid : (s : Start) (last : Option ℤ) (p : Combine) (taken : List CallEntry) (entry : CallEntry) (given : List Item) → CombineAmid s last p taken entry given → ClosedItems (items_of (taken ++ entry ∷ [])) → ClosedItems given
combine_closed_amid s last p taken entry given h k = promised_closed s last p taken given (amid_promises s last p taken entry given h) (record { after = closed_front taken entry k.after })

-- no end was given
promised_open : (s : Start) (last : Option ℤ) (p : Combine) (taken : List CallEntry) (given : List Item) → PromisesAfter s p taken given → Each NotDone given
promised_open s last p taken given h = Each-front NotDone given (pending p.vertex p.end p.ready) h.open_ended

pub combine_open : (s : Start) (last : Option ℤ) (p : Combine) (taken : List CallEntry) (given : List Item) → CombineStands s last p taken given → Each NotDone given
combine_open s last p taken given h = promised_open s last p taken given h.promises

pub combine_open_amid : (s : Start) (last : Option ℤ) (p : Combine) (taken : List CallEntry) (entry : CallEntry) (given : List Item) → CombineAmid s last p taken entry given → Each NotDone given
combine_open_amid s last p taken entry given h = promised_open s last p taken given (amid_promises s last p taken entry given h)

-- the marks given are those that were taken
pub combine_marks : (s : Start) (last : Option ℤ) (p : Combine) (taken : List CallEntry) (given : List Item) → CombineStands s last p taken given → marks_of given ≡ marks_of (items_of taken)
combine_marks s last p taken given h = promised_marks s last p taken given h.promises

pub combine_marks_amid : (s : Start) (last : Option ℤ) (p : Combine) (taken : List CallEntry) (entry : CallEntry) (given : List Item) → CombineAmid s last p taken entry given → marks_of given ≡ marks_of (items_of taken)
combine_marks_amid s last p taken entry given h = promised_marks s last p taken given (amid_promises s last p taken entry given h)

-- ---- the bag law
all_due : (g m b : Bool) (t : Option AccValue) → (m ≡ true → b ≡ false → t ≡ None) → as_list (cond (m && cond g false b) t None) ≡ as_list (cond (m && cond g false true) t None)
all_due true m b t h = refl
all_due false true true t h = refl
all_due false true false t h = rw (h refl refl) refl
all_due false false b t h = refl

rows_if : (s : Start) (last : Option ℤ) (p : Combine) (taken : List CallEntry) (given : List Item) → (h : CombineStands s last p taken given) → StageInput taken → (b : Bool) → is_finished taken ≡ b
    → RowsAre p.vertex p.size p.slide (newly s.begun (λ e. b || is_due (last_mark taken) e)) (s.frames ++ frames_of (items_of taken)) (given_promised s last p taken given h).own
rows_if s last p taken given h k true is =
    let f = (given_promised s last p taken given h).fits k in
    record {
      each = λ e key. f.rows_are.each e key ∙ all_due (is_due s.begun e) (is_multiple p.slide e) (is_due p.passed e) (total (frame_in p.size e key) (s.frames ++ frames_of (items_of taken))) (λ m b. sym (f.held_is e key m b) ∙ ap (total (held_in p.size e key)) (h.ended k is));
      vertices = f.rows_are.vertices;
      rising = f.rows_are.rising;
    }
rows_if s last p taken given h k false is =
    let f = (given_promised s last p taken given h).fits k in
    let tie : p.passed ≡ later_of s.begun last = h.tie (not_finished taken is) in
    record {
      each = λ e key. f.rows_are.each e key ∙ ap (λ (b : Bool). as_list (cond (is_multiple p.slide e && b) (total (frame_in p.size e key) (s.frames ++ frames_of (items_of taken))) None))
          (ap (λ (o : Option ℤ). newly s.begun (is_due o) e) tie ∙ (newly_later s.begun last e ∙ ap (λ (o : Option ℤ). newly s.begun (is_due o) e) h.told));
      vertices = f.rows_are.vertices;
      rising = f.rows_are.rising;
    }

-- ---- what is held
held_total_at : (vertex : ℕ) (end : ℤ) (key : List ℕ) (held : Table) → total (frame_at end key) (map (frame_of vertex) held) ≡ total (held_at end key) held
held_total_at vertex end key held = total-map (frame_at end key) (frame_of vertex) held

held_total : (vertex : ℕ) (size e : ℤ) (key : List ℕ) (held : Table) → total (frame_in size e key) (map (frame_of vertex) held) ≡ total (held_in size e key) held
held_total vertex size e key held = total-map (frame_in size e key) (frame_of vertex) held

open_frames : (P : ℤ → Type 0) (vertex : ℕ) (held : Table) → Each (λ (f : Place × AccValue). P f.0.0) held → Each (λ (f : FrameValue). P f.end) (map (frame_of vertex) held)
open_frames P vertex [] h = tt
open_frames P vertex (f ∷ fs) h = (h.0, open_frames P vertex fs h.1)

frames_rise : (vertex : ℕ) (held : Table) → Ordered held → EachPair FramesRise (map (frame_of vertex) held)
frames_rise vertex [] h = tt
frames_rise vertex (f ∷ fs) h = (each fs h.0, frames_rise vertex fs h.1)
  where
    each : (gs : Table) → Each (λ (g : Place × AccValue). place_cmp f.0 g.0 ≡ Less) gs → Each (FramesRise (frame_of vertex f)) (map (frame_of vertex) gs)
    each [] h = tt
    each (g ∷ gs) h = (h.0, each gs h.1)

frames_own : (vertex : ℕ) (held : Table) → Each (λ (f : FrameValue). f.vertex ≡ vertex) (map (frame_of vertex) held)
frames_own vertex [] = tt
frames_own vertex (f ∷ fs) = (refl, frames_own vertex fs)

amid_open : (s : Start) (last : Option ℤ) (p : Combine) (taken : List CallEntry) (entry : CallEntry) (given : List Item) → CombineAmid s last p taken entry given → HeldOpen s p taken
amid_open s last p taken (Given port q x) given h = h.held_open
amid_open s last p taken (MarkTold t) given h = h.held_open
amid_open s last p taken (QueueClosed port q) given h = h.held_open
amid_open s last p taken Finish given h = h.held_open

amid_told : (s : Start) (last : Option ℤ) (p : Combine) (taken : List CallEntry) (entry : CallEntry) (given : List Item) → CombineAmid s last p taken entry given → last ≡ last_mark taken
amid_told s last p taken (Given port q x) given h = h.told
amid_told s last p taken (MarkTold t) given h = h.told
amid_told s last p taken (QueueClosed port q) given h = h.told
amid_told s last p taken Finish given h = h.told

neither : (b c : Bool) → (b || c) ≡ false → (b ≡ false) × (c ≡ false)
neither true c h = absurd (cc)
neither false c h = (refl, h)

-- what is not due has not passed
not_passed : (s : Start) (last : Option ℤ) (p : Combine) (taken : List CallEntry) (given : List Item) → CombineStands s last p taken given → (e : ℤ) → (is_due s.begun e || due_after taken e) ≡ false → is_due p.passed e ≡ false
not_passed s last p taken given h e d =
    let first = neither (is_due s.begun e) (due_after taken e) d in
    let both = neither (is_finished taken) (is_due (last_mark taken) e) first.1 in
    ap (λ (o : Option ℤ). is_due o e) (h.tie (not_finished taken both.0)) ∙ (later_due s.begun last e ∙ rw first.0 (ap (λ (o : Option ℤ). is_due o e) h.told ∙ both.1))

-- nothing is lost, made up or given twice: the rows given are those of the frames taken, of all windows that are due
pub combine_bag : (s : Start) (last : Option ℤ) (p : Combine) (taken : List CallEntry) (given : List Item) → CombineStands s last p taken given → CombineBag p.vertex p.size p.slide s.begun last s.frames (map (frame_of p.vertex) p.held) (due_after taken) (StageInput taken) taken given
combine_bag s last p taken given h =
    let g = given_promised s last p taken given h in
    record {
      told = h.told;
      events = g.events;
      sides = g.sides;
      idles = g.idles;
      lates = g.lates;
      frames = g.frames;
      own = g.own;
      passed = g.rows;
      alone = g.alone;
      rows = λ i. rows_if s last p taken given h i (is_finished taken) refl;
      held_is = λ i e key m d. held_total p.vertex p.size e key p.held ∙ (g.fits i).held_is e key m (not_passed s last p taken given h e d);
      held_at = λ i end key w. held_total_at p.vertex end key p.held ∙ (g.fits i).held_at_is end key (w.0, w.1, w.2, not_passed s last p taken given h w.0 w.3);
      held_open = λ grid i. open_frames (InOpenWindow p.size p.slide (λ e. is_due s.begun e || due_after taken e)) p.vertex p.held (h.held_open grid i);
      held_rising = frames_rise p.vertex p.held g.kept.ordered;
      held_vertices = frames_own p.vertex p.held;
    }

-- ---- the same within a call
or_right : (a : Bool) → (a || true) ≡ true
or_right true = refl
or_right false = refl

due_below : (passed : Option ℤ) (e w : ℤ) → e ≤ℤ w → is_due passed w ≡ true → is_due passed e ≡ true
due_below None e w h k = absurd (cc)
due_below (Some p) e w h k = let le : w ≤ℤ p = (Decides-int_le w p).0 k in (Decides-int_le e p).1 (omega (arith, ints))

-- where all marks are due, what the last one closed is
due_last : (passed : Option ℤ) (ws : List ℤ) (e : ℤ) → Each (λ w. is_due passed w ≡ true) ws → (o : Option ℤ) → last_from None ws ≡ o → is_due o e ≡ true → is_due passed e ≡ true
due_last passed ws e h None is k = absurd (cc)
due_last passed ws e h (Some w) is k = due_below passed e w ((Decides-int_le e w).0 k) (from_last (λ v. is_due passed v ≡ true) w ws h is)

next_or : (taken : List CallEntry) (entry : CallEntry) (begun last : Option ℤ) (e : ℤ) → last ≡ last_mark taken → StageInput (taken ++ entry ∷ []) → is_due (later_of begun last) e ≡ true → (is_due begun e || due_after (taken ++ entry ∷ []) e) ≡ true
next_or taken entry begun last e is i d = or_so (is_due begun e) (is_due last e) (due_after (taken ++ entry ∷ []) e) (sym (later_due begun last e) ∙ d) (λ due. due_next taken entry i e (subst (λ (z : Option ℤ). is_due z e ≡ true) is due))

at_most_after : (s : Start) (last : Option ℤ) (p : Combine) (taken : List CallEntry) (entry : CallEntry) (given : List Item) → CombineAmid s last p taken entry given → StageInput (taken ++ entry ∷ []) → (e : ℤ) → is_due p.passed e ≡ true → (is_due s.begun e || due_after (taken ++ entry ∷ []) e) ≡ true
at_most_after s last p taken (Given port q x) given h i e d = next_or taken (Given port q x) s.begun last e h.told i (subst (λ (z : Option ℤ). is_due z e ≡ true) (h.tie (input_open taken (Given port q x) i)) d)
at_most_after s last p taken (MarkTold t) given h i e d = or_so (is_due s.begun e) (int_le e t) (due_after (taken ++ MarkTold t ∷ []) e) (sym (later_due s.begun (Some t) e) ∙ (h.bound i).stays e d) (λ due. told_due taken t e ((Decides-int_le e t).0 due))
at_most_after s last p taken (QueueClosed port q) given h i e d = next_or taken (QueueClosed port q) s.begun last e h.told i (subst (λ (z : Option ℤ). is_due z e ≡ true) (h.tie (input_open taken (QueueClosed port q) i)) d)
at_most_after s last p taken Finish given h i e d = or_so (is_due s.begun e) true (due_after (taken ++ Finish ∷ []) e) (or_right (is_due s.begun e)) (λ due. finish_due taken e)

pub combine_bag_amid : (s : Start) (last : Option ℤ) (p : Combine) (taken : List CallEntry) (entry : CallEntry) (given : List Item) → CombineAmid s last p taken entry given → CombineBagAmid p.vertex p.size p.slide s.begun last s.frames (map (frame_of p.vertex) p.held) taken entry given
combine_bag_amid s last p taken entry given h =
    let g = amid_promises s last p taken entry given h in
    record {
      ready = pending_rows p.vertex p.end p.ready;
      until = p.passed;
      at_least = λ i e d. due_last p.passed (marks_of (items_of taken)) e (g.due (closed_front taken entry i.closed.after)) (last_mark taken) refl
          (open_due taken e (input_open taken entry i) d);
      at_most = λ i e d. at_most_after s last p taken entry given h i e d;
      bag = record {
        told = amid_told s last p taken entry given h;
        events = g.events;
        sides = g.sides;
        idles = g.idles;
        lates = g.lates;
        frames = g.frames;
        own = g.own;
        passed = g.rows;
        alone = g.alone;
        rows = λ i. (g.fits (input_front taken entry i)).rows_are;
        held_is = λ i e key m d. held_total p.vertex p.size e key p.held ∙ (g.fits (input_front taken entry i)).held_is e key m (neither (is_due s.begun e) (is_due p.passed e) d).1;
        held_at = λ i end key w. held_total_at p.vertex end key p.held ∙ (g.fits (input_front taken entry i)).held_at_is end key (w.0, w.1, w.2, (neither (is_due s.begun w.0) (is_due p.passed w.0) w.3).1);
        held_open = λ grid i. open_frames (InOpenWindow p.size p.slide (λ e. is_due s.begun e || due_after taken e)) p.vertex p.held (amid_open s last p taken entry given h grid (input_front taken entry i));
        held_rising = frames_rise p.vertex p.held g.kept.ordered;
        held_vertices = frames_own p.vertex p.held;
      };
    }
