-- What a combine vertex promises, and that each step keeps it.
use Rattle.std.proofs.Common.{◌≡◌, ℕ, Bool, true, false, ◌||◌, ℤ, ◌<ℤ◌, ◌≤ℤ◌, List, [], ◌∷◌, ◌++◌, map, Option, Some, None, refl, sym, ◌∙◌, ap, subst, arith, append-nil, append_assoc}
use Rattle.std.specs.Prelude.{int_le}
use Rattle.std.specs.List.{flat_map}
use Rattle.std.proofs.lemmas.Int.{ints}
use Rattle.std.proofs.lemmas.List.Concat.{flat_map-append}
use Rattle.std.proofs.lemmas.List.Sums.{sum_by-append}
use Rattle.jet_items.specs.Bag.{SameBag}
use Rattle.jet_items.specs.Frames.{covers, frame_at, frame_in}
use Rattle.jet_items.specs.Kinds.{frames_of, rows_of, marks_of, as_event, as_side, as_frame, as_row, as_late, as_mark}
use Rattle.jet_items.specs.Order.{Each, EachPair, SoundAfter, LateIsBehind, ClosedAfter, IsAbove}
use Rattle.jet_items.specs.Totals.{both, total}
use Rattle.jet_items.specs.Values.{AccValue, FrameValue, RowValue}
use Rattle.jet_items.specs.declared.item.Item.{Item}
use Rattle.jet_items.specs.declared.item.Item.TheVariants as item
use Rattle.jet_items.proofs.Orders.{Each-append, Each-more, Each-front, Each-back, EachPair-append, Shadows, Shadows-refl}
use Rattle.jet_boxes.specs.Entry.{IsData, NotDone}
use Rattle.jet_window.specs.Idles.{as_idle}
use Rattle.jet_window.specs.CombineLaws.{pending_none}
use Rattle.jet_window.specs.CombineStands.{IsFrame, Promises, pending}
use Rattle.jet_window.specs.Combining.{Fits, TakesUp, Passes, row_of}
use Rattle.jet_window.specs.FrameTables.{Table, IsKept, held_at, held_in}
use Rattle.jet_window.specs.Later.{newly, later_of, later_due}
use Rattle.jet_window.specs.Passing.{Shadows-append, Shadows-more, of_none, of_both, bag_both, alone_push, marks_none, data_open, after_marks, marks_below, closed_before, closed_push}
use Rattle.jet_window.specs.Tables.{is_multiple}
use Rattle.jet_window.specs.Taken.{is_due, InOpenWindow}
use Rattle.jet_window.proofs.Fitting.{Fits-up, Fits-pass, Fits-frame, due_more, le_true}

-- the premise of what was taken before
pub weaker : {vertex : ℕ} {size slide : ℤ} {begun : Option ℤ} {start : List FrameValue} {passed : Option ℤ} {held : Table} {promised : List Item} {a b : Type 0} {items : List Item} → (b → a) → Promises vertex size slide begun start passed held promised a items → Promises vertex size slide begun start passed held promised b items
weaker f p = record {
  sound = p.sound;
  behind_lates = p.behind_lates;
  open_ended = p.open_ended;
  marks = p.marks;
  due = p.due;
  closed = p.closed;
  events = p.events;
  sides = p.sides;
  idles = p.idles;
  lates = p.lates;
  frames = p.frames;
  own = p.own;
  rows = p.rows;
  alone = p.alone;
  begins = p.begins;
  fits = λ i. p.fits (f i);
  kept = p.kept;
}

-- ---- a window is taken up
rows_shadow : (behind : ℕ → ℕ → Bool) (vertex : ℕ) (e : ℤ) (ready : List (List ℕ × AccValue)) → Shadows (SoundAfter behind) (pending vertex e ready) []
rows_shadow behind vertex e ready = record { inside = λ m. pairs ready; later = λ z m. after z ready; earlier = λ zs m. before zs ready }
  where
    free : (r : RowValue) (ys : List Item) → Each (SoundAfter behind (item.Row r)) ys
    free r [] = tt
    free r (y ∷ ys) = (tt, free r ys)

    one_after : (z : Item) (r : RowValue) → SoundAfter behind z (item.Row r)
    one_after (item.Event e) r = tt
    one_after (item.Side e) r = tt
    one_after (item.Frame e) r = tt
    one_after (item.Row e) r = tt
    one_after (item.Late e) r = tt
    one_after item.Idle r = tt
    one_after (item.Mark e) r = tt
    one_after item.Done r = tt

    after : (z : Item) (ready : List (List ℕ × AccValue)) → Each (SoundAfter behind z) (pending vertex e ready)
    after z [] = tt
    after z (p ∷ ps) = (one_after z (row_of vertex e p), after z ps)

    before : (zs : List Item) (ready : List (List ℕ × AccValue)) → Each (λ x. Each (SoundAfter behind x) zs) (pending vertex e ready)
    before zs [] = tt
    before zs (p ∷ ps) = (free (row_of vertex e p) zs, before zs ps)

    pairs : (ready : List (List ℕ × AccValue)) → EachPair (SoundAfter behind) (pending vertex e ready)
    pairs [] = tt
    pairs (p ∷ ps) = (free (row_of vertex e p) (pending vertex e ps), pairs ps)

rows_each : (P : Item → Type 0) → ((r : RowValue) → P (item.Row r)) → (vertex : ℕ) (e : ℤ) (ready : List (List ℕ × AccValue)) → Each P (pending vertex e ready)
rows_each P p vertex e [] = tt
rows_each P p vertex e (r ∷ rs) = (p (row_of vertex e r), rows_each P p vertex e rs)

rows_closed : (vertex : ℕ) (e : ℤ) (ready : List (List ℕ × AccValue)) → EachPair ClosedAfter (pending vertex e ready)
rows_closed vertex e [] = tt
rows_closed vertex e (p ∷ ps) = (free (pending vertex e ps), rows_closed vertex e ps)
  where
    free : (ys : List Item) → Each (ClosedAfter (item.Row (row_of vertex e p))) ys
    free [] = tt
    free (y ∷ ys) = (tt, free ys)

rows_above : (vertex : ℕ) (e w : ℤ) (ready : List (List ℕ × AccValue)) → w <ℤ e → Each (IsAbove w) (pending vertex e ready)
rows_above vertex e w [] h = tt
rows_above vertex e w (p ∷ ps) h = (h, rows_above vertex e w ps h)

rows_rows : (vertex : ℕ) (e : ℤ) (ready : List (List ℕ × AccValue)) → rows_of (pending vertex e ready) ≡ map (row_of vertex e) ready
rows_rows vertex e [] = refl
rows_rows vertex e (p ∷ ps) = ap (λ rs. row_of vertex e p ∷ rs) (rows_rows vertex e ps)

bag_more : (given taken own more : List RowValue) → SameBag given (taken ++ own) → SameBag (given ++ more) (taken ++ (own ++ more))
bag_more given taken own more h = record {
  weighs = λ w. omega (arith, h.weighs w, sum_by-append w given more, sum_by-append w taken own, sum_by-append w taken (own ++ more), sum_by-append w own more);
}

-- the rows that are ready bring nothing of another kind
up_none : {X : Type 0} (f : Item → List X) → ((r : RowValue) → f (item.Row r) ≡ []) → (promised : List Item) (vertex : ℕ) (e : ℤ) (ready : List (List ℕ × AccValue)) → flat_map f (promised ++ pending vertex e ready) ≡ flat_map f promised
up_none f h promised vertex e ready =
    flat_map-append f promised (pending vertex e ready) ∙ (ap (λ (us : List _). flat_map f promised ++ us) (pending_none f h vertex e ready) ∙ append-nil (flat_map f promised))

pub Promises-up : (vertex : ℕ) (size slide : ℤ) (begun : Option ℤ) (start : List FrameValue) (passed : Option ℤ) (held : Table) (promised : List Item) (input : Type 0) (items : List Item) (e : ℤ) (ready : List (List ℕ × AccValue)) (rest : Table)
    → Promises vertex size slide begun start passed held promised input items → TakesUp size slide passed held e ready rest
    → Promises vertex size slide begun start (Some e) rest (promised ++ pending vertex e ready) input items
Promises-up vertex size slide begun start passed held promised input items e ready rest p up =
    let new : List Item = pending vertex e ready in
    let new_rows : List RowValue = map (row_of vertex e) ready in
    let rows_now : rows_of (promised ++ new) ≡ rows_of promised ++ new_rows = flat_map-append as_row promised new ∙ ap (λ (rs : List RowValue). rows_of promised ++ rs) (rows_rows vertex e ready) in
    record {
      sound = λ behind. subst (λ (ys : List Item). Shadows (SoundAfter behind) (promised ++ new) ys) (append-nil items) (Shadows-append (SoundAfter behind) promised items new [] (p.sound behind) (rows_shadow behind vertex e ready));
      behind_lates = λ behind h. Each-append (LateIsBehind behind) promised new (p.behind_lates behind h) (rows_each (LateIsBehind behind) (λ r. tt) vertex e ready);
      open_ended = Each-append NotDone promised new p.open_ended (rows_each NotDone (λ r. tt) vertex e ready);
      marks = up_none as_mark (λ r. refl) promised vertex e ready ∙ p.marks;
      due = λ i. Each-more (λ w. is_due passed w ≡ true) (λ w. is_due (Some e) w ≡ true) (λ w h. let lt : w <ℤ e = due_more passed e w up.later h in le_true w e (omega (arith, ints))) (marks_of items) (p.due i);
      closed = λ i. EachPair-append ClosedAfter promised new (p.closed i) (rows_closed vertex e ready)
          (after_marks promised new p.open_ended (subst (Each (λ w. Each (IsAbove w) new)) (sym p.marks) (Each-more (λ w. is_due passed w ≡ true) (λ w. Each (IsAbove w) new) (λ w h. rows_above vertex e w ready (due_more passed e w up.later h)) (marks_of items) (p.due i))));
      events = up_none as_event (λ r. refl) promised vertex e ready ∙ p.events;
      sides = up_none as_side (λ r. refl) promised vertex e ready ∙ p.sides;
      idles = up_none as_idle (λ r. refl) promised vertex e ready ∙ p.idles;
      lates = up_none as_late (λ r. refl) promised vertex e ready ∙ p.lates;
      frames = up_none as_frame (λ r. refl) promised vertex e ready ∙ p.frames;
      own = p.own ++ new_rows;
      rows = subst (λ (rs : List RowValue). SameBag rs (rows_of items ++ (p.own ++ new_rows))) (sym rows_now) (bag_more (rows_of promised) (rows_of items) p.own new_rows p.rows);
      alone = λ none. rows_now ∙ ap (λ (rs : List RowValue). rs ++ new_rows) (p.alone none);
      begins = record { stays = λ d b. let lt : d <ℤ e = due_more passed e d up.later (p.begins.stays d b) in le_true d e (omega (arith, ints)) };
      fits = λ i. Fits-up vertex size slide begun passed held (start ++ frames_of items) p.own e ready rest p.begins (p.fits i) up;
      kept = up.kept;
    }

-- ---- an item passes as it is
no_frame : (x : Item) → (IsFrame x → ⊥) → as_frame x ≡ []
no_frame (item.Event e) h = refl
no_frame (item.Side e) h = refl
no_frame (item.Frame e) h = absurd (h tt)
no_frame (item.Row e) h = refl
no_frame (item.Late e) h = refl
no_frame item.Idle h = refl
no_frame (item.Mark e) h = refl
no_frame item.Done h = refl

pub Promises-pass : (vertex : ℕ) (size slide : ℤ) (begun : Option ℤ) (start : List FrameValue) (passed : Option ℤ) (held : Table) (promised : List Item) (input : Type 0) (items : List Item) (x : Item) → (IsFrame x → ⊥) → IsData x
    → Promises vertex size slide begun start passed held promised input items → Promises vertex size slide begun start passed held (promised ++ x ∷ []) input (items ++ x ∷ [])
Promises-pass vertex size slide begun start passed held promised input items x none data_is p =
    let same_marks : marks_of (items ++ x ∷ []) ≡ marks_of items = of_none as_mark items x (marks_none x data_is) in
    record {
      sound = λ behind. Shadows-append (SoundAfter behind) promised items (x ∷ []) (x ∷ []) (p.sound behind) (Shadows-refl (SoundAfter behind) (x ∷ []));
      behind_lates = λ behind h. Each-append (LateIsBehind behind) promised (x ∷ []) (p.behind_lates behind (Each-front (LateIsBehind behind) items (x ∷ []) h)) (Each-back (LateIsBehind behind) items (x ∷ []) h);
      open_ended = Each-append NotDone promised (x ∷ []) p.open_ended (data_open x data_is, tt);
      marks = of_both as_mark promised items x p.marks;
      due = λ i. subst (Each (λ w. is_due passed w ≡ true)) (sym same_marks) (p.due (closed_before items x i));
      closed = λ i. closed_push promised items x p.open_ended p.marks (p.closed (closed_before items x i)) i;
      events = of_both as_event promised items x p.events;
      sides = of_both as_side promised items x p.sides;
      idles = of_both as_idle promised items x p.idles;
      lates = of_both as_late promised items x p.lates;
      frames = of_none as_frame promised x (no_frame x none) ∙ p.frames;
      own = p.own;
      rows = bag_both as_row promised items p.own x p.rows;
      alone = alone_push as_row promised items p.own x p.alone;
      begins = p.begins;
      fits = λ i. subst (λ (fs : List FrameValue). Fits vertex size slide begun passed held (start ++ fs) p.own) (sym (of_none as_frame items x (no_frame x none))) (p.fits i);
      kept = p.kept;
    }

-- ---- a frame is taken
pub Promises-frame : (vertex : ℕ) (size slide : ℤ) (begun : Option ℤ) (start : List FrameValue) (passed : Option ℤ) (held : Table) (promised : List Item) (input : Type 0) (items : List Item) (f : FrameValue) (held' : Table)
    → (input → (d : ℤ) → is_multiple slide d ≡ true → newly begun (is_due passed) d ≡ true → covers size d f.end ≡ false)
    → ((d : ℤ) (key : List ℕ) → is_multiple slide d ≡ true → is_due passed d ≡ false → total (held_in size d key) held' ≡ both (frame_in size d key f) (total (held_in size d key) held))
    → ((d : ℤ) (key : List ℕ) → InOpenWindow size slide (is_due passed) d → total (held_at d key) held' ≡ both (frame_at d key f) (total (held_at d key) held)) → IsKept held'
    → Promises vertex size slide begun start passed held promised input items → Promises vertex size slide begun start passed held' promised input (items ++ item.Frame f ∷ [])
Promises-frame vertex size slide begun start passed held promised input items f held' later grows grows_at order p =
    let v : Item = item.Frame f in
    let same_rows : rows_of (items ++ v ∷ []) ≡ rows_of items = of_none as_row items v refl in
    record {
      sound = λ behind. Shadows-more (SoundAfter behind) promised items (v ∷ []) (p.sound behind);
      behind_lates = λ behind h. p.behind_lates behind (Each-front (LateIsBehind behind) items (v ∷ []) h);
      open_ended = p.open_ended;
      marks = p.marks ∙ sym (of_none as_mark items v refl);
      due = λ i. subst (Each (λ w. is_due passed w ≡ true)) (sym (of_none as_mark items v refl)) (p.due (closed_before items v i));
      closed = λ i. p.closed (closed_before items v i);
      events = p.events ∙ sym (of_none as_event items v refl);
      sides = p.sides ∙ sym (of_none as_side items v refl);
      idles = p.idles ∙ sym (of_none as_idle items v refl);
      lates = p.lates ∙ sym (of_none as_late items v refl);
      frames = p.frames;
      own = p.own;
      rows = subst (λ (rs : List RowValue). SameBag (rows_of promised) (rs ++ p.own)) (sym same_rows) p.rows;
      alone = λ none. p.alone (sym same_rows ∙ none);
      begins = p.begins;
      fits = λ i. subst (λ (fs : List FrameValue). Fits vertex size slide begun passed held' fs p.own) (append_assoc start (frames_of items) (f ∷ []) ∙ ap (λ (fs : List FrameValue). start ++ fs) (sym (flat_map-append as_frame items (v ∷ []))))
          (Fits-frame vertex size slide begun passed held (start ++ frames_of items) p.own f held' (p.fits i) (later i) grows grows_at);
      kept = order;
    }

-- ---- a mark is told
or_true : (b c : Bool) → c ≡ true → (b || c) ≡ true
or_true true c h = refl
or_true false c h = h

pub Promises-mark : (vertex : ℕ) (size slide : ℤ) (begun : Option ℤ) (start : List FrameValue) (passed : Option ℤ) (held : Table) (promised : List Item) (input : Type 0) (items : List Item) (t : ℤ) (inputs : Type 0)
    → (inputs → input) → (inputs → Passes passed (later_of begun (Some t)))
    → ((d : ℤ) (key : List ℕ) → is_multiple slide d ≡ true → is_due passed d ≡ false → is_due (later_of begun (Some t)) d ≡ true → total (held_in size d key) held ≡ None)
    → Promises vertex size slide begun start passed held promised input items → Promises vertex size slide begun start (later_of begun (Some t)) held (promised ++ item.Mark t ∷ []) inputs (items ++ item.Mark t ∷ [])
Promises-mark vertex size slide begun start passed held promised input items t inputs back passes clear p =
    let m : Item = item.Mark t in
    let next : Option ℤ = later_of begun (Some t) in
    let up_to : (w : ℤ) → w ≤ℤ t → is_due next w ≡ true = λ w le. later_due begun (Some t) w ∙ or_true (is_due begun w) (int_le w t) (le_true w t le) in
    let x : List Item = m ∷ [] in
    let same_rows : rows_of (items ++ x) ≡ rows_of items = of_none as_row items m refl in
    record {
      sound = λ behind. Shadows-append (SoundAfter behind) promised items x x (p.sound behind) (Shadows-refl (SoundAfter behind) x);
      behind_lates = λ behind h. Each-append (LateIsBehind behind) promised x (p.behind_lates behind (Each-front (LateIsBehind behind) items x h)) (Each-back (LateIsBehind behind) items x h);
      open_ended = Each-append NotDone promised x p.open_ended (tt, tt);
      marks = of_both as_mark promised items m p.marks;
      due = λ i. subst (Each (λ w. is_due next w ≡ true)) (sym (flat_map-append as_mark items x))
          (Each-append (λ w. is_due next w ≡ true) (marks_of items) (t ∷ [])
          (Each-more (λ w. Each (IsAbove w) x) (λ w. is_due next w ≡ true) (λ w h. let lt : w <ℤ t = h.0 in up_to w (omega (arith, ints))) (marks_of items) (marks_below items m i))
          (up_to t (omega (arith, ints)), tt));
      closed = λ i. closed_push promised items m p.open_ended p.marks (p.closed (closed_before items m i)) i;
      events = of_both as_event promised items m p.events;
      sides = of_both as_side promised items m p.sides;
      idles = of_both as_idle promised items m p.idles;
      lates = of_both as_late promised items m p.lates;
      frames = of_none as_frame promised m refl ∙ p.frames;
      own = p.own;
      rows = bag_both as_row promised items p.own m p.rows;
      alone = alone_push as_row promised items p.own m p.alone;
      begins = record { stays = λ d b. later_due begun (Some t) d ∙ rw b refl };
      fits = λ i. subst (λ (fs : List FrameValue). Fits vertex size slide begun next held (start ++ fs) p.own) (sym (of_none as_frame items m refl))
          (Fits-pass vertex size slide begun passed next held (start ++ frames_of items) p.own (p.fits (back i)) (passes i) clear);
      kept = p.kept;
    }
