-- Windows that are taken up, times that pass, frames that are taken and forgotten: each keeps the rows and the held frames right.
use Rattle.std.proofs.Common.{◌≡◌, ℕ, Bool, true, false, cond, ◌&&◌, ℤ, ◌<ℤ◌, ◌≤ℤ◌, List, [], ◌∷◌, ◌++◌, map, Option, Some, None, refl, sym, ◌∙◌, ap, subst, arith, append-nil}
use Rattle.std.specs.Prelude.{int_le, int_lt, bytes_eq}
use Rattle.std.specs.Ordering.{int_eq, nat_cmp, int_cmp, ordering_then}
use Rattle.std.specs.Cmp.Lexicographic.{slice_cmp}
use Rattle.std.specs.declared.cmp.Ordering.{Ordering}
use Rattle.std.specs.declared.cmp.Ordering.TheVariants.{Less}
use Rattle.std.proofs.lemmas.Int.{ints, by_lt_z}
use Rattle.std.proofs.lemmas.Bool.Decides.{Decides-int_eq}
use Rattle.std.proofs.lemmas.List.Concat.{flat_map-append}
use Rattle.jet_items.specs.Values.{AccValue, FrameValue, RowValue}
use Rattle.jet_items.specs.Totals.{both, total}
use Rattle.jet_items.specs.Frames.{only, covers, frame_at, frame_in}
use Rattle.jet_items.specs.Order.{Each, EachPair}
use Rattle.jet_items.proofs.Orders.{Each-append, Each-more, EachPair-append}
use Rattle.jet_items.proofs.Totaling.{both_none, both_comm, total-append}
use Rattle.jet_items.proofs.Covering.{Decides-int_lt, Decides-int_le, Decides-covers, false_from, not_so}
use Rattle.jet_window.specs.FrameTables.{Table, held_at, held_in}
use Rattle.jet_window.specs.Tables.{is_multiple}
use Rattle.jet_window.specs.Taken.{is_due, InOpenWindow}
use Rattle.jet_window.specs.WindowRows.{as_list, row_at, rows_at, Rises}
use Rattle.jet_window.specs.Combining.{row_of, accs_at, Fits, TakesUp, Passes, Forgets}
use Rattle.jet_window.specs.Later.{newly}

-- ---- what is due
pub due_more : (passed : Option ℤ) (e d : ℤ) → is_due passed e ≡ false → is_due passed d ≡ true → d <ℤ e
due_more None e d h k = absurd (cc)
due_more (Some p) e d h k =
    let le : d ≤ℤ p = (Decides-int_le d p).0 k in
    by_lt_z d e (λ lt. lt) (λ above. absurd (not_so (int_le e p) (Decides-int_le e p) h (omega (arith, ints))))

pub not_due_above : (passed : Option ℤ) (e d : ℤ) → is_due passed e ≡ false → e ≤ℤ d → is_due passed d ≡ false
not_due_above None e d h k = refl
not_due_above (Some p) e d h k = false_from (int_le d p) (Decides-int_le d p) (λ le. not_so (int_le e p) (Decides-int_le e p) h (omega (arith, ints)))

pub le_true : (a b : ℤ) → a ≤ℤ b → int_le a b ≡ true
le_true a b h = (Decides-int_le a b).1 h

le_false : (a b : ℤ) → b <ℤ a → int_le a b ≡ false
le_false a b h = false_from (int_le a b) (Decides-int_le a b) (λ le. absurd (omega (arith, ints)))

eq_false : (a b : ℤ) → a <ℤ b → (int_eq a b ≡ false) × (int_eq b a ≡ false)
eq_false a b h = (false_from (int_eq a b) (Decides-int_eq a b) (λ e. absurd (omega (arith, ints))), false_from (int_eq b a) (Decides-int_eq b a) (λ e. absurd (omega (arith, ints))))

-- ---- the rows of one window
both_tests : (b c : Bool) (a : AccValue) → c ≡ true → as_list (only (b && c) a) ≡ as_list (only b a)
both_tests true true a h = refl
both_tests false c a h = refl
both_tests true false a h = absurd (cc)

no_test : (b c : Bool) (a : AccValue) → c ≡ false → as_list (only (b && c) a) ≡ []
no_test true false a h = refl
no_test false c a h = refl
no_test true true a h = absurd (cc)

ready_here : (vertex : ℕ) (e : ℤ) (key : List ℕ) (ready : List (List ℕ × AccValue)) → rows_at e key (map (row_of vertex e) ready) ≡ accs_at key ready
ready_here vertex e key [] = refl
ready_here vertex e key (p ∷ ps) =
    ap (λ xs. xs ++ rows_at e key (map (row_of vertex e) ps)) (both_tests (bytes_eq p.0 key) (int_eq e e) p.1 ((Decides-int_eq e e).1 refl))
    ∙ ap (λ xs. as_list (only (bytes_eq p.0 key) p.1) ++ xs) (ready_here vertex e key ps)

ready_apart : (vertex : ℕ) (e d : ℤ) (key : List ℕ) (ready : List (List ℕ × AccValue)) → int_eq e d ≡ false → rows_at d key (map (row_of vertex e) ready) ≡ []
ready_apart vertex e d key [] h = refl
ready_apart vertex e d key (p ∷ ps) h =
    ap (λ xs. xs ++ rows_at d key (map (row_of vertex e) ps)) (no_test (bytes_eq p.0 key) (int_eq e d) p.1 h) ∙ ready_apart vertex e d key ps h

rows_split : (e : ℤ) (key : List ℕ) (xs ys : List RowValue) → rows_at e key (xs ++ ys) ≡ rows_at e key xs ++ rows_at e key ys
rows_split e key xs ys = flat_map-append (λ r. as_list (row_at e key r)) xs ys

false_pick : {X : Type 0} (b : Bool) (x y : X) → b ≡ false → cond b x y ≡ y
false_pick true x y h = absurd (cc)
false_pick false x y h = refl

and_false : (b c : Bool) → c ≡ false → (b && c) ≡ false
and_false true c h = h
and_false false c h = refl

-- ---- a window is taken up
-- below the window nothing is new: what was not due before has no frame
pub below_case : (g m b : Bool) (t : Option AccValue) → (m ≡ true → b ≡ false → t ≡ None) → as_list (cond (m && cond g false b) t None) ≡ as_list (cond (m && cond g false true) t None)
below_case true m b t h = refl
below_case false true true t h = refl
below_case false true false t h = rw (h refl refl) refl
below_case false false b t h = refl

-- what is not due is not newly due
pub newly_false : (g b : Bool) → b ≡ false → cond g false b ≡ false
newly_false true b h = refl
newly_false false b h = h

-- what has not passed was not due at the beginning
pub not_begun : (begun passed : Option ℤ) (e : ℤ) → Passes begun passed → is_due passed e ≡ false → is_due begun e ≡ false
not_begun begun passed e b h = from (is_due begun e) refl
  where
    true_false : true ≡ false → ⊥
    true_false h = absurd (cc)

    from : (g : Bool) → is_due begun e ≡ g → is_due begun e ≡ false
    from true is = absurd (true_false (sym (b.stays e is) ∙ h))
    from false is = is

true_false : true ≡ false → ⊥
true_false h = absurd (cc)

up_each : (vertex : ℕ) (size slide : ℤ) (begun passed : Option ℤ) (held : Table) (frames : List FrameValue) (rows : List RowValue) (e : ℤ) (ready : List (List ℕ × AccValue)) (rest : Table)
    → Passes begun passed → Fits vertex size slide begun passed held frames rows → TakesUp size slide passed held e ready rest
    → (d : ℤ) (key : List ℕ) → rows_at d key (rows ++ map (row_of vertex e) ready) ≡ as_list (cond (is_multiple slide d && newly begun (is_due (Some e)) d) (total (frame_in size d key) frames) None)
up_each vertex size slide begun passed held frames rows e ready rest begins fits up d key =
    rows_split d key rows (map (row_of vertex e) ready) ∙ by_lt_z d e below (λ le. by_lt_z e d above (λ ge. here (omega (arith, ints))))
  where
    old : rows_at d key rows ≡ as_list (cond (is_multiple slide d && newly begun (is_due passed) d) (total (frame_in size d key) frames) None)
    old = fits.rows_are.each d key

    none : (z : ℤ) → is_due passed z ≡ false → rows_at z key rows ≡ []
    none z h = fits.rows_are.each z key ∙ ap as_list (false_pick (is_multiple slide z && newly begun (is_due passed) z) (total (frame_in size z key) frames) None (and_false (is_multiple slide z) (newly begun (is_due passed) z) (newly_false (is_due begun z) (is_due passed z) h)))

    below : d <ℤ e → rows_at d key rows ++ rows_at d key (map (row_of vertex e) ready) ≡ as_list (cond (is_multiple slide d && newly begun (is_due (Some e)) d) (total (frame_in size d key) frames) None)
    below lt =
        rw (ready_apart vertex e d key ready (eq_false d e lt).1)
        (append-nil (rows_at d key rows) ∙ (old ∙ (below_case (is_due begun d) (is_multiple slide d) (is_due passed d) (total (frame_in size d key) frames) (λ m b. sym (fits.held_is d key m b) ∙ up.skips d key m b lt)
        ∙ ap (λ b. as_list (cond (is_multiple slide d && cond (is_due begun d) false b) (total (frame_in size d key) frames) None)) (sym (le_true d e (omega (arith, ints)))))))

    above : e <ℤ d → rows_at d key rows ++ rows_at d key (map (row_of vertex e) ready) ≡ as_list (cond (is_multiple slide d && newly begun (is_due (Some e)) d) (total (frame_in size d key) frames) None)
    above gt =
        rw (ready_apart vertex e d key ready (eq_false e d gt).0)
        (append-nil (rows_at d key rows) ∙ (none d (not_due_above passed e d up.later (omega (arith, ints)))
        ∙ ap as_list (sym (false_pick (is_multiple slide d && newly begun (is_due (Some e)) d) (total (frame_in size d key) frames) None (and_false (is_multiple slide d) (newly begun (is_due (Some e)) d) (newly_false (is_due begun d) (int_le d e) (le_false d e gt)))))))

    at_end : rows_at e key rows ++ rows_at e key (map (row_of vertex e) ready) ≡ as_list (cond (is_multiple slide e && newly begun (is_due (Some e)) e) (total (frame_in size e key) frames) None)
    at_end =
        rw (ready_here vertex e key ready) (rw (none e up.later)
        (up.ready_is key ∙ (ap as_list (fits.held_is e key up.multiple up.later) ∙ (rw up.multiple (rw (not_begun begun passed e begins up.later) (rw (le_true e e (omega (arith, ints))) refl))))))

    here : e ≡ d → rows_at d key rows ++ rows_at d key (map (row_of vertex e) ready) ≡ as_list (cond (is_multiple slide d && newly begun (is_due (Some e)) d) (total (frame_in size d key) frames) None)
    here is = subst (λ (z : ℤ). rows_at z key rows ++ rows_at z key (map (row_of vertex e) ready) ≡ as_list (cond (is_multiple slide z && newly begun (is_due (Some e)) z) (total (frame_in size z key) frames) None)) is at_end

ready_vertices : (vertex : ℕ) (e : ℤ) (ready : List (List ℕ × AccValue)) → Each (λ (r : RowValue). r.vertex ≡ vertex) (map (row_of vertex e) ready)
ready_vertices vertex e [] = tt
ready_vertices vertex e (p ∷ ps) = (refl, ready_vertices vertex e ps)

ready_within : (vertex : ℕ) (e : ℤ) (ready : List (List ℕ × AccValue)) → Each (λ (r : RowValue). int_le r.end e ≡ true) (map (row_of vertex e) ready)
ready_within vertex e [] = tt
ready_within vertex e (p ∷ ps) = (le_true e e (omega (arith, ints)), ready_within vertex e ps)

pub less_then : (a b : ℤ) (o : Ordering) → a <ℤ b → ordering_then (int_cmp a b) o ≡ Less
less_then a b o h = rw ((Decides-int_lt a b).1 h) refl

same_then : (a : ℤ) (o : Ordering) → o ≡ Less → ordering_then (int_cmp a a) o ≡ Less
same_then a o h = rw (false_from (int_lt a a) (Decides-int_lt a a) (λ lt. absurd (omega (arith, ints)))) h

ready_rises : (vertex : ℕ) (e : ℤ) (ready : List (List ℕ × AccValue)) → EachPair (λ (a b : List ℕ × AccValue). slice_cmp nat_cmp a.0 b.0 ≡ Less) ready → EachPair Rises (map (row_of vertex e) ready)
ready_rises vertex e [] h = tt
ready_rises vertex e (p ∷ ps) h = (each p ps h.0, ready_rises vertex e ps h.1)
  where
    each : (p : List ℕ × AccValue) (ps : List (List ℕ × AccValue)) → Each (λ (b : List ℕ × AccValue). slice_cmp nat_cmp p.0 b.0 ≡ Less) ps → Each (Rises (row_of vertex e p)) (map (row_of vertex e) ps)
    each p [] h = tt
    each p (q ∷ qs) h = (same_then e (slice_cmp nat_cmp p.0 q.0) h.0, each p qs h.1)

-- rows that are due stand before those of a later window
before_ready : (vertex : ℕ) (passed : Option ℤ) (e : ℤ) → is_due passed e ≡ false → (rows : List RowValue) (ready : List (List ℕ × AccValue)) → Each (λ (r : RowValue). is_due passed r.end ≡ true) rows → Each (λ r. Each (Rises r) (map (row_of vertex e) ready)) rows
before_ready vertex passed e later [] ready h = tt
before_ready vertex passed e later (r ∷ rows) ready h = (each ready, before_ready vertex passed e later rows ready h.1)
  where
    each : (ready : List (List ℕ × AccValue)) → Each (Rises r) (map (row_of vertex e) ready)
    each [] = tt
    each (p ∷ ps) = (less_then r.end e (slice_cmp nat_cmp r.key p.0) (due_more passed e r.end later h.0), each ps)

pub Fits-up : (vertex : ℕ) (size slide : ℤ) (begun passed : Option ℤ) (held : Table) (frames : List FrameValue) (rows : List RowValue) (e : ℤ) (ready : List (List ℕ × AccValue)) (rest : Table)
    → Passes begun passed → Fits vertex size slide begun passed held frames rows → TakesUp size slide passed held e ready rest
    → Fits vertex size slide begun (Some e) rest frames (rows ++ map (row_of vertex e) ready)
Fits-up vertex size slide begun passed held frames rows e ready rest begins fits up =
    let new : List RowValue = map (row_of vertex e) ready in
    record {
      held_is = λ d key m b.
          let gt : e <ℤ d = by_lt_z e d (λ lt. lt) (λ le. absurd (not_so (int_le d e) (Decides-int_le d e) b le)) in
          up.leaves d key m gt ∙ fits.held_is d key m (not_due_above passed e d up.later (omega (arith, ints)));
      held_at_is = λ d key w.
          let gt : e <ℤ w.0 = by_lt_z e w.0 (λ lt. lt) (λ le. absurd (not_so (int_le w.0 e) (Decides-int_le w.0 e) w.3 le)) in
          up.leaves_at d key w ∙ fits.held_at_is d key (w.0, w.1, w.2, not_due_above passed e w.0 up.later (omega (arith, ints)));
      rows_are = record {
        each = up_each vertex size slide begun passed held frames rows e ready rest begins fits up;
        vertices = Each-append (λ (r : RowValue). r.vertex ≡ vertex) rows new fits.rows_are.vertices (ready_vertices vertex e ready);
        rising = EachPair-append Rises rows new fits.rows_are.rising (ready_rises vertex e ready up.rising) (before_ready vertex passed e up.later rows ready fits.within);
      };
      within = Each-append (λ (r : RowValue). int_le r.end e ≡ true) rows new
          (Each-more (λ (r : RowValue). is_due passed r.end ≡ true) (λ (r : RowValue). int_le r.end e ≡ true) (λ r h. let lt : r.end <ℤ e = due_more passed e r.end up.later h in le_true r.end e (omega (arith, ints))) rows fits.within)
          (ready_within vertex e ready);
    }

-- ---- a time passes
pass_case : (g m b c : Bool) (t : Option AccValue) → (b ≡ true → c ≡ true) → (m ≡ true → b ≡ false → c ≡ true → t ≡ None) → as_list (cond (m && cond g false b) t None) ≡ as_list (cond (m && cond g false c) t None)
pass_case true m b c t h k = refl
pass_case false m true c t h k = rw (h refl) refl
pass_case false m false false t h k = refl
pass_case false false false true t h k = refl
pass_case false true false true t h k = rw (k refl refl refl) refl

-- no window is left that is due next and has a frame
pub Fits-pass : (vertex : ℕ) (size slide : ℤ) (begun passed next : Option ℤ) (held : Table) (frames : List FrameValue) (rows : List RowValue)
    → Fits vertex size slide begun passed held frames rows → Passes passed next
    → ((d : ℤ) (key : List ℕ) → is_multiple slide d ≡ true → is_due passed d ≡ false → is_due next d ≡ true → total (held_in size d key) held ≡ None)
    → Fits vertex size slide begun next held frames rows
Fits-pass vertex size slide begun passed next held frames rows fits passes clear =
    record {
      held_is = λ d key m b. fits.held_is d key m (not_begun passed next d passes b);
      held_at_is = λ d key w. fits.held_at_is d key (w.0, w.1, w.2, not_begun passed next w.0 passes w.3);
      rows_are = record {
        each = λ d key. fits.rows_are.each d key
            ∙ pass_case (is_due begun d) (is_multiple slide d) (is_due passed d) (is_due next d) (total (frame_in size d key) frames)
            (λ b. passes.stays d b)
            (λ m b c. sym (fits.held_is d key m b) ∙ clear d key m b c);
        vertices = fits.rows_are.vertices;
        rising = fits.rows_are.rising;
      };
      within = Each-more (λ (r : RowValue). is_due passed r.end ≡ true) (λ (r : RowValue). is_due next r.end ≡ true) (λ r h. passes.stays r.end h) rows fits.within;
    }

-- ---- a frame is taken
pub total-push : {X : Type 0} (share : X → Option AccValue) (xs : List X) (x : X) → total share (xs ++ x ∷ []) ≡ both (share x) (total share xs)
total-push share xs x = total-append share xs (x ∷ []) ∙ (ap (both (total share xs)) (both_none (share x)) ∙ both_comm (total share xs) (share x))

-- a frame that ends above what passed touches no window that passed
pub not_covered : (passed : Option ℤ) (size d end : ℤ) → is_due passed end ≡ false → is_due passed d ≡ true → covers size d end ≡ false
not_covered passed size d end h k =
    false_from (covers size d end) (Decides-covers size d end) (λ c. let q = c.1 in let lt : d <ℤ end = due_more passed end d h k in absurd (omega (arith, ints)))

pub share_none : (b c : Bool) (a : AccValue) → c ≡ false → only (b && c) a ≡ None
share_none true true a h = absurd (cc)
share_none true false a h = refl
share_none false c a h = refl

frame_case : (m g : Bool) (s t : Option AccValue) → (m ≡ true → g ≡ true → s ≡ None) → as_list (cond (m && g) t None) ≡ as_list (cond (m && g) (both t (both s None)) None)
frame_case true true s t h = rw (h refl refl) (ap as_list (sym (both_none t)))
frame_case true false s t h = refl
frame_case false g s t h = refl

-- it brings nothing to windows whose rows were given, and what it brings to the others is held
pub Fits-frame : (vertex : ℕ) (size slide : ℤ) (begun passed : Option ℤ) (held : Table) (frames : List FrameValue) (rows : List RowValue) (f : FrameValue) (held' : Table)
    → Fits vertex size slide begun passed held frames rows
    → ((d : ℤ) → is_multiple slide d ≡ true → newly begun (is_due passed) d ≡ true → covers size d f.end ≡ false)
    → ((d : ℤ) (key : List ℕ) → is_multiple slide d ≡ true → is_due passed d ≡ false → total (held_in size d key) held' ≡ both (frame_in size d key f) (total (held_in size d key) held))
    → ((d : ℤ) (key : List ℕ) → InOpenWindow size slide (is_due passed) d → total (held_at d key) held' ≡ both (frame_at d key f) (total (held_at d key) held))
    → Fits vertex size slide begun passed held' (frames ++ f ∷ []) rows
Fits-frame vertex size slide begun passed held frames rows f held' fits later grows grows_at =
    record {
      held_is = λ d key m b. grows d key m b ∙ (ap (both (frame_in size d key f)) (fits.held_is d key m b) ∙ sym (total-push (frame_in size d key) frames f));
      held_at_is = λ d key w. grows_at d key w ∙ (ap (both (frame_at d key f)) (fits.held_at_is d key w) ∙ sym (total-push (frame_at d key) frames f));
      rows_are = record {
        each = λ d key. fits.rows_are.each d key
            ∙ (frame_case (is_multiple slide d) (newly begun (is_due passed) d) (frame_in size d key f) (total (frame_in size d key) frames)
            (λ m b. share_none (bytes_eq f.key key) (covers size d f.end) f.acc (later d m b))
            ∙ ap (λ t. as_list (cond (is_multiple slide d && newly begun (is_due passed) d) t None)) (sym (total-append (frame_in size d key) frames (f ∷ []))));
        vertices = fits.rows_are.vertices;
        rising = fits.rows_are.rising;
      };
      within = fits.within;
    }

-- what is newly due after a beginning alone
never_new : (g m : Bool) (t : Option AccValue) → as_list {X = AccValue} None ≡ as_list (cond (m && cond g false g) t None)
never_new true true t = refl
never_new true false t = refl
never_new false true t = refl
never_new false false t = refl

pub Fits-start : (vertex : ℕ) (size slide : ℤ) (begun : Option ℤ) (held : Table) (frames : List FrameValue) → ((e : ℤ) (key : List ℕ) → total (held_in size e key) held ≡ total (frame_in size e key) frames)
    → ((end : ℤ) (key : List ℕ) → total (held_at end key) held ≡ total (frame_at end key) frames) → Fits vertex size slide begun begun held frames []
Fits-start vertex size slide begun held frames joins joins_at = record {
  held_is = λ e key m b. joins e key;
  held_at_is = λ d key w. joins_at d key;
  rows_are = record { each = λ e key. never_new (is_due begun e) (is_multiple slide e) (total (frame_in size e key) frames); vertices = tt; rising = tt };
  within = tt;
}

-- ---- frames are forgotten
pub Fits-forget : (vertex : ℕ) (size slide : ℤ) (begun passed : Option ℤ) (held rest : Table) (frames : List FrameValue) (rows : List RowValue)
    → Fits vertex size slide begun passed held frames rows → Forgets size slide passed held rest → Fits vertex size slide begun passed rest frames rows
Fits-forget vertex size slide begun passed held rest frames rows fits f = record {
  held_is = λ d key m b. f.leaves d key m b ∙ fits.held_is d key m b;
  held_at_is = λ d key w. f.leaves_at d key w ∙ fits.held_at_is d key w;
  rows_are = fits.rows_are;
  within = fits.within;
}
