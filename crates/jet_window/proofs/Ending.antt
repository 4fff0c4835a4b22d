-- Window ends above a time.
use Rattle.std.proofs.Common.{◌≡◌, ℕ, Bool, true, false, cond, ℤ, pos, ◌+ℤ◌, ◌-ℤ◌, ◌<ℤ◌, ◌≤ℤ◌, List, [], ◌∷◌, ◌++◌, drop, append_assoc, Option, Some, None, refl, sym, ◌∙◌, ap, subst, arith, ◌&&◌}
use Rattle.std.specs.Prelude.{int_le, int_lt, bytes_eq, slice_get, length, ◌<◌, IsSome, IfSome}
use Rattle.std.specs.Option.{option_map}
use Rattle.std.specs.declared.cmp.Ordering.{Ordering}
use Rattle.std.specs.declared.cmp.Ordering.TheVariants.{Less, Equal, Greater}
use Rattle.std.specs.Cmp.Lexicographic.{slice_cmp}
use Rattle.jet_items.proofs.Orders.{Each-more}
use Rattle.jet_items.specs.Ranges.{IsWithin, most_frame_end}
use Rattle.std.specs.Int.{int_rem_euclid}
use Rattle.std.specs.Ordering.{int_eq, nat_cmp, ordering_then}
use Rattle.std.proofs.lemmas.Int.{ints, by_lt_z}
use Rattle.std.proofs.lemmas.Bool.Decides.{Decides-int_eq}
use Rattle.jet_items.specs.Grid.{IsMultiple, IsFrameEnd, IsFloor, floor_to}
use Rattle.std.proofs.lemmas.Slice.Eq.{bytes_eq-Decides}
use Rattle.jet_policy.specs.Policy.{IsPolicy, IsLastEnd}
use Rattle.jet_policy.proofs.LastEnd.{last_end_is}
use Rattle.jet_items.proofs.GridLemmas.{floor_is, frame_end_is, multiple_apart, rem_bounds}
use Rattle.jet_items.proofs.Covering.{Decides-int_lt, Decides-int_le, Decides-covers, false_from, not_so}
use Rattle.jet_items.specs.Values.{AccValue}
use Rattle.jet_items.specs.Totals.{both, total}
use Rattle.jet_items.specs.Frames.{only, covers}
use Rattle.jet_items.specs.Order.{Each}
use Rattle.jet_window.specs.Tables.{Place, place_cmp}
use Rattle.jet_window.specs.FrameTables.{Table, held_in, Ordered, IsKept}
use Rattle.jet_window.specs.Tables.{is_multiple}
use Rattle.jet_window.specs.Taken.{is_due, InOpenWindow}
use Rattle.jet_window.specs.Combining.{Forgets, IsOver}
use Rattle.jet_window.specs.inner.NextEnds.{IsEndAbove, IsNextEnd, HeldUntil}

-- the test and the fact
pub multiple_test : (slide e : ℤ) → pos 1 ≤ℤ slide → IsMultiple slide e → is_multiple slide e ≡ true
multiple_test slide e low h =
    let floor : IsFloor slide e (floor_to slide e) = floor_is slide e low in
    let bounds = rem_bounds e slide low in
    let le : e ≤ℤ floor_to slide e = floor.greatest e h (omega (arith, ints)) in
    (Decides-int_eq (int_rem_euclid e slide) (pos 0)).1 (omega (arith, ints, bounds))

pub multiple_fact : (slide e : ℤ) → pos 1 ≤ℤ slide → is_multiple slide e ≡ true → IsMultiple slide e
multiple_fact slide e low h =
    let floor : IsFloor slide e (floor_to slide e) = floor_is slide e low in
    let none : int_rem_euclid e slide ≡ pos 0 = (Decides-int_eq (int_rem_euclid e slide) (pos 0)).0 h in
    let is : floor_to slide e ≡ e = omega (arith, ints) in
    subst (IsMultiple slide) is floor.multiple

pub due_false : (p e : ℤ) → p <ℤ e → int_le e p ≡ false
due_false p e h = false_from (int_le e p) (Decides-int_le e p) (λ le. absurd (omega (arith, ints)))

due_false_fact : (p e : ℤ) → int_le e p ≡ false → p <ℤ e
due_false_fact p e h = by_lt_z p e (λ lt. lt) (λ le. absurd (not_so (int_le e p) (Decides-int_le e p) h le))

pub above_passed : (slide end p e : ℤ) → pos 1 ≤ℤ slide → IsFrameEnd slide p e → end ≤ℤ p → IsEndAbove slide (Some p) end e
above_passed slide end p e low f le =
    let above : p <ℤ e = f.above in
    record {
      multiple = multiple_test slide e low f.multiple;
      later = due_false p e above;
      at_least = omega (arith, ints);
      least = λ d m b k. f.least d (multiple_fact slide d low m) (due_false_fact p d b);
    }

pub above_end : (slide : ℤ) (passed : Option ℤ) (end e : ℤ) → pos 1 ≤ℤ slide → IsFrameEnd slide (end -ℤ pos 1) e → is_due passed end ≡ false → IsEndAbove slide passed end e
above_end slide passed end e low f later =
    let above : (end -ℤ pos 1) <ℤ e = f.above in
    record {
      multiple = multiple_test slide e low f.multiple;
      later = not_due passed later;
      at_least = omega (arith, ints);
      least = λ d m b k. f.least d (multiple_fact slide d low m) (omega (arith, ints));
    }
  where
    not_due : (o : Option ℤ) → is_due o end ≡ false → is_due o e ≡ false
    not_due None h = refl
    not_due (Some p) h = let lt : p <ℤ end = due_false_fact p end h in let above : (end -ℤ pos 1) <ℤ e = f.above in due_false p e (omega (arith, ints))

-- a frame whose windows have all passed brings nothing to an open one
stale : (size slide : ℤ) (passed : Option ℤ) (end e d : ℤ) (b : Bool) (a : AccValue) → IsEndAbove slide passed end e → (end +ℤ size) ≤ℤ e → is_multiple slide d ≡ true → is_due passed d ≡ false → only (b && covers size d end) a ≡ None
stale size slide passed end e d b a up le m due =
    rw (false_from (covers size d end) (Decides-covers size d end) (λ c. let p = c.0 in let q = c.1 in let low : e ≤ℤ d = up.least d m due q in absurd (omega (arith, ints)))) (none b)
  where
    none : (b : Bool) → only (b && false) a ≡ None
    none true = refl
    none false = refl

stale_at : (size slide : ℤ) (passed : Option ℤ) (end e d : ℤ) (b : Bool) (a : AccValue) → IsEndAbove slide passed end e → (end +ℤ size) ≤ℤ e → InOpenWindow size slide (is_due passed) d → only (b && int_eq end d) a ≡ None
stale_at size slide passed end e d b a up le w =
    rw (false_from (int_eq end d) (Decides-int_eq end d) (λ same. let at : end ≡ d = same in let c = (Decides-covers size w.0 d).0 w.2 in let p = c.0 in let q = c.1 in let low : e ≤ℤ w.0 = up.least w.0 w.1 w.3 (omega (arith, ints)) in absurd (omega (arith, ints)))) (none b)
  where
    none : (b : Bool) → only (b && false) a ≡ None
    none true = refl
    none false = refl

pub forget_first : (size slide : ℤ) (passed : Option ℤ) (f : Place × AccValue) (fs : Table) (e : ℤ) → IsEndAbove slide passed f.0.0 e → (f.0.0 +ℤ size) ≤ℤ e → Forgets size slide passed (f ∷ fs) fs
forget_first size slide passed f fs e up le = record {
  leaves = λ d key m b. rw (stale size slide passed f.0.0 e d (bytes_eq f.0.1 key) f.1 up le m b) refl;
  leaves_at = λ d key w. rw (stale_at size slide passed f.0.0 e d (bytes_eq f.0.1 key) f.1 up le w) refl;
  kept = λ h. record { ordered = h.ordered.1; ranges = h.ranges.1 };
  first = f ∷ [];
  held_is = refl;
}

pub Forgets-refl : (size slide : ℤ) (passed : Option ℤ) (held : Table) → Forgets size slide passed held held
Forgets-refl size slide passed held = record { leaves = λ d key m b. refl; leaves_at = λ d key w. refl; kept = λ h. h; first = []; held_is = refl }

pub Forgets-trans : (size slide : ℤ) (passed : Option ℤ) (a b c : Table) → Forgets size slide passed a b → Forgets size slide passed b c → Forgets size slide passed a c
Forgets-trans size slide passed a b c h k = record {
  leaves = λ d key m n. k.leaves d key m n ∙ h.leaves d key m n;
  leaves_at = λ d key w. k.leaves_at d key w ∙ h.leaves_at d key w;
  kept = λ x. k.kept (h.kept x);
  first = h.first ++ k.first;
  held_is = h.held_is ∙ (ap (λ (t : Table). h.first ++ t) k.held_is ∙ sym (append_assoc h.first k.first c));
}

-- below the first end no window has a frame
pub none_below : (size d : ℤ) (key : List ℕ) (held : Table) → Each (λ (f : Place × AccValue). d <ℤ f.0.0) held → total (held_in size d key) held ≡ None
none_below size d key [] h = refl
none_below size d key (f ∷ fs) h =
    rw (false_from (covers size d f.0.0) (Decides-covers size d f.0.0) (λ c. let q = c.1 in let lt : d <ℤ f.0.0 = h.0 in absurd (omega (arith, ints)))) (rw (none (bytes_eq f.0.1 key) f.1) (none_below size d key fs h.1))
  where
    none : (b : Bool) (a : AccValue) → only (b && false) a ≡ None
    none true a = refl
    none false a = refl

-- ---- the first entry of a table
pub first_each : (P : Place × AccValue → Type 0) (table : Table) (f : Place × AccValue) → slice_get table 0 ≡ Some f → Each P table → P f
first_each P [] f h k = absurd (none_some h)
  where
    none_some : None ≡ Some f → ⊥
    none_some e = absurd (cc)
first_each P (g ∷ gs) f h k = subst P (some_is h) k.0
  where
    some_is : Some g ≡ Some f → g ≡ f
    some_is e = cc

less_if : (b c : Bool) (x y : ℤ) (o : Ordering) → int_lt x y ≡ b → int_lt y x ≡ c → ordering_then (cond b Less (cond c Greater Equal)) o ≡ Less → x ≤ℤ y
less_if true c x y o p q h = let k : x <ℤ y = (Decides-int_lt x y).0 p in omega (arith, ints)
less_if false true x y o p q h = absurd (cc)
less_if false false x y o p q h = by_lt_z y x (λ gt. absurd (not_so (int_lt y x) (Decides-int_lt y x) q gt)) (λ le. le)

pub place_less : (x y : Place) → place_cmp x y ≡ Less → x.0 ≤ℤ y.0
place_less x y h = less_if (int_lt x.0 y.0) (int_lt y.0 x.0) x.0 y.0 (slice_cmp nat_cmp x.1 y.1) refl refl h

-- above the first end all ends are
pub above_first : (d : ℤ) (held : Table) (f : Place × AccValue) → slice_get held 0 ≡ Some f → Ordered held → d <ℤ f.0.0 → Each (λ (g : Place × AccValue). d <ℤ g.0.0) held
above_first d [] f h k lt = tt
above_first d (g ∷ gs) f h k lt =
    let is : g ≡ f = cc in
    let here : d <ℤ g.0.0 = subst (λ (z : Place × AccValue). d <ℤ z.0.0) (sym is) lt in
    (here, Each-more (λ (z : Place × AccValue). place_cmp g.0 z.0 ≡ Less) (λ (z : Place × AccValue). d <ℤ z.0.0) (λ z m. let le : g.0.0 ≤ℤ z.0.0 = place_less g.0 z.0 m in omega (arith, ints)) gs k.0)

-- ---- windows of a frame
pub whole_multiple : (size slide : ℤ) → IsPolicy size slide → IsMultiple slide size
whole_multiple size slide grid = multiple_fact slide size grid.slide_low ((Decides-int_eq (int_rem_euclid size slide) (pos 0)).1 grid.whole)

whole_slide : (size slide : ℤ) → IsPolicy size slide → slide ≤ℤ size
whole_slide size slide grid =
    let none : IsMultiple slide (pos 0) = (pos 0, omega (arith, ints)) in
    let low = grid.size_low in
    let apart : (pos 0 +ℤ slide) ≤ℤ size = multiple_apart slide (pos 0) size grid.slide_low none (whole_multiple size slide grid) (omega (arith, ints)) in
    omega (arith, ints)

-- a frame lies in a window that ends no earlier than the frame
pub window_above : (size slide end : ℤ) → IsPolicy size slide → (e : ℤ) × (is_multiple slide e ≡ true) × (covers size e end ≡ true) × (end ≤ℤ e)
window_above size slide end grid =
    let e : ℤ = floor_to slide (end -ℤ pos 1) +ℤ slide in
    let floor : IsFloor slide (end -ℤ pos 1) (floor_to slide (end -ℤ pos 1)) = floor_is slide (end -ℤ pos 1) grid.slide_low in
    let next : IsFrameEnd slide (end -ℤ pos 1) e = frame_end_is slide (end -ℤ pos 1) grid.slide_low in
    let low : floor_to slide (end -ℤ pos 1) ≤ℤ (end -ℤ pos 1) = floor.at_most in
    let above : (end -ℤ pos 1) <ℤ e = next.above in
    let most : slide ≤ℤ size = whole_slide size slide grid in
    let later : end ≤ℤ e = omega (arith, ints) in
    let within : (e -ℤ size) <ℤ end = omega (arith, ints) in
    (e, multiple_test slide e grid.slide_low next.multiple, (Decides-covers size e end).1 (within, later), later)

-- a frame at a multiple lies in the window that ends its size less its slide later
pub open_at : (size slide : ℤ) (due : ℤ → Bool) (end : ℤ) → IsPolicy size slide → is_multiple slide end ≡ true → due ((end +ℤ size) -ℤ slide) ≡ false → InOpenWindow size slide due end
open_at size slide due end grid m o =
    let e : ℤ = (end +ℤ size) -ℤ slide in
    let low = grid.slide_low in
    let most : slide ≤ℤ size = whole_slide size slide grid in
    let is : IsLastEnd size slide end e = last_end_is size slide end grid (multiple_fact slide end low m) in
    let within : (e -ℤ size) <ℤ end = omega (arith, ints) in
    let later : end ≤ℤ e = omega (arith, ints) in
    (e, multiple_test slide e low is.multiple, (Decides-covers size e end).1 (within, later), o)

-- where the first end is in a window, that window; else no window of the frame is left
pub has_open : (size slide : ℤ) (begun : Option ℤ) (end e : ℤ) → IsEndAbove slide begun end e → e <ℤ (end +ℤ size) → InOpenWindow size slide (is_due begun) end
has_open size slide begun end e up lt =
    let low : end ≤ℤ e = up.at_least in
    let within : (e -ℤ size) <ℤ end = omega (arith, ints) in
    (e, up.multiple, (Decides-covers size e end).1 (within, low), up.later)

pub has_none : (size slide : ℤ) (begun : Option ℤ) (end e : ℤ) → IsEndAbove slide begun end e → (end +ℤ size) ≤ℤ e → IsOver size slide begun end
has_none size slide begun end e up le = λ d m due.
    false_from (covers size d end) (Decides-covers size d end) (λ c. let p = c.0 in let q = c.1 in let low : e ≤ℤ d = up.least d m due q in absurd (omega (arith, ints)))

not_before : (d e : ℤ) → e ≤ℤ d → int_lt d e ≡ false
not_before d e h = false_from (int_lt d e) (Decides-int_lt d e) (λ lt. absurd (omega (arith, ints)))

held_until : (size slide e start : ℤ) (held : Table) → IsPolicy size slide → is_multiple slide e ≡ true → e <ℤ (start +ℤ size) → Each (λ (g : Place × AccValue). start ≤ℤ g.0.0) held → HeldUntil size slide e held
held_until size slide e start [] grid m lt h = tt
held_until size slide e start (g ∷ gs) grid m lt h = (by_lt_z e g.0.0 later here, held_until size slide e start gs grid m lt h.1)
  where
    later : e <ℤ g.0.0 → InOpenWindow size slide (λ d. int_lt d e) g.0.0
    later below = let w = window_above size slide g.0.0 grid in let high : g.0.0 ≤ℤ w.0 = w.3 in (w.0, w.1, w.2, not_before w.0 e (omega (arith, ints)))

    here : g.0.0 ≤ℤ e → InOpenWindow size slide (λ d. int_lt d e) g.0.0
    here above = let first : start ≤ℤ g.0.0 = h.0 in (e, m, (Decides-covers size e g.0.0).1 (omega (arith, ints), above), not_before e e (omega (arith, ints)))

some_left : (a : AccValue) (t : Option AccValue) → both (Some a) t ≡ None → ⊥
some_left a None h = absurd (cc)
some_left a (Some b) h = absurd (cc)

-- a window of the first frame is not empty
first_has : (size e : ℤ) (held : Table) (f : Place × AccValue) → slice_get held 0 ≡ Some f → covers size e f.0.0 ≡ true → total (held_in size e f.0.1) held ≡ None → ⊥
first_has size e [] f h c n = none_some h
  where
    none_some : None ≡ Some f → ⊥
    none_some e = absurd (cc)
first_has size e (g ∷ gs) f h c n =
    let is : g ≡ f = cc in
    let here : covers size e g.0.0 ≡ true = subst (λ (z : Place × AccValue). covers size e z.0.0 ≡ true) (sym is) c in
    let key : bytes_eq g.0.1 f.0.1 ≡ true = (bytes_eq-Decides g.0.1 f.0.1).1 (ap (λ (z : Place × AccValue). z.0.1) is) in
    let brings : held_in size e f.0.1 g ≡ Some g.1 = rw (key, here) refl in
    some_left g.1 (total (held_in size e f.0.1) gs) (ap (λ (o : Option AccValue). both o (total (held_in size e f.0.1) gs)) (sym brings) ∙ n)

pub next_end_is : (size slide : ℤ) (passed : Option ℤ) (held : Table) (f : Place × AccValue) (e : ℤ) → slice_get held 0 ≡ Some f → IsKept held → IsEndAbove slide passed f.0.0 e → e <ℤ (f.0.0 +ℤ size) → IsPolicy size slide → IsNextEnd size slide passed held e
next_end_is size slide passed held f e first kept up lt grid =
    let most : size ≤ℤ pos 1000000000000 = grid.size_high in
    let range : IsWithin most_frame_end f.0.0 = first_each (λ (g : Place × AccValue). IsWithin most_frame_end g.0.0) held f first kept.ranges in
    let low : f.0.0 ≤ℤ e = up.at_least in
    let a = range.0 in
    let b = range.1 in
    record {
      multiple = up.multiple;
      later = up.later;
      skips = λ d key m n below.
          let under : d <ℤ f.0.0 = by_lt_z d f.0.0 (λ k. k) (λ k. let le : e ≤ℤ d = up.least d m n k in absurd (omega (arith, ints))) in
          none_below size d key held (above_first d held f first kept.ordered under);
      has = (f.0.1, first_has size e held f first ((Decides-covers size e f.0.0).1 (omega (arith, ints), low)));
      reaches = held_until size slide e f.0.0 held grid up.multiple lt
          (Each-more (λ (g : Place × AccValue). (f.0.0 -ℤ pos 1) <ℤ g.0.0) (λ (g : Place × AccValue). f.0.0 ≤ℤ g.0.0) (λ g k. omega (arith, ints)) held (above_first (f.0.0 -ℤ pos 1) held f first kept.ordered (omega (arith, ints))));
      range = (omega (arith, ints), omega (arith, ints));
      low = omega (arith, ints);
    }

-- what is taken out in front is the first entry
pub popped : (held new : Table) (r : Option (Place × AccValue)) (f : Place × AccValue) → slice_get held 0 ≡ Some f → (0 < length held → IsSome r) → IfSome r (λ p. held ≡ p ∷ new) → held ≡ f ∷ new
popped [] new r f h v k = absurd (none_some h)
  where
    none_some : None ≡ Some f → ⊥
    none_some e = absurd (cc)
popped (g ∷ gs) new None f h v k = absurd (not_true (v (omega arith)))
  where
    not_true : false ≡ true → ⊥
    not_true e = absurd (cc)
popped (g ∷ gs) new (Some p) f h v k = cc

-- ---- by the end of the first frame
first_of : (held : Table) (end : ℤ) → option_map (λ (f : Place × AccValue). f.0.0) (slice_get held 0) ≡ Some end → (f : Place × AccValue) × (slice_get held 0 ≡ Some f) × (f.0.0 ≡ end)
first_of [] end h = absurd (cc)
first_of (f ∷ fs) end h = (f, refl, cc)

pub first_within : (held : Table) (end : ℤ) → option_map (λ (f : Place × AccValue). f.0.0) (slice_get held 0) ≡ Some end → IsKept held → IsWithin most_frame_end end
first_within held end is kept =
    let f = first_of held end is in
    subst (IsWithin most_frame_end) f.2 (first_each (λ (g : Place × AccValue). IsWithin most_frame_end g.0.0) held f.0 f.1 kept.ranges)

pub next_end_at : (size slide : ℤ) (passed : Option ℤ) (held : Table) (end e : ℤ) → option_map (λ (f : Place × AccValue). f.0.0) (slice_get held 0) ≡ Some end → IsKept held → IsEndAbove slide passed end e → e <ℤ (end +ℤ size) → IsPolicy size slide → IsNextEnd size slide passed held e
next_end_at size slide passed held end e is kept up lt grid =
    let f = first_of held end is in
    next_end_is size slide passed held f.0 e f.1 kept (subst (λ (z : ℤ). IsEndAbove slide passed z e) (sym f.2) up) (subst (λ (z : ℤ). e <ℤ (z +ℤ size)) (sym f.2) lt) grid

pub forget_at : (size slide : ℤ) (passed : Option ℤ) (held new : Table) (end e : ℤ) → option_map (λ (f : Place × AccValue). f.0.0) (slice_get held 0) ≡ Some end → new ≡ drop 1 held → IsEndAbove slide passed end e → (end +ℤ size) ≤ℤ e → Forgets size slide passed held new
forget_at size slide passed [] new end e is less up le = absurd (cc)
forget_at size slide passed (f ∷ fs) new end e is less up le =
    let at : f.0.0 ≡ end = cc in
    subst (Forgets size slide passed (f ∷ fs)) (sym less) (forget_first size slide passed f fs e (subst (λ (z : ℤ). IsEndAbove slide passed z e) (sym at) up) (subst (λ (z : ℤ). (z +ℤ size) ≤ℤ e) (sym at) le))

pub fewer_left : (held new : Table) (end : ℤ) → option_map (λ (f : Place × AccValue). f.0.0) (slice_get held 0) ≡ Some end → new ≡ drop 1 held → length new < length held
fewer_left [] new end is less = absurd (cc)
fewer_left (f ∷ fs) new end is less = rw less (omega arith)

pub nothing_first : (held : Table) → option_map (λ (f : Place × AccValue). f.0.0) (slice_get held 0) ≡ None → held ≡ []
nothing_first [] is = refl
nothing_first (f ∷ fs) is = absurd (cc)

-- each frame lies within the window that is next
pub reaches_low : (size slide e : ℤ) (held : Table) → HeldUntil size slide e held → Each (λ (f : Place × AccValue). (e -ℤ size) <ℤ f.0.0) held
reaches_low size slide e held h = Each-more (λ (f : Place × AccValue). InOpenWindow size slide (λ d. int_lt d e) f.0.0) (λ (f : Place × AccValue). (e -ℤ size) <ℤ f.0.0) (λ f w. low w.0 f.0.0 ((Decides-covers size w.0 f.0.0).0 w.2).0 w.3) held h
  where
    low : (d end : ℤ) → (d -ℤ size) <ℤ end → int_lt d e ≡ false → (e -ℤ size) <ℤ end
    low d end lt before = by_lt_z d e (λ k. absurd (not_so (int_lt d e) (Decides-int_lt d e) before k)) (λ k. omega (arith, ints))
