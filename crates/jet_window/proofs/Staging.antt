-- From frame instances through combine instances to the rows over the events.
use Rattle.std.proofs.Common.{◌≡◌, ℕ, zero, suc, ◌<◌, Bool, true, false, cond, ◌&&◌, ◌==◌, ℤ, List, [], ◌++◌, map, filter, Option, Some, None, refl, sym, ◌∙◌, ap, subst, arith, append-nil}
use Rattle.std.specs.Prelude.{bytes_eq}
use Rattle.std.proofs.lemmas.Slice.Eq.{bytes_eq-Decides}
use Rattle.std.proofs.lemmas.Bool.Decides.{Decides-eqb}
use Rattle.std.proofs.lemmas.List.Concat.{flat_map-append}
use Rattle.std.proofs.lemmas.List.Elements.{filter-append}
use Rattle.jet_items.specs.Bag.{SameBag, all_of}
use Rattle.jet_items.specs.Values.{AccValue, EventValue, FrameValue, RowValue}
use Rattle.jet_items.specs.Rows.{Window, first_value, members}
use Rattle.jet_items.specs.Totals.{total, both}
use Rattle.jet_items.specs.Frames.{only, covers, frame_in, event_in, FramesSum}
use Rattle.jet_items.proofs.Totaling.{total-SameBag, total-append}
use Rattle.jet_items.proofs.Summing.{FramesSum-SameBag, FramesSum-append, FramesSum-none, total-picked, total-dropped}
use Rattle.jet_items.proofs.Covering.{window_of_frames, members_total, IsTotalOf, false_from}
use Rattle.jet_window.specs.Tables.{is_multiple}
use Rattle.jet_window.specs.WindowRows.{as_list, row_at, rows_at, RowsAre}
use Rattle.jet_window.proofs.Ending.{multiple_fact, whole_multiple}
use Rattle.jet_items.specs.Kinds.{frames_of}
use Rattle.jet_items.specs.Order.{Each}
use Rattle.jet_items.proofs.Bags.{SameBag-refl, SameBag-sym, SameBag-append}
use Rattle.jet_items.proofs.Orders.{Each-append}
use Rattle.jet_policy.specs.Policy.{IsPolicy}
use Rattle.jet_boxes.specs.Entry.{items_of}
use Rattle.jet_window.specs.LateEvents.{kept_events}
use Rattle.jet_window.specs.Later.{newly}
use Rattle.jet_window.specs.Taken.{is_due}
use Rattle.jet_window.specs.StageLaws.{FramesSumKept, InstancesSumKept, InstancesGiveRows, RowsOver, OneRowEach, IsRowFor}

-- the frames of n instances sum the events that they kept
pub sums_of_instances : (slide : ℤ) (n : ℕ) (frames : ℕ → List FrameValue) (events : ℕ → List EventValue) → ((i : ℕ) → i < n → FramesSum slide (frames i) (events i)) → FramesSum slide (all_of n frames) (all_of n events)
sums_of_instances slide zero frames events h = FramesSum-none slide
sums_of_instances slide (suc n) frames events h =
    FramesSum-append slide (all_of n frames) (frames n) (all_of n events) (events n) (sums_of_instances slide n frames events (λ i lt. h i (omega arith))) (h n (omega arith))

apart : (b : Bool) → b ≡ true → b ≡ false → ⊥
apart true h k = absurd (cc)
apart false h k = absurd (cc)

-- a frame of another key brings nothing
not_key : (k key : List ℕ) (c : Bool) (a : AccValue) → (k ≡ key → ⊥) → only (bytes_eq k key && c) a ≡ None
not_key k key c a h = rw (false_from (bytes_eq k key) (bytes_eq-Decides k key) h) refl

none_due : (m d : Bool) (t : Option AccValue) → t ≡ None → as_list (cond (m && d) t None) ≡ []
none_due true true t h = ap as_list h
none_due true false t h = refl
none_due false d t h = refl

if_multiple : (m d b : Bool) (s t : Option AccValue) → d ≡ b → (m ≡ true → s ≡ t) → as_list (cond (m && d) s None) ≡ as_list (cond (m && b) t None)
if_multiple true d true s t is h = ap (λ (c : Bool). as_list (cond c s None)) is ∙ ap as_list (h refl)
if_multiple true d false s t is h = ap (λ (c : Bool). as_list (cond c s None)) is
if_multiple false d b s t is h = refl

none_of : (e : ℤ) (key : List ℕ) (rows : ℕ → List RowValue) (m : ℕ) → ((j : ℕ) → j < m → rows_at e key (rows j) ≡ []) → rows_at e key (all_of m rows) ≡ []
none_of e key rows zero h = refl
none_of e key rows (suc m) h = flat_map-append (λ r. as_list (row_at e key r)) (all_of m rows) (rows m) ∙ (ap (λ xs. xs ++ rows_at e key (rows m)) (none_of e key rows m (λ j lt. h j (omega arith))) ∙ h m (omega arith))

-- where one instance alone has rows of the key, all together have those
one_of : (e : ℤ) (key : List ℕ) (rows : ℕ → List RowValue) (m j : ℕ) → j < m → ((i : ℕ) → i < m → (i ≡ j → ⊥) → rows_at e key (rows i) ≡ []) → rows_at e key (all_of m rows) ≡ rows_at e key (rows j)
one_of e key rows zero j lt h = absurd (omega arith)
one_of e key rows (suc m) j lt h =
    flat_map-append (λ r. as_list (row_at e key r)) (all_of m rows) (rows m) ∙ last (j == m) refl (λ below. one_of e key rows m j below (λ i small. h i (omega arith)))
  where
    last : (b : Bool) → (j == m) ≡ b → (j < m → rows_at e key (all_of m rows) ≡ rows_at e key (rows j)) → rows_at e key (all_of m rows) ++ rows_at e key (rows m) ≡ rows_at e key (rows j)
    last true is ih =
        let same : j ≡ m = (Decides-eqb j m).0 is in
        ap (λ xs. xs ++ rows_at e key (rows m)) (none_of e key rows m (λ i below. h i (omega arith) (λ eq. absurd (omega arith)))) ∙ ap (λ (i : ℕ). rows_at e key (rows i)) (sym same)
    last false is ih =
        let other : j ≡ m → ⊥ = λ eq. apart (j == m) ((Decides-eqb j m).1 eq) is in
        let below : j < m = omega (arith, other) in
        rw (h m (omega arith) (λ eq. other (sym eq))) (append-nil (rows_at e key (all_of m rows)) ∙ ih below)

-- ---- the laws
pub frames_sum_kept : FramesSumKept
frames_sum_kept vertex slide begun held front told taken given bag last none =
    let own : SameBag (frames_of given) bag.own = subst (λ (fs : List FrameValue). SameBag (frames_of given) (fs ++ bag.own)) none bag.passed in
    let all : FramesSum slide bag.own (kept_events slide begun (items_of taken)) =
    subst (λ (fs : List FrameValue). FramesSum slide fs (kept_events slide begun (items_of taken))) (append-nil bag.own) (subst (λ (fs : List FrameValue). FramesSum slide (bag.own ++ fs) (kept_events slide begun (items_of taken))) (bag.ended front last) bag.sums) in
    FramesSum-SameBag slide (SameBag-sym own) (SameBag-refl (kept_events slide begun (items_of taken))) all

pub instances_sum_kept : InstancesSumKept
instances_sum_kept = sums_of_instances

vertices_of : (vertex : ℕ) (m : ℕ) (rows : ℕ → List RowValue) → ((j : ℕ) → j < m → Each (λ (r : RowValue). r.vertex ≡ vertex) (rows j)) → Each (λ (r : RowValue). r.vertex ≡ vertex) (all_of m rows)
vertices_of vertex zero rows h = tt
vertices_of vertex (suc m) rows h = Each-append (λ (r : RowValue). r.vertex ≡ vertex) (all_of m rows) (rows m) (vertices_of vertex m rows (λ j lt. h j (omega arith))) (h m (omega arith))

dealt_give_rows : (w : Window) (due : List ℕ → ℤ → Bool) (m : ℕ) (owner : List ℕ → ℕ) (held frames : List FrameValue) (mine : ℕ → List FrameValue) (events : List EventValue) (rows : ℕ → List RowValue) (dues : ℕ → ℤ → Bool)
    → IsPolicy w.size w.slide
    → FramesSum w.slide frames events
    → ((key : List ℕ) → owner key < m)
    → ((j : ℕ) → j < m → SameBag (mine j) (filter (λ f. owner f.key == j) (held ++ frames)))
    → ((j : ℕ) → j < m → RowsAre w.vertex w.size w.slide (dues j) (mine j) (rows j))
    → ((key : List ℕ) (e : ℤ) → dues (owner key) e ≡ due key e)
    → RowsOver w due held events (all_of m rows)
dealt_give_rows w due m owner held frames mine events rows dues grid sums owned dealt law same =
    let share : ℤ → List ℕ → FrameValue → Option AccValue = λ e key. frame_in w.size e key in
    let own : (e : ℤ) (key : List ℕ) → total (share e key) (mine (owner key)) ≡ both (total (share e key) held) (total (share e key) frames) = λ e key.
    total-SameBag (share e key) (dealt (owner key) (owned key))
    ∙ (total-picked (λ (f : FrameValue). owner f.key == owner key) (share e key)
    (λ f out. not_key f.key key (covers w.size e f.end) f.acc (λ is. apart (owner f.key == owner key) ((Decides-eqb (owner f.key) (owner key)).1 (ap owner is)) out)) (held ++ frames)
    ∙ total-append (share e key) held frames) in
    let others : (e : ℤ) (key : List ℕ) (i : ℕ) → i < m → (i ≡ owner key → ⊥) → rows_at e key (rows i) ≡ [] = λ e key i lt other.
    (law i lt).each e key ∙ none_due (is_multiple w.slide e) (dues i e) (total (share e key) (mine i))
    (total-SameBag (share e key) (dealt i lt)
    ∙ total-dropped (λ (f : FrameValue). owner f.key == i) (share e key)
    (λ f is. not_key f.key key (covers w.size e f.end) f.acc (λ k. other (sym ((Decides-eqb (owner f.key) i).0 is) ∙ ap owner k))) (held ++ frames)) in
    record {
      at = λ e key.
          one_of e key rows m (owner key) (owned key) (others e key)
          ∙ ((law (owner key) (owned key)).each e key
          ∙ if_multiple (is_multiple w.slide e) (dues (owner key) e) (due key e) (total (share e key) (mine (owner key))) (both (total (share e key) held) (total (event_in w.size e key) events)) (same key e)
          (λ multiple. own e key ∙ ap (λ (t : Option AccValue). both (total (share e key) held) t)
          (window_of_frames w.slide w.size e key frames events grid.slide_low grid.size_low (whole_multiple w.size w.slide grid) (multiple_fact w.slide e grid.slide_low multiple) sums)));
      vertices = vertices_of w.vertex m rows (λ j lt. (law j lt).vertices);
    }

pub instances_give_rows : InstancesGiveRows
instances_give_rows w begun due m owner held frames starts mine events rows dues grid sums owned began dealt law same =
    dealt_give_rows w (λ key. newly begun (due key)) m owner held frames (λ j. starts j ++ mine j) events rows (λ j. newly begun (dues j)) grid sums owned
    (λ j lt. subst (SameBag (starts j ++ mine j)) (sym (filter-append (λ (f : FrameValue). owner f.key == j) held frames)) (SameBag-append (began j lt) (dealt j lt))) law
    (λ key e. ap (λ (b : Bool). cond (is_due begun e) false b) (same key e))

for_total : (values : List ℤ) (t : Option AccValue) → IsTotalOf values t → IsRowFor (as_list t) values
for_total values None h = h
for_total values (Some acc) h = h

pub one_row_each : OneRowEach
one_row_each w due events rows e key over m d =
    let is : rows_at e key rows ≡ as_list (total (event_in w.size e key) events) = over.at e key ∙ (rw m (rw d refl)) in
    subst (λ (xs : List AccValue). IsRowFor xs (map first_value (members w.size e key events))) (sym is) (for_total (map first_value (members w.size e key events)) (total (event_in w.size e key) events) (members_total w.size e key events))
