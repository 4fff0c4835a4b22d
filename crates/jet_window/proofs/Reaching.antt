-- Frames enter the slides of their keys, and leave them.
use Rattle.std.proofs.Common.{◌≡◌, ℕ, Bool, true, false, cond, not, ◌&&◌, ℤ, ◌<ℤ◌, ◌≤ℤ◌, ◌-ℤ◌, List, [], ◌∷◌, ◌++◌, drop, map, filter, Option, Some, None, Result, Ok, Err, refl, sym, ◌∙◌, ap, subst, arith, append-nil, append_assoc}
use Rattle.std.specs.Prelude.{bytes_eq, IfSome, IfOk}
use Rattle.std.specs.List.{AllByRecursion}
use Rattle.std.specs.List.Sorted.{IsStrictlySortedBy}
use Rattle.std.specs.Map.{lookup}
use Rattle.std.specs.BTreeMap.{insert_entry, is_at}
use Rattle.std.specs.BTreeMap.Range.{range_contains}
use Rattle.std.specs.Ordering.{nat_cmp, is_le, is_lt, match_ordering, ordering_reverse}
use Rattle.std.specs.Cmp.Lexicographic.{slice_cmp}
use Rattle.std.specs.declared.cmp.Ordering.{Ordering}
use Rattle.std.specs.declared.cmp.Ordering.TheVariants.{Less, Equal, Greater}
use Rattle.std.specs.declared.ops.Bound.TheVariants.{Unbounded}
use Rattle.std.proofs.lemmas.Cmp.{tied_itself}
use Rattle.std.proofs.lemmas.Int.{ints, by_lt_z}
use Rattle.std.proofs.lemmas.List.Concat.{flat_map-append}
use Rattle.std.proofs.lemmas.Slice.Eq.{bytes_eq-Decides}
use Rattle.std.proofs.lemmas.Map.Text.{is_eq-slice_cmp}
use Rattle.jet_items.specs.Frames.{only, covers}
use Rattle.jet_items.specs.Order.{Each, EachPair}
use Rattle.jet_items.specs.Totals.{both, total}
use Rattle.jet_items.specs.Values.{AccValue}
use Rattle.jet_items.specs.declared.no_memory.NoMemory.{NoMemory}
use Rattle.jet_items.proofs.Covering.{false_from}
use Rattle.jet_items.proofs.Orders.{Each-append, Each-front, Each-more, EachPair-across, EachPair-back}
use Rattle.jet_items.proofs.Totaling.{both_none, total-append}
use Rattle.jet_window.specs.FrameTables.{Table, Ordered, IsKept, held_in, with_acc, joined_in}
use Rattle.jet_window.specs.Slides.{Pair, joined_pairs}
use Rattle.jet_window.specs.Tables.{Place, place_cmp}
use Rattle.jet_window.specs.inner.Reached.{SlidesByKey, NoneEmpty, Gains, Loses, Tracks, Enters, EnteredUntil, JoinedByKey, pair_of, pairs_of, pairs_at, pairs_or_none, is_up_to, bound_behind}
use Rattle.jet_window.specs.inner.WindowOf.{WindowOf, KeysRise}
use Rattle.jet_window.proofs.Ending.{place_less}
use Rattle.jet_window.proofs.Fitting.{share_none}
use Rattle.jet_window.proofs.Tabling.{place_total, place_equal, each_insert}
use Rattle.jet_window.proofs.Windowing.{covers_true, covers_high, both_true, not_less}

-- ---- places in their order
less_back : (x y : Place) → place_cmp x y ≡ Greater → place_cmp y x ≡ Less
less_back x y h = place_total.antisymm y x ∙ ap ordering_reverse h

greater_back : (x y : Place) → place_cmp x y ≡ Less → place_cmp y x ≡ Greater
greater_back x y h = place_total.antisymm y x ∙ ap ordering_reverse h

-- places of one key differ in their ends
end_less : (x y : Place) → x.1 ≡ y.1 → place_cmp x y ≡ Less → x.0 <ℤ y.0
end_less x y same h = by_lt_z x.0 y.0 (λ lt. lt) (λ ge. let le : x.0 ≤ℤ y.0 = place_less x y h in let e : x.0 ≡ y.0 = omega (arith, ints) in absurd (unlike (sym (tied_itself place_total y) ∙ subst (λ (z : Place). place_cmp z y ≡ Less) (pair x y e same) h)))
  where
    unlike : Equal ≡ Less → ⊥
    unlike e = absurd (cc)

    pair : (p q : Place) → p.0 ≡ q.0 → p.1 ≡ q.1 → p ≡ q
    pair p q a b = ap (λ (z : ℤ). (z, p.1)) a ∙ ap (λ (k : List ℕ). (q.0, k)) b

bytes_swap : (x y : List ℕ) → bytes_eq x y ≡ bytes_eq y x
bytes_swap x y = by (bytes_eq x y) (bytes_eq y x) refl refl
  where
    by : (a b : Bool) → bytes_eq x y ≡ a → bytes_eq y x ≡ b → a ≡ b
    by true b p q = sym ((bytes_eq-Decides y x).1 (sym ((bytes_eq-Decides x y).0 p))) ∙ q
    by false true p q = sym p ∙ (bytes_eq-Decides x y).1 (sym ((bytes_eq-Decides y x).0 q))
    by false false p q = refl

-- what stands behind a place stands behind what stands up to it
across : (reached : Option Place) (p q : Place) → is_up_to reached p ≡ true → is_up_to reached q ≡ false → place_cmp p q ≡ Less
across None p q h k = absurd (cc)
across (Some r) p q h k = by (place_cmp q r) (place_cmp p r) refl refl h k
  where
    by : (b a : Ordering) → place_cmp q r ≡ b → place_cmp p r ≡ a → is_le a ≡ true → is_le b ≡ false → place_cmp p q ≡ Less
    by Less a y x h k = absurd (cc)
    by Equal a y x h k = absurd (cc)
    by Greater Less y x h k = place_total.trans p r q x (less_back q r y)
    by Greater Equal y x h k = subst (λ (z : Place). place_cmp z q ≡ Less) (sym (place_equal p r x)) (less_back q r y)
    by Greater Greater y x h k = absurd (cc)

none_up : (held : Table) → Each (λ (f : Place × AccValue). is_up_to None f.0 ≡ false) held
none_up [] = tt
none_up (f ∷ fs) = (refl, none_up fs)

-- ---- nothing has entered
pub none_entered : (held : Table) (slides : SlidesByKey) → slides ≡ [] → Tracks None held slides
none_entered held slides none = record { front = []; back = held; entered = record { split = refl; upto = tt; behind = none_up held; pairs = λ key. ap (λ (s : SlidesByKey). pairs_at s key) none; filled = subst NoneEmpty (sym none) (λ key h. absurd (cc)) } }

-- ---- a frame is kept behind the place
insert_behind : (k : Place) (v : AccValue) (front back : Table) → Each (λ (f : Place × AccValue). place_cmp k f.0 ≡ Greater) front → insert_entry place_cmp (front ++ back) k v ≡ front ++ insert_entry place_cmp back k v
insert_behind k v [] back h = refl
insert_behind k v (f ∷ fs) back h =
    subst (λ (o : Ordering). match_ordering o ((k, v) ∷ f ∷ (fs ++ back)) ((f.0, v) ∷ (fs ++ back)) (f ∷ insert_entry place_cmp (fs ++ back) k v) ≡ f ∷ (fs ++ insert_entry place_cmp back k v)) (sym h.0)
    (ap (λ (t : Table). f ∷ t) (insert_behind k v fs back h.1))

pub kept_behind : (reached : Option Place) (k : Place) (a : AccValue) (held new : Table) (slides : SlidesByKey) → new ≡ joined_in held k a → is_up_to reached k ≡ false → Tracks reached held slides → Tracks reached new slides
kept_behind reached k a held new slides is later t =
    let h = t.entered in
    let v : AccValue = with_acc (lookup (is_at (place_cmp k)) held) a in
    let above : Each (λ (f : Place × AccValue). place_cmp k f.0 ≡ Greater) t.front =
    Each-more (λ (f : Place × AccValue). is_up_to reached f.0 ≡ true) (λ (f : Place × AccValue). place_cmp k f.0 ≡ Greater) (λ f up. greater_back f.0 k (across reached f.0 k up later)) t.front h.upto in
    record {
      front = t.front;
      back = insert_entry place_cmp t.back k v;
      entered = record {
        split = is ∙ (ap (λ (t : Table). insert_entry place_cmp t k v) h.split ∙ insert_behind k v t.front t.back above);
        upto = h.upto;
        behind = each_insert place_cmp place_total place_equal (λ (z : Place). is_up_to reached z ≡ false) k v t.back h.behind later;
        pairs = h.pairs;
        filled = h.filled;
      };
    }

-- ---- the first frame goes
drop_if : (b : Bool) (p : Pair) (ps : List Pair) → drop (cond b 1 0) (cond b (p ∷ []) [] ++ ps) ≡ ps
drop_if true p ps = refl
drop_if false p ps = refl

cons_same : (f g : Place × AccValue) (fs gs : Table) → f ∷ fs ≡ g ∷ gs → (g ≡ f) × (fs ≡ gs)
cons_same f g fs gs h = (cc, cc)

pub first_left : (reached : Option Place) (f : Place × AccValue) (held rest : Table) (slides new : SlidesByKey) → held ≡ f ∷ rest → is_up_to reached f.0 ≡ true
    → Loses slides new f.0.1 → Tracks reached held slides → Tracks reached rest new
first_left reached f held rest slides new is up less h = by h.front h.back (sym is ∙ h.entered.split) h.entered.upto h.entered.behind h.entered.pairs
  where
    by : (front back : Table) → f ∷ rest ≡ front ++ back → Each (λ (g : Place × AccValue). is_up_to reached g.0 ≡ true) front → Each (λ (g : Place × AccValue). is_up_to reached g.0 ≡ false) back
        → ((k : List ℕ) → pairs_at slides k ≡ pairs_of k front) → Tracks reached rest new
    by [] [] split u b p = absurd (cc)
    by [] (g ∷ gs) split u b p = absurd (unlike (sym up ∙ subst (λ (x : Place × AccValue). is_up_to reached x.0 ≡ false) (cons_same f g rest gs split).0 b.0))
      where
        unlike : true ≡ false → ⊥
        unlike e = absurd (cc)
    by (g ∷ gs) back split u b p =
        let same = cons_same f g rest (gs ++ back) split in
        record {
          front = gs;
          back = back;
          entered = record {
            split = same.1;
            upto = u.1;
            behind = b;
            pairs = λ k. less.pairs k ∙ (ap (drop (cond (bytes_eq f.0.1 k) 1 0)) (p k ∙ ap (λ (x : Place × AccValue). pair_of k x ++ pairs_of k gs) same.0) ∙ drop_if (bytes_eq f.0.1 k) (f.0.0, f.1) (pairs_of k gs));
            filled = less.filled h.entered.filled;
          };
        }

pub first_apart : (reached : Option Place) (f : Place × AccValue) (held rest : Table) (slides : SlidesByKey) → held ≡ f ∷ rest → is_up_to reached f.0 ≡ false → Tracks reached held slides → Tracks reached rest slides
first_apart reached f held rest slides is not_up h = by h.front h.back (sym is ∙ h.entered.split) h.entered.upto h.entered.behind h.entered.pairs
  where
    by : (front back : Table) → f ∷ rest ≡ front ++ back → Each (λ (g : Place × AccValue). is_up_to reached g.0 ≡ true) front → Each (λ (g : Place × AccValue). is_up_to reached g.0 ≡ false) back
        → ((k : List ℕ) → pairs_at slides k ≡ pairs_of k front) → Tracks reached rest slides
    by [] [] split u b p = absurd (cc)
    by [] (g ∷ gs) split u b p = record { front = []; back = gs; entered = record { split = (cons_same f g rest gs split).1; upto = tt; behind = b.1; pairs = p; filled = h.entered.filled } }
    by (g ∷ gs) back split u b p = absurd (unlike (sym (subst (λ (x : Place × AccValue). is_up_to reached x.0 ≡ true) (cons_same f g rest (gs ++ back) split).0 u.0) ∙ not_up))
      where
        unlike : true ≡ false → ⊥
        unlike e = absurd (cc)

-- ---- what is behind the place is what is left to enter
from_behind : (reached : Option Place) (p : Place) → range_contains place_cmp (bound_behind reached) Unbounded p ≡ not (is_up_to reached p)
from_behind None p = refl
from_behind (Some r) p = by (place_cmp p r) refl
  where
    by : (o : Ordering) → place_cmp p r ≡ o → (is_lt (place_cmp r p) && true) ≡ not (is_le (place_cmp p r))
    by Less is = ap (λ (o : Ordering). is_lt o && true) (place_total.antisymm r p ∙ ap ordering_reverse is) ∙ ap (λ (o : Ordering). not (is_le o)) (sym is)
    by Equal is = ap (λ (o : Ordering). is_lt o && true) (place_total.antisymm r p ∙ ap ordering_reverse is) ∙ ap (λ (o : Ordering). not (is_le o)) (sym is)
    by Greater is = ap (λ (o : Ordering). is_lt o && true) (place_total.antisymm r p ∙ ap ordering_reverse is) ∙ ap (λ (o : Ordering). not (is_le o)) (sym is)

abbrev pub is_left : Option Place → Place × AccValue → Bool
is_left reached e = range_contains place_cmp (bound_behind reached) Unbounded e.0

left_is : (reached : Option Place) (front back : Table) → Each (λ (f : Place × AccValue). is_up_to reached f.0 ≡ true) front → Each (λ (f : Place × AccValue). is_up_to reached f.0 ≡ false) back → filter (is_left reached) (front ++ back) ≡ back
left_is reached [] [] u b = refl
left_is reached [] (g ∷ gs) u b =
    let yes : is_left reached g ≡ true = from_behind reached g.0 ∙ ap not b.0 in
    rw yes (ap (λ (t : Table). g ∷ t) (left_is reached [] gs tt b.1))
left_is reached (f ∷ fs) back u b =
    let no : is_left reached f ≡ false = from_behind reached f.0 ∙ ap not u.0 in
    rw no (left_is reached fs back u.1 b)

pub range_is : (reached : Option Place) (held : Table) (slides : SlidesByKey) (h : Tracks reached held slides) → filter (is_left reached) held ≡ h.back
range_is reached held slides h = ap (filter (is_left reached)) h.entered.split ∙ left_is reached h.front h.back h.entered.upto h.entered.behind

-- ---- a frame enters
le_itself : (p : Place) → is_le (place_cmp p p) ≡ true
le_itself p = ap is_le (tied_itself place_total p)

pub one_entered : (end : ℤ) (reached : Option Place) (f : Place × AccValue) (held left rest : Table) (slides new : SlidesByKey) → Ordered held → left ≡ f ∷ rest → f.0.0 ≤ℤ end
    → Gains slides new f → Enters end reached held slides left → Enters end (Some f.0) held new rest
one_entered end reached f held left rest slides new order is within more h =
    let split : held ≡ h.front ++ f ∷ rest = h.entered.split ∙ ap (λ (t : Table). h.front ++ t) is in
    let placed : Ordered (h.front ++ f ∷ rest) = subst Ordered split order in
    let before : Each (λ (g : Place × AccValue). Each (λ (x : Place × AccValue). place_cmp g.0 x.0 ≡ Less) (f ∷ rest)) h.front = EachPair-across (λ (g x : Place × AccValue). place_cmp g.0 x.0 ≡ Less) h.front (f ∷ rest) placed in
    let after : Ordered (f ∷ rest) = EachPair-back (λ (g x : Place × AccValue). place_cmp g.0 x.0 ≡ Less) h.front (f ∷ rest) placed in
    record {
      front = h.front ++ f ∷ [];
      entered = record {
        split = split ∙ sym (append_assoc h.front (f ∷ []) rest);
        upto = Each-append (λ (g : Place × AccValue). is_up_to (Some f.0) g.0 ≡ true) h.front (f ∷ [])
            (Each-more (λ (g : Place × AccValue). Each (λ (x : Place × AccValue). place_cmp g.0 x.0 ≡ Less) (f ∷ rest)) (λ (g : Place × AccValue). is_up_to (Some f.0) g.0 ≡ true) (λ g k. ap is_le k.0) h.front before)
            (le_itself f.0, tt);
        behind = Each-more (λ (g : Place × AccValue). place_cmp f.0 g.0 ≡ Less) (λ (g : Place × AccValue). is_up_to (Some f.0) g.0 ≡ false) (λ g k. ap is_le (greater_back f.0 g.0 k)) rest after.0;
        pairs = λ k. more.pairs k ∙ (ap (λ (ps : List Pair). ps ++ pair_of k f) (h.entered.pairs k) ∙ (ap (λ (ps : List Pair). pairs_of k h.front ++ ps) (sym (append-nil (pair_of k f))) ∙ sym (flat_map-append (pair_of k) h.front (f ∷ []))));
        filled = more.filled h.entered.filled;
      };
      low = Each-append (λ (g : Place × AccValue). g.0.0 ≤ℤ end) h.front (f ∷ []) h.low (within, tt);
    }

-- a frame that enters ends above those of its key that have entered
pairs_below : (f : Place × AccValue) (front : Table) → Each (λ (g : Place × AccValue). place_cmp g.0 f.0 ≡ Less) front → Each (λ (p : Pair). p.0 <ℤ f.0.0) (pairs_of f.0.1 front)
pairs_below f [] h = tt
pairs_below f (g ∷ gs) h = Each-append (λ (p : Pair). p.0 <ℤ f.0.0) (pair_of f.0.1 g) (pairs_of f.0.1 gs) (one (bytes_eq g.0.1 f.0.1) refl) (pairs_below f gs h.1)
  where
    one : (b : Bool) → bytes_eq g.0.1 f.0.1 ≡ b → Each (λ (p : Pair). p.0 <ℤ f.0.0) (cond b ((g.0.0, g.1) ∷ []) [])
    one false is = tt
    one true is = (end_less g.0 f.0 ((bytes_eq-Decides g.0.1 f.0.1).0 is) h.0, tt)

pub may_enter : (end : ℤ) (reached : Option Place) (f : Place × AccValue) (held left rest : Table) (slides : SlidesByKey) → Ordered held → left ≡ f ∷ rest → Enters end reached held slides left → Each (λ (p : Pair). p.0 <ℤ f.0.0) (pairs_at slides f.0.1)
may_enter end reached f held left rest slides order is h =
    let placed : Ordered (h.front ++ f ∷ rest) = subst Ordered (h.entered.split ∙ ap (λ (t : Table). h.front ++ t) is) order in
    subst (Each (λ (p : Pair). p.0 <ℤ f.0.0)) (sym (h.entered.pairs f.0.1))
    (pairs_below f h.front (Each-more (λ (g : Place × AccValue). Each (λ (x : Place × AccValue). place_cmp g.0 x.0 ≡ Less) (f ∷ rest)) (λ (g : Place × AccValue). place_cmp g.0 f.0 ≡ Less) (λ g k. k.0) h.front
    (EachPair-across (λ (g x : Place × AccValue). place_cmp g.0 x.0 ≡ Less) h.front (f ∷ rest) placed)))

-- before the first one enters
pub enters_first : (end : ℤ) (reached : Option Place) (held : Table) (slides : SlidesByKey) (h : Tracks reached held slides) → IfSome reached (λ r. r.0 ≤ℤ end) → Enters end reached held slides h.back
enters_first end reached held slides h until = record { front = h.front; entered = h.entered; low = Each-more (λ (f : Place × AccValue). is_up_to reached f.0 ≡ true) (λ (f : Place × AccValue). f.0.0 ≤ℤ end) (λ f up. below reached f.0 until up) h.front h.entered.upto }
  where
    below : (o : Option Place) (p : Place) → IfSome o (λ r. r.0 ≤ℤ end) → is_up_to o p ≡ true → p.0 ≤ℤ end
    below None p u k = absurd (cc)
    below (Some r) p u k = by (place_cmp p r) refl k
      where
        by : (o : Ordering) → place_cmp p r ≡ o → is_le o ≡ true → p.0 ≤ℤ end
        by Less is h = let le : p.0 ≤ℤ r.0 = place_less p r is in omega (arith, ints)
        by Equal is h = subst (λ (z : Place). z.0 ≤ℤ end) (sym (place_equal p r is)) u
        by Greater is h = absurd (cc)

-- the next one ends above
pub entered_until : (end : ℤ) (reached : Option Place) (f : Place × AccValue) (held left rest : Table) (slides : SlidesByKey) → Ordered held → left ≡ f ∷ rest → end <ℤ f.0.0 → Enters end reached held slides left → EnteredUntil end reached held slides
entered_until end reached f held left rest slides order is above h =
    let placed : Ordered (h.front ++ left) = subst Ordered h.entered.split order in
    let after : Ordered (f ∷ rest) = subst Ordered is (EachPair-back (λ (g x : Place × AccValue). place_cmp g.0 x.0 ≡ Less) h.front left placed) in
    record {
      back = left;
      enters = h;
      high = subst (Each (λ (g : Place × AccValue). end <ℤ g.0.0)) (sym is)
          (above, Each-more (λ (g : Place × AccValue). place_cmp f.0 g.0 ≡ Less) (λ (g : Place × AccValue). end <ℤ g.0.0) (λ g k. let le : f.0.0 ≤ℤ g.0.0 = place_less f.0 g.0 k in omega (arith, ints)) rest after.0);
    }

-- none is left
pub entered_all : (end : ℤ) (reached : Option Place) (held left : Table) (slides : SlidesByKey) → left ≡ [] → Enters end reached held slides left → EnteredUntil end reached held slides
entered_all end reached held left slides none h = record { back = left; enters = h; high = subst (Each (λ (g : Place × AccValue). end <ℤ g.0.0)) (sym none) tt }

pub tracks_until : (end : ℤ) (reached : Option Place) (held : Table) (slides : SlidesByKey) → EnteredUntil end reached held slides → Tracks reached held slides
tracks_until end reached held slides h = record { front = h.enters.front; back = h.back; entered = h.enters.entered }

-- ---- the rows of a window
pairs_join : (key : List ℕ) (front : Table) → joined_pairs (pairs_of key front) ≡ total (λ (f : Place × AccValue). only (bytes_eq f.0.1 key) f.1) front
pairs_join key [] = refl
pairs_join key (f ∷ fs) = by (bytes_eq f.0.1 key) (pairs_join key fs)
  where
    by : (b : Bool) → joined_pairs (pairs_of key fs) ≡ total (λ (g : Place × AccValue). only (bytes_eq g.0.1 key) g.1) fs → joined_pairs (cond b ((f.0.0, f.1) ∷ []) [] ++ pairs_of key fs) ≡ both (only b f.1) (total (λ (g : Place × AccValue). only (bytes_eq g.0.1 key) g.1) fs)
    by true ih = ap (both (Some f.1)) ih
    by false ih = ih

inside : (size end : ℤ) (key : List ℕ) (front : Table) → Each (λ (f : Place × AccValue). f.0.0 ≤ℤ end) front → Each (λ (f : Place × AccValue). (end -ℤ size) <ℤ f.0.0) front
    → total (λ (f : Place × AccValue). only (bytes_eq f.0.1 key) f.1) front ≡ total (held_in size end key) front
inside size end key [] low high = refl
inside size end key (f ∷ fs) low high =
    ap (λ (o : Option AccValue). both o (total (λ (g : Place × AccValue). only (bytes_eq g.0.1 key) g.1) fs)) (both_true (bytes_eq f.0.1 key) (covers size end f.0.0) f.1 (covers_true size end f.0.0 high.0 low.0))
    ∙ ap (both (held_in size end key f)) (inside size end key fs low.1 high.1)

outside : (size end : ℤ) (key : List ℕ) (back : Table) → Each (λ (f : Place × AccValue). end <ℤ f.0.0) back → total (held_in size end key) back ≡ None
outside size end key [] h = refl
outside size end key (f ∷ fs) h =
    ap (λ (o : Option AccValue). both o (total (held_in size end key) fs)) (share_none (bytes_eq f.0.1 key) (covers size end f.0.0) f.1 (covers_high size end f.0.0 h.0)) ∙ outside size end key fs h.1

pub window_is : (size end : ℤ) (reached : Option Place) (held : Table) (slides : SlidesByKey) (rows : List (List ℕ × AccValue)) → EnteredUntil end reached held slides → JoinedByKey slides rows → Each (λ (f : Place × AccValue). (end -ℤ size) <ℤ f.0.0) held → WindowOf size end held rows
window_is size end reached held slides rows h j span =
    let split : held ≡ h.enters.front ++ h.back = h.enters.entered.split in
    let high : Each (λ (f : Place × AccValue). (end -ℤ size) <ℤ f.0.0) h.enters.front = Each-front (λ (f : Place × AccValue). (end -ℤ size) <ℤ f.0.0) h.enters.front h.back (subst (Each (λ (f : Place × AccValue). (end -ℤ size) <ℤ f.0.0)) split span) in
    record {
      each = λ key. j.each key ∙ (ap joined_pairs (h.enters.entered.pairs key) ∙ (pairs_join key h.enters.front ∙ (inside size end key h.enters.front h.enters.low high
          ∙ (sym (both_none (total (held_in size end key) h.enters.front)) ∙ (ap (both (total (held_in size end key) h.enters.front)) (sym (outside size end key h.back h.high))
          ∙ (sym (total-append (held_in size end key) h.enters.front h.back) ∙ ap (total (held_in size end key)) (sym split)))))));
      rising = j.rising;
    }

-- ---- slides by key
-- one slide was put, or taken out
pub slide_put : (old new : SlidesByKey) (k : List ℕ) (w : Option (List Pair)) → ((q : List ℕ) → lookup (is_at (slice_cmp nat_cmp q)) new ≡ cond (is_at (slice_cmp nat_cmp k) q) w (lookup (is_at (slice_cmp nat_cmp q)) old))
    → (q : List ℕ) → pairs_at new q ≡ cond (bytes_eq k q) (pairs_or_none w) (pairs_at old q)
slide_put old new k w put q = ap pairs_or_none (put q) ∙ (inside_if (is_at (slice_cmp nat_cmp k) q) ∙ ap (λ (b : Bool). cond b (pairs_or_none w) (pairs_at old q)) (is_eq-slice_cmp k q))
  where
    inside_if : (b : Bool) → pairs_or_none (cond b w (lookup (is_at (slice_cmp nat_cmp q)) old)) ≡ cond b (pairs_or_none w) (pairs_at old q)
    inside_if true = refl
    inside_if false = refl

pub slide_entered : (old new : SlidesByKey) (f : Place × AccValue) → ((q : List ℕ) → pairs_at new q ≡ cond (bytes_eq f.0.1 q) (pairs_at old f.0.1 ++ (f.0.0, f.1) ∷ []) (pairs_at old q)) → (q : List ℕ) → pairs_at new q ≡ pairs_at old q ++ pair_of q f
slide_entered old new f put q = put q ∙ by (bytes_eq f.0.1 q) refl
  where
    by : (b : Bool) → bytes_eq f.0.1 q ≡ b → cond b (pairs_at old f.0.1 ++ (f.0.0, f.1) ∷ []) (pairs_at old q) ≡ pairs_at old q ++ cond b ((f.0.0, f.1) ∷ []) []
    by true is = ap (λ (k : List ℕ). pairs_at old k ++ (f.0.0, f.1) ∷ []) ((bytes_eq-Decides f.0.1 q).0 is)
    by false is = sym (append-nil (pairs_at old q))

pub slide_left : (old new : SlidesByKey) (k : List ℕ) → ((q : List ℕ) → pairs_at new q ≡ cond (bytes_eq k q) (drop 1 (pairs_at old k)) (pairs_at old q)) → (q : List ℕ) → pairs_at new q ≡ drop (cond (bytes_eq k q) 1 0) (pairs_at old q)
slide_left old new k put q = put q ∙ by (bytes_eq k q) refl
  where
    by : (b : Bool) → bytes_eq k q ≡ b → cond b (drop 1 (pairs_at old k)) (pairs_at old q) ≡ drop (cond b 1 0) (pairs_at old q)
    by true is = ap (λ (z : List ℕ). drop 1 (pairs_at old z)) ((bytes_eq-Decides k q).0 is)
    by false is = refl

-- a key without a slide has nothing to leave
pub none_left : (slides new : SlidesByKey) (k : List ℕ) → new ≡ slides → lookup (is_at (slice_cmp nat_cmp k)) slides ≡ None → Loses slides new k
none_left slides new k same none = subst (λ (s : SlidesByKey). Loses slides s k) (sym same) (record { pairs = λ q. by q (bytes_eq k q) refl; filled = λ filled. filled })
  where
    by : (q : List ℕ) (b : Bool) → bytes_eq k q ≡ b → pairs_at slides q ≡ drop (cond b 1 0) (pairs_at slides q)
    by q true is = subst (λ (z : List ℕ). pairs_at slides z ≡ drop 1 (pairs_at slides z)) ((bytes_eq-Decides k q).0 is) (ap pairs_or_none none ∙ sym (ap (λ (o : Option (List Pair)). drop 1 (pairs_or_none o)) none))
    by q false is = refl

-- ---- rows by key
abbrev pub KeysUp : List (List ℕ) → Type 0
KeysUp keys = EachPair (λ (a b : List ℕ). slice_cmp nat_cmp a b ≡ Less) keys

abbrev pub key_list : {X : Type 0} → List (List ℕ × X) → List (List ℕ)
key_list {X} es = map (λ (e : List ℕ × X). e.0) es

-- what a slide brings to a key
abbrev pub slide_in : List ℕ → List ℕ × List Pair → Option AccValue
slide_in key s = cond (bytes_eq s.0 key) (joined_pairs s.1) None

each_up : (k : List ℕ) (ks : List (List ℕ)) → AllByRecursion (λ (j : List ℕ). slice_cmp nat_cmp k j ≡ Less) ks → Each (λ (j : List ℕ). slice_cmp nat_cmp k j ≡ Less) ks
each_up k [] h = tt
each_up k (j ∷ js) h = (h.0, each_up k js h.1)

pub keys_up : (ks : List (List ℕ)) → IsStrictlySortedBy (slice_cmp nat_cmp) ks → KeysUp ks
unfolding IsStrictlySortedBy
keys_up [] h = tt
keys_up (k ∷ ks) h = (each_up k ks h.0, keys_up ks h.1)

-- the row of one slide is put behind the others
pub up_kept : (rows : List (List ℕ × AccValue)) (k : List ℕ) (a : AccValue) (ks left : List (List ℕ)) → left ≡ k ∷ ks → KeysUp (key_list rows ++ left) → KeysUp (key_list (rows ++ (k, a) ∷ []) ++ ks)
up_kept rows k a ks left is h =
    subst KeysUp (keys_push rows) (subst (λ (js : List (List ℕ)). KeysUp (key_list rows ++ js)) is h)
  where
    keys_push : (rs : List (List ℕ × AccValue)) → key_list rs ++ k ∷ ks ≡ key_list (rs ++ (k, a) ∷ []) ++ ks
    keys_push [] = refl
    keys_push (r ∷ rs) = ap (λ (js : List (List ℕ)). r.0 ∷ js) (keys_push rs)

each_without : {X : Type 0} (P : X → Type 0) (xs : List X) (x : X) (ys : List X) → Each P (xs ++ x ∷ ys) → Each P (xs ++ ys)
each_without P [] x ys h = h.1
each_without P (z ∷ zs) x ys h = (h.0, each_without P zs x ys h.1)

up_without : (xs : List (List ℕ)) (k : List ℕ) (ks : List (List ℕ)) → KeysUp (xs ++ k ∷ ks) → KeysUp (xs ++ ks)
up_without [] k ks h = h.1
up_without (x ∷ xs) k ks h = (each_without (λ (j : List ℕ). slice_cmp nat_cmp x j ≡ Less) xs k ks h.0, up_without xs k ks h.1)

pub up_skipped : (xs : List (List ℕ)) (k : List ℕ) (ks left : List (List ℕ)) → left ≡ k ∷ ks → KeysUp (xs ++ left) → KeysUp (xs ++ ks)
up_skipped xs k ks left is h = up_without xs k ks (subst (λ (js : List (List ℕ)). KeysUp (xs ++ js)) is h)

each_key : (k : List ℕ) (rows : List (List ℕ × AccValue)) → Each (λ (j : List ℕ). slice_cmp nat_cmp k j ≡ Less) (key_list rows) → Each (λ (r : List ℕ × AccValue). slice_cmp nat_cmp k r.0 ≡ Less) rows
each_key k [] h = tt
each_key k (r ∷ rs) h = (h.0, each_key k rs h.1)

rise_of : (rows : List (List ℕ × AccValue)) → KeysUp (key_list rows) → KeysRise rows
rise_of [] h = tt
rise_of (r ∷ rs) h = (each_key r.0 rs h.0, rise_of rs h.1)

none_here : (key : List ℕ) (slides : SlidesByKey) → Each (λ (j : List ℕ). slice_cmp nat_cmp key j ≡ Less) (key_list slides) → total (slide_in key) slides ≡ None
none_here key [] k = refl
none_here key (x ∷ xs) k =
    ap (λ (c : Bool). both (cond c (joined_pairs x.1) None) (total (slide_in key) xs)) (false_from (bytes_eq x.0 key) (bytes_eq-Decides x.0 key) (λ e. not_less key x.0 k.0 (sym e))) ∙ none_here key xs k.1

-- a key stands once
slide_once : (slides : SlidesByKey) (key : List ℕ) → KeysUp (key_list slides) → total (slide_in key) slides ≡ joined_pairs (pairs_at slides key)
slide_once [] key h = refl
slide_once (s ∷ ss) key h = by (bytes_eq s.0 key) refl (slide_once ss key h.1)
  where
    is_same : is_at (slice_cmp nat_cmp key) s.0 ≡ bytes_eq s.0 key
    is_same = is_eq-slice_cmp key s.0 ∙ bytes_swap key s.0

    by : (b : Bool) → bytes_eq s.0 key ≡ b → total (slide_in key) ss ≡ joined_pairs (pairs_at ss key) → both (slide_in key s) (total (slide_in key) ss) ≡ joined_pairs (pairs_at (s ∷ ss) key)
    by true is ih =
        let there : pairs_at (s ∷ ss) key ≡ s.1 = ap (λ (c : Bool). pairs_or_none (cond c (Some s.1) (lookup (is_at (slice_cmp nat_cmp key)) ss))) (is_same ∙ is) in
        let rest : total (slide_in key) ss ≡ None = none_here key ss (subst (λ (k : List ℕ). Each (λ (j : List ℕ). slice_cmp nat_cmp k j ≡ Less) (key_list ss)) ((bytes_eq-Decides s.0 key).0 is) h.0) in
        ap (λ (c : Bool). both (cond c (joined_pairs s.1) None) (total (slide_in key) ss)) is ∙ (ap (both (joined_pairs s.1)) rest ∙ (both_none (joined_pairs s.1) ∙ ap joined_pairs (sym there)))
    by false is ih =
        let there : pairs_at (s ∷ ss) key ≡ pairs_at ss key = ap (λ (c : Bool). pairs_or_none (cond c (Some s.1) (lookup (is_at (slice_cmp nat_cmp key)) ss))) (is_same ∙ is) in
        ap (λ (c : Bool). both (cond c (joined_pairs s.1) None) (total (slide_in key) ss)) is ∙ (ih ∙ ap joined_pairs (sym there))

pub rows_joined : (slides : SlidesByKey) (rows : List (List ℕ × AccValue)) → KeysUp (key_list slides) → ((key : List ℕ) → total (λ (p : List ℕ × AccValue). only (bytes_eq p.0 key) p.1) rows ≡ total (slide_in key) slides) → KeysUp (key_list rows) → JoinedByKey slides rows
rows_joined slides rows up each rising = record { each = λ key. each key ∙ slide_once slides key up; rising = rise_of rows rising }

-- one more slide was looked at
pub share_kept : (key : List ℕ) (rows : List (List ℕ × AccValue)) (seen : SlidesByKey) (k : List ℕ) (pairs : List Pair) (a : AccValue) → joined_pairs pairs ≡ Some a
    → total (λ (p : List ℕ × AccValue). only (bytes_eq p.0 key) p.1) rows ≡ total (slide_in key) seen → total (λ (p : List ℕ × AccValue). only (bytes_eq p.0 key) p.1) (rows ++ (k, a) ∷ []) ≡ total (slide_in key) (seen ++ (k, pairs) ∷ [])
share_kept key rows seen k pairs a is h =
    total-append (λ (p : List ℕ × AccValue). only (bytes_eq p.0 key) p.1) rows ((k, a) ∷ []) ∙ (ap (λ (o : Option AccValue). both o (both (only (bytes_eq k key) a) None)) h
    ∙ (ap (λ (o : Option AccValue). both (total (slide_in key) seen) (both o None)) (same (bytes_eq k key)) ∙ sym (total-append (slide_in key) seen ((k, pairs) ∷ []))))
  where
    same : (b : Bool) → only b a ≡ cond b (joined_pairs pairs) None
    same true = sym is
    same false = refl

pub share_skipped : (key : List ℕ) (rows : List (List ℕ × AccValue)) (seen : SlidesByKey) (k : List ℕ) (pairs : List Pair) → joined_pairs pairs ≡ None
    → total (λ (p : List ℕ × AccValue). only (bytes_eq p.0 key) p.1) rows ≡ total (slide_in key) seen → total (λ (p : List ℕ × AccValue). only (bytes_eq p.0 key) p.1) rows ≡ total (slide_in key) (seen ++ (k, pairs) ∷ [])
share_skipped key rows seen k pairs is h =
    h ∙ (sym (both_none (total (slide_in key) seen)) ∙ (ap (both (total (slide_in key) seen)) (sym (nothing (bytes_eq k key))) ∙ sym (total-append (slide_in key) seen ((k, pairs) ∷ []))))
  where
    nothing : (b : Bool) → both (cond b (joined_pairs pairs) None) None ≡ None
    nothing true = both_none (joined_pairs pairs) ∙ is
    nothing false = refl

-- ---- a slide that a key has, or had not
one_filled : (old new : SlidesByKey) (k : List ℕ) (w : Option (List Pair)) → ((q : List ℕ) → lookup (is_at (slice_cmp nat_cmp q)) new ≡ cond (is_at (slice_cmp nat_cmp k) q) w (lookup (is_at (slice_cmp nat_cmp q)) old))
    → (w ≡ Some [] → ⊥) → NoneEmpty old → NoneEmpty new
one_filled old new k w put some filled q h = by (is_at (slice_cmp nat_cmp k) q) (sym (put q) ∙ h)
  where
    by : (b : Bool) → cond b w (lookup (is_at (slice_cmp nat_cmp q)) old) ≡ Some [] → ⊥
    by true e = some e
    by false e = filled q e

not_none : (ps w : List Pair) (p : Pair) → w ≡ ps ++ p ∷ [] → Some w ≡ Some [] → ⊥
not_none [] w p is e = absurd (cc)
not_none (q ∷ qs) w p is e = absurd (cc)

pub entered_there : (old new : SlidesByKey) (f : Place × AccValue) (pairs w : List Pair) → Some pairs ≡ lookup (is_at (slice_cmp nat_cmp f.0.1)) old → w ≡ pairs ++ (f.0.0, f.1) ∷ []
    → ((q : List ℕ) → lookup (is_at (slice_cmp nat_cmp q)) new ≡ cond (is_at (slice_cmp nat_cmp f.0.1) q) (Some w) (lookup (is_at (slice_cmp nat_cmp q)) old)) → Gains old new f
entered_there old new f pairs w there is put =
    record {
      pairs = slide_entered old new f (λ q. slide_put old new f.0.1 (Some w) put q ∙ ap (λ (ps : List Pair). cond (bytes_eq f.0.1 q) ps (pairs_at old q)) (is ∙ ap (λ (ps : List Pair). ps ++ (f.0.0, f.1) ∷ []) (ap pairs_or_none there)));
      filled = one_filled old new f.0.1 (Some w) put (not_none pairs w (f.0.0, f.1) is);
    }

pub entered_new : (old new : SlidesByKey) (f : Place × AccValue) (w : List Pair) → lookup (is_at (slice_cmp nat_cmp f.0.1)) old ≡ None → w ≡ (f.0.0, f.1) ∷ []
    → ((q : List ℕ) → lookup (is_at (slice_cmp nat_cmp q)) new ≡ cond (is_at (slice_cmp nat_cmp f.0.1) q) (Some w) (lookup (is_at (slice_cmp nat_cmp q)) old)) → Gains old new f
entered_new old new f w none is put =
    record {
      pairs = slide_entered old new f (λ q. slide_put old new f.0.1 (Some w) put q ∙ ap (λ (ps : List Pair). cond (bytes_eq f.0.1 q) ps (pairs_at old q)) (is ∙ sym (ap (λ (o : Option (List Pair)). pairs_or_none o ++ (f.0.0, f.1) ∷ []) none)));
      filled = one_filled old new f.0.1 (Some w) put (not_none [] w (f.0.0, f.1) is);
    }

pub left_there : (old new : SlidesByKey) (k : List ℕ) (pairs w : List Pair) → Some pairs ≡ lookup (is_at (slice_cmp nat_cmp k)) old → w ≡ drop 1 pairs → (w ≡ [] → ⊥)
    → ((q : List ℕ) → lookup (is_at (slice_cmp nat_cmp q)) new ≡ cond (is_at (slice_cmp nat_cmp k) q) (Some w) (lookup (is_at (slice_cmp nat_cmp q)) old)) → Loses old new k
left_there old new k pairs w there is some put =
    record {
      pairs = slide_left old new k (λ q. slide_put old new k (Some w) put q ∙ ap (λ (ps : List Pair). cond (bytes_eq k q) ps (pairs_at old q)) (is ∙ ap (drop 1) (ap pairs_or_none there)));
      filled = one_filled old new k (Some w) put (λ e. some (cc));
    }

pub left_empty : (old middle new : SlidesByKey) (k : List ℕ) (pairs w : List Pair) → Some pairs ≡ lookup (is_at (slice_cmp nat_cmp k)) old → w ≡ drop 1 pairs → w ≡ []
    → ((q : List ℕ) → lookup (is_at (slice_cmp nat_cmp q)) middle ≡ cond (is_at (slice_cmp nat_cmp k) q) (Some w) (lookup (is_at (slice_cmp nat_cmp q)) old))
    → ((q : List ℕ) → lookup (is_at (slice_cmp nat_cmp q)) new ≡ cond (is_at (slice_cmp nat_cmp k) q) None (lookup (is_at (slice_cmp nat_cmp q)) middle)) → Loses old new k
left_empty old middle new k pairs w there is empty put gone =
    record {
      pairs = slide_left old new k (λ q. slide_put middle new k None gone q ∙ (ap (λ (ps : List Pair). cond (bytes_eq k q) [] ps) (slide_put old middle k (Some w) put q) ∙ by q (bytes_eq k q)));
      filled = one_filled old new k None (λ q. gone q ∙ once q (is_at (slice_cmp nat_cmp k) q) (put q)) (λ e. absurd (cc));
    }
  where
    once : (q : List ℕ) (b : Bool) → lookup (is_at (slice_cmp nat_cmp q)) middle ≡ cond b (Some w) (lookup (is_at (slice_cmp nat_cmp q)) old) → cond b None (lookup (is_at (slice_cmp nat_cmp q)) middle) ≡ cond b None (lookup (is_at (slice_cmp nat_cmp q)) old)
    once q true h = refl
    once q false h = h

    by : (q : List ℕ) (b : Bool) → cond b [] (cond b w (pairs_at old q)) ≡ cond b (drop 1 (pairs_at old k)) (pairs_at old q)
    by q true = sym empty ∙ (is ∙ ap (drop 1) (ap pairs_or_none there))
    by q false = refl

pub kept_rest : (f : Place × AccValue) (held rest : Table) → held ≡ f ∷ rest → IsKept held → IsKept rest
kept_rest f held rest is kept = let h : IsKept (f ∷ rest) = subst IsKept is kept in record { ordered = h.ordered.1; ranges = h.ranges.1 }

pub ok_more : {X : Type 0} (P Q : X → Type 0) (r : Result X NoMemory) → ((x : X) → P x → Q x) → IfOk r P → IfOk r Q
ok_more P Q (Ok x) f h = f x h
ok_more P Q (Err e) f h = tt
