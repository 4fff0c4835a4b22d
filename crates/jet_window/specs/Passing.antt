-- Lists of items and entries with one more, and what follows the marks in them.
use Rattle.std.proofs.Common.{◌≡◌, ℕ, Bool, true, false, ◌||◌, ℤ, ◌<ℤ◌, ◌≤ℤ◌, List, [], ◌∷◌, ◌++◌, Option, Some, None, refl, sym, ◌∙◌, ap, subst, arith, append-nil, append_assoc}
use Rattle.std.specs.Prelude.{int_le}
use Rattle.std.specs.List.{flat_map}
use Rattle.std.proofs.lemmas.Int.{ints}
use Rattle.std.proofs.lemmas.List.Concat.{flat_map-append}
use Rattle.std.proofs.lemmas.List.Sums.{sum_by-append}
use Rattle.jet_items.specs.Bag.{SameBag}
use Rattle.jet_items.specs.Kinds.{marks_of, as_mark, events_of}
use Rattle.jet_items.specs.Order.{Each, EachPair, Sound, SoundAfter, SoundBelow, ClosedAfter, IsAbove}
use Rattle.jet_items.specs.declared.item.Item.{Item}
use Rattle.jet_items.specs.declared.item.Item.TheVariants as item
use Rattle.jet_items.proofs.Covering.{Decides-int_le}
use Rattle.jet_items.proofs.Orders.{Each-append, Each-more, Each-front, Each-back, EachPair-append, EachPair-front, EachPair-across, EachPair-back, Shadows, Sound-front}
use Rattle.jet_boxes.specs.declared.port.Port.{Port}
use Rattle.jet_boxes.specs.Entry.{CallEntry, Given, MarkTold, QueueClosed, Finish, items_of, entry_items, NotFinish, IsData, MayAll, MayCome, NotDone, AnyQueue}
use Rattle.jet_window.specs.FrameStands.{NoEvent}
use Rattle.jet_window.specs.Taken.{last_from, last_mark, is_due, is_finished, due_after, StageInput}

-- ---- orders that are taken over
pub Shadows-append : {X : Type 0} (R : X → X → Type 0) (xs ys us vs : List X) → Shadows R xs ys → Shadows R us vs → Shadows R (xs ++ us) (ys ++ vs)
Shadows-append R xs ys us vs h k = record {
  inside = λ m. EachPair-append R xs us (h.inside (EachPair-front R ys vs m)) (k.inside (EachPair-back R ys vs m))
      (h.earlier us (Each-more (λ y. Each (R y) vs) (λ y. Each (R y) us) (λ y n. k.later y n) ys (EachPair-across R ys vs m)));
  later = λ z m. Each-append (R z) xs us (h.later z (Each-front (R z) ys vs m)) (k.later z (Each-back (R z) ys vs m));
  earlier = λ zs m. Each-append (λ x. Each (R x) zs) xs us (h.earlier zs (Each-front (λ y. Each (R y) zs) ys vs m)) (k.earlier zs (Each-back (λ y. Each (R y) zs) ys vs m));
}

-- more may have been taken
pub Shadows-more : {X : Type 0} (R : X → X → Type 0) (xs ys vs : List X) → Shadows R xs ys → Shadows R xs (ys ++ vs)
Shadows-more R xs ys vs h = record {
  inside = λ m. h.inside (EachPair-front R ys vs m);
  later = λ z m. h.later z (Each-front (R z) ys vs m);
  earlier = λ zs m. h.earlier zs (Each-front (λ y. Each (R y) zs) ys vs m);
}

-- ---- the last mark
pub last_push : (o : Option ℤ) (ws : List ℤ) (t : ℤ) → last_from o (ws ++ t ∷ []) ≡ Some t
last_push o [] t = refl
last_push o (w ∷ ws) t = last_push (Some w) ws t

pub last_append : (o : Option ℤ) (ws vs : List ℤ) → last_from o (ws ++ vs) ≡ last_from (last_from o ws) vs
last_append o [] vs = refl
last_append o (w ∷ ws) vs = last_append (Some w) ws vs

-- a mark that is the last is one of them
pub last_each : (P : ℤ → Type 0) (v w : ℤ) (ws : List ℤ) → P v → Each P ws → last_from (Some v) ws ≡ Some w → P w
last_each P v w [] h k is = subst P (some_is is) h
  where
    some_is : {a b : ℤ} → Some a ≡ Some b → a ≡ b
    some_is e = cc
last_each P v w (u ∷ ws) h k is = last_each P u w ws k.0 k.1 is

none_not_some : (w : ℤ) → None ≡ Some w → ⊥
none_not_some w e = absurd (cc)

pub from_last : (P : ℤ → Type 0) (p : ℤ) (ws : List ℤ) → Each P ws → last_from None ws ≡ Some p → P p
from_last P p [] h k = absurd (none_not_some p k)
from_last P p (w ∷ ws) h k = last_each P w p ws h.0 h.1 k

-- ---- one more
pub items_push : (taken : List CallEntry) (e : CallEntry) → items_of (taken ++ e ∷ []) ≡ items_of taken ++ (entry_items e ++ [])
items_push taken e = flat_map-append entry_items taken (e ∷ [])

-- of what one more entry brings
pub of_push : {X : Type 0} (f : Item → List X) (taken : List CallEntry) (e : CallEntry) → flat_map f (items_of (taken ++ e ∷ [])) ≡ flat_map f (items_of taken) ++ flat_map f (entry_items e ++ [])
of_push f taken e = ap (λ (xs : List Item). flat_map f xs) (items_push taken e) ∙ flat_map-append f (items_of taken) (entry_items e ++ [])

-- where one more brings nothing
pub of_none : {X : Type 0} (f : Item → List X) (xs : List Item) (x : Item) → f x ≡ [] → flat_map f (xs ++ x ∷ []) ≡ flat_map f xs
of_none f xs x none = flat_map-append f xs (x ∷ []) ∙ (ap (λ (us : List _). flat_map f xs ++ (us ++ [])) none ∙ append-nil (flat_map f xs))

-- where both lists have one more
pub of_both : {X : Type 0} (f : Item → List X) (xs ys : List Item) (x : Item) → flat_map f xs ≡ flat_map f ys → flat_map f (xs ++ x ∷ []) ≡ flat_map f (ys ++ x ∷ [])
of_both f xs ys x h = flat_map-append f xs (x ∷ []) ∙ (ap (λ (us : List _). us ++ flat_map f (x ∷ [])) h ∙ sym (flat_map-append f ys (x ∷ [])))

-- a bag that one more comes to on both sides
pub bag_both : {X : Type 0} (f : Item → List X) (xs ys : List Item) (own : List X) (x : Item) → SameBag (flat_map f xs) (flat_map f ys ++ own) → SameBag (flat_map f (xs ++ x ∷ [])) (flat_map f (ys ++ x ∷ []) ++ own)
bag_both f xs ys own x h =
    rw (flat_map-append f xs (x ∷ []), flat_map-append f ys (x ∷ []))
    (record {
      weighs = λ w. omega (
        arith,
        h.weighs w,
        sum_by-append w (flat_map f xs) (flat_map f (x ∷ [])),
        sum_by-append w (flat_map f ys) own,
        sum_by-append w (flat_map f ys ++ flat_map f (x ∷ [])) own,
        sum_by-append w (flat_map f ys) (flat_map f (x ∷ [])),
      );
    })

both_none : {X : Type 0} (xs ys : List X) → xs ++ ys ≡ [] → (xs ≡ []) × (ys ≡ [])
both_none [] ys h = (refl, h)
both_none (x ∷ xs) ys h = absurd (never h)
  where
    never : x ∷ (xs ++ ys) ≡ [] → ⊥
    never h = absurd (cc)

-- where nothing of a kind was taken, all that was given of it is the vertex's own
pub alone_push : {X : Type 0} (f : Item → List X) (given items : List Item) (own : List X) (x : Item) → (flat_map f items ≡ [] → flat_map f given ≡ own) → flat_map f (items ++ x ∷ []) ≡ [] → flat_map f (given ++ x ∷ []) ≡ own
alone_push f given items own x alone none =
    let parts = both_none (flat_map f items) (flat_map f (x ∷ [])) (sym (flat_map-append f items (x ∷ [])) ∙ none) in
    flat_map-append f given (x ∷ []) ∙ (ap (λ (us : List _). flat_map f given ++ us) parts.1 ∙ (append-nil (flat_map f given) ∙ alone parts.0))

pub marks_none : (x : Item) → IsData x → as_mark x ≡ []
marks_none (item.Event e) h = refl
marks_none (item.Side e) h = refl
marks_none (item.Frame e) h = refl
marks_none (item.Row e) h = refl
marks_none (item.Late e) h = refl
marks_none item.Idle h = refl
marks_none (item.Mark e) h = absurd h
marks_none item.Done h = absurd h

pub data_open : (x : Item) → IsData x → NotDone x
data_open (item.Event e) h = tt
data_open (item.Side e) h = tt
data_open (item.Frame e) h = tt
data_open (item.Row e) h = tt
data_open (item.Late e) h = tt
data_open item.Idle h = tt
data_open (item.Mark e) h = tt
data_open item.Done h = absurd h

pub closed_last : (taken : List CallEntry) (port : Port) (q : ℕ) → last_mark (taken ++ QueueClosed port q ∷ []) ≡ last_mark taken
closed_last taken port q = ap (λ (xs : List Item). last_from None (marks_of xs)) (items_push taken (QueueClosed port q) ∙ append-nil (items_of taken))

-- a mark that is told is the last
pub told_last : (taken : List CallEntry) (t : ℤ) → last_mark (taken ++ MarkTold t ∷ []) ≡ Some t
told_last taken t = ap (λ (xs : List Item). last_from None (marks_of xs)) (items_push taken (MarkTold t)) ∙ (ap (last_from None) (flat_map-append as_mark (items_of taken) (item.Mark t ∷ [])) ∙ last_push None (marks_of (items_of taken)) t)

pub same_last : (taken : List CallEntry) (port : Port) (q : ℕ) (x : Item) → as_mark x ≡ [] → last_mark (taken ++ Given port q x ∷ []) ≡ last_mark taken
same_last taken port q x none = ap (last_from None) (ap marks_of (items_push taken (Given port q x)) ∙ of_none as_mark (items_of taken) x none)

-- ---- marks and what comes after them
free_after : (x : Item) → ((y : Item) → ClosedAfter x y) → (ys : List Item) → Each (ClosedAfter x) ys
free_after x h [] = tt
free_after x h (y ∷ ys) = (h y, free_after x h ys)

pub after_marks : (xs ys : List Item) → Each NotDone xs → Each (λ w. Each (IsAbove w) ys) (marks_of xs) → Each (λ x. Each (ClosedAfter x) ys) xs
after_marks [] ys h k = tt
after_marks (item.Event e ∷ xs) ys h k = (free_after (item.Event e) (λ y. tt) ys, after_marks xs ys h.1 k)
after_marks (item.Side e ∷ xs) ys h k = (free_after (item.Side e) (λ y. tt) ys, after_marks xs ys h.1 k)
after_marks (item.Frame e ∷ xs) ys h k = (free_after (item.Frame e) (λ y. tt) ys, after_marks xs ys h.1 k)
after_marks (item.Row e ∷ xs) ys h k = (free_after (item.Row e) (λ y. tt) ys, after_marks xs ys h.1 k)
after_marks (item.Late e ∷ xs) ys h k = (free_after (item.Late e) (λ y. tt) ys, after_marks xs ys h.1 k)
after_marks (item.Idle ∷ xs) ys h k = (free_after item.Idle (λ y. tt) ys, after_marks xs ys h.1 k)
after_marks (item.Mark w ∷ xs) ys h k = (k.0, after_marks xs ys h.1 k.1)
after_marks (item.Done ∷ xs) ys h k = absurd h.0

-- the other way round
pub marks_before : (xs ys : List Item) → Each (λ x. Each (ClosedAfter x) ys) xs → Each (λ w. Each (IsAbove w) ys) (marks_of xs)
marks_before [] ys h = tt
marks_before (item.Event e ∷ xs) ys h = marks_before xs ys h.1
marks_before (item.Side e ∷ xs) ys h = marks_before xs ys h.1
marks_before (item.Frame e ∷ xs) ys h = marks_before xs ys h.1
marks_before (item.Row e ∷ xs) ys h = marks_before xs ys h.1
marks_before (item.Late e ∷ xs) ys h = marks_before xs ys h.1
marks_before (item.Idle ∷ xs) ys h = marks_before xs ys h.1
marks_before (item.Mark w ∷ xs) ys h = (h.0, marks_before xs ys h.1)
marks_before (item.Done ∷ xs) ys h = marks_before xs ys h.1

-- the marks before one more item are below it
pub marks_below : (xs : List Item) (x : Item) → EachPair ClosedAfter (xs ++ x ∷ []) → Each (λ w. Each (IsAbove w) (x ∷ [])) (marks_of xs)
marks_below xs x h = marks_before xs (x ∷ []) (EachPair-across ClosedAfter xs (x ∷ []) h)

pub closed_before : (xs : List Item) (x : Item) → EachPair ClosedAfter (xs ++ x ∷ []) → EachPair ClosedAfter xs
closed_before xs x h = EachPair-front ClosedAfter xs (x ∷ []) h

-- one more item after the same marks
pub closed_push : (given items : List Item) (x : Item) → Each NotDone given → marks_of given ≡ marks_of items → EachPair ClosedAfter given → EachPair ClosedAfter (items ++ x ∷ []) → EachPair ClosedAfter (given ++ x ∷ [])
closed_push given items x opens marks h k =
    EachPair-append ClosedAfter given (x ∷ []) h (tt, tt) (after_marks given (x ∷ []) opens (subst (Each (λ w. Each (IsAbove w) (x ∷ []))) (sym marks) (marks_below items x k)))

-- what a later item owes to the marks before it
pub marks_sound : (behind : ℕ → ℕ → Bool) (y : Item) (xs : List Item) → Each (λ x. Each (SoundAfter behind x) (y ∷ [])) xs → Each (λ w. SoundBelow behind w y) (marks_of xs)
marks_sound behind y [] h = tt
marks_sound behind y (item.Event e ∷ xs) h = marks_sound behind y xs h.1
marks_sound behind y (item.Side e ∷ xs) h = marks_sound behind y xs h.1
marks_sound behind y (item.Frame e ∷ xs) h = marks_sound behind y xs h.1
marks_sound behind y (item.Row e ∷ xs) h = marks_sound behind y xs h.1
marks_sound behind y (item.Late e ∷ xs) h = marks_sound behind y xs h.1
marks_sound behind y (item.Idle ∷ xs) h = marks_sound behind y xs h.1
marks_sound behind y (item.Mark w ∷ xs) h = (h.0.0, marks_sound behind y xs h.1)
marks_sound behind y (item.Done ∷ xs) h = marks_sound behind y xs h.1

-- ---- what was taken before was as it is to be
pub sound_front : (behind : ℕ → ℕ → Bool) (taken : List CallEntry) (e : CallEntry) → Sound behind (items_of (taken ++ e ∷ [])) → Sound behind (items_of taken)
sound_front behind taken e h = Sound-front behind (items_of taken) (entry_items e ++ []) (subst (Sound behind) (items_push taken e) h)

pub closed_front : (taken : List CallEntry) (e : CallEntry) → EachPair ClosedAfter (items_of (taken ++ e ∷ [])) → EachPair ClosedAfter (items_of taken)
closed_front taken e h = EachPair-front ClosedAfter (items_of taken) (entry_items e ++ []) (subst (EachPair ClosedAfter) (items_push taken e) h)

pub comes_front : (taken : List CallEntry) (e : CallEntry) → MayAll AnyQueue (taken ++ e ∷ []) → MayAll AnyQueue taken
comes_front taken e h = λ front x rest is. h front x (rest ++ e ∷ []) (ap (λ (es : List CallEntry). es ++ e ∷ []) is ∙ append_assoc front (x ∷ rest) (e ∷ []))

come_open : (taken : List CallEntry) (e : CallEntry) → MayCome AnyQueue taken e → Each NotFinish taken
come_open taken (Given port q x) h = h.0
come_open taken (MarkTold t) h = h
come_open taken (QueueClosed port q) h = h.0
come_open taken Finish h = h

pub input_front : (taken : List CallEntry) (e : CallEntry) → StageInput (taken ++ e ∷ []) → StageInput taken
input_front taken e h = record { closed = record { after = closed_front taken e h.closed.after }; comes = comes_front taken e h.comes }

pub input_open : (taken : List CallEntry) (e : CallEntry) → StageInput (taken ++ e ∷ []) → Each NotFinish taken
input_open taken e h = come_open taken e (h.comes taken e [] refl)

-- the marks taken are below what came after them
pub input_above : (taken : List CallEntry) (e : CallEntry) → StageInput (taken ++ e ∷ []) → Each (λ w. Each (IsAbove w) (entry_items e ++ [])) (marks_of (items_of taken))
input_above taken e h = marks_before (items_of taken) (entry_items e ++ []) (EachPair-across ClosedAfter (items_of taken) (entry_items e ++ []) (subst (EachPair ClosedAfter) (items_push taken e) h.closed.after))

-- ---- the finish
pub not_finished : (taken : List CallEntry) → is_finished taken ≡ false → Each NotFinish taken
not_finished [] h = tt
not_finished (Given port q x ∷ es) h = (tt, not_finished es h)
not_finished (MarkTold t ∷ es) h = (tt, not_finished es h)
not_finished (QueueClosed port q ∷ es) h = (tt, not_finished es h)
not_finished (Finish ∷ es) h = absurd (never h)
  where
    never : true ≡ false → ⊥
    never e = absurd (cc)

pub unfinished : (taken : List CallEntry) → Each NotFinish taken → is_finished taken ≡ false
unfinished [] h = refl
unfinished (Given port q x ∷ es) h = unfinished es h.1
unfinished (MarkTold t ∷ es) h = unfinished es h.1
unfinished (QueueClosed port q ∷ es) h = unfinished es h.1
unfinished (Finish ∷ es) h = absurd h.0

pub finished_last : (taken : List CallEntry) → is_finished (taken ++ Finish ∷ []) ≡ true
finished_last [] = refl
finished_last (Given port q x ∷ es) = finished_last es
finished_last (MarkTold t ∷ es) = finished_last es
finished_last (QueueClosed port q ∷ es) = finished_last es
finished_last (Finish ∷ es) = refl

-- nothing was finished before what may still come
pub never_finished : (taken : List CallEntry) → is_finished taken ≡ true → Each NotFinish taken → ⊥
never_finished [] h k = absurd (cc)
never_finished (Given port q x ∷ es) h k = never_finished es h k.1
never_finished (MarkTold t ∷ es) h k = never_finished es h k.1
never_finished (QueueClosed port q ∷ es) h k = never_finished es h k.1
never_finished (Finish ∷ es) h k = k.0

-- ---- what is due after one more entry
-- an entry that is neither a mark nor the finish makes nothing due
pub finished_same : (taken : List CallEntry) (e : CallEntry) → NotFinish e → is_finished (taken ++ e ∷ []) ≡ is_finished taken
finished_same [] (Given port q x) n = refl
finished_same [] (MarkTold t) n = refl
finished_same [] (QueueClosed port q) n = refl
finished_same [] Finish n = absurd n
finished_same (Given port q x ∷ es) e n = finished_same es e n
finished_same (MarkTold t ∷ es) e n = finished_same es e n
finished_same (QueueClosed port q ∷ es) e n = finished_same es e n
finished_same (Finish ∷ es) e n = refl

pub given_same : (taken : List CallEntry) (port : Port) (q : ℕ) (x : Item) (e : ℤ) → as_mark x ≡ [] → due_after (taken ++ Given port q x ∷ []) e ≡ due_after taken e
given_same taken port q x e none = rw (finished_same taken (Given port q x) tt, same_last taken port q x none) refl

pub closed_same : (taken : List CallEntry) (port : Port) (q : ℕ) (e : ℤ) → due_after (taken ++ QueueClosed port q ∷ []) e ≡ due_after taken e
closed_same taken port q e = rw (finished_same taken (QueueClosed port q) tt, closed_last taken port q) refl

either_true : (b c : Bool) → c ≡ true → (b || c) ≡ true
either_true true c h = refl
either_true false c h = h

first_true : (b c : Bool) → b ≡ true → (b || c) ≡ true
first_true true c h = refl
first_true false c h = absurd (cc)

second_true : (b c : Bool) → b ≡ false → (b || c) ≡ true → c ≡ true
second_true true c h k = absurd (cc)
second_true false c h k = k

-- before the finish, what the last mark closed
pub open_due : (taken : List CallEntry) (e : ℤ) → Each NotFinish taken → due_after taken e ≡ true → is_due (last_mark taken) e ≡ true
open_due taken e h d = second_true (is_finished taken) (is_due (last_mark taken) e) (unfinished taken h) d

last_due : (taken : List CallEntry) (o : Option ℤ) (e : ℤ) → last_mark taken ≡ o → is_due o e ≡ true → due_after taken e ≡ true
last_due taken o e is d = either_true (is_finished taken) (is_due (last_mark taken) e) (subst (λ (z : Option ℤ). is_due z e ≡ true) (sym is) d)

-- what the last mark did not close is not due
pub open_due_false : (taken : List CallEntry) (e : ℤ) → Each NotFinish taken → is_due (last_mark taken) e ≡ false → due_after taken e ≡ false
open_due_false taken e h d = rw (unfinished taken h) d

-- after a mark what it closes is due, and no more
pub told_same : (taken : List CallEntry) (t e : ℤ) → Each NotFinish taken → due_after (taken ++ MarkTold t ∷ []) e ≡ int_le e t
told_same taken t e h = rw (finished_same taken (MarkTold t) tt, unfinished taken h, told_last taken t) refl

-- after a mark all up to it, after the finish all
pub told_due : (taken : List CallEntry) (t e : ℤ) → e ≤ℤ t → due_after (taken ++ MarkTold t ∷ []) e ≡ true
told_due taken t e h = last_due (taken ++ MarkTold t ∷ []) (Some t) e (told_last taken t) ((Decides-int_le e t).1 h)

pub finish_due : (taken : List CallEntry) (e : ℤ) → due_after (taken ++ Finish ∷ []) e ≡ true
finish_due taken e = first_true (is_finished (taken ++ Finish ∷ [])) (is_due (last_mark (taken ++ Finish ∷ [])) e) (finished_last taken)

-- a mark that is told next is above what was closed
pub told_above : (taken : List CallEntry) (t e : ℤ) → StageInput (taken ++ MarkTold t ∷ []) → is_due (last_mark taken) e ≡ true → e ≤ℤ t
told_above taken t e i d = above (last_mark taken) refl d
  where
    above : (o : Option ℤ) → last_mark taken ≡ o → is_due o e ≡ true → e ≤ℤ t
    above None is d = absurd (cc)
    above (Some p) is d =
        let below : Each (λ w. w <ℤ t) (marks_of (items_of taken)) = Each-more (λ w. Each (IsAbove w) (item.Mark t ∷ [])) (λ w. w <ℤ t) (λ w k. k.0) (marks_of (items_of taken)) (input_above taken (MarkTold t) i) in
        let lt : p <ℤ t = from_last (λ w. w <ℤ t) p (marks_of (items_of taken)) below is in
        let le : e ≤ℤ p = (Decides-int_le e p).0 d in
        omega (arith, ints)

come_data : (taken : List CallEntry) (port : Port) (q : ℕ) (x : Item) → StageInput (taken ++ Given port q x ∷ []) → IsData x
come_data taken port q x i = (i.comes taken (Given port q x) [] refl).2

-- what the last mark closed stays due
pub due_next : (taken : List CallEntry) (entry : CallEntry) → StageInput (taken ++ entry ∷ []) → (e : ℤ) → is_due (last_mark taken) e ≡ true → due_after (taken ++ entry ∷ []) e ≡ true
due_next taken (Given port q x) i e d = last_due (taken ++ Given port q x ∷ []) (last_mark taken) e (same_last taken port q x (marks_none x (come_data taken port q x i))) d
due_next taken (MarkTold t) i e d = told_due taken t e (told_above taken t e i d)
due_next taken (QueueClosed port q) i e d = last_due (taken ++ QueueClosed port q ∷ []) (last_mark taken) e (closed_last taken port q) d
due_next taken Finish i e d = finish_due taken e

-- after an item that is no mark nothing more is due
pub due_before : (taken : List CallEntry) (port : Port) (q : ℕ) (x : Item) (e : ℤ) → as_mark x ≡ [] → StageInput (taken ++ Given port q x ∷ []) → due_after (taken ++ Given port q x ∷ []) e ≡ true → is_due (last_mark taken) e ≡ true
due_before taken port q x e none i d = open_due taken e (input_open taken (Given port q x) i) (sym (given_same taken port q x e none) ∙ d)

abbrev last_or : CallEntry → List CallEntry → CallEntry
last_or d [] = d
last_or d (e ∷ es) = last_or e es

last_or-push : (d : CallEntry) (es : List CallEntry) (e : CallEntry) → last_or d (es ++ e ∷ []) ≡ e
last_or-push d [] e = refl
last_or-push d (x ∷ es) e = last_or-push x es e

-- an entry that is not the finish comes last
pub not_last : (taken : List CallEntry) (e : CallEntry) → NotFinish e → (front : List CallEntry) → taken ++ e ∷ [] ≡ front ++ Finish ∷ [] → ⊥
not_last taken e n front is = subst NotFinish (sym (last_or-push e taken e) ∙ (ap (last_or e) is ∙ last_or-push e front Finish)) n

-- ---- no event is given
pub no_events_none : (xs : List Item) → Each NoEvent xs → events_of xs ≡ []
no_events_none [] h = refl
no_events_none (item.Event e ∷ xs) h = absurd h.0
no_events_none (item.Side e ∷ xs) h = no_events_none xs h.1
no_events_none (item.Frame e ∷ xs) h = no_events_none xs h.1
no_events_none (item.Row e ∷ xs) h = no_events_none xs h.1
no_events_none (item.Late e ∷ xs) h = no_events_none xs h.1
no_events_none (item.Idle ∷ xs) h = no_events_none xs h.1
no_events_none (item.Mark e ∷ xs) h = no_events_none xs h.1
no_events_none (item.Done ∷ xs) h = no_events_none xs h.1

after_event : (behind : ℕ → ℕ → Bool) (x y : Item) → NoEvent y → SoundAfter behind x y
after_event behind (item.Event e) y h = tt
after_event behind (item.Side e) y h = tt
after_event behind (item.Frame e) y h = tt
after_event behind (item.Row e) y h = tt
after_event behind (item.Late e) y h = tt
after_event behind item.Idle y h = tt
after_event behind (item.Mark w) (item.Event e) h = absurd h
after_event behind (item.Mark w) (item.Side e) h = tt
after_event behind (item.Mark w) (item.Frame e) h = tt
after_event behind (item.Mark w) (item.Row e) h = tt
after_event behind (item.Mark w) (item.Late e) h = tt
after_event behind (item.Mark w) item.Idle h = tt
after_event behind (item.Mark w) (item.Mark e) h = tt
after_event behind (item.Mark w) item.Done h = tt
after_event behind item.Done y h = tt

pub no_events_sound : (behind : ℕ → ℕ → Bool) (xs : List Item) → Each NoEvent xs → EachPair (SoundAfter behind) xs
no_events_sound behind [] h = tt
no_events_sound behind (x ∷ xs) h = (Each-more NoEvent (SoundAfter behind x) (after_event behind x) xs h.1, no_events_sound behind xs h.1)
