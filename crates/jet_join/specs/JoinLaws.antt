-- The laws of a join, from what it stands for.
use Rattle.std.proofs.Common.{◌≡◌, ℕ, ℤ, zero, suc, ◌-◌, ◌≤◌, Bool, true, false, List, [], ◌∷◌, ◌++◌, map, length, take, drop, refl, sym, ◌∙◌, ap, subst, arith, append-nil, append_assoc, take-append-drop}
use Rattle.std.specs.List.{flat_map}
use Rattle.std.proofs.lemmas.List.{take-map}
use Rattle.std.proofs.lemmas.List.Concat.{flat_map-append}
use Rattle.jet_items.specs.Values.{EventValue, SideValue}
use Rattle.jet_items.specs.Joins.{Joining, joined, joined_with, or_itself, rows_with}
use Rattle.jet_items.specs.Kinds.{marks_of, as_mark, as_frame, as_row, as_late}
use Rattle.jet_items.specs.Order.{Each, EachPair, Sound, SoundAfter, LateIsBehind, Closed as ClosedItems, ClosedAfter}
use Rattle.jet_items.specs.declared.item.Item.{Item}
use Rattle.jet_items.specs.declared.item.Item.TheVariants as item
use Rattle.jet_items.proofs.Orders.{Shadows, Shadows-refl, Shadows-nil, EachPair-through, Each-through, Each-front, Sound-front, Closed-front}
use Rattle.jet_boxes.specs.Entry.{CallEntry, Given, MarkTold, QueueClosed, Finish, NotDone, entry_items, items_of}
use Rattle.jet_boxes.specs.declared.port.Port.TheVariants.{Stream, Build}
use Rattle.jet_join.specs.declared.side_rows.SideRows.{SideRows}
use Rattle.jet_join.specs.Bag.{JoinBag}
use Rattle.jet_boxes.specs.Ports.{build_rows}
use Rattle.jet_join.specs.Stands.{gives, with_rows, all_given, JoinStands, JoinAmid}
use Rattle.jet_join.specs.Outs.{given-push, same_kind, same_sides, events_are}

items_are : (rows : List SideValue) (es : List CallEntry) → flat_map (λ (p : List SideValue × CallEntry). entry_items p.1) (with_rows rows es) ≡ items_of es
items_are rows [] = refl
items_are rows (e ∷ es) = ap (λ xs. entry_items e ++ xs) (items_are _ es)

-- ---- orders: the events that an event gives may stand for it
-- what an order must meet for that
record Fits (R : Item → Item → Type 0) : Type 0 where
  first : (d : EventValue) (y : Item) → R (item.Event d) y
  second : (y : Item) (e : EventValue) (key : List ℕ) (v : List ℤ) → R y (item.Event e) → R y (item.Event (record e { key = key; v = v }))

first_each : (R : Item → Item → Type 0) (f : Fits R) (d : EventValue) (ys : List Item) → Each (R (item.Event d)) ys
first_each R f d [] = tt
first_each R f d (y ∷ ys) = (f.first d y, first_each R f d ys)

events_pair : (R : Item → Item → Type 0) (f : Fits R) (ds : List EventValue) → EachPair R (map item.Event ds)
events_pair R f [] = tt
events_pair R f (d ∷ ds) = (first_each R f d (map item.Event ds), events_pair R f ds)

events_earlier : (R : Item → Item → Type 0) (f : Fits R) (ds : List EventValue) (zs : List Item) → Each (λ x. Each (R x) zs) (map item.Event ds)
events_earlier R f [] zs = tt
events_earlier R f (d ∷ ds) zs = (first_each R f d zs, events_earlier R f ds zs)

joined_later : (R : Item → Item → Type 0) (f : Fits R) (j : Joining) (e : EventValue) (z : Item) (rows : List SideValue) → R z (item.Event e) → Each (R z) (map item.Event (map (joined_with j e) rows))
joined_later R f j e z [] h = tt
joined_later R f j e z (s ∷ rows) h = (f.second z e _ _ h, joined_later R f j e z rows h)

itself_later : (R : Item → Item → Type 0) (left : Bool) (e : EventValue) (z : Item) (ds : List EventValue) → R z (item.Event e) → Each (R z) (map item.Event ds) → Each (R z) (map item.Event (or_itself left e ds))
itself_later R true e z [] h k = (h, tt)
itself_later R false e z [] h k = tt
itself_later R left e z (d ∷ ds) h k = k

event_shadow : (R : Item → Item → Type 0) (f : Fits R) (j : Joining) (rows : List SideValue) (e : EventValue) → Shadows R (map item.Event (joined j rows e)) (item.Event e ∷ [])
event_shadow R f j rows e = record {
  inside = λ h. events_pair R f (joined j rows e);
  later = λ z h. itself_later R j.left e z (map (joined_with j e) (rows_with e.key rows)) h.0 (joined_later R f j e z (rows_with e.key rows) h.0);
  earlier = λ zs h. events_earlier R f (joined j rows e) zs;
}

shadow : (R : Item → Item → Type 0) (f : Fits R) (j : Joining) (rows : List SideValue) (e : CallEntry) → Shadows R (gives j rows e) (entry_items e)
shadow R f j rows (Given Stream q (item.Event e)) = event_shadow R f j rows e
shadow R f j rows (Given Stream q x) = Shadows-refl R _
shadow R f j rows (Given Build q (item.Side s)) = Shadows-nil R _
shadow R f j rows (Given Build q x) = Shadows-refl R _
shadow R f j rows (MarkTold t) = Shadows-refl R _
shadow R f j rows (QueueClosed port q) = Shadows-refl R _
shadow R f j rows Finish = Shadows-refl R _

ordered : (R : Item → Item → Type 0) (f : Fits R) (j : Joining) (taken : List CallEntry) → EachPair R (items_of taken) → EachPair R (all_given j [] taken)
ordered R f j taken h =
    EachPair-through R (λ (p : List SideValue × CallEntry). gives j p.0 p.1) (λ p. entry_items p.1) (λ p. shadow R f j p.0 p.1) (with_rows [] taken)
    (subst (EachPair R) (sym (items_are [] taken)) h)

sound_second : (behind : ℕ → ℕ → Bool) (y : Item) (e : EventValue) (key : List ℕ) (v : List ℤ) → SoundAfter behind y (item.Event e) → SoundAfter behind y (item.Event (record e { key = key; v = v }))
sound_second behind (item.Mark m) e key v h = h
sound_second behind x e key v h = tt

closed_second : (y : Item) (e : EventValue) (key : List ℕ) (v : List ℤ) → ClosedAfter y (item.Event e) → ClosedAfter y (item.Event (record e { key = key; v = v }))
closed_second item.Done e key v h = h
closed_second x e key v h = tt

no_late : (behind : ℕ → ℕ → Bool) (ds : List EventValue) → Each (LateIsBehind behind) (map item.Event ds)
no_late behind [] = tt
no_late behind (d ∷ ds) = (tt, no_late behind ds)

lates_each : (behind : ℕ → ℕ → Bool) (j : Joining) (rows : List SideValue) (e : CallEntry) → Each (LateIsBehind behind) (entry_items e) → Each (LateIsBehind behind) (gives j rows e)
lates_each behind j rows (Given Stream q (item.Event e)) h = no_late behind (joined j rows e)
lates_each behind j rows (Given Stream q x) h = h
lates_each behind j rows (Given Build q (item.Side s)) h = tt
lates_each behind j rows (Given Build q x) h = h
lates_each behind j rows (MarkTold t) h = h
lates_each behind j rows (QueueClosed port q) h = h
lates_each behind j rows Finish h = h

all_sound : (behind : ℕ → ℕ → Bool) (j : Joining) (taken : List CallEntry) → Sound behind (items_of taken) → Sound behind (all_given j [] taken)
all_sound behind j taken s = record {
  after = ordered (SoundAfter behind) (record { first = λ d y. tt; second = sound_second behind }) j taken s.after;
  lates = Each-through (LateIsBehind behind) (λ (p : List SideValue × CallEntry). gives j p.0 p.1) (λ p. entry_items p.1) (λ p. lates_each behind j p.0 p.1) (with_rows [] taken)
      (subst (Each (LateIsBehind behind)) (sym (items_are [] taken)) s.lates);
}

all_closed : (j : Joining) (taken : List CallEntry) → ClosedItems (items_of taken) → ClosedItems (all_given j [] taken)
all_closed j taken s = record { after = ordered ClosedAfter (record { first = λ d y. tt; second = closed_second }) j taken s.after }

-- ---- the laws
pub join_begins : (j : Joining) (kept : SideRows) (next : ℕ) (taken : List CallEntry) (entry : CallEntry) (given : List Item) → JoinStands j kept next taken given → JoinAmid j kept next taken entry given
join_begins j kept next taken entry given h = record {
  keeps = h.keeps;
  place = omega (arith, h.start);
  gave = h.gave ∙ (sym (append-nil (all_given j [] taken)) ∙ ap (λ n. all_given j [] taken ++ take n (gives j (build_rows taken) entry)) (sym h.start));
}

pub join_sound : (behind : ℕ → ℕ → Bool) (j : Joining) (kept : SideRows) (next : ℕ) (taken : List CallEntry) (given : List Item) → JoinStands j kept next taken given → Sound behind (items_of taken) → Sound behind given
join_sound behind j kept next taken given h s = subst (Sound behind) (sym h.gave) (all_sound behind j taken s)

pub join_closed : (j : Joining) (kept : SideRows) (next : ℕ) (taken : List CallEntry) (given : List Item) → JoinStands j kept next taken given → ClosedItems (items_of taken) → ClosedItems given
join_closed j kept next taken given h s = subst ClosedItems (sym h.gave) (all_closed j taken s)

-- what was given in the middle of an entry, and what is still to be put for it
whole : (j : Joining) (kept : SideRows) (next : ℕ) (taken : List CallEntry) (entry : CallEntry) (given : List Item) → JoinAmid j kept next taken entry given
    → all_given j [] (taken ++ entry ∷ []) ≡ given ++ drop next (gives j (build_rows taken) entry)
whole j kept next taken entry given h =
    let all : List Item = gives j (build_rows taken) entry in
    given-push j taken entry
    ∙ (ap (λ xs. all_given j [] taken ++ xs) (sym (take-append-drop next all))
    ∙ (sym (append_assoc (all_given j [] taken) (take next all) (drop next all)) ∙ ap (λ xs. xs ++ drop next all) (sym h.gave)))

pub join_sound_amid : (behind : ℕ → ℕ → Bool) (j : Joining) (kept : SideRows) (next : ℕ) (taken : List CallEntry) (entry : CallEntry) (given : List Item) → JoinAmid j kept next taken entry given → Sound behind (items_of (taken ++ entry ∷ [])) → Sound behind given
join_sound_amid behind j kept next taken entry given h s =
    Sound-front behind given _ (subst (Sound behind) (whole j kept next taken entry given h) (all_sound behind j (taken ++ entry ∷ []) s))

pub join_closed_amid : (j : Joining) (kept : SideRows) (next : ℕ) (taken : List CallEntry) (entry : CallEntry) (given : List Item) → JoinAmid j kept next taken entry given → ClosedItems (items_of (taken ++ entry ∷ [])) → ClosedItems given
join_closed_amid j kept next taken entry given h s =
    Closed-front given _ (subst ClosedItems (whole j kept next taken entry given h) (all_closed j (taken ++ entry ∷ []) s))

-- ---- no end is given
no_done : (ds : List EventValue) → Each NotDone (map item.Event ds)
no_done [] = tt
no_done (d ∷ ds) = (tt, no_done ds)

open_each : (j : Joining) (rows : List SideValue) (e : CallEntry) → Each NotDone (entry_items e) → Each NotDone (gives j rows e)
open_each j rows (Given Stream q (item.Event e)) h = no_done (joined j rows e)
open_each j rows (Given Stream q x) h = h
open_each j rows (Given Build q (item.Side s)) h = tt
open_each j rows (Given Build q x) h = h
open_each j rows (MarkTold t) h = h
open_each j rows (QueueClosed port q) h = h
open_each j rows Finish h = h

all_open : (j : Joining) (taken : List CallEntry) → Each NotDone (items_of taken) → Each NotDone (all_given j [] taken)
all_open j taken h =
    Each-through NotDone (λ (p : List SideValue × CallEntry). gives j p.0 p.1) (λ p. entry_items p.1) (λ p. open_each j p.0 p.1) (with_rows [] taken)
    (subst (Each NotDone) (sym (items_are [] taken)) h)

pub join_open : (j : Joining) (kept : SideRows) (next : ℕ) (taken : List CallEntry) (given : List Item) → JoinStands j kept next taken given → Each NotDone (items_of taken) → Each NotDone given
join_open j kept next taken given h k = subst (Each NotDone) (sym h.gave) (all_open j taken k)

pub join_open_amid : (j : Joining) (kept : SideRows) (next : ℕ) (taken : List CallEntry) (entry : CallEntry) (given : List Item) → JoinAmid j kept next taken entry given → Each NotDone (items_of (taken ++ entry ∷ [])) → Each NotDone given
join_open_amid j kept next taken entry given h k =
    Each-front NotDone given _ (subst (Each NotDone) (whole j kept next taken entry given h) (all_open j (taken ++ entry ∷ []) k))

all_bag : (j : Joining) (taken : List CallEntry) → JoinBag j taken (all_given j [] taken)
all_bag j taken = record {
  events = λ first. events_are j taken first;
  sides = same_sides j [] taken;
  frames = same_kind as_frame j (λ d. refl) (λ s. refl) [] taken;
  rows = same_kind as_row j (λ d. refl) (λ s. refl) [] taken;
  lates = same_kind as_late j (λ d. refl) (λ s. refl) [] taken;
}

pub join_bag : (j : Joining) (kept : SideRows) (next : ℕ) (taken : List CallEntry) (given : List Item) → JoinStands j kept next taken given → JoinBag j taken given
join_bag j kept next taken given h = subst (JoinBag j taken) (sym h.gave) (all_bag j taken)

pub join_bag_amid : (j : Joining) (kept : SideRows) (next : ℕ) (taken : List CallEntry) (entry : CallEntry) (given : List Item) → JoinAmid j kept next taken entry given
    → (held : List Item) × JoinBag j (taken ++ entry ∷ []) (given ++ held)
join_bag_amid j kept next taken entry given h =
    (drop next (gives j (build_rows taken) entry), subst (JoinBag j (taken ++ entry ∷ [])) (whole j kept next taken entry given h) (all_bag j (taken ++ entry ∷ [])))

pub join_marks : (j : Joining) (kept : SideRows) (next : ℕ) (taken : List CallEntry) (given : List Item) → JoinStands j kept next taken given → marks_of given ≡ marks_of (items_of taken)
join_marks j kept next taken given h = ap marks_of h.gave ∙ same_kind as_mark j (λ d. refl) (λ s. refl) [] taken

no_marks : (ds : List EventValue) → marks_of (map item.Event ds) ≡ []
no_marks [] = refl
no_marks (d ∷ ds) = no_marks ds

-- nothing is put yet, where there is one item to put
pub none_yet : (next : ℕ) (x : Item) → next ≤ 0 → take next (x ∷ []) ≡ []
none_yet zero x h = refl
none_yet (suc n) x h = absurd (omega (arith, h))

marks_yet : (j : Joining) (rows : List SideValue) (next : ℕ) (e : CallEntry) → next ≤ length (gives j rows e) - 1 → marks_of (take next (gives j rows e)) ≡ []
marks_yet j rows next (Given Stream q (item.Event e)) h = ap marks_of (take-map item.Event next (joined j rows e)) ∙ no_marks (take next (joined j rows e))
marks_yet j rows next (Given Stream q x) h = ap marks_of (none_yet next x h)
marks_yet j rows next (Given Build q (item.Event e)) h = ap marks_of (none_yet next (item.Event e) h)
marks_yet j rows zero (Given Build q (item.Side s)) h = refl
marks_yet j rows (suc n) (Given Build q (item.Side s)) h = refl
marks_yet j rows next (Given Build q (item.Frame g)) h = ap marks_of (none_yet next (item.Frame g) h)
marks_yet j rows next (Given Build q (item.Row r)) h = ap marks_of (none_yet next (item.Row r) h)
marks_yet j rows next (Given Build q (item.Late l)) h = ap marks_of (none_yet next (item.Late l) h)
marks_yet j rows next (Given Build q item.Idle) h = ap marks_of (none_yet next item.Idle h)
marks_yet j rows next (Given Build q (item.Mark m)) h = ap marks_of (none_yet next (item.Mark m) h)
marks_yet j rows next (Given Build q item.Done) h = ap marks_of (none_yet next item.Done h)
marks_yet j rows next (MarkTold t) h = ap marks_of (none_yet next (item.Mark t) h)
marks_yet j rows zero (QueueClosed port q) h = refl
marks_yet j rows (suc n) (QueueClosed port q) h = refl
marks_yet j rows zero Finish h = refl
marks_yet j rows (suc n) Finish h = refl

pub join_marks_amid : (j : Joining) (kept : SideRows) (next : ℕ) (taken : List CallEntry) (entry : CallEntry) (given : List Item) → JoinAmid j kept next taken entry given → marks_of given ≡ marks_of (items_of taken)
join_marks_amid j kept next taken entry given h =
    ap marks_of h.gave
    ∙ (flat_map-append as_mark (all_given j [] taken) (take next (gives j (build_rows taken) entry))
    ∙ (ap (λ ms. marks_of (all_given j [] taken) ++ ms) (marks_yet j (build_rows taken) next entry h.place)
    ∙ (append-nil (marks_of (all_given j [] taken)) ∙ same_kind as_mark j (λ d. refl) (λ s. refl) [] taken)))
