-- The laws of stages, of what they gave alone. The one thing asked of f is that its events stay where the event stood.
use Rattle.std.proofs.Common.{◌≡◌, ℕ, Bool, ℤ, List, [], ◌∷◌, ◌++◌, map, refl, sym, ◌∙◌, ap, subst, append-nil}
use Rattle.std.specs.Prelude.{◌<ℤ◌}
use Rattle.std.specs.List.{flat_map}
use Rattle.std.proofs.lemmas.List.Concat.{flat_map-append}
use Rattle.jet_items.specs.Values.{EventValue}
use Rattle.jet_items.specs.declared.item.Item.{Item}
use Rattle.jet_items.specs.declared.item.Item.TheVariants as item
use Rattle.jet_items.specs.Order.{Each, EachPair, Sound, SoundAfter, LateIsBehind, Closed as ClosedItems, ClosedAfter}
use Rattle.jet_items.specs.Bag.{SameBag}
use Rattle.jet_items.specs.Kinds.{as_event, as_other, as_mark, events_of, others_of, marks_of}
use Rattle.jet_items.proofs.Orders.{Shadows, Shadows-refl, EachPair-through, Each-through, Each-front, Sound-front, Closed-front}
use Rattle.jet_items.proofs.Bags.{SameBag-refl}
use Rattle.jet_boxes.specs.Entry.{CallEntry, Given, MarkTold, QueueClosed, Finish, NotDone, entry_items, items_of}
use Rattle.jet_stages.specs.Stage.{item_gives, gives, StageStands, StageBag, MarksPass}

-- the event stays where e stood: at its line of its file, and at its time
pub record StandsAt (e d : EventValue) : Type 0 where
  pub part : d.part ≡ e.part
  pub line : d.line ≡ e.line
  pub time : d.ts ≡ e.ts

-- all events that f makes of an event stay where it stood
abbrev pub KeepsPlace : (EventValue → List EventValue) → Type 0
KeepsPlace f = (e : EventValue) → Each (StandsAt e) (f e)

-- an order that asks of an event only where it stands, and nothing of what follows it
record Fits (R : Item → Item → Type 0) : Type 0 where
  first : (d : EventValue) (y : Item) → R (item.Event d) y
  second : (y : Item) (e d : EventValue) → StandsAt e d → R y (item.Event e) → R y (item.Event d)

first_each : (R : Item → Item → Type 0) (f : Fits R) (d : EventValue) (ys : List Item) → Each (R (item.Event d)) ys
first_each R f d [] = tt
first_each R f d (y ∷ ys) = (f.first d y, first_each R f d ys)

events_pairs : (R : Item → Item → Type 0) (f : Fits R) (ds : List EventValue) → EachPair R (map item.Event ds)
events_pairs R f [] = tt
events_pairs R f (d ∷ ds) = (first_each R f d (map item.Event ds), events_pairs R f ds)

events_each : (P : Item → Type 0) (e : EventValue) → ((d : EventValue) → StandsAt e d → P (item.Event d)) → (ds : List EventValue) → Each (StandsAt e) ds → Each P (map item.Event ds)
events_each P e p [] h = tt
events_each P e p (d ∷ ds) h = (p d h.0, events_each P e p ds h.1)

all_each : (P : Item → Type 0) → ((d : EventValue) → P (item.Event d)) → (ds : List EventValue) → Each P (map item.Event ds)
all_each P p [] = tt
all_each P p (d ∷ ds) = (p d, all_each P p ds)

item_shadow : (R : Item → Item → Type 0) (fits : Fits R) (f : EventValue → List EventValue) → KeepsPlace f → (x : Item) → Shadows R (item_gives f x) (x ∷ [])
item_shadow R fits f keeps (item.Event e) =
    record {
      inside = λ h. events_pairs R fits (f e);
      later = λ z h. events_each (R z) e (λ d at. fits.second z e d at h.0) (f e) (keeps e);
      earlier = λ zs h. all_each (λ x. Each (R x) zs) (λ d. first_each R fits d zs) (f e);
    }
item_shadow R fits f keeps (item.Side s) = Shadows-refl R (item.Side s ∷ [])
item_shadow R fits f keeps (item.Frame g) = Shadows-refl R (item.Frame g ∷ [])
item_shadow R fits f keeps (item.Row r) = Shadows-refl R (item.Row r ∷ [])
item_shadow R fits f keeps (item.Late l) = Shadows-refl R (item.Late l ∷ [])
item_shadow R fits f keeps item.Idle = Shadows-refl R (item.Idle ∷ [])
item_shadow R fits f keeps (item.Mark m) = Shadows-refl R (item.Mark m ∷ [])
item_shadow R fits f keeps item.Done = Shadows-refl R (item.Done ∷ [])

entry_shadow : (R : Item → Item → Type 0) (fits : Fits R) (f : EventValue → List EventValue) → KeepsPlace f → (e : CallEntry) → Shadows R (gives f e) (entry_items e)
entry_shadow R fits f keeps (Given port queue x) = item_shadow R fits f keeps x
entry_shadow R fits f keeps (MarkTold m) = Shadows-refl R (item.Mark m ∷ [])
entry_shadow R fits f keeps (QueueClosed port queue) = Shadows-refl R []
entry_shadow R fits f keeps Finish = Shadows-refl R []

sound_second : (behind : ℕ → ℕ → Bool) (y : Item) (e d : EventValue) → StandsAt e d → SoundAfter behind y (item.Event e) → SoundAfter behind y (item.Event d)
sound_second behind (item.Mark w) e d at h = λ below. rw (at.part, at.line) (h (subst (λ (t : ℤ). t <ℤ w) at.time below))
sound_second behind x e d at h = tt

closed_second : (y : Item) (e d : EventValue) → StandsAt e d → ClosedAfter y (item.Event e) → ClosedAfter y (item.Event d)
closed_second item.Done e d at h = h
closed_second x e d at h = tt

sound_fits : (behind : ℕ → ℕ → Bool) → Fits (SoundAfter behind)
sound_fits behind = record { first = λ d y. tt; second = sound_second behind }

closed_fits : Fits ClosedAfter
closed_fits = record { first = λ d y. tt; second = closed_second }

item_lates : (behind : ℕ → ℕ → Bool) (f : EventValue → List EventValue) (x : Item) → Each (LateIsBehind behind) (x ∷ []) → Each (LateIsBehind behind) (item_gives f x)
item_lates behind f (item.Event e) h = all_each (LateIsBehind behind) (λ d. tt) (f e)
item_lates behind f x h = h

entry_lates : (behind : ℕ → ℕ → Bool) (f : EventValue → List EventValue) (e : CallEntry) → Each (LateIsBehind behind) (entry_items e) → Each (LateIsBehind behind) (gives f e)
entry_lates behind f (Given port queue x) h = item_lates behind f x h
entry_lates behind f e h = h

item_open : (f : EventValue → List EventValue) (x : Item) → Each NotDone (x ∷ []) → Each NotDone (item_gives f x)
item_open f (item.Event e) h = all_each NotDone (λ d. tt) (f e)
item_open f x h = h

entry_open : (f : EventValue → List EventValue) (e : CallEntry) → Each NotDone (entry_items e) → Each NotDone (gives f e)
entry_open f (Given port queue x) h = item_open f x h
entry_open f e h = h

-- what is given for entries whose items are sound is sound, and likewise for closed, and for without Done
pub gives_sound : (behind : ℕ → ℕ → Bool) (f : EventValue → List EventValue) → KeepsPlace f → (taken : List CallEntry) → Sound behind (items_of taken) → Sound behind (flat_map (gives f) taken)
gives_sound behind f keeps taken s = record {
  after = EachPair-through (SoundAfter behind) (gives f) entry_items (entry_shadow (SoundAfter behind) (sound_fits behind) f keeps) taken s.after;
  lates = Each-through (LateIsBehind behind) (gives f) entry_items (entry_lates behind f) taken s.lates;
}

pub gives_closed : (f : EventValue → List EventValue) → KeepsPlace f → (taken : List CallEntry) → ClosedItems (items_of taken) → ClosedItems (flat_map (gives f) taken)
gives_closed f keeps taken s = record { after = EachPair-through ClosedAfter (gives f) entry_items (entry_shadow ClosedAfter closed_fits f keeps) taken s.after }

pub gives_open : (f : EventValue → List EventValue) (taken : List CallEntry) → Each NotDone (items_of taken) → Each NotDone (flat_map (gives f) taken)
gives_open f taken = Each-through NotDone (gives f) entry_items (entry_open f) taken

items_front : (taken : List CallEntry) (entry : CallEntry) → items_of (taken ++ entry ∷ []) ≡ items_of taken ++ items_of (entry ∷ [])
items_front taken entry = flat_map-append entry_items taken (entry ∷ [])

pub stage_sound : (behind : ℕ → ℕ → Bool) (f : EventValue → List EventValue) → KeepsPlace f → (taken : List CallEntry) (given : List Item) → StageStands f taken given → Sound behind (items_of taken) → Sound behind given
stage_sound behind f keeps taken given h s = subst (Sound behind) (sym h) (gives_sound behind f keeps taken s)

pub stage_closed : (f : EventValue → List EventValue) → KeepsPlace f → (taken : List CallEntry) (given : List Item) → StageStands f taken given → ClosedItems (items_of taken) → ClosedItems given
stage_closed f keeps taken given h s = subst ClosedItems (sym h) (gives_closed f keeps taken s)

pub stage_open : (f : EventValue → List EventValue) (taken : List CallEntry) (given : List Item) → StageStands f taken given → Each NotDone (items_of taken) → Each NotDone given
stage_open f taken given h s = subst (Each NotDone) (sym h) (gives_open f taken s)

-- a call that puts nothing before its end
pub stage_sound_amid : (behind : ℕ → ℕ → Bool) (f : EventValue → List EventValue) → KeepsPlace f → (taken : List CallEntry) (entry : CallEntry) (given : List Item) → StageStands f taken given → Sound behind (items_of (taken ++ entry ∷ [])) → Sound behind given
stage_sound_amid behind f keeps taken entry given h s =
    stage_sound behind f keeps taken given h (Sound-front behind (items_of taken) (items_of (entry ∷ [])) (subst (Sound behind) (items_front taken entry) s))

pub stage_closed_amid : (f : EventValue → List EventValue) → KeepsPlace f → (taken : List CallEntry) (entry : CallEntry) (given : List Item) → StageStands f taken given → ClosedItems (items_of (taken ++ entry ∷ [])) → ClosedItems given
stage_closed_amid f keeps taken entry given h s =
    stage_closed f keeps taken given h (Closed-front (items_of taken) (items_of (entry ∷ [])) (subst ClosedItems (items_front taken entry) s))

pub stage_open_amid : (f : EventValue → List EventValue) (taken : List CallEntry) (entry : CallEntry) (given : List Item) → StageStands f taken given → Each NotDone (items_of (taken ++ entry ∷ [])) → Each NotDone given
stage_open_amid f taken entry given h s =
    stage_open f taken given h (Each-front NotDone (items_of taken) (items_of (entry ∷ [])) (subst (Each NotDone) (items_front taken entry) s))

-- ---- kind by kind
map_events : (ds : List EventValue) → events_of (map item.Event ds) ≡ ds
map_events [] = refl
map_events (d ∷ ds) = ap (λ es. d ∷ es) (map_events ds)

map_others : (ds : List EventValue) → others_of (map item.Event ds) ≡ []
map_others [] = refl
map_others (d ∷ ds) = map_others ds

pub map_marks : (ds : List EventValue) → marks_of (map item.Event ds) ≡ []
map_marks [] = refl
map_marks (d ∷ ds) = map_marks ds

item_events : (f : EventValue → List EventValue) (x : Item) → events_of (item_gives f x) ≡ flat_map f (events_of (x ∷ []))
item_events f (item.Event e) = map_events (f e) ∙ sym (append-nil (f e))
item_events f x = refl

item_others : (f : EventValue → List EventValue) (x : Item) → others_of (item_gives f x) ≡ others_of (x ∷ [])
item_others f (item.Event e) = map_others (f e)
item_others f x = refl

item_marks : (f : EventValue → List EventValue) (x : Item) → marks_of (item_gives f x) ≡ marks_of (x ∷ [])
item_marks f (item.Event e) = map_marks (f e)
item_marks f x = refl

entry_events : (f : EventValue → List EventValue) (e : CallEntry) → events_of (gives f e) ≡ flat_map f (events_of (entry_items e))
entry_events f (Given port queue x) = item_events f x
entry_events f e = refl

entry_others : (f : EventValue → List EventValue) (e : CallEntry) → others_of (gives f e) ≡ others_of (entry_items e)
entry_others f (Given port queue x) = item_others f x
entry_others f e = refl

entry_marks : (f : EventValue → List EventValue) (e : CallEntry) → marks_of (gives f e) ≡ marks_of (entry_items e)
entry_marks f (Given port queue x) = item_marks f x
entry_marks f e = refl

pub gives_events : (f : EventValue → List EventValue) (taken : List CallEntry) → events_of (flat_map (gives f) taken) ≡ flat_map f (events_of (items_of taken))
gives_events f [] = refl
gives_events f (e ∷ taken) =
    flat_map-append as_event (gives f e) (flat_map (gives f) taken)
    ∙ (ap (λ es. es ++ events_of (flat_map (gives f) taken)) (entry_events f e)
    ∙ (ap (λ es. flat_map f (events_of (entry_items e)) ++ es) (gives_events f taken)
    ∙ (sym (flat_map-append f (events_of (entry_items e)) (events_of (items_of taken)))
    ∙ ap (flat_map f) (sym (flat_map-append as_event (entry_items e) (items_of taken))))))

-- a kind of which each entry gives what it brought
gives_kind : {X : Type 0} (pick : Item → List X) (f : EventValue → List EventValue) → ((e : CallEntry) → flat_map pick (gives f e) ≡ flat_map pick (entry_items e)) → (taken : List CallEntry)
    → flat_map pick (flat_map (gives f) taken) ≡ flat_map pick (items_of taken)
gives_kind pick f each [] = refl
gives_kind pick f each (e ∷ taken) =
    flat_map-append pick (gives f e) (flat_map (gives f) taken)
    ∙ (ap (λ xs. xs ++ flat_map pick (flat_map (gives f) taken)) (each e)
    ∙ (ap (λ xs. flat_map pick (entry_items e) ++ xs) (gives_kind pick f each taken)
    ∙ sym (flat_map-append pick (entry_items e) (items_of taken))))

pub gives_others : (f : EventValue → List EventValue) (taken : List CallEntry) → others_of (flat_map (gives f) taken) ≡ others_of (items_of taken)
gives_others f taken = gives_kind as_other f (entry_others f) taken

pub gives_marks : (f : EventValue → List EventValue) (taken : List CallEntry) → marks_of (flat_map (gives f) taken) ≡ marks_of (items_of taken)
gives_marks f taken = gives_kind as_mark f (entry_marks f) taken

pub stage_bag : (flow : List EventValue → List EventValue) (f : EventValue → List EventValue) → ((es : List EventValue) → flat_map f es ≡ flow es) → (taken : List CallEntry) (given : List Item) → StageStands f taken given → StageBag flow taken given
stage_bag flow f is taken given h =
    record {
      events = subst (λ (es : List EventValue). SameBag (events_of given) es) (ap events_of h ∙ (gives_events f taken ∙ is (events_of (items_of taken)))) (SameBag-refl (events_of given));
      others = ap others_of h ∙ gives_others f taken;
    }

pub stage_marks : (f : EventValue → List EventValue) (taken : List CallEntry) (given : List Item) → StageStands f taken given → MarksPass taken given
stage_marks f taken given h = ap marks_of h ∙ gives_marks f taken
