-- The laws of flats.
use Rattle.std.proofs.Common.{◌≡◌, ℕ, Bool, List, [], ◌∷◌, ◌++◌, map, drop, refl, sym, ◌∙◌, ap, subst, append-nil}
use Rattle.std.specs.Prelude.{filter}
use Rattle.std.specs.List.{flat_map}
use Rattle.std.proofs.lemmas.List.Concat.{flat_map-append}
use Rattle.jet_items.specs.Values.{EventValue}
use Rattle.jet_items.specs.declared.item.Item.{Item}
use Rattle.jet_items.specs.declared.item.Item.TheVariants as item
use Rattle.jet_items.specs.Order.{Each, Sound, Closed as ClosedItems}
use Rattle.jet_items.specs.Kinds.{as_mark, marks_of}
use Rattle.jet_items.proofs.Orders.{Each-front, Sound-front, Closed-front}
use Rattle.jet_boxes.specs.Entry.{CallEntry, Given, MarkTold, QueueClosed, Finish, NotDone, items_of}
use Rattle.jet_expr.specs.Flows.{LegValue, passes, leg_event, flattened}
use Rattle.jet_stages.specs.declared.leg.Leg.{Leg}
use Rattle.jet_stages.specs.Stage.{gives, StageStands, StageBag, MarksPass}
use Rattle.jet_stages.specs.StageLaws.{StandsAt, KeepsPlace, gives_sound, gives_closed, gives_open, gives_marks, map_marks, stage_bag}
use Rattle.jet_stages.specs.Flat.{leg_value, joined_key, legs_give, FlatStands, FlatAmid, FlatBagAmid}

made_keep : (e : EventValue) (legs : List LegValue) → Each (StandsAt e) (map (leg_event joined_key e) legs)
made_keep e [] = tt
made_keep e (leg ∷ legs) = (record { part = refl; line = refl; time = refl }, made_keep e legs)

pub flat_keeps : (legs : List Leg) → KeepsPlace (legs_give legs)
flat_keeps legs e = made_keep e (filter (λ leg. passes leg.test e) (map leg_value legs))

pub flat_begins : (legs : List Leg) (next : ℕ) (taken : List CallEntry) (entry : CallEntry) (given : List Item) → FlatStands legs next taken given → FlatAmid legs next taken entry given
flat_begins legs next taken (Given port queue (item.Event e)) given h = rw (h.0, h.1) refl
flat_begins legs next taken (Given port queue x) given h = h
flat_begins legs next taken (MarkTold t) given h = h
flat_begins legs next taken (QueueClosed port queue) given h = h
flat_begins legs next taken Finish given h = h

-- what a call in the middle still has to put
record Rest (legs : List Leg) (taken : List CallEntry) (entry : CallEntry) (given : List Item) : Type 0 where
  left : List Item
  all : given ++ left ≡ flat_map (gives (legs_give legs)) (taken ++ entry ∷ [])
  marks : marks_of given ≡ marks_of (flat_map (gives (legs_give legs)) taken)

last_gives : (f : EventValue → List EventValue) (taken : List CallEntry) (entry : CallEntry) → flat_map (gives f) (taken ++ entry ∷ []) ≡ flat_map (gives f) taken ++ gives f entry
last_gives f taken entry = flat_map-append (gives f) taken (entry ∷ []) ∙ ap (λ xs. flat_map (gives f) taken ++ xs) (append-nil (gives f entry))

whole_rest : (legs : List Leg) (next : ℕ) (taken : List CallEntry) (entry : CallEntry) (given : List Item) → FlatStands legs next taken given → Rest legs taken entry given
whole_rest legs next taken entry given h =
    record {
      left = gives (legs_give legs) entry;
      all = ap (λ xs. xs ++ gives (legs_give legs) entry) h.1 ∙ sym (last_gives (legs_give legs) taken entry);
      marks = ap marks_of h.1;
    }

no_marks : (xs : List Item) (ds : List EventValue) → marks_of (xs ++ map item.Event ds) ≡ marks_of xs
no_marks xs ds = flat_map-append as_mark xs (map item.Event ds) ∙ (ap (λ ts. marks_of xs ++ ts) (map_marks ds) ∙ append-nil (marks_of xs))

flat_rest : (legs : List Leg) (next : ℕ) (taken : List CallEntry) (entry : CallEntry) (given : List Item) → FlatAmid legs next taken entry given → Rest legs taken entry given
flat_rest legs next taken (Given port queue (item.Event e)) given h =
    record {
      left = map item.Event (legs_give (drop next legs) e);
      all = h ∙ sym (last_gives (legs_give legs) taken (Given port queue (item.Event e)));
      marks = sym (no_marks given (legs_give (drop next legs) e)) ∙ (ap marks_of h ∙ no_marks (flat_map (gives (legs_give legs)) taken) (legs_give legs e));
    }
flat_rest legs next taken (Given port queue (item.Side s)) given h = whole_rest legs next taken (Given port queue (item.Side s)) given h
flat_rest legs next taken (Given port queue (item.Frame f)) given h = whole_rest legs next taken (Given port queue (item.Frame f)) given h
flat_rest legs next taken (Given port queue (item.Row r)) given h = whole_rest legs next taken (Given port queue (item.Row r)) given h
flat_rest legs next taken (Given port queue (item.Late l)) given h = whole_rest legs next taken (Given port queue (item.Late l)) given h
flat_rest legs next taken (Given port queue item.Idle) given h = whole_rest legs next taken (Given port queue item.Idle) given h
flat_rest legs next taken (Given port queue (item.Mark m)) given h = whole_rest legs next taken (Given port queue (item.Mark m)) given h
flat_rest legs next taken (Given port queue item.Done) given h = whole_rest legs next taken (Given port queue item.Done) given h
flat_rest legs next taken (MarkTold t) given h = whole_rest legs next taken (MarkTold t) given h
flat_rest legs next taken (QueueClosed port queue) given h = whole_rest legs next taken (QueueClosed port queue) given h
flat_rest legs next taken Finish given h = whole_rest legs next taken Finish given h

pub flat_sound_amid : (behind : ℕ → ℕ → Bool) (legs : List Leg) (next : ℕ) (taken : List CallEntry) (entry : CallEntry) (given : List Item) → FlatAmid legs next taken entry given → Sound behind (items_of (taken ++ entry ∷ [])) → Sound behind given
flat_sound_amid behind legs next taken entry given h s =
    let rest = flat_rest legs next taken entry given h in
    Sound-front behind given rest.left (subst (Sound behind) (sym rest.all) (gives_sound behind (legs_give legs) (flat_keeps legs) (taken ++ entry ∷ []) s))

pub flat_closed_amid : (legs : List Leg) (next : ℕ) (taken : List CallEntry) (entry : CallEntry) (given : List Item) → FlatAmid legs next taken entry given → ClosedItems (items_of (taken ++ entry ∷ [])) → ClosedItems given
flat_closed_amid legs next taken entry given h s =
    let rest = flat_rest legs next taken entry given h in
    Closed-front given rest.left (subst ClosedItems (sym rest.all) (gives_closed (legs_give legs) (flat_keeps legs) (taken ++ entry ∷ []) s))

pub flat_open_amid : (legs : List Leg) (next : ℕ) (taken : List CallEntry) (entry : CallEntry) (given : List Item) → FlatAmid legs next taken entry given → Each NotDone (items_of (taken ++ entry ∷ [])) → Each NotDone given
flat_open_amid legs next taken entry given h s =
    let rest = flat_rest legs next taken entry given h in
    Each-front NotDone given rest.left (subst (Each NotDone) (sym rest.all) (gives_open (legs_give legs) (taken ++ entry ∷ []) s))

pub flat_bag : (legs : List Leg) (taken : List CallEntry) (given : List Item) → StageStands (legs_give legs) taken given → StageBag (flat_map (flattened joined_key (map leg_value legs))) taken given
flat_bag legs taken given h = stage_bag (flat_map (legs_give legs)) (legs_give legs) (λ es. refl) taken given h

pub flat_bag_amid : (legs : List Leg) (next : ℕ) (taken : List CallEntry) (entry : CallEntry) (given : List Item) → FlatAmid legs next taken entry given → FlatBagAmid (flat_map (flattened joined_key (map leg_value legs))) taken entry given
flat_bag_amid legs next taken entry given h =
    let rest = flat_rest legs next taken entry given h in
    record { held = rest.left; bag = flat_bag legs (taken ++ entry ∷ []) (given ++ rest.left) rest.all }

pub flat_marks_amid : (legs : List Leg) (next : ℕ) (taken : List CallEntry) (entry : CallEntry) (given : List Item) → FlatAmid legs next taken entry given → MarksPass taken given
flat_marks_amid legs next taken entry given h = (flat_rest legs next taken entry given h).marks ∙ gives_marks (legs_give legs) taken
