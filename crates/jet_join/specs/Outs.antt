-- What a join gives, entry by entry.
use Rattle.std.proofs.Common.{◌≡◌, List, [], ◌∷◌, ◌++◌, map, refl, sym, ◌∙◌, ap, arith, append-nil, append_assoc}
use Rattle.std.specs.List.{flat_map}
use Rattle.std.proofs.lemmas.List.Concat.{flat_map-append}
use Rattle.std.proofs.lemmas.List.Sums.{sum_by-append}
use Rattle.jet_items.specs.Values.{EventValue, SideValue}
use Rattle.jet_items.specs.Bag.{SameBag}
use Rattle.jet_items.specs.Joins.{Joining, joined}
use Rattle.jet_items.specs.Kinds.{events_of, sides_of, as_event, as_side}
use Rattle.jet_items.specs.declared.item.Item.{Item}
use Rattle.jet_items.specs.declared.item.Item.TheVariants as item
use Rattle.jet_items.proofs.Bags.{SameBag-refl}
use Rattle.jet_boxes.specs.Entry.{CallEntry, Given, MarkTold, QueueClosed, Finish, entry_items, items_of}
use Rattle.jet_boxes.specs.declared.port.Port.TheVariants.{Stream, Build}
use Rattle.jet_boxes.specs.Ports.{stream_items, build_items, stream_events, build_rows, build_events, stream_sides, BuildFirst}
use Rattle.jet_join.specs.Stands.{gives, with_rows, all_given}

pub with_rows-append : (rows : List SideValue) (es fs : List CallEntry) → with_rows rows (es ++ fs) ≡ with_rows rows es ++ with_rows (rows ++ build_rows es) fs
with_rows-append rows [] fs = ap (λ rs. with_rows rs fs) (sym (append-nil rows))
with_rows-append rows (e ∷ es) fs =
    ap (λ ps. (rows, e) ∷ ps) (with_rows-append (rows ++ sides_of (build_items e)) es fs
    ∙ ap (λ rs. with_rows (rows ++ sides_of (build_items e)) es ++ with_rows rs fs) (append_assoc rows (sides_of (build_items e)) (build_rows es)))

pub given-append : (j : Joining) (rows : List SideValue) (es fs : List CallEntry) → all_given j rows (es ++ fs) ≡ all_given j rows es ++ all_given j (rows ++ build_rows es) fs
given-append j rows es fs =
    ap (flat_map (λ p. gives j p.0 p.1)) (with_rows-append rows es fs)
    ∙ flat_map-append (λ p. gives j p.0 p.1) (with_rows rows es) (with_rows (rows ++ build_rows es) fs)

-- one entry more
pub given-push : (j : Joining) (taken : List CallEntry) (e : CallEntry) → all_given j [] (taken ++ e ∷ []) ≡ all_given j [] taken ++ gives j (build_rows taken) e
given-push j taken e = given-append j [] taken (e ∷ []) ∙ ap (λ xs. all_given j [] taken ++ xs) (append-nil (gives j (build_rows taken) e))

pub rows-push : (taken : List CallEntry) (e : CallEntry) → build_rows (taken ++ e ∷ []) ≡ build_rows taken ++ sides_of (build_items e)
rows-push taken e = flat_map-append (λ e. sides_of (build_items e)) taken (e ∷ []) ∙ ap (λ rs. build_rows taken ++ rs) (append-nil (sides_of (build_items e)))

-- ---- the items of one kind
none_of : {X : Type 0} (f : Item → List X) → ((d : EventValue) → f (item.Event d) ≡ []) → (ds : List EventValue) → flat_map f (map item.Event ds) ≡ []
none_of f none [] = refl
none_of f none (d ∷ ds) = ap (λ xs. xs ++ flat_map f (map item.Event ds)) (none d) ∙ none_of f none ds

one_kind : {X : Type 0} (f : Item → List X) (j : Joining) → ((d : EventValue) → f (item.Event d) ≡ []) → ((s : SideValue) → f (item.Side s) ≡ []) → (rows : List SideValue) (e : CallEntry) → flat_map f (gives j rows e) ≡ flat_map f (entry_items e)
one_kind f j none nor rows (Given Stream q (item.Event e)) = none_of f none (joined j rows e) ∙ sym (append-nil (f (item.Event e)) ∙ none e)
one_kind f j none nor rows (Given Stream q x) = refl
one_kind f j none nor rows (Given Build q (item.Side s)) = sym (append-nil (f (item.Side s)) ∙ nor s)
one_kind f j none nor rows (Given Build q x) = refl
one_kind f j none nor rows (MarkTold t) = refl
one_kind f j none nor rows (QueueClosed port q) = refl
one_kind f j none nor rows Finish = refl

-- what is picked of all that is given, where each entry gives what `of` says
by_entry : {X : Type 0} (pick : Item → List X) (of : CallEntry → List X) (j : Joining) → ((rows : List SideValue) (e : CallEntry) → flat_map pick (gives j rows e) ≡ of e) → (rows : List SideValue) (es : List CallEntry)
    → flat_map pick (all_given j rows es) ≡ flat_map of es
by_entry pick of j each rows [] = refl
by_entry pick of j each rows (e ∷ es) =
    let more : List SideValue = rows ++ sides_of (build_items e) in
    flat_map-append pick (gives j rows e) (all_given j more es)
    ∙ (ap (λ xs. xs ++ flat_map pick (all_given j more es)) (each rows e)
    ∙ ap (λ xs. of e ++ xs) (by_entry pick of j each more es))

picked : {X : Type 0} (pick : Item → List X) (es : List CallEntry) → flat_map (λ e. flat_map pick (entry_items e)) es ≡ flat_map pick (items_of es)
picked pick [] = refl
picked pick (e ∷ es) = ap (λ xs. flat_map pick (entry_items e) ++ xs) (picked pick es) ∙ sym (flat_map-append pick (entry_items e) (items_of es))

-- a kind that is neither joined nor kept passes unchanged
pub same_kind : {X : Type 0} (f : Item → List X) (j : Joining) → ((d : EventValue) → f (item.Event d) ≡ []) → ((s : SideValue) → f (item.Side s) ≡ []) → (rows : List SideValue) (es : List CallEntry)
    → flat_map f (all_given j rows es) ≡ flat_map f (items_of es)
same_kind f j none nor rows es = by_entry f (λ e. flat_map f (entry_items e)) j (one_kind f j none nor) rows es ∙ picked f es

one_sides : (j : Joining) (rows : List SideValue) (e : CallEntry) → sides_of (gives j rows e) ≡ sides_of (stream_items e)
one_sides j rows (Given Stream q (item.Event e)) = none_of as_side (λ d. refl) (joined j rows e)
one_sides j rows (Given Stream q x) = refl
one_sides j rows (Given Build q (item.Event e)) = refl
one_sides j rows (Given Build q x) = refl
one_sides j rows (MarkTold t) = refl
one_sides j rows (QueueClosed port q) = refl
one_sides j rows Finish = refl

pub same_sides : (j : Joining) (rows : List SideValue) (es : List CallEntry) → sides_of (all_given j rows es) ≡ stream_sides es
same_sides j rows es = by_entry as_side (λ e. sides_of (stream_items e)) j (one_sides j) rows es

-- ---- the events
all_of_them : (ds : List EventValue) → events_of (map item.Event ds) ≡ ds
all_of_them [] = refl
all_of_them (d ∷ ds) = ap (λ es. d ∷ es) (all_of_them ds)

one_events : (j : Joining) (rows : List SideValue) (e : CallEntry) → events_of (gives j rows e) ≡ flat_map (joined j rows) (events_of (stream_items e)) ++ events_of (build_items e)
one_events j rows (Given Stream q (item.Event e)) = all_of_them (joined j rows e) ∙ sym (append-nil (joined j rows e ++ []) ∙ append-nil (joined j rows e))
one_events j rows (Given Stream q x) = refl
one_events j rows (Given Build q (item.Event e)) = refl
one_events j rows (Given Build q x) = refl
one_events j rows (MarkTold t) = refl
one_events j rows (QueueClosed port q) = refl
one_events j rows Finish = refl

front_none : {X : Type 0} (xs ys : List X) → xs ++ ys ≡ [] → (xs ≡ []) × (ys ≡ [])
front_none [] ys h = (refl, h)
front_none (x ∷ xs) ys h = absurd (cc)

-- while no event of the stream comes, only those of the build port are given
events_before : (j : Joining) (rows : List SideValue) (es : List CallEntry) → stream_events es ≡ [] → events_of (all_given j rows es) ≡ build_events es
events_before j rows [] h = refl
events_before j rows (e ∷ es) h =
    let more : List SideValue = rows ++ sides_of (build_items e) in
    let none = front_none (events_of (stream_items e)) (stream_events es) h in
    flat_map-append as_event (gives j rows e) (all_given j more es)
    ∙ (ap (λ xs. xs ++ events_of (all_given j more es)) (one_events j rows e ∙ ap (λ ds. flat_map (joined j rows) ds ++ events_of (build_items e)) none.0)
    ∙ ap (λ xs. events_of (build_items e) ++ xs) (events_before j more es none.1))

-- once no row comes any more, each event is joined with the same rows
events_after : (j : Joining) (rows : List SideValue) (es : List CallEntry) → build_rows es ≡ [] → SameBag (events_of (all_given j rows es)) (flat_map (joined j rows) (stream_events es) ++ build_events es)
events_after j rows [] h = SameBag-refl []
events_after j rows (e ∷ es) h =
    let none = front_none (sides_of (build_items e)) (build_rows es) h in
    let same : rows ++ sides_of (build_items e) ≡ rows = ap (λ rs. rows ++ rs) none.0 ∙ append-nil rows in
    let ih : SameBag (events_of (all_given j rows es)) (flat_map (joined j rows) (stream_events es) ++ build_events es) = events_after j rows es none.1 in
    let is : events_of (all_given j rows (e ∷ es)) ≡ (flat_map (joined j rows) (events_of (stream_items e)) ++ events_of (build_items e)) ++ events_of (all_given j rows es) =
    flat_map-append as_event (gives j rows e) (all_given j (rows ++ sides_of (build_items e)) es)
    ∙ (ap (λ rs. events_of (gives j rows e) ++ events_of (all_given j rs es)) same
    ∙ ap (λ xs. xs ++ events_of (all_given j rows es)) (one_events j rows e)) in
    rw (is, flat_map-append (joined j rows) (events_of (stream_items e)) (stream_events es))
    (shuffled (flat_map (joined j rows) (events_of (stream_items e))) (events_of (build_items e)) (events_of (all_given j rows es)) (flat_map (joined j rows) (stream_events es)) (build_events es) ih)
  where
    shuffled : (ps qs rest rs ss : List EventValue) → SameBag rest (rs ++ ss) → SameBag ((ps ++ qs) ++ rest) ((ps ++ rs) ++ (qs ++ ss))
    shuffled ps qs rest rs ss h = record { weighs = λ w. omega (arith, h.weighs w, sum_by-append w (ps ++ qs) rest, sum_by-append w ps qs, sum_by-append w rs ss, sum_by-append w (ps ++ rs) (qs ++ ss), sum_by-append w ps rs, sum_by-append w qs ss) }

pub events_are : (j : Joining) (taken : List CallEntry) → BuildFirst taken → SameBag (events_of (all_given j [] taken)) (flat_map (joined j (build_rows taken)) (stream_events taken) ++ build_events taken)
events_are j taken h =
    let rows : build_rows taken ≡ build_rows h.front =
    ap build_rows h.parts ∙ (flat_map-append (λ e. sides_of (build_items e)) h.front h.back ∙ (ap (λ rs. build_rows h.front ++ rs) h.no_row ∙ append-nil (build_rows h.front))) in
    let events : stream_events taken ≡ stream_events h.back =
    ap stream_events h.parts ∙ (flat_map-append (λ e. events_of (stream_items e)) h.front h.back ∙ ap (λ es. es ++ stream_events h.back) h.no_event) in
    let others : build_events taken ≡ build_events h.front ++ build_events h.back = ap build_events h.parts ∙ flat_map-append (λ e. events_of (build_items e)) h.front h.back in
    let is : events_of (all_given j [] taken) ≡ build_events h.front ++ events_of (all_given j (build_rows h.front) h.back) =
    ap (λ es. events_of (all_given j [] es)) h.parts
    ∙ (ap events_of (given-append j [] h.front h.back)
    ∙ (flat_map-append as_event (all_given j [] h.front) (all_given j (build_rows h.front) h.back)
    ∙ ap (λ xs. xs ++ events_of (all_given j (build_rows h.front) h.back)) (events_before j [] h.front h.no_event))) in
    rw (is, rows, events, others)
    (around (build_events h.front) (events_of (all_given j (build_rows h.front) h.back)) (flat_map (joined j (build_rows h.front)) (stream_events h.back)) (build_events h.back) (events_after j (build_rows h.front) h.back h.no_row))
  where
    around : (bs xs js cs : List EventValue) → SameBag xs (js ++ cs) → SameBag (bs ++ xs) (js ++ (bs ++ cs))
    around bs xs js cs h = record { weighs = λ w. omega (arith, h.weighs w, sum_by-append w bs xs, sum_by-append w js cs, sum_by-append w js (bs ++ cs), sum_by-append w bs cs) }
