-- What the tasklets of a vertex gave together, kind by kind.
use Rattle.std.proofs.Common.{◌≡◌, ℕ, zero, suc, ◌+◌, ◌<◌, ◌≤◌, ◌==◌, ◌||◌, Bool, true, false, cond, ℤ, List, [], ◌∷◌, ◌++◌, length, map, sum_by, refl, sym, ◌∙◌, ap, subst, inl, inr, arith}
use Rattle.std.specs.Prelude.{filter, take, nat_lt, All, IsTrue, Option, Some, None}
use Rattle.std.specs.List.{flat_map, list_any, find, AllByRecursion}
use Rattle.std.specs.Option.{option_map_or}
use Rattle.std.proofs.lemmas.List.{map-append}
use Rattle.std.proofs.lemmas.List.Elements.{filter-append, recursion_from_All}
use Rattle.std.proofs.lemmas.List.Concat.{flat_map-append}
use Rattle.std.proofs.lemmas.Bool.Decides.{eqb_tells}
use Rattle.std.proofs.lemmas.List.Sums.{sum_by-append, sum_by-cons}
use Rattle.jet_items.specs.declared.item.Item.{Item}
use Rattle.jet_items.specs.Bag.{SameBag, all_of}
use Rattle.jet_items.specs.Frames.{FramesSum}
use Rattle.jet_items.specs.Joins.{Joining, joined}
use Rattle.jet_items.specs.Kinds.{events_of, sides_of, frames_of, late_events, others_of}
use Rattle.jet_items.specs.Values.{EventValue, SideValue}
use Rattle.jet_items.proofs.Bags.{SameBag-sym, SameBag-trans, SameBag-map, SameBag-filter, SameBag-flat_map, SameBag-all_of}
use Rattle.jet_boxes.specs.declared.port.Port.TheVariants.{Stream, Build}
use Rattle.jet_expr.specs.Term.{Term}
use Rattle.jet_expr.specs.Flows.{LegValue, mapped, passes, flattened, leg_event, tagged}
use Rattle.jet_stages.specs.Flat.{joined_key}
use Rattle.jet_plan.specs.declared.dag.Dag.{Dag}
use Rattle.jet_plan.specs.declared.kind.Kind.{Kind}
use Rattle.jet_plan.specs.declared.kind.Kind.TheVariants.{Source, Side, Map, Filter, Flat, Join, Accumulate, Combine, Sink}
use Rattle.jet_plan.specs.declared.vertex.Vertex.{Vertex}
use Rattle.jet_plan.specs.Along.{before}
use Rattle.jet_plan.specs.Growth.{stream_edges}
use Rattle.jet_plan.specs.Names.{has_name}
use Rattle.jet_flow.specs.Keys.{AreShort}
use Rattle.jet_flow.specs.Flow.{Contents, leg_value, joining, build_rows, leaving, incoming, flow, flow_rule}
use Rattle.jet_tasklet.specs.declared.any.AnyTasklet.{AnyTasklet}
use Rattle.jet_tasklet.specs.declared.any.AnyTasklet.TheVariants as any
use Rattle.jet_tasklet.specs.Merging.{data_received}
use Rattle.jet_run.specs.Ended.{all_data, EndedByKind}
use Rattle.jet_tasklet.specs.Views.{ins}
use Rattle.jet_run.specs.Flows.{events_at, IsFor, AreFed, GiveFlow}
use Rattle.jet_run.specs.inner.Spread.{IsSpread}
use Rattle.jet_run.proofs.Owners.{over_all}

-- ---- what is made of each event by itself
pub spread_flat : (f : EventValue → List EventValue) → IsSpread (flat_map f)
spread_flat f = record { none = refl; both = λ xs ys. flat_map-append f xs ys; bags = λ xs ys h. SameBag-flat_map f h }

pub spread_map : (f : EventValue → EventValue) → IsSpread (map f)
spread_map f = record { none = refl; both = λ xs ys. map-append f xs ys; bags = λ xs ys h. SameBag-map f h }

pub spread_filter : (p : EventValue → Bool) → IsSpread (filter p)
spread_filter p = record { none = refl; both = λ xs ys. filter-append p xs ys; bags = λ xs ys h. SameBag-filter p h }

pub spread_same : IsSpread (λ es. es)
spread_same = record { none = refl; both = λ xs ys. refl; bags = λ xs ys h. h }

spread_all : (f : List EventValue → List EventValue) → IsSpread f → (n : ℕ) (g : ℕ → List EventValue) → all_of n (λ i. f (g i)) ≡ f (all_of n g)
spread_all f s zero g = sym s.none
spread_all f s (suc n) g = ap (λ (es : List EventValue). es ++ f (g n)) (spread_all f s n g) ∙ sym (s.both (all_of n g) (g n))

-- n tasklets that each made f of what they received made f of it all
together : (f : List EventValue → List EventValue) → IsSpread f → (n : ℕ) (gave came : ℕ → List EventValue) (all : List EventValue) → ((i : ℕ) → i < n → SameBag (gave i) (f (came i))) → SameBag (all_of n came) all → SameBag (all_of n gave) (f all)
together f s n gave came all each h =
    SameBag-trans (SameBag-all_of n gave (λ i. f (came i)) each)
    (subst (λ (es : List EventValue). SameBag es (f all)) (sym (spread_all f s n came)) (s.bags (all_of n came) all h))

-- ---- keys that no tag makes too long
abbrev too_long : EventValue → ℕ
too_long e = cond (nat_lt 40 (length e.key)) 1 0

none_too_long : (e : EventValue) → length e.key ≤ 40 → too_long e ≡ 0
none_too_long e h = by_test (nat_lt 40 (length e.key)) refl
  where
    by_test : (b : Bool) → nat_lt 40 (length e.key) ≡ b → cond {A = ℕ} b 1 0 ≡ 0
    by_test true is = absurd (let far : 40 < length e.key = grind (arith, is) in omega (arith, far, h))
    by_test false is = refl

all_short : (xs : List EventValue) → AllByRecursion (λ e. length e.key ≤ 40) xs → sum_by too_long xs ≡ 0
all_short [] h = refl
all_short (e ∷ xs) h = omega (arith, sum_by-cons too_long e xs, none_too_long e h.0, all_short xs h.1)

is_short : (e : EventValue) → too_long e ≡ 0 → length e.key ≤ 40
is_short e h = by_test (nat_lt 40 (length e.key)) refl
  where
    by_test : (b : Bool) → nat_lt 40 (length e.key) ≡ b → length e.key ≤ 40
    by_test true is = absurd (let one : too_long e ≡ 1 = ap (λ (b : Bool). cond {A = ℕ} b 1 0) is in omega (arith, one, h))
    by_test false is = grind (arith, is)

take_all : (n : ℕ) (xs : List ℕ) → length xs ≤ n → take n xs ≡ xs
take_all zero [] h = refl
take_all zero (x ∷ xs) h = absurd (omega (arith, h))
take_all (suc n) [] h = refl
take_all (suc n) (x ∷ xs) h = ap (λ (ys : List ℕ). x ∷ ys) (take_all n xs (omega (arith, h)))

same_tag : (tag : Option (List ℕ)) (key : List ℕ) → length (tagged ◌++◌ tag key) ≤ 40 → tagged joined_key tag key ≡ tagged ◌++◌ tag key
same_tag None key h = refl
same_tag (Some t) key h = take_all 40 (key ++ t) h

same_legs : (legs : List LegValue) (e : EventValue) → sum_by too_long (map (leg_event ◌++◌ e) legs) ≡ 0 → map (leg_event joined_key e) legs ≡ map (leg_event ◌++◌ e) legs
same_legs [] e h = refl
same_legs (leg ∷ legs) e h =
    let parts = sum_by-cons too_long (leg_event ◌++◌ e leg) (map (leg_event ◌++◌ e) legs) in
    let own : too_long (leg_event ◌++◌ e leg) ≡ 0 = omega (arith, parts, h) in
    let rest : sum_by too_long (map (leg_event ◌++◌ e) legs) ≡ 0 = omega (arith, parts, h) in
    let one : leg_event joined_key e leg ≡ leg_event ◌++◌ e leg = ap (λ (key : List ℕ). record (mapped (Some leg.value ∷ []) e) { key = key }) (same_tag leg.tag e.key (is_short (leg_event ◌++◌ e leg) own)) in
    ap (λ (d : EventValue). d ∷ map (leg_event joined_key e) legs) one ∙ ap (λ (ds : List EventValue). leg_event ◌++◌ e leg ∷ ds) (same_legs legs e rest)

same_flat : (legs : List LegValue) (xs : List EventValue) → sum_by too_long (flat_map (flattened ◌++◌ legs) xs) ≡ 0 → flat_map (flattened joined_key legs) xs ≡ flat_map (flattened ◌++◌ legs) xs
same_flat legs [] h = refl
same_flat legs (e ∷ xs) h =
    let parts = sum_by-append too_long (flattened ◌++◌ legs e) (flat_map (flattened ◌++◌ legs) xs) in
    let own : sum_by too_long (flattened ◌++◌ legs e) ≡ 0 = omega (arith, parts, h) in
    let rest : sum_by too_long (flat_map (flattened ◌++◌ legs) xs) ≡ 0 = omega (arith, parts, h) in
    ap (λ (ds : List EventValue). ds ++ flat_map (flattened joined_key legs) xs) (same_legs (filter (λ leg. passes leg.test e) legs) e own) ∙ ap (λ (ds : List EventValue). flattened ◌++◌ legs e ++ ds) (same_flat legs xs rest)

-- ---- what one tasklet of each kind gave
source_each : (names : _) (lag : _) (t : AnyTasklet) (given : List Item) → IsFor (Source names lag) t → EndedByKind t given → SameBag (events_of given) (events_of (all_data (ins t)))
source_each names lag (any.Stamp t) given is e = e.events
source_each names lag t given is e = absurd is

side_each : (file : _) (t : AnyTasklet) (given : List Item) → IsFor (Side file) t → EndedByKind t given → SameBag (events_of given) (events_of (all_data (ins t)))
side_each file (any.Stamp t) given is e = e.events
side_each file t given is e = absurd is

map_each : (set : _) (t : AnyTasklet) (given : List Item) → IsFor (Map set) t → EndedByKind t given → SameBag (events_of given) (map (mapped set) (events_of (all_data (ins t))))
map_each set (any.Map t) given is e = subst (λ (s : List (Option Term)). SameBag (events_of given) (map (mapped s) (events_of (all_data (ins (any.Map t)))))) is e.events
map_each set t given is e = absurd is

filter_each : (test : _) (t : AnyTasklet) (given : List Item) → IsFor (Filter test) t → EndedByKind t given → SameBag (events_of given) (filter (passes test) (events_of (all_data (ins t))))
filter_each test (any.Filter t) given is e = subst (λ (s : Term). SameBag (events_of given) (filter (passes s) (events_of (all_data (ins (any.Filter t)))))) is e.events
filter_each test t given is e = absurd is

flat_each : (legs : _) (t : AnyTasklet) (given : List Item) → IsFor (Flat legs) t → EndedByKind t given → SameBag (events_of given) (flat_map (flattened joined_key (map leg_value legs)) (events_of (all_data (ins t))))
flat_each legs (any.Flat t) given is e = subst (λ (ls : List LegValue). SameBag (events_of given) (flat_map (flattened joined_key ls) (events_of (all_data (ins (any.Flat t)))))) is e.events
flat_each legs t given is e = absurd is

join_each : (mode : _) (rekey : _) (fields : _) (t : AnyTasklet) (given : List Item) → IsFor (Join mode rekey fields) t → EndedByKind t given → events_of (data_received Build (ins t)) ≡ [] → SameBag (events_of given) (flat_map (joined (joining mode rekey fields) (sides_of (data_received Build (ins t)))) (events_of (data_received Stream (ins t))))
join_each mode rekey fields (any.Join t) given is e = λ none. subst (λ (j : Joining). SameBag (events_of given) (flat_map (joined j (sides_of (data_received Build (ins (any.Join t))))) (events_of (data_received Stream (ins (any.Join t)))))) is (e none).events
join_each mode rekey fields t given is e = absurd is

-- one tasklet of a first stage
record KeptOne (slide : ℤ) (came : List EventValue) (given : List Item) : Type 0 where
  kept : List EventValue
  parts : SameBag came (late_events given ++ kept)
  sums : FramesSum slide (frames_of given) kept

frame_each : (size slide : ℤ) (t : AnyTasklet) (given : List Item) → IsFor (Accumulate size slide) t → EndedByKind t given → others_of (all_data (ins t)) ≡ [] → KeptOne slide (events_of (all_data (ins t))) given
frame_each size slide (any.Frame t) given is e = λ none. let f = e none in record { kept = f.kept; parts = f.parts; sums = subst (λ (s : ℤ). FramesSum s (frames_of given) f.kept) is f.sums }
frame_each size slide t given is e = absurd is

-- what each of the first n kept
below : {X : Type 0} (R : ℕ → X → Type 0) (none : X) (n : ℕ) → ((i : ℕ) → i < n → (x : X) × R i x) → (f : ℕ → X) × ((i : ℕ) → i < n → R i (f i))
below R none zero h = (λ i. none, λ i lt. absurd (omega (arith, lt)))
below {X} R none (suc n) h =
    let rest = below R none n (λ i lt. h i (omega (arith, lt))) in
    let last = h n (omega arith) in (
      λ i. cond (i == n) last.0 (rest.0 i),
      λ i lt. elim (eqb_tells i n) [
        | inl e ↦ subst (λ (b : Bool). R i (cond b last.0 (rest.0 i))) (sym e.0) (subst (λ (k : ℕ). R k last.0) (sym e.1) last.1)
        | inr e ↦ subst (λ (b : Bool). R i (cond b last.0 (rest.0 i))) (sym e.0) (rest.1 i (omega (arith, e.1, lt)))
      ],
    )

-- ---- all tasklets of a vertex
module _ (files : Contents) (dag : Dag) (name : List ℕ) (n : ℕ) (tasklets : ℕ → AnyTasklet) (given : ℕ → List Item) (out : List EventValue) where
  abbrev came : ℕ → List EventValue
  came i = events_of (all_data (ins (tasklets i)))

  abbrev gave : ℕ → List EventValue
  gave i = events_of (given i)

  pub at_kind : (kind : Kind) → ((i : ℕ) → i < n → IsFor kind (tasklets i)) → ((i : ℕ) → i < n → EndedByKind (tasklets i) (given i)) → AreFed files dag name kind n tasklets
      → SameBag out (leaving files dag name kind (incoming files dag name)) → sum_by too_long out ≡ 0 → GiveFlow kind n given out
  at_kind (Source names lag) is ended fed rule keys = SameBag-trans (together (λ es. es) spread_same n gave came (files.events name) (λ i lt. source_each names lag (tasklets i) (given i) (is i lt) (ended i lt)) fed) (SameBag-sym rule)
  at_kind (Side file) is ended fed rule keys = SameBag-trans (together (λ es. es) spread_same n gave came [] (λ i lt. side_each file (tasklets i) (given i) (is i lt) (ended i lt)) fed) (SameBag-sym rule)
  at_kind (Map set) is ended fed rule keys = SameBag-trans (together (map (mapped set)) (spread_map (mapped set)) n gave came (incoming files dag name) (λ i lt. map_each set (tasklets i) (given i) (is i lt) (ended i lt)) fed) (SameBag-sym rule)
  at_kind (Filter test) is ended fed rule keys = SameBag-trans (together (filter (passes test)) (spread_filter (passes test)) n gave came (incoming files dag name) (λ i lt. filter_each test (tasklets i) (given i) (is i lt) (ended i lt)) fed) (SameBag-sym rule)
  at_kind (Flat legs) is ended fed rule keys =
      let f : EventValue → List EventValue = flattened joined_key (map leg_value legs) in
      let all : SameBag (all_of n gave) (flat_map f (incoming files dag name)) = together (flat_map f) (spread_flat f) n gave came (incoming files dag name) (λ i lt. flat_each legs (tasklets i) (given i) (is i lt) (ended i lt)) fed in
      let whole : flat_map f (incoming files dag name) ≡ flat_map (flattened ◌++◌ (map leg_value legs)) (incoming files dag name) = same_flat (map leg_value legs) (incoming files dag name) (sym (rule.weighs too_long) ∙ keys) in
      SameBag-trans (subst (λ (es : List EventValue). SameBag (all_of n gave) es) whole all) (SameBag-sym rule)
  at_kind (Join mode rekey fields) is ended fed rule keys =
      let j : Joining = joining mode rekey fields in
      let rows : List SideValue = build_rows files dag name in
      let stream : ℕ → List EventValue = λ i. events_at (tasklets i) in
      let each : (i : ℕ) → i < n → SameBag (gave i) (flat_map (joined j rows) (stream i)) = λ i lt.
      SameBag-trans (join_each mode rekey fields (tasklets i) (given i) (is i lt) (ended i lt) (fed.1 i lt)) (over_all j n tasklets rows fed.2 i lt) in
      SameBag-trans (together (flat_map (joined j rows)) (spread_flat (joined j rows)) n gave stream (incoming files dag name) each fed.0) (SameBag-sym rule)
  at_kind (Accumulate size slide) is ended fed rule keys =
      let one = below {X = List EventValue} (λ i kept. SameBag (came i) (late_events (given i) ++ kept) × FramesSum slide (frames_of (given i)) kept) [] n (λ i lt. let k = frame_each size slide (tasklets i) (given i) (is i lt) (ended i lt) (fed.1 i lt) in (k.kept, (k.parts, k.sums))) in
      record {
        kept = one.0;
        parts = SameBag-trans rule (SameBag-trans (SameBag-sym fed.0) (SameBag-all_of n came (λ i. late_events (given i) ++ one.0 i) (λ i lt. (one.1 i lt).0)));
        sums = λ i lt. (one.1 i lt).1;
      }
  at_kind Combine is ended fed rule keys = tt
  at_kind Sink is ended fed rule keys = tt

-- ---- the rule of a vertex
there_or : (u v : Vertex) (rest : Option Vertex) (more : Bool) (b : Bool) → (rest ≡ Some v → IsTrue more) → cond b (Some u) rest ≡ Some v → IsTrue (b || more)
there_or u v rest more true later h = refl
there_or u v rest more false later h = later h

is_there : (p : Vertex → Bool) (vs : List Vertex) (v : Vertex) → find p vs ≡ Some v → IsTrue (list_any p vs)
is_there p [] v is = absurd (cc)
is_there p (u ∷ vs) v is = there_or u v (find p vs) (list_any p vs) (p u) (is_there p vs v) is

pub give_flow : (dag : Dag)
    → ((files : Contents) (name : List ℕ) → IsTrue (list_any (has_name name) dag.vertices) → SameBag (flow files dag name) (flow_rule files dag name (before (stream_edges dag) (flow files dag) name)))
    → ((files : Contents) → AreShort files → (name : List ℕ) → IsTrue (list_any (has_name name) dag.vertices) → All (λ e. length e.key ≤ 40) (flow files dag name))
    → (files : Contents) → AreShort files → (name : List ℕ) (v : Vertex) → find (has_name name) dag.vertices ≡ Some v
    → (n : ℕ) (tasklets : ℕ → AnyTasklet) (given : ℕ → List Item)
    → ((i : ℕ) → i < n → IsFor v.kind (tasklets i)) → ((i : ℕ) → i < n → EndedByKind (tasklets i) (given i))
    → AreFed files dag name v.kind n tasklets → GiveFlow v.kind n given (flow files dag name)
give_flow dag rules keys files small name v at n tasklets given is ended fed =
    let there : IsTrue (list_any (has_name name) dag.vertices) = is_there (has_name name) dag.vertices v at in
    let rule : SameBag (flow files dag name) (leaving files dag name v.kind (incoming files dag name)) =
    subst (λ (o : Option Vertex). SameBag (flow files dag name) (option_map_or (λ u. leaving files dag name u.kind (incoming files dag name)) o [])) at (rules files name there) in
    at_kind files dag name n tasklets given (flow files dag name) v.kind is ended fed rule (all_short (flow files dag name) (recursion_from_All (λ e. length e.key ≤ 40) (flow files dag name) (keys files small name there)))
