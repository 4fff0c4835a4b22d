-- What a valid job keeps of its files: their lags, and how many there are.
use Rattle.std.proofs.Common.{◌≡◌, ℕ, suc, ◌+◌, ◌≤◌, ℤ, pos, negsuc, ◌≤ℤ◌, true, false, List, [], ◌∷◌, map, length, nat_le, position, None, All, refl, ap, arith, inl, inr, length-append}
use Rattle.std.specs.Prelude.{flat_map}
use Rattle.std.proofs.lemmas.Int.{ints}
use Rattle.std.proofs.lemmas.List.Elements.{All-append, All-nil, All-cons}
use Rattle.jet_items.specs.Ranges.{most_time}
use Rattle.jet_plan.specs.declared.dag.Dag.{Dag}
use Rattle.jet_plan.specs.declared.kind.Kind.{Kind}
use Rattle.jet_plan.specs.declared.kind.Kind.TheVariants as kind
use Rattle.jet_plan.specs.declared.settings.Settings.{Settings}
use Rattle.jet_plan.specs.declared.setting_name.SettingName.TheVariants.{Lag}
use Rattle.jet_plan.specs.declared.vertex.Vertex.{Vertex}
use Rattle.jet_plan.specs.declared.fault.PlanFault.TheVariants.{Setting}
use Rattle.jet_plan.specs.Faults.{fault, range_faults}
use Rattle.jet_plan.specs.First.{first_of}
use Rattle.jet_plan.specs.Kinds.{file_count}
use Rattle.jet_plan.specs.SettingRanges.{has_wrong_lag, is_between}
use Rattle.jet_plan.specs.Sizes.{files}
use Rattle.jet_flow.specs.DataFiles.{SourceFile, SideFile, data_files, sides_of, sources_of}
use Rattle.jet_worker.specs.Opening.{HasLag}
use Rattle.jet_worker.proofs.CountLemmas.{sum_first}
use Rattle.jet_worker.proofs.ValidLemmas.{In, none_at, none_each, not_mapped, not_not, ranges_none, second, to_le}

-- ---- the lags

no_wrong_lags : (dag : Dag) (s : Settings) → first_of (range_faults dag s) ≡ None → position (λ (v : Vertex). has_wrong_lag v.kind) dag.vertices ≡ None
unfolding range_faults
no_wrong_lags dag s h = let none = none_each (range_faults dag s) h in not_mapped (λ i. Setting (Lag i)) (position (λ (v : Vertex). has_wrong_lag v.kind) dag.vertices) none.1.1.1.0

lag_within : (z : ℤ) → is_between 0 most_time z ≡ true → (pos 0 ≤ℤ z) × (z ≤ℤ pos most_time)
lag_within (pos n) h = let small : n ≤ most_time = to_le n most_time (second (nat_le 0 n) (nat_le n most_time) h) in (omega (arith, ints), omega (arith, ints, small))
lag_within (negsuc n) h = absurd (cc h)

named_lags : (names : List (List ℕ)) (lag : ℤ) → (pos 0 ≤ℤ lag) × (lag ≤ℤ pos most_time) → All HasLag (map (λ name. SourceFile name lag) names)
named_lags [] lag h = All-nil HasLag
named_lags (name ∷ names) lag h = All-cons HasLag (SourceFile name lag) (map (λ n. SourceFile n lag) names) h (named_lags names lag h)

source_lags : (k : Kind) → has_wrong_lag k ≡ false → All HasLag (sources_of k)
source_lags (kind.Source names lag) h = named_lags names lag (lag_within lag (not_not (is_between 0 most_time lag) h))
source_lags (kind.Side f) h = All-nil HasLag
source_lags (kind.Map set) h = All-nil HasLag
source_lags (kind.Filter t) h = All-nil HasLag
source_lags (kind.Flat legs) h = All-nil HasLag
source_lags (kind.Join m r fs) h = All-nil HasLag
source_lags (kind.Accumulate size slide) h = All-nil HasLag
source_lags kind.Combine h = All-nil HasLag
source_lags kind.Sink h = All-nil HasLag

side_lags : (k : Kind) → All HasLag (sides_of k)
side_lags (kind.Side f) = All-cons HasLag (SideFile f) [] tt (All-nil HasLag)
side_lags (kind.Source names lag) = All-nil HasLag
side_lags (kind.Map set) = All-nil HasLag
side_lags (kind.Filter t) = All-nil HasLag
side_lags (kind.Flat legs) = All-nil HasLag
side_lags (kind.Join m r fs) = All-nil HasLag
side_lags (kind.Accumulate size slide) = All-nil HasLag
side_lags kind.Combine = All-nil HasLag
side_lags kind.Sink = All-nil HasLag

flat_all : {X Y : Type 0} (P : Y → Type 0) (f : X → List Y) (xs : List X) → ((x : X) → In x xs → All P (f x)) → All P (flat_map f xs)
flat_all P f [] h = All-nil P
flat_all P f (x ∷ xs) h = All-append P (f x) (flat_map f xs) (h x (inl refl)) (flat_all P f xs (λ y is. h y (inr is)))

pub lags_within : (dag : Dag) (s : Settings) → fault dag s ≡ None → All HasLag (data_files dag)
lags_within dag s valid =
    let none = no_wrong_lags dag s (ranges_none dag s valid) in
    All-append HasLag (flat_map (λ (v : Vertex). sources_of v.kind) dag.vertices) (flat_map (λ (v : Vertex). sides_of v.kind) dag.vertices)
    (flat_all HasLag (λ (v : Vertex). sources_of v.kind) dag.vertices (λ v is. source_lags v.kind (none_at (λ (w : Vertex). has_wrong_lag w.kind) dag.vertices v none is)))
    (flat_all HasLag (λ (v : Vertex). sides_of v.kind) dag.vertices (λ v is. side_lags v.kind))

-- ---- how many files there are

length_map : {X Y : Type 0} (f : X → Y) (xs : List X) → length (map f xs) ≡ length xs
length_map f [] = refl
length_map f (x ∷ xs) = ap suc (length_map f xs)

files_of : (k : Kind) → length (sources_of k) + length (sides_of k) ≡ file_count k
files_of (kind.Source names lag) = let same : length (sources_of (kind.Source names lag)) ≡ length names = length_map (λ name. SourceFile name lag) names in omega (arith, same)
files_of (kind.Side f) = refl
files_of (kind.Map set) = refl
files_of (kind.Filter t) = refl
files_of (kind.Flat legs) = refl
files_of (kind.Join m r fs) = refl
files_of (kind.Accumulate size slide) = refl
files_of kind.Combine = refl
files_of kind.Sink = refl

count_files : (vertices : List Vertex) → length (flat_map (λ (v : Vertex). sources_of v.kind) vertices) + length (flat_map (λ (v : Vertex). sides_of v.kind) vertices) ≡ files vertices
count_files [] = refl
count_files (v ∷ vertices) =
    let a = length-append (sources_of v.kind) (flat_map (λ (w : Vertex). sources_of w.kind) vertices) in
    let b = length-append (sides_of v.kind) (flat_map (λ (w : Vertex). sides_of w.kind) vertices) in
    let all : files (v ∷ vertices) ≡ file_count v.kind + files vertices = sum_first (λ (w : Vertex). file_count w.kind) v vertices in
    let one : length (sources_of v.kind) + length (sides_of v.kind) ≡ file_count v.kind = files_of v.kind in
    let more = count_files vertices in
    omega (arith, a, b, all, one, more)

pub files_within : (dag : Dag) → files dag.vertices ≤ 256 → length (data_files dag) ≤ 256
files_within dag h =
    let all = length-append (flat_map (λ (v : Vertex). sources_of v.kind) dag.vertices) (flat_map (λ (v : Vertex). sides_of v.kind) dag.vertices) in
    let count = count_files dag.vertices in
    omega (arith, all, count, h)
