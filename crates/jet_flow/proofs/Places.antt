-- The vertices leave each event its place.
use Rattle.std.proofs.Common.{◌≡◌, ℕ, zero, suc, ◌<◌, List, [], ◌∷◌, ◌++◌, Bool, true, false, ◌&&◌, ◌||◌, ◌==◌, length, get_or, map, filter, refl, sym, ap, ap₂, ◌∙◌, subst, arith, inl, inr}
use Rattle.std.specs.Prelude.{All, AllPairs, Any, IsSomeAnd, Option, Some, None, slice_get, ⊤}
use Rattle.std.specs.List.{AllByRecursion, enumerate_from, find, list_any}
use Rattle.std.specs.Option.{option_map_or}
use Rattle.std.proofs.lemmas.Bool.{cases_lt, eqb-true}
use Rattle.std.proofs.lemmas.Bool.Decides.{nat_tests}
use Rattle.std.proofs.lemmas.List.{get_or_default}
use Rattle.std.proofs.lemmas.List.Elements.{All-from_recursion, recursion_from_All}
use Rattle.std.proofs.lemmas.List.Folds.{Any-from_list_any, list_any-from_Any}
use Rattle.jet_items.specs.Joins.{joined, joined_with, or_itself}
use Rattle.jet_items.specs.Values.{EventValue}
use Rattle.jet_expr.specs.Flows.{mapped, passes, leg_event}
use Rattle.jet_lines.specs.Files.{events_of}
use Rattle.jet_plan.specs.declared.dag.Dag.{Dag}
use Rattle.jet_plan.specs.declared.edge.Edge.{Edge}
use Rattle.jet_plan.specs.declared.kind.Kind.{Kind}
use Rattle.jet_plan.specs.declared.kind.Kind.TheVariants.{Source, Side, Map, Filter, Flat, Join, Accumulate, Combine, Sink}
use Rattle.jet_plan.specs.declared.vertex.Vertex.{Vertex}
use Rattle.jet_plan.specs.Along.{along, before}
use Rattle.jet_plan.specs.Graph.{edges_into}
use Rattle.jet_plan.specs.Growth.{stream_edges}
use Rattle.jet_plan.specs.Names.{has_name}
use Rattle.jet_flow.specs.Contents.{contents_of, source_files, behind_own, behind_idle, under_other, behind_in, was_behind, behind_at}
use Rattle.jet_flow.specs.DataFiles.{DataFile, file_name, data_files}
use Rattle.jet_flow.specs.DataFiles.DataFile.{SourceFile, SideFile}
use Rattle.jet_flow.specs.Flow.{Contents, leg_value, flattened_by, joining, build_rows, leaving, joined_up, flow_rule, flow}
use Rattle.jet_flow.specs.Places.{SamePlace, HasPlace, IsInItsFile}
use Rattle.jet_flow.proofs.Each.{each_append, each_map, each_flat_map, each_filter, each_of}

-- what is true of all events that are read, and of all that have the place of one of which it is true, is true of all that flow
module _ (P : EventValue → Type 0) (keeps : (d e : EventValue) → SamePlace d e → P d → P e) (files : Contents) (dag : Dag) (reads : (name : List ℕ) → AllByRecursion P (files.events name)) where
  or_keeps : (left : Bool) (e : EventValue) (xs : List EventValue) → P e → AllByRecursion P xs → AllByRecursion P (or_itself left e xs)
  or_keeps true e [] own h = (own, tt)
  or_keeps false e [] own h = tt
  or_keeps left e (x ∷ xs) own h = h

  leaving_keeps : (name : List ℕ) (kind : Kind) (came : List EventValue) → AllByRecursion P came → AllByRecursion P (leaving files dag name kind came)
  leaving_keeps name (Source names lag) came h = reads name
  leaving_keeps name (Side file) came h = tt
  leaving_keeps name (Map set) came h = each_map P P (mapped set) (λ e p. keeps e (mapped set e) (refl, refl, refl) p) came h
  leaving_keeps name (Filter test) came h = each_filter P (passes test) came h
  leaving_keeps name (Flat legs) came h =
      each_flat_map P P (flattened_by legs)
      (λ e p. each_map (λ leg. ⊤) P (leg_event ◌++◌ e) (λ leg t. keeps e (leg_event ◌++◌ e leg) (refl, refl, refl) p) _
      (each_of (λ leg. ⊤) (λ leg. tt) (filter (λ leg. passes leg.test e) (map leg_value legs)))) came h
  leaving_keeps name (Join mode rekey fields) came h =
      each_flat_map P P (joined (joining mode rekey fields) (build_rows files dag name))
      (λ e p. or_keeps _ e _ p (each_map (λ s. ⊤) P (joined_with (joining mode rekey fields) e) (λ s t. keeps e (joined_with (joining mode rekey fields) e s) (refl, refl, refl) p) _
      (each_of (λ s. ⊤) (λ s. tt) _))) came h
  leaving_keeps name (Accumulate size slide) came h = h
  leaving_keeps name Combine came h = tt
  leaving_keeps name Sink came h = tt

  found_keeps : (name : List ℕ) (o : Option Vertex) (came : List EventValue) → AllByRecursion P came → AllByRecursion P (option_map_or (λ v. leaving files dag name v.kind came) o [])
  found_keeps name None came h = tt
  found_keeps name (Some v) came h = leaving_keeps name v.kind came h

  together_keeps : (sent : List ℕ → List EventValue) → ((name : List ℕ) → AllByRecursion P (sent name)) → (into : List Edge) → AllByRecursion P (joined_up (map (λ e. sent e.from) into))
  together_keeps sent each [] = tt
  together_keeps sent each (e ∷ into) = each_append P (sent e.from) _ (each e.from) (together_keeps sent each into)

  along_keeps : (n : ℕ) (name : List ℕ) → AllByRecursion P (along (stream_edges dag) (flow_rule files dag) [] n name)
  along_keeps zero name = tt
  along_keeps (suc n) name =
      found_keeps name (find (has_name name) dag.vertices) _
      (together_keeps (along (stream_edges dag) (flow_rule files dag) [] n) (along_keeps n) (edges_into name (stream_edges dag)))

  pub flow_keeps_places : (name : List ℕ) → All P (flow files dag name)
  flow_keeps_places name = All-from_recursion P (flow files dag name) (along_keeps (length dag.vertices) name)

-- the same place, two times
then_place : (c d e : EventValue) → SamePlace c d → SamePlace d e → SamePlace c e
then_place c d e h k = (h.0 ∙ k.0, h.1 ∙ k.1, h.2 ∙ k.2)

any_place : (d e : EventValue) (xs : List EventValue) → SamePlace d e → Any (λ x. SamePlace x d) xs → Any (λ x. SamePlace x e) xs
any_place d e xs same a = (a.0, a.1, a.2, a.3, then_place a.1 d e a.4 same)

-- each element is one of the list
each_is_there : (xs : List EventValue) → All (λ e. Any (λ d. SamePlace d e) xs) xs
each_is_there xs k d below = (k, get_or xs k d, below, get_or_default xs k (get_or xs k d) d below, (refl, refl, refl))

pub has_places : (files : Contents) (dag : Dag) (name : List ℕ) → All (HasPlace files) (flow files dag name)
has_places files dag name =
    flow_keeps_places (HasPlace files) (λ d e same h. (h.0, any_place d e (files.events h.0) same h.1)) files dag
    (λ source. recursion_from_All (HasPlace files) (files.events source) (λ k d below. (source, each_is_there (files.events source) k d below))) name

-- ---- in the files of a job

file_place : (most : ℕ) (bytes : List ℕ → List ℕ) (dag : Dag) (d e : EventValue) → SamePlace d e → IsInItsFile most bytes dag d → IsInItsFile most bytes dag e
file_place most bytes dag d e same h = go (slice_get (data_files dag) e.part) (ap (slice_get (data_files dag)) same.0) h
  where
    go : (o : Option DataFile) → slice_get (data_files dag) d.part ≡ o → IsSomeAnd (slice_get (data_files dag) d.part) (λ file. Any (λ x. SamePlace x d) (events_of most d.part (bytes (file_name file))))
        → IsSomeAnd o (λ file. Any (λ x. SamePlace x e) (events_of most e.part (bytes (file_name file))))
    go None is h = absurd (rw is at h)
    go (Some file) is h = any_place d e (events_of most e.part (bytes (file_name file))) same (subst (λ p. Any (λ x. SamePlace x d) (events_of most p (bytes (file_name file)))) same.0 (rw is at h))

module _ (most : ℕ) (bytes : List ℕ → List ℕ) (dag : Dag) (parts : (part : ℕ) (content : List ℕ) → All (λ e. e.part ≡ part) (events_of most part content))
    (numbers : (name : List ℕ) → All (λ p. slice_get (data_files dag) p.0 ≡ Some p.1) (source_files dag name)) where
  own : (p : ℕ × DataFile) → slice_get (data_files dag) p.0 ≡ Some p.1 → (e : EventValue) → e.part ≡ p.0 → Any (λ d. SamePlace d e) (events_of most p.0 (bytes (file_name p.1))) → IsInItsFile most bytes dag e
  own p stands e is there = rw (is, stands) (rw is at there)

  in_file : (p : ℕ × DataFile) → slice_get (data_files dag) p.0 ≡ Some p.1 → AllByRecursion (IsInItsFile most bytes dag) (events_of most p.0 (bytes (file_name p.1)))
  in_file p at =
      let events = events_of most p.0 (bytes (file_name p.1)) in
      recursion_from_All (IsInItsFile most bytes dag) events
      (λ k d below. own p at (get_or events k d) (parts p.0 (bytes (file_name p.1)) k d below) (each_is_there events k d below))

  pub in_files : (name : List ℕ) → All (IsInItsFile most bytes dag) (flow (contents_of most bytes dag) dag name)
  in_files name =
      flow_keeps_places (IsInItsFile most bytes dag) (file_place most bytes dag) (contents_of most bytes dag) dag
      (λ source. each_flat_map (λ p. slice_get (data_files dag) p.0 ≡ Some p.1) (IsInItsFile most bytes dag) (λ p. events_of most p.0 (bytes (file_name p.1))) in_file (source_files dag source)
      (recursion_from_All (λ p. slice_get (data_files dag) p.0 ≡ Some p.1) (source_files dag source) (numbers source))) name

-- ---- whether an event was behind is settled by its place

module _ (grain most : ℕ) (bytes : List ℕ → List ℕ) (dag : Dag) where
  own_same : (d e : EventValue) → SamePlace d e → (file : DataFile) → behind_own grain most bytes d file ≡ behind_own grain most bytes e file
  own_same d e same (SourceFile name lag) = rw (same.0, same.1, same.2) refl
  own_same d e same (SideFile name) = refl

  idle_same : (d e : EventValue) → SamePlace d e → (file : DataFile) → behind_idle most bytes d file ≡ behind_idle most bytes e file
  idle_same d e same (SourceFile name lag) = rw same.1 refl
  idle_same d e same (SideFile name) = refl

  other_same : (d e : EventValue) → SamePlace d e → (q : ℕ × DataFile) → under_other grain most bytes d q ≡ under_other grain most bytes e q
  other_same d e same (q, SourceFile name lag) = rw (same.0, same.2) refl
  other_same d e same (q, SideFile name) = refl

  others_same : (d e : EventValue) → SamePlace d e → (files : List (ℕ × DataFile)) → list_any (under_other grain most bytes d) files ≡ list_any (under_other grain most bytes e) files
  others_same d e same [] = refl
  others_same d e same (q ∷ files) = ap₂ ◌||◌ (other_same d e same q) (others_same d e same files)

  in_same : (d e : EventValue) → SamePlace d e → (file : DataFile) → behind_in grain most bytes dag d file ≡ behind_in grain most bytes dag e file
  in_same d e same file = ap₂ ◌||◌ (own_same d e same file) (ap₂ ◌&&◌ (idle_same d e same file) (others_same d e same (enumerate_from 0 (data_files dag))))

  maybe_same : (d e : EventValue) → SamePlace d e → (o : Option DataFile) → option_map_or (behind_in grain most bytes dag d) o false ≡ option_map_or (behind_in grain most bytes dag e) o false
  maybe_same d e same None = refl
  maybe_same d e same (Some file) = in_same d e same file

  behind_same : (d e : EventValue) → SamePlace d e → was_behind grain most bytes dag d ≡ was_behind grain most bytes dag e
  behind_same d e same =
      maybe_same d e same (slice_get (data_files dag) d.part) ∙ ap (λ p. option_map_or (behind_in grain most bytes dag e) (slice_get (data_files dag) p) false) same.0

  -- where lines rise, two events of one line are one
  one_of_line : (xs : List EventValue) → AllPairs (λ d e. d.line < e.line) xs → (i j : ℕ) (d e : EventValue) → i < length xs → j < length xs → get_or xs i d ≡ d → get_or xs j e ≡ e
      → d.line ≡ e.line → d ≡ e
  one_of_line xs rise i j d e within below at there same = elim (cases_lt i j) [
    | inl before ↦ absurd (omega (arith, rise i j d before below, same, ap (λ (x : EventValue). x.line) at, ap (λ (x : EventValue). x.line) (get_or_default xs j d e below ∙ there)))
    | inr from ↦ elim (cases_lt j i) [
      | inl before ↦ absurd (omega (arith, rise j i e before within, same, ap (λ (x : EventValue). x.line) there, ap (λ (x : EventValue). x.line) (get_or_default xs i e d within ∙ at)))
      | inr from' ↦
          let both : i ≡ j = omega (arith, from, from') in
          sym at ∙ get_or_default xs i d e within ∙ ap (λ k. get_or xs k e) both ∙ there
    ]
  ]

  test_parts : (a b : Bool) → (a && b) ≡ true → (a ≡ true) × (b ≡ true)
  test_parts true b h = (refl, h)
  test_parts false b h = cc h

  is_line : (m n : ℕ) → m ≡ n → (m == n) ≡ true
  is_line m n same = grind (arith, nat_tests, same)

  -- in the file of the event: one of its line is behind exactly where the event is
  found_behind : (events : List EventValue) → AllPairs (λ d e. d.line < e.line) events → (e : EventValue) → Any (λ d. SamePlace d e) events
      → (b w : Bool) → list_any (λ d. (d.line == e.line) && was_behind grain most bytes dag d) events ≡ b → was_behind grain most bytes dag e ≡ w → b ≡ w
  found_behind events rise e a true true is was = refl
  found_behind events rise e a false false is was = refl
  found_behind events rise e a true false is was =
      let c = Any-from_list_any (λ d. (d.line == e.line) && was_behind grain most bytes dag d) events is in
      let parts = test_parts (c.1.line == e.line) (was_behind grain most bytes dag c.1) c.4 in
      let one = one_of_line events rise a.0 c.0 a.1 c.1 a.2 c.2 a.3 c.3 (a.4.1 ∙ sym (eqb-true c.1.line e.line parts.0)) in
      cc (sym parts.1 ∙ ap (was_behind grain most bytes dag) (sym one) ∙ behind_same a.1 e a.4 ∙ was)
  found_behind events rise e a false true is was =
      cc (sym is ∙ list_any-from_Any (λ d. (d.line == e.line) && was_behind grain most bytes dag d) events
      (a.0, a.1, a.2, a.3, ap₂ ◌&&◌ (is_line a.1.line e.line a.4.1) (behind_same a.1 e a.4 ∙ was)))

  maybe_behind : (e : EventValue) → ((content : List ℕ) → AllPairs (λ x y. x.line < y.line) (events_of most e.part content)) → (o : Option DataFile)
      → IsSomeAnd o (λ file. Any (λ d. SamePlace d e) (events_of most e.part (bytes (file_name file))))
      → option_map_or (λ file. list_any (λ d. (d.line == e.line) && was_behind grain most bytes dag d) (events_of most e.part (bytes (file_name file)))) o false ≡ was_behind grain most bytes dag e
  maybe_behind e rise None h = absurd h
  maybe_behind e rise (Some file) h = found_behind (events_of most e.part (bytes (file_name file))) (rise (bytes (file_name file))) e h _ _ refl refl

  pub behind_by_place : ((part : ℕ) (content : List ℕ) → AllPairs (λ x y. x.line < y.line) (events_of most part content)) → (e : EventValue) → IsInItsFile most bytes dag e
      → behind_at grain most bytes dag e.part e.line ≡ was_behind grain most bytes dag e
  behind_by_place rise e h = maybe_behind e (rise e.part) (slice_get (data_files dag) e.part) h

or_none : (b c : Bool) → (b || (c && false)) ≡ b
or_none true c = refl
or_none false true = refl
or_none false false = refl

-- with no idle note before it, or no other source file, the own mark counts
pub no_idle_before : (grain most : ℕ) (bytes : List ℕ → List ℕ) (dag : Dag) (e : EventValue) (file : DataFile) → slice_get (data_files dag) e.part ≡ Some file → behind_idle most bytes e file ≡ false
    → was_behind grain most bytes dag e ≡ behind_own grain most bytes e file
no_idle_before grain most bytes dag e file at none = rw (at, none) (or_none (behind_own grain most bytes e file) false)

pub none_other : (grain most : ℕ) (bytes : List ℕ → List ℕ) (dag : Dag) (e : EventValue) (file : DataFile) → slice_get (data_files dag) e.part ≡ Some file
    → list_any (under_other grain most bytes e) (enumerate_from 0 (data_files dag)) ≡ false
    → was_behind grain most bytes dag e ≡ behind_own grain most bytes e file
none_other grain most bytes dag e file at none = rw (at, none) (or_none (behind_own grain most bytes e file) (behind_idle most bytes e file))
