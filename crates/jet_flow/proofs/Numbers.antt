-- The files of a job by their numbers.
use Rattle.std.proofs.Common.{◌≡◌, ℕ, ◌+◌, List, [], ◌∷◌, ◌++◌, Bool, true, false, cond, length, refl, sym, ap, ◌∙◌, subst, arith, append_assoc, length-append, not, zero-add}
use Rattle.std.specs.Prelude.{All, Option, Some, slice_get, take_while}
use Rattle.std.specs.List.{flat_map, find, enumerate_from}
use Rattle.std.specs.Option.{option_map_or}
use Rattle.std.proofs.lemmas.List.Elements.{All-nil, All-cons}
use Rattle.std.proofs.lemmas.List.Sums.{take_while-cons}
use Rattle.jet_plan.specs.declared.vertex.Vertex.{Vertex}
use Rattle.jet_plan.specs.declared.dag.Dag.{Dag}
use Rattle.jet_plan.specs.Names.{has_name}
use Rattle.jet_flow.specs.DataFiles.{DataFile, sources_of, sides_of, data_files}
use Rattle.jet_flow.specs.Contents.{source_files}

-- each numbered file stands under its number
abbrev StandIn : List DataFile → List (ℕ × DataFile) → Type 0
StandIn all numbered = All (λ p. slice_get all p.0 ≡ Some p.1) numbered

at_seam : {X : Type 0} (front : List X) (x : X) (back : List X) → slice_get (front ++ x ∷ back) (length front) ≡ Some x
at_seam [] x back = refl
at_seam (y ∷ front) x back = at_seam front x back

-- the files between a front and a back, numbered from the front's length on
stand_between : (front xs back : List DataFile) → StandIn (front ++ (xs ++ back)) (enumerate_from (length front) xs)
stand_between front [] back = All-nil _
stand_between front (x ∷ xs) back =
    let later : StandIn ((front ++ x ∷ []) ++ (xs ++ back)) (enumerate_from (length (front ++ x ∷ [])) xs) = stand_between (front ++ x ∷ []) xs back in
    let moved : StandIn ((front ++ x ∷ []) ++ (xs ++ back)) (enumerate_from (length front + 1) xs) =
    subst (λ (n : ℕ). StandIn ((front ++ x ∷ []) ++ (xs ++ back)) (enumerate_from n xs)) (length-append front (x ∷ [])) later in
    All-cons (λ p. slice_get (front ++ (x ∷ xs ++ back)) p.0 ≡ Some p.1) (length front, x) _ (at_seam front x (xs ++ back))
    (subst (λ (all : List DataFile). StandIn all (enumerate_from (length front + 1) xs)) (append_assoc front (x ∷ []) (xs ++ back)) moved)

abbrev sources : List Vertex → List DataFile
sources = flat_map (λ v. sources_of v.kind)

-- the files of a vertex, if there is one, numbered from n on
abbrev numbered_from : ℕ → Option Vertex → List (ℕ × DataFile)
numbered_from n o = option_map_or (λ v. enumerate_from n (sources_of v.kind)) o []

abbrev others : List ℕ → List Vertex → List Vertex
others name vertices = take_while (λ v. not (has_name name v)) vertices

step : (front : List DataFile) (v : Vertex) (vs : List Vertex) (back : List DataFile) (name : List ℕ) (b : Bool)
    → StandIn ((front ++ sources_of v.kind) ++ (sources vs ++ back)) (numbered_from (length (front ++ sources_of v.kind) + length (sources (others name vs))) (find (has_name name) vs))
    → StandIn (front ++ ((sources_of v.kind ++ sources vs) ++ back)) (numbered_from (length front + length (sources (cond (not b) (v ∷ others name vs) []))) (cond b (Some v) (find (has_name name) vs)))
step front v vs back name true later =
    let here : StandIn (front ++ (sources_of v.kind ++ (sources vs ++ back))) (enumerate_from (length front) (sources_of v.kind)) = stand_between front (sources_of v.kind) (sources vs ++ back) in
    subst (λ (all : List DataFile). StandIn (front ++ all) (enumerate_from (length front + 0) (sources_of v.kind))) (sym (append_assoc (sources_of v.kind) (sources vs) back))
    (subst (λ (n : ℕ). StandIn (front ++ (sources_of v.kind ++ (sources vs ++ back))) (enumerate_from n (sources_of v.kind))) (omega arith) here)
step front v vs back name false later =
    let o = find (has_name name) vs in
    let count : length (front ++ sources_of v.kind) + length (sources (others name vs)) ≡ length front + length (sources_of v.kind ++ sources (others name vs)) =
    omega (arith, length-append front (sources_of v.kind), length-append (sources_of v.kind) (sources (others name vs))) in
    let whole : (front ++ sources_of v.kind) ++ (sources vs ++ back) ≡ front ++ ((sources_of v.kind ++ sources vs) ++ back) =
    append_assoc front (sources_of v.kind) (sources vs ++ back) ∙ ap (λ all. front ++ all) (sym (append_assoc (sources_of v.kind) (sources vs) back)) in
    subst (λ (all : List DataFile). StandIn all (numbered_from (length front + length (sources_of v.kind ++ sources (others name vs))) o)) whole
    (subst (λ (n : ℕ). StandIn ((front ++ sources_of v.kind) ++ (sources vs ++ back)) (numbered_from n o)) count later)

stand_in_vertices : (front : List DataFile) (vertices : List Vertex) (back : List DataFile) (name : List ℕ)
    → StandIn (front ++ (sources vertices ++ back)) (numbered_from (length front + length (sources (others name vertices))) (find (has_name name) vertices))
stand_in_vertices front [] back name = All-nil _
stand_in_vertices front (v ∷ vs) back name =
    subst (λ (before : List Vertex). StandIn (front ++ ((sources_of v.kind ++ sources vs) ++ back)) (numbered_from (length front + length (sources before)) (cond (has_name name v) (Some v) (find (has_name name) vs))))
    (sym (take_while-cons (λ u. not (has_name name u)) v vs))
    (step front v vs back name (has_name name v) (stand_in_vertices (front ++ sources_of v.kind) vs back name))

-- the files of a source stand under their numbers
pub stand_in_job : (dag : Dag) (name : List ℕ) → All (λ p. slice_get (data_files dag) p.0 ≡ Some p.1) (source_files dag name)
stand_in_job dag name =
    subst (λ (n : ℕ). StandIn (data_files dag) (numbered_from n (find (has_name name) dag.vertices))) (zero-add _)
    (stand_in_vertices [] dag.vertices (flat_map (λ v. sides_of v.kind) dag.vertices) name)
