-- A layout has an input for each data file.
use Rattle.std.proofs.Common.{arith, ◌≡◌, ◌∙◌, ◌+◌, ◌++◌, ℕ, zero, suc, Bool, true, false, List, [], ◌∷◌, map, length, ap, refl, sym}
use Rattle.std.specs.List.{flat_map, range_with_len}
use Rattle.std.proofs.lemmas.List.{length-map, length-append}
use Rattle.std.proofs.lemmas.List.FromFn.{length-map-range_with_len}
use Rattle.jet_flow.specs.DataFiles.{DataFile, SourceFile, sources_of, sides_of, data_files}
use Rattle.jet_layout.specs.declared.end.EdgeEnd.{EdgeEnd}
use Rattle.jet_layout.specs.Files.{file_port, file_ports, chosen_files, files_from, files}
use Rattle.jet_layout.specs.Joints.{end_of, vertex_ends}
use Rattle.jet_layout.specs.Tasks.{task_count}
use Rattle.jet_plan.specs.declared.dag.Dag.{Dag}
use Rattle.jet_plan.specs.declared.kind.Kind.{Kind}
use Rattle.jet_plan.specs.declared.kind.Kind.TheVariants as kind
use Rattle.jet_plan.specs.declared.vertex.Vertex.{Vertex}

source_files : (k : Kind) → chosen_files false k ≡ length (sources_of k)
source_files (kind.Source names lag) = sym (length-map names (λ name. SourceFile name lag))
source_files (kind.Side file) = refl
source_files (kind.Map set) = refl
source_files (kind.Filter test) = refl
source_files (kind.Flat legs) = refl
source_files (kind.Join mode rekey fields) = refl
source_files (kind.Accumulate size slide) = refl
source_files kind.Combine = refl
source_files kind.Sink = refl

side_files : (k : Kind) → chosen_files true k ≡ length (sides_of k)
side_files (kind.Source names lag) = refl
side_files (kind.Side file) = refl
side_files (kind.Map set) = refl
side_files (kind.Filter test) = refl
side_files (kind.Flat legs) = refl
side_files (kind.Join mode rekey fields) = refl
side_files (kind.Accumulate size slide) = refl
side_files kind.Combine = refl
side_files kind.Sink = refl

-- the inputs for one sort of files are as many as these
all_of : (sides : Bool) (of : Kind → List DataFile) → ((k : Kind) → chosen_files sides k ≡ length (of k)) → (members first : ℕ) (vs : List Vertex)
    → length (files_from sides members (vertex_ends members first vs) vs) ≡ length (flat_map (λ v. of v.kind) vs)
all_of sides of each members first [] = refl
all_of sides of each members first (x ∷ xs) =
    let e = end_of first x 0 in
    let n = chosen_files sides x.kind in
    let here = length-map-range_with_len (file_port e members) 0 n in
    let more = all_of sides of each members (first + task_count members x) xs in
    let long = length-append (file_ports members e n) (files_from sides members (vertex_ends members (first + task_count members x) xs) xs) in
    let wide = length-append (of x.kind) (flat_map (λ v. of v.kind) xs) in
    let same = each x.kind in
    omega (arith, here, more, long, wide, same)

pub one_for_each : (members : ℕ) (dag : Dag) → length (files members dag) ≡ length (data_files dag)
one_for_each members dag =
    let vs = dag.vertices in
    let ends = vertex_ends members 0 vs in
    let sources = all_of false sources_of source_files members 0 vs in
    let sides = all_of true sides_of side_files members 0 vs in
    let long = length-append (files_from false members ends vs) (files_from true members ends vs) in
    let wide = length-append (flat_map (λ v. sources_of v.kind) vs) (flat_map (λ v. sides_of v.kind) vs) in
    omega (arith, sources, sides, long, wide)
