-- How many tasklets there are.
use Rattle.std.proofs.Common.{arith, ◌≡◌, ◌∙◌, if◌then◌else◌, true, false, not, ℕ, zero, suc, length, ap, refl, sym, add-one}
use Rattle.std.specs.List.{flat_map, range_with_len}
use Rattle.std.proofs.lemmas.List.{length-append}
use Rattle.std.proofs.lemmas.List.FromFn.{length-map-range_with_len}
use Rattle.jet_plan.specs.declared.vertex.Vertex.{Vertex}
use Rattle.jet_plan.specs.Kinds.{is_sink}
use Rattle.jet_plan.specs.Rings.{instances, all_instances}
use Rattle.jet_layout.specs.declared.task.Task.TheVariants.{Run}
use Rattle.jet_layout.specs.declared.end.EdgeEnd.{EdgeEnd}
use Rattle.jet_layout.specs.Joints.{end_of}
use Rattle.jet_layout.specs.Tasks.{member_tasks, task_count}
use Rattle.jet_layout.proofs.Ranges.{flat_map_more}

-- the instances of a vertex on the members below n
pub length_members : (v : ℕ) (x : Vertex) (n : ℕ) → length (flat_map (member_tasks v x) (range_with_len 0 n)) ≡ all_instances n x
length_members v x zero = refl
length_members v x (suc n) = ap (λ k. length (flat_map (member_tasks v x) (range_with_len 0 k))) (sym (add-one n))
    ∙ ap length (flat_map_more (member_tasks v x) n)
    ∙ length-append (flat_map (member_tasks v x) (range_with_len 0 n)) (member_tasks v x n)
    ∙ (let a = length_members v x n in let b = length-map-range_with_len (λ i. Run (record { vertex = v; member = n; number = i })) 0 (instances x n) in omega (arith, a, b))

-- of a vertex that is not the sink
pub counted : (n : ℕ) (x : Vertex) → is_sink x.kind ≡ false → task_count n x ≡ all_instances n x
counted n x e = ap (λ b. if b then 0 else all_instances n x) e

pub not_sink : (e : EdgeEnd) (n : ℕ) (x : Vertex) → not e.sink ≡ true → e ≡ end_of n x 0 → is_sink x.kind ≡ false
not_sink e n x t same = grind (arith, t, ap (λ (d : EdgeEnd). d.sink) same)
