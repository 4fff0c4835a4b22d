use Rattle.std.proofs.Common.{◌∙◌, ◌≤◌, List, length, ap, subst, sym}
use Rattle.std.specs.List.{All, Contains}
use Rattle.jet_plan.specs.declared.vertex.Vertex.{Vertex}
use Rattle.jet_layout.specs.declared.end.EdgeEnd.{EdgeEnd}
use Rattle.jet_layout.proofs.Ends.{length_ends, ends_filled}
use Rattle.jet_layout.proofs.layout.Layout.new.Goals as goal

pub add_joints-requires-clause-ends : goal.add_joints-requires-clause-ends
add_joints-requires-clause-ends c = ap length (c.items-2.ensures ∙ c.in_ok-add_vertices.ensures.ends) ∙ length_ends _ 0 _

pub add_files-requires-clause-ends : goal.add_files-requires-clause-ends
add_files-requires-clause-ends c = ap length (c.items-4.ensures ∙ c.in_ok-add_vertices.ensures.ends) ∙ length_ends _ 0 _

pub add_files-requires-clause-instances : goal.add_files-requires-clause-instances
add_files-requires-clause-instances c = subst (λ (l : List EdgeEnd). All (λ e. 1 ≤ e.parallelism) l) (sym (c.items-4.ensures ∙ c.in_ok-add_vertices.ensures.ends))
    (ends_filled _ 0 _ (λ v there. c.valid_jobs_keep_their_ranges.ensures.instances v (subst (λ (l : List Vertex). Contains l v) c.items-vertices.ensures there)))

pub add_files-requires-2-clause-ends : goal.add_files-requires-2-clause-ends
add_files-requires-2-clause-ends c = ap length (c.items-5.ensures ∙ c.in_ok-add_vertices.ensures.ends) ∙ length_ends _ 0 _

pub add_files-requires-2-clause-instances : goal.add_files-requires-2-clause-instances
add_files-requires-2-clause-instances c = subst (λ (l : List EdgeEnd). All (λ e. 1 ≤ e.parallelism) l) (sym (c.items-5.ensures ∙ c.in_ok-add_vertices.ensures.ends))
    (ends_filled _ 0 _ (λ v there. c.valid_jobs_keep_their_ranges.ensures.instances v (subst (λ (l : List Vertex). Contains l v) c.items-vertices.ensures there)))
