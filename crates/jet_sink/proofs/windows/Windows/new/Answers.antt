use Rattle.std.proofs.Common.{◌≤◌, ◌∙◌, ◌++◌, ap, sym, subst, ℕ, List, [], length, take}
use Rattle.std.specs.List.{flat_map, enumerate_from}
use Rattle.std.proofs.lemmas.List.{take_all, flat_map_more}
use Rattle.std.proofs.lemmas.List.FromFn.{length-enumerate_from}
use Rattle.jet_flow.specs.Inflows as inflows
use Rattle.jet_items.specs.Rows.{Window}
use Rattle.jet_plan.specs.declared.dag.Dag.{Dag}
use Rattle.jet_plan.specs.declared.vertex.Vertex.{Vertex}
use Rattle.jet_sink.proofs.Sizes.{numbered_more}
use Rattle.jet_sink.proofs.windows.Windows.new.Goals as goal

pub loop-number-preserved : goal.loop-number-preserved
loop-number-preserved c =
    let dag : Dag = c.dag-dag.result.now in
    let vertices : List Vertex = c.items-vertex-items.result.now in
    let at : ℕ × Vertex = (c.loop-number.number, c.vertex-item.result) in
    let front : List (ℕ × Vertex) = take c.loop-number.number (enumerate_from 0 vertices) in
    c.in_ok-push_at.ensures
    ∙ (ap (λ (ws : List Window). ws ++ inflows.windows_at dag at) c.loop-number.invariant
    ∙ (flat_map_more (inflows.windows_at dag) [] front at
    ∙ ap (flat_map (inflows.windows_at dag)) (sym (numbered_more vertices c.loop-number.number c.vertex-item.result c.loop-number-test.true c.vertex-item.is))))

pub returns : goal.returns
returns c =
    let dag : Dag = c.dag-dag.result.now in
    let vertices : List Vertex = c.items-vertex-items.result.now in
    let past : length (enumerate_from 0 vertices) ≤ c.loop-number.number = subst (λ (n : ℕ). n ≤ c.loop-number.number) (sym (length-enumerate_from 0 vertices)) c.loop-number-test.false in
    c.loop-number.invariant
    ∙ (ap (flat_map (inflows.windows_at dag)) (take_all c.loop-number.number (enumerate_from 0 vertices) past)
    ∙ (ap (λ (vs : List Vertex). flat_map (inflows.windows_at dag) (enumerate_from 0 vs)) c.items-vertex-items.ensures ∙ ap inflows.windows c.dag-dag.ensures.dag))
