use Rattle.std.proofs.Common.{◌≡◌, ◌∙◌, ap, sym, subst, List, Option, Some, None}
use Rattle.std.specs.Prelude.{option_map, position, bytes_eq}
use Rattle.std.specs.List.{find}
use Rattle.jet_plan.specs.declared.dag.Dag.{Dag}
use Rattle.jet_plan.specs.declared.edge.Edge.{Edge}
use Rattle.jet_plan.specs.declared.vertex.Vertex.{Vertex}
use Rattle.jet_plan.specs.JobShape.{JobShape}
use Rattle.jet_plan.specs.Names.{has_name}
use Rattle.jet_deploy.specs.Windows.{IsNamed}
use Rattle.jet_deploy.proofs.Windows.{leaves, ends, behind}
use Rattle.jet_deploy.proofs.window.number_behind.Goals as goal

pub unreachable-requires : goal.unreachable-requires
unreachable-requires c =
    let dag : Dag = c.dag-dag.result.now in
    let name = c.args.vertex.now.name in
    let none : find (λ (e : Edge). bytes_eq e.from name) dag.edges ≡ None = subst (λ (es : List Edge). find (λ (e : Edge). bytes_eq e.from name) es ≡ None) c.items.ensures (sym c.edge_out_of.ensures ∙ ap (option_map (λ e. e.now)) c.in_default.is) in
    leaves dag c.settings.result.now c.valid_jobs_have_their_shape.ensures c.args.vertex.now (rw c.dag-dag.ensures.dag c.requires.there) c.requires.accumulates none

pub unreachable-requires-in_default-number_of : goal.unreachable-requires-in_default-number_of
unreachable-requires-in_default-number_of c =
    let dag : Dag = c.dag-dag.result.now in
    let name = c.args.vertex.now.name in
    let e : Edge = c.in-Some.edge.now in
    let some : find (λ (e : Edge). bytes_eq e.from name) dag.edges ≡ Some e = subst (λ (es : List Edge). find (λ (e : Edge). bytes_eq e.from name) es ≡ Some e) c.items.ensures (sym c.edge_out_of.ensures ∙ ap (option_map (λ e. e.now)) c.in-Some.is) in
    let none : position (has_name e.to) dag.vertices ≡ None = subst (λ (vs : List Vertex). position (has_name e.to) vs ≡ None) c.items-2.ensures (sym c.number_of.ensures ∙ c.in_default-number_of.is) in
    ends dag c.settings.result.now c.valid_jobs_have_their_shape.ensures name e some none

pub returns : goal.returns
returns c =
    let dag : Dag = c.dag-dag.result.now in
    let u : Vertex = c.args.vertex.now in
    let e : Edge = c.in-Some.edge.now in
    let some : find (λ (e : Edge). bytes_eq e.from u.name) dag.edges ≡ Some e = subst (λ (es : List Edge). find (λ (e : Edge). bytes_eq e.from u.name) es ≡ Some e) c.items.ensures (sym c.edge_out_of.ensures ∙ ap (option_map (λ e. e.now)) c.in-Some.is) in
    let at : position (has_name e.to) dag.vertices ≡ Some c.in-Some-number_of.number = subst (λ (vs : List Vertex). position (has_name e.to) vs ≡ Some c.in-Some-number_of.number) c.items-2.ensures (sym c.number_of.ensures ∙ c.in-Some-number_of.is) in
    subst (λ (d : Dag). IsNamed d u c.in-Some-number_of.number) c.dag-dag.ensures.dag
    (behind dag c.settings.result.now c.valid_jobs_have_their_shape.ensures u (rw c.dag-dag.ensures.dag c.requires.there) e some c.in-Some-number_of.number at)
