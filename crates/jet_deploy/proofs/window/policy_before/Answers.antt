use Rattle.std.proofs.Common.{◌≡◌, ◌∙◌, ap, sym, subst, List, Option, Some, None}
use Rattle.std.specs.Prelude.{option_map, bytes_eq, true}
use Rattle.std.specs.List.{find, Contains}
use Rattle.jet_plan.specs.declared.dag.Dag.{Dag}
use Rattle.jet_plan.specs.declared.edge.Edge.{Edge}
use Rattle.jet_plan.specs.declared.vertex.Vertex.{Vertex}
use Rattle.jet_plan.specs.JobShape.{JobShape, Leads}
use Rattle.jet_plan.specs.Kinds.{is_accumulate, is_combine}
use Rattle.jet_plan.specs.Names.{has_name}
use Rattle.jet_deploy.specs.Windows.{HasSizes}
use Rattle.jet_deploy.proofs.Windows.{enters, starts, before}
use Rattle.jet_deploy.proofs.window.policy_before.Goals as goal

pub unreachable-requires : goal.unreachable-requires
unreachable-requires c =
    let dag : Dag = c.dag-dag.result.now in
    let name = c.args.vertex.now.name in
    let none : find (λ (e : Edge). bytes_eq e.to name) dag.edges ≡ None = subst (λ (es : List Edge). find (λ (e : Edge). bytes_eq e.to name) es ≡ None) c.items.ensures (sym c.edge_into.ensures ∙ ap (option_map (λ e. e.now)) c.in_default.is) in
    enters dag c.settings-settings.result.now c.valid_jobs_have_their_shape.ensures c.args.vertex.now (rw c.dag-dag.ensures.dag c.requires.there) c.requires.combines none

pub unreachable-requires-in_default-vertex_named : goal.unreachable-requires-in_default-vertex_named
unreachable-requires-in_default-vertex_named c =
    let dag : Dag = c.dag-dag.result.now in
    let name = c.args.vertex.now.name in
    let e : Edge = c.in-Some.edge.now in
    let some : find (λ (e : Edge). bytes_eq e.to name) dag.edges ≡ Some e = subst (λ (es : List Edge). find (λ (e : Edge). bytes_eq e.to name) es ≡ Some e) c.items.ensures (sym c.edge_into.ensures ∙ ap (option_map (λ e. e.now)) c.in-Some.is) in
    let none : find (has_name e.from) dag.vertices ≡ None = subst (λ (vs : List Vertex). find (has_name e.from) vs ≡ None) c.items-2.ensures (sym c.vertex_named.ensures ∙ ap (option_map (λ e. e.now)) c.in_default-vertex_named.is) in
    starts dag c.settings-settings.result.now c.valid_jobs_have_their_shape.ensures name e some none

pub policy_of-requires : goal.policy_of-requires
policy_of-requires c =
    let dag : Dag = c.dag-dag.result.now in
    let v : Vertex = c.args.vertex.now in
    let e : Edge = c.in-Some.edge.now in
    let u : Vertex = c.in-Some-vertex_named.before.now in
    let some : find (λ (e : Edge). bytes_eq e.to v.name) dag.edges ≡ Some e = subst (λ (es : List Edge). find (λ (e : Edge). bytes_eq e.to v.name) es ≡ Some e) c.items.ensures (sym c.edge_into.ensures ∙ ap (option_map (λ e. e.now)) c.in-Some.is) in
    let at : find (has_name e.from) dag.vertices ≡ Some u = subst (λ (vs : List Vertex). find (has_name e.from) vs ≡ Some u) c.items-2.ensures (sym c.vertex_named.ensures ∙ ap (option_map (λ e. e.now)) c.in-Some-vertex_named.is) in
    let there : Contains dag.vertices v = rw c.dag-dag.ensures.dag c.requires.there in
    let both = before dag c.settings-settings.result.now c.valid_jobs_have_their_shape.ensures v there e some u at in
    record { accumulates = sym both.1 ∙ c.requires.combines; range = c.valid_vertices_keep_their_ranges.ensures u both.0.start }

pub returns : goal.returns
returns c =
    let dag : Dag = c.dag-dag.result.now in
    let v : Vertex = c.args.vertex.now in
    let e : Edge = c.in-Some.edge.now in
    let u : Vertex = c.in-Some-vertex_named.before.now in
    let some : find (λ (e : Edge). bytes_eq e.to v.name) dag.edges ≡ Some e = subst (λ (es : List Edge). find (λ (e : Edge). bytes_eq e.to v.name) es ≡ Some e) c.items.ensures (sym c.edge_into.ensures ∙ ap (option_map (λ e. e.now)) c.in-Some.is) in
    let at : find (has_name e.from) dag.vertices ≡ Some u = subst (λ (vs : List Vertex). find (has_name e.from) vs ≡ Some u) c.items-2.ensures (sym c.vertex_named.ensures ∙ ap (option_map (λ e. e.now)) c.in-Some-vertex_named.is) in
    let there : Contains dag.vertices v = rw c.dag-dag.ensures.dag c.requires.there in
    let both = before dag c.settings-settings.result.now c.valid_jobs_have_their_shape.ensures v there e some u at in
    subst (λ (d : Dag). HasSizes d v c.policy_of.result.size c.policy_of.result.slide) c.dag-dag.ensures.dag
    (record { edge = e; accumulate = u; leads = both.0; sizes = c.policy_of.ensures })
