use Rattle.std.proofs.Common.{arith, rules, subst, w64, to_z-of_z, FitsSigned, List, ◌≡◌, ◌∙◌, ◌≤◌, ℕ, Some, ap, sym, length}
use Rattle.std.specs.Prelude.{slice_get}
use Rattle.std.specs.List.{Contains}
use Rattle.std.proofs.lemmas.Int.{ints}
use Rattle.std.proofs.lemmas.Option.{slice_get_within, get_or_from_slice_get}
use Rattle.jet_plan.specs.declared.leg.LegSpec.{LegSpec}
use Rattle.jet_plan.specs.declared.vertex.Vertex.{Vertex}
use Rattle.jet_deploy.specs.Ranges.{IsInRange, IsLag}
use Rattle.jet_deploy.proofs.instance.tasklet_of.Goals as goal

placed : (vertices : List Vertex) (n : ℕ) (v : Vertex) → slice_get vertices n ≡ Some v → Contains vertices v
placed vertices n v at = (n, slice_get_within vertices n v at, get_or_from_slice_get vertices n v v at)

pub new-requires-clause-lag : goal.new-requires-clause-lag
new-requires-clause-lag c =
    let there : Contains c.dag.result.now.vertices c.args.vertex.now = rw c.dag.ensures.dag (placed c.args.plan.now.dag.vertices c.args.number c.args.vertex.now c.requires.there) in
    let lag : IsLag c.in-Source.lag = subst IsInRange c.in-Source.is (c.valid_vertices_keep_their_ranges.ensures c.args.vertex.now there) in
    let fits : FitsSigned w64 c.in-Source.lag = search rules in
    simp to_z-of_z lag

pub flat-requires : goal.flat-requires
flat-requires c =
    let there : Contains c.dag.result.now.vertices c.args.vertex.now = rw c.dag.ensures.dag (placed c.args.plan.now.dag.vertices c.args.number c.args.vertex.now c.requires.there) in
    let legs : (1 ≤ length c.in-Flat.legs) × (length c.in-Flat.legs ≤ 8) = subst IsInRange c.in-Flat.is (c.valid_vertices_keep_their_ranges.ensures c.args.vertex.now there) in
    subst (λ (l : List LegSpec). (1 ≤ length l) × (length l ≤ 8)) (sym c.items.ensures) legs

pub frame-frame-requires-clause-there : goal.frame-frame-requires-clause-there
frame-frame-requires-clause-there c = placed c.args.plan.now.dag.vertices c.args.number c.args.vertex.now c.requires.there

pub combine-combine-requires-clause-there : goal.combine-combine-requires-clause-there
combine-combine-requires-clause-there c = placed c.args.plan.now.dag.vertices c.args.number c.args.vertex.now c.requires.there
