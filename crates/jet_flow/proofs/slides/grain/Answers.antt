use Rattle.std.proofs.Common.{rules, ◌≡◌, ℕ, ◌<◌, length, get_or, List, [], ◌∷◌, ap, subst, append-nil}
use Rattle.std.specs.Prelude.{unsigned_abs}
use Rattle.std.specs.Int.{IsGcd}
use Rattle.jet_plan.specs.declared.vertex.Vertex.{Vertex}
use Rattle.jet_flow.specs.Grain.{slides_of}
use Rattle.jet_flow.proofs.Divisors.{of_one_more, of_vertex_more, no_slide, slides_before}
use Rattle.jet_flow.proofs.slides.grain.Goals as goal
use Rattle.jet_flow.proofs.slides.grain.Goals.{in-Accumulate, in_default}

pub loop-vertex-preserved : goal.loop-vertex-preserved
loop-vertex-preserved c =
    let vertices = c.args.dag.now.vertices in
    let i = c.loop-vertex.vertex-index in
    let v = c.vertex-item.result in
    let within : i < length vertices = subst (λ (vs : List Vertex). i < length vs) c.items-vertex-items.ensures c.loop-vertex-test.true in
    let at : v ≡ get_or vertices i v = subst (λ (vs : List Vertex). v ≡ get_or vs i v) c.items-vertex-items.ensures c.vertex-item.is in
    elim c.match-vertex.branch [
      | in-Accumulate w ↦
          let divisor = w.greatest_divisor-unit.result in
          let slide = w.in-Accumulate.slide in
          let size : w.unsigned_abs.result ≡ unsigned_abs slide = search rules in
          let step : IsGcd c.loop-vertex.unit (unsigned_abs slide) divisor = subst (λ (n : ℕ). IsGcd c.loop-vertex.unit n divisor) size w.greatest_divisor-unit.ensures in
          rw w.unit-is (of_vertex_more vertices i v (unsigned_abs slide ∷ []) divisor within at (ap slides_of w.in-Accumulate.is) (of_one_more _ _ _ _ c.loop-vertex.invariant step))
      | in_default w ↦
          rw w.unit-is (of_vertex_more vertices i v [] c.loop-vertex.unit within at (no_slide v.kind w.in_default.not-Accumulate)
          (rw (append-nil (slides_before vertices i)) c.loop-vertex.invariant))
    ]
