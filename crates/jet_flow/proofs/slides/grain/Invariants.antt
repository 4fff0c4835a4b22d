use Rattle.std.specs.Prelude.{flat_map, take}
use Rattle.jet_flow.specs.Grain.{IsGreatestDivisor, slides_of}
use Rattle.jet_flow.proofs.slides.grain.Given as goal

abbrev pub invariant-loop-vertex : goal.invariant-loop-vertex
invariant-loop-vertex l = IsGreatestDivisor (flat_map (λ v. slides_of v.kind) (take l.vertex-index l.dag.vertices)) l.unit
