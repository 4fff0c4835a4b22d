use Rattle.std.specs.Prelude.{ℕ}
use Rattle.std.specs.Int.{IsGcd}
use Rattle.jet_flow.proofs.slides.greatest_divisor.Given as goal

abbrev pub invariant-loop-lesser : goal.invariant-loop-lesser
invariant-loop-lesser l = (g : ℕ) → IsGcd l.greater l.lesser g → IsGcd l.a l.b g

abbrev pub decreases-loop-lesser : goal.decreases-loop-lesser
decreases-loop-lesser l = l.lesser
