use Rattle.std.proofs.Common.{arith, ◌≡◌, ◌∙◌, ap, ◌+ℤ◌, to_z, of_z, w64}
use Rattle.std.specs.Int.{w128}
use Rattle.std.proofs.lemmas.Int.{ints}
use Rattle.jet_expr.specs.Value.{held}
use Rattle.jet_expr.proofs.arithmetic.sum.Goals as goal

pub returns-clause-value : goal.returns-clause-value
returns-clause-value c =
    let same : to_z w128 (of_z w128 (to_z w64 (of_z w64 (to_z w64 (of_z w64 c.args.a) +ℤ to_z w64 (of_z w64 c.args.b))))) ≡ c.args.a +ℤ c.args.b = omega (arith, ints) in
    let back : to_z w64 (of_z w64 c.held.result) ≡ c.held.result = omega (arith, ints) in
    back ∙ (c.held.ensures.value ∙ ap held same)
