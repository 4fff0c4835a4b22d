use Rattle.std.proofs.Common.{arith, ◌≡◌, ◌∙◌, ap, ℤ, ◌*ℤ◌, to_z, of_z, w64, FitsSigned, to_z-of_z, lit<}
use Rattle.std.specs.Int.{w128}
use Rattle.std.proofs.lemmas.Int.{ints, fits_signed_mul}
use Rattle.jet_items.specs.Ranges.{IsWithin, most_time}
use Rattle.jet_expr.specs.Value.{held}
use Rattle.jet_expr.proofs.arithmetic.product.Goals as goal

wide : (a : ℤ) → FitsSigned w64 a → to_z w128 (of_z w128 (to_z w64 (of_z w64 a))) ≡ a
wide a fits = omega (arith, ints)

fits : (a b : ℤ) → IsWithin most_time a → IsWithin most_time b → FitsSigned w128 (a *ℤ b)
fits a b p q = fits_signed_mul w128 a b most_time most_time (grind (arith, ints)) (grind (arith, ints)) (lit< tt)

pub returns-clause-value : goal.returns-clause-value
returns-clause-value c =
    let back : to_z w64 (of_z w64 c.held.result) ≡ c.held.result = omega (arith, ints) in
    let inner : to_z w128 (of_z w128 (to_z w64 (of_z w64 c.args.a))) *ℤ to_z w128 (of_z w128 (to_z w64 (of_z w64 c.args.b))) ≡ c.args.a *ℤ c.args.b
    = ap (λ x. x *ℤ to_z w128 (of_z w128 (to_z w64 (of_z w64 c.args.b)))) (wide c.args.a c.ranges.a) ∙ ap (λ y. c.args.a *ℤ y) (wide c.args.b c.ranges.b) in
    back ∙ (c.held.ensures.value ∙ ap held (ap (λ z. to_z w128 (of_z w128 z)) inner ∙ to_z-of_z (fits c.args.a c.args.b c.requires.0 c.requires.1)))
