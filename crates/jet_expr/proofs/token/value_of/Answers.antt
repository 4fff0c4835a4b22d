use Rattle.std.proofs.Common.{arith}
use Rattle.std.proofs.lemmas.Int.Digits.{digits_value_more}
use Rattle.jet_expr.proofs.TokenLemmas.{digit_at}
use Rattle.jet_expr.proofs.token.value_of.Goals as goal

pub overflow_sub-b : goal.overflow_sub-b
overflow_sub-b c = omega (arith, digit_at c.args.digits.now c.loop-b.b-index c.requires c.loop-b-test.true)

pub loop-b-preserved : goal.loop-b-preserved
loop-b-preserved c =
    let here = digit_at c.args.digits.now c.loop-b.b-index c.requires c.loop-b-test.true in
    let more = digits_value_more 10 c.args.digits.now c.loop-b.b-index c.loop-b-test.true in
    omega (arith, here, more, c.loop-b.invariant, c.min-value.ensures)
