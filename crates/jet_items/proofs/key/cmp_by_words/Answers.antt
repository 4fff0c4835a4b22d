use Rattle.std.proofs.Common.{arith, sym, ◌∙◌}
use Rattle.jet_items.proofs.WordOrder.{same_words, unlike_words}
use Rattle.jet_items.proofs.key.cmp_by_words.Goals as goal

pub returns-then-of_a-of_b : goal.returns-then-of_a-of_b
returns-then-of_a-of_b c =
    c.cmp.ensures
    ∙ sym (c.loop-n.invariant ∙ unlike_words c.args.a.now c.args.b.now c.fits-a c.fits-b c.loop-n.n (omega (arith, c.told-a, c.loop-n-test.true)) (omega (arith, c.told-b, c.loop-n-test.true)) c.word-of_a.result c.word-of_b.result c.word-of_a.ensures c.word-of_b.ensures c.if-of_a-of_b.true)

pub loop-n-preserved : goal.loop-n-preserved
loop-n-preserved c =
    c.loop-n.invariant ∙ same_words c.args.a.now c.args.b.now c.fits-a c.fits-b c.loop-n.n (omega (arith, c.told-a, c.loop-n-test.true)) (omega (arith, c.told-b, c.loop-n-test.true)) c.word-of_a.result c.word-of_b.result c.word-of_a.ensures c.word-of_b.ensures c.if-of_a-of_b.false
