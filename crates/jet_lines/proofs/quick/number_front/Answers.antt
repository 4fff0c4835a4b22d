use Rattle.std.proofs.Common.{◌≡◌, get_or, arith}
use Rattle.jet_lines.proofs.QuickLemmas.{below_zero}
use Rattle.jet_lines.proofs.quick.number_front.Goals as goal

pub returns-in-45-clause-front : goal.returns-in-45-clause-front
returns-in-45-clause-front g c =
    let bytes = c.args.bytes.now in
    let minus : get_or bytes 0 0 ≡ 45 = omega arith in
    below_zero bytes c.in_ok-n.n c.negative.result _ (omega arith) minus c.negative.ensures.value c.negative.ensures.range c.in_ok-n.ensures.front
