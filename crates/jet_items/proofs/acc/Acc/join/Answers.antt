use Rattle.std.proofs.Common.{rules, arith}
use Rattle.std.proofs.lemmas.Int.{wraps, ints, clamps}
use Rattle.jet_items.specs.Ranges.{IsWithin, most_time}
use Rattle.jet_items.proofs.Totaling.{same_acc}
use Rattle.jet_items.proofs.acc.Acc.join.Goals as goal

pub invariant_of-result : goal.invariant_of-result
invariant_of-result c =
    let a : IsWithin most_time c.min.result = (omega (arith, ints, clamps), omega (arith, ints, clamps)) in
    let b : IsWithin most_time c.max.result = (omega (arith, ints, clamps), omega (arith, ints, clamps)) in
    ((omega (arith, ints), omega (arith, ints)), (omega (arith, ints), omega (arith, ints)))

pub returns : goal.returns
returns c =
    rw (← c.self.view_is, ← c.other.view_is) (search (rules, wraps, same_acc))
