use Rattle.std.proofs.Common.{refl}
use Rattle.jet_expr.proofs.FloorLemmas.{floor_above, floor_below, floor_leaves}
use Rattle.jet_expr.proofs.laws.quotients_are_rounded_down.Goals as goal

pub returns : goal.returns
returns c = record { above = floor_above; below = floor_below; leaves = floor_leaves; zero = λ a. (refl, refl) }
