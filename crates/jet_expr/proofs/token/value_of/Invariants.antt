use Rattle.std.proofs.Common.{◌≡◌, ◌+◌, min, take}
use Rattle.std.specs.Str.Parse.{digits_value}
use Rattle.jet_items.specs.Ranges.{most_time}
use Rattle.jet_expr.proofs.token.value_of.Given as goal

abbrev pub invariant-loop-b : goal.invariant-loop-b
invariant-loop-b l = l.value ≡ min (most_time + 1) (digits_value 10 (take l.b-index l.digits))
