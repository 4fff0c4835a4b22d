-- What a filter gives.
use Rattle.std.specs.Prelude.{cond, List, [], ◌∷◌}
use Rattle.jet_items.specs.Values.{EventValue}
use Rattle.jet_expr.specs.Term.{Term}
use Rattle.jet_expr.specs.Flows.{passes}

-- the event, where its test has a value other than 0
abbrev pub filtered : Term → EventValue → List EventValue
filtered test e = cond (passes test e) (e ∷ []) []
