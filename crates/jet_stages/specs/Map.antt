-- What a map gives.
use Rattle.std.specs.Prelude.{List, [], ◌∷◌, Option}
use Rattle.jet_items.specs.Values.{EventValue}
use Rattle.jet_expr.specs.Term.{Term}
use Rattle.jet_expr.specs.Flows.{mapped}

-- the event with the fields set
abbrev pub remade : List (Option Term) → EventValue → List EventValue
remade set e = mapped set e ∷ []
