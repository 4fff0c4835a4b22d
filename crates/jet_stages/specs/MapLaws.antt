-- The laws of maps.
use Rattle.std.proofs.Common.{◌≡◌, List, map, Option, refl}
use Rattle.std.specs.List.{flat_map}
use Rattle.std.proofs.lemmas.List.Concat.{flat_map_single}
use Rattle.jet_items.specs.Values.{EventValue}
use Rattle.jet_expr.specs.Term.{Term}
use Rattle.jet_expr.specs.Flows.{mapped}
use Rattle.jet_stages.specs.StageLaws.{KeepsPlace}
use Rattle.jet_stages.specs.Map.{remade}

pub map_keeps : (set : List (Option Term)) → KeepsPlace (remade set)
map_keeps set e = (record { part = refl; line = refl; time = refl }, tt)

pub map_is : (set : List (Option Term)) (es : List EventValue) → flat_map (remade set) es ≡ map (mapped set) es
map_is set es = flat_map_single (mapped set) es
