-- The laws of filters.
use Rattle.std.proofs.Common.{◌≡◌, Bool, true, false, cond, List, [], ◌∷◌, ◌++◌, refl, ap, ◌∙◌}
use Rattle.std.specs.Prelude.{filter}
use Rattle.std.specs.List.{flat_map}
use Rattle.jet_items.specs.Values.{EventValue}
use Rattle.jet_items.specs.Order.{Each}
use Rattle.jet_expr.specs.Term.{Term}
use Rattle.jet_expr.specs.Flows.{passes}
use Rattle.jet_stages.specs.StageLaws.{StandsAt, KeepsPlace}
use Rattle.jet_stages.specs.Filter.{filtered}

some_keeps : (b : Bool) (e : EventValue) → Each (StandsAt e) (cond b (e ∷ []) [])
some_keeps true e = (record { part = refl; line = refl; time = refl }, tt)
some_keeps false e = tt

pub filter_keeps : (test : Term) → KeepsPlace (filtered test)
filter_keeps test e = some_keeps (passes test e) e

some_more : (b : Bool) (e : EventValue) (es : List EventValue) → cond b (e ∷ []) [] ++ es ≡ cond b (e ∷ es) es
some_more true e es = refl
some_more false e es = refl

pub filter_is : (test : Term) (es : List EventValue) → flat_map (filtered test) es ≡ filter (passes test) es
filter_is test [] = refl
filter_is test (e ∷ es) = ap (λ ds. filtered test e ++ ds) (filter_is test es) ∙ some_more (passes test e) e (filter (passes test) es)
