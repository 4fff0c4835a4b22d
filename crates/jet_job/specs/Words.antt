-- The words of a job file, each with what it stands for.
use Rattle.std.specs.Prelude.{ℕ, Bool, List, [], ◌∷◌, codes, bytes_eq}
use Rattle.std.specs.List.{list_any}
use Rattle.jet_plan.specs.Kinds.{route_word}
use Rattle.jet_plan.specs.declared.route.Route.{Route}
use Rattle.jet_plan.specs.declared.route.Route.TheVariants as route
use Rattle.jet_plan.specs.declared.mode.ModeSpec.{ModeSpec}
use Rattle.jet_plan.specs.declared.mode.ModeSpec.TheVariants as mode
use Rattle.jet_job.specs.declared.sort.Sort.{Sort}
use Rattle.jet_job.specs.declared.sort.Sort.TheVariants as sort

abbrev pub sorts : List (List ℕ × Sort)
sorts = (codes "source", sort.Source) ∷ (codes "side", sort.Side) ∷ (codes "map", sort.Map) ∷ (codes "filter", sort.Filter) ∷ (codes "flat", sort.Flat)
    ∷ (codes "join", sort.Join) ∷ (codes "accumulate", sort.Accumulate) ∷ (codes "combine", sort.Combine) ∷ (codes "sink", sort.Sink) ∷ []

abbrev pub modes : List (List ℕ × ModeSpec)
modes = (codes "inner", mode.Inner) ∷ (codes "left", mode.Left) ∷ []

abbrev pub routes : List (List ℕ × Route)
routes = (route_word route.Unicast, route.Unicast) ∷ (route_word route.Isolated, route.Isolated) ∷ (route_word route.Partitioned, route.Partitioned)
    ∷ (route_word route.Broadcast, route.Broadcast) ∷ []

-- the four values of an event
abbrev pub event_fields : List (List ℕ)
event_fields = codes "v0" ∷ codes "v1" ∷ codes "v2" ∷ codes "v3" ∷ []

abbrev pub is_event_field : List ℕ → Bool
is_event_field name = list_any (λ w. bytes_eq w name) event_fields

-- the fields of an event and those of a side row, by their numbers in a join
abbrev pub joint_fields : List (List ℕ × ℕ)
joint_fields = (codes "v0", 0) ∷ (codes "v1", 1) ∷ (codes "v2", 2) ∷ (codes "v3", 3) ∷ (codes "s0", 4) ∷ (codes "s1", 5) ∷ (codes "s2", 6) ∷ (codes "s3", 7) ∷ []
