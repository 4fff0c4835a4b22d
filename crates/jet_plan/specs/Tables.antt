-- Tables with an entry for each vertex, by its number.
use Rattle.std.specs.Prelude.{◌+◌, fold, ◌-◌, ◌^◌, min, ◌≡◌, ℕ, List, map, position, slice_index_or}
use Rattle.std.specs.Option.{option_map_or}
use Rattle.jet_plan.specs.declared.edge.Edge.{Edge}
use Rattle.jet_plan.specs.declared.vertex.Vertex.{Vertex}
use Rattle.jet_plan.specs.declared.kind.Kind.{Kind}
use Rattle.jet_plan.specs.declared.measure.Measure.{Measure}
use Rattle.jet_plan.specs.declared.measure.Measure.TheVariants.{LongestKey, Growth}
use Rattle.jet_plan.specs.Along.{along}
use Rattle.jet_plan.specs.Names.{has_name}
use Rattle.jet_plan.specs.Growth.{by_kind, longest_rule, growth_rule}

-- the entry of the vertex of this name, or d
abbrev pub entry : {X : Type 0} → List Vertex → List X → X → List ℕ → X
entry vertices table d name = option_map_or (λ i. slice_index_or table i d) (position (has_name name) vertices) d

-- the table has what g gives for each vertex
abbrev pub IsTable : {X : Type 0} → List Vertex → List X → (List ℕ → X) → Type 0
IsTable vertices table g = table ≡ map (λ v. g v.name) vertices

-- a number, or the greatest that 64 bits hold
abbrev pub cap : ℕ → ℕ
cap n = min n (2 ^ 64 - 1)

-- the sum of numbers, held at the greatest after each
abbrev pub capped_sum : List ℕ → ℕ
capped_sum = fold (λ a x. cap (a + x)) 0

-- the rule of what is measured
abbrev pub rule_of : Measure → Kind → List ℕ → ℕ
rule_of LongestKey = longest_rule
rule_of Growth = growth_rule

abbrev pub rule_by : Measure → List Vertex → List ℕ → List ℕ → ℕ
rule_by measure vertices = by_kind vertices (rule_of measure) 0

-- what is measured at the vertex of this name, over so many steps
abbrev pub measured : Measure → List Vertex → List Edge → ℕ → List ℕ → ℕ
measured measure vertices edges = along edges (rule_by measure vertices) 0
