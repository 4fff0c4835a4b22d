-- How much a job may have.
use Rattle.std.specs.Prelude.{ℕ, nat_lt, nat_le, Bool, false, not, ◌&&◌, List, [], ◌∷◌, length, sum_by, Option}
use Rattle.std.specs.List.{list_any}
use Rattle.jet_plan.specs.declared.vertex.Vertex.{Vertex}
use Rattle.jet_plan.specs.declared.kind.Kind.{Kind}
use Rattle.jet_plan.specs.declared.kind.Kind.TheVariants.{Flat}
use Rattle.jet_plan.specs.declared.dag.Dag.{Dag}
use Rattle.jet_plan.specs.declared.many.Many.{Many}
use Rattle.jet_plan.specs.declared.many.Many.TheVariants.{Vertices, Edges, Files, Instances, Legs}
use Rattle.jet_plan.specs.First.{first_of, where_true}
use Rattle.jet_plan.specs.Kinds.{file_count}

abbrev pub is_from_1_to_8 : ℕ → Bool
is_from_1_to_8 n = nat_le 1 n && nat_le n 8

abbrev pub has_wrong_legs : Kind → Bool
has_wrong_legs (Flat legs) = not (is_from_1_to_8 (length legs))
has_wrong_legs _ = false

-- the files of sources and side vertices together
abbrev pub files : List Vertex → ℕ
files vertices = sum_by (λ v. file_count v.kind) vertices

-- what there may be too much of, in its order
abbrev pub sizes : Dag → List (Option Many)
sizes dag = where_true (nat_lt 32 (length dag.vertices)) Vertices
    ∷ where_true (nat_lt 64 (length dag.edges)) Edges
    ∷ where_true (nat_lt 256 (files dag.vertices)) Files
    ∷ where_true (list_any (λ v. not (is_from_1_to_8 v.parallelism)) dag.vertices) Instances
    ∷ where_true (list_any (λ v. has_wrong_legs v.kind) dag.vertices) Legs
    ∷ []

-- the first that there is too much of
abbrev pub too_many : Dag → Option Many
too_many dag = first_of (sizes dag)
