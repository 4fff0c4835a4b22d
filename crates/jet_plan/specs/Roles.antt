-- What a vertex at the end of an edge does.
use Rattle.std.specs.Prelude.{Bool}
use Rattle.jet_plan.specs.declared.kind.Kind.{Kind}
use Rattle.jet_plan.specs.declared.role.Role.{Role}
use Rattle.jet_plan.specs.declared.role.Role.TheVariants.{Join, Accumulate, Combine, Sink}
use Rattle.jet_plan.specs.Kinds.{is_join, is_accumulate, is_combine, is_sink}

-- the kind that a role names
abbrev pub has_role : Role → Kind → Bool
has_role Join = is_join
has_role Accumulate = is_accumulate
has_role Combine = is_combine
has_role Sink = is_sink
