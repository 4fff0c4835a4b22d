-- What the laws of valid jobs say for their layouts.
use Rattle.std.specs.Prelude.{◌<◌}
use Rattle.std.specs.List.{Contains}
use Rattle.jet_plan.specs.declared.dag.Dag.{Dag}
use Rattle.jet_plan.specs.declared.edge.Edge.{Edge}
use Rattle.jet_plan.specs.declared.settings.Settings.{Settings}
use Rattle.jet_plan.specs.Depth.{depth}
use Rattle.jet_plan.specs.JobShape.{JobShape}
use Rattle.jet_plan.specs.Ranges.{IsRanged}

-- the job has its shape and its ranges, and each edge leads deeper
pub record Facts (dag : Dag) (s : Settings) : Type 0 where
  pub shape : JobShape dag s
  pub ranges : IsRanged dag s
  pub deeper : (e : Edge) → Contains dag.edges e → depth dag e.from < depth dag e.to
