-- What a layout has is what its plan counts.
use Rattle.std.specs.Prelude.{◌≡◌, ◌+◌, length}
use Rattle.jet_plan.specs.declared.dag.Dag.{Dag}
use Rattle.jet_plan.specs.declared.settings.Settings.{Settings}
use Rattle.jet_plan.specs.Rings.{tasklets, links, rings}
use Rattle.jet_layout.specs.declared.layout.Layout.{Layout}

-- each tasklet and link that the plan counts, and each ring: those between tasklets and into the sink, and one for each file
pub record HasCounted (dag : Dag) (s : Settings) (l : Layout) : Type 0 where
  pub tasks : length l.tasks ≡ tasklets dag s
  pub links : length l.links ≡ links dag s
  pub rings : length l.wires + length l.files ≡ rings dag s
