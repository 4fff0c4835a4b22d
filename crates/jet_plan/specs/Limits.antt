-- What keeps the numbers of a plan small.
use Rattle.std.specs.Prelude.{◌≤◌, length}
use Rattle.jet_plan.specs.declared.dag.Dag.{Dag}
use Rattle.jet_plan.specs.declared.settings.Settings.{Settings}
use Rattle.jet_plan.specs.Names.{AreKnown}
use Rattle.jet_plan.specs.Sizes.{files}
use Rattle.jet_plan.specs.Rings.{members, ring_slots, packet_bytes, peak_bytes}

-- a job whose sizes and names have no fault
pub record IsShaped (dag : Dag) : Type 0 where
  pub vertices : length dag.vertices ≤ 32
  pub edges : length dag.edges ≤ 64
  pub files : files dag.vertices ≤ 256
  pub known : AreKnown dag.vertices dag.edges

-- a job within the limits of a plan
pub record IsLimited (dag : Dag) (s : Settings) : Type 0 where
  pub vertices : length dag.vertices ≤ 32
  pub edges : length dag.edges ≤ 64
  pub files : files dag.vertices ≤ 256
  pub members : members s ≤ 4
  pub ring : ring_slots s ≤ 65536
  pub packet : (256 ≤ packet_bytes s) × (packet_bytes s ≤ 65536)
  pub peak : peak_bytes s ≤ 16777216
