-- What tasklets are made of, as contracts see it.
use Rattle.std.specs.Prelude.{ℕ, ◌≤◌}
use Rattle.jet_plan.specs.Rings.{members}
use Rattle.jet_deploy.specs.declared.instances.Ground.{Ground as Given}
use Rattle.jet_deploy.specs.Making.{Ground}
use Rattle.jet_deploy.specs.Ranges.{IsUnit}

abbrev pub ground_of : Given → Ground
ground_of g = record { dag = g.plan.now.dag; members = g.members; joints = g.joints.now; grain = g.grain }

-- there are 1 to 4 members, and the unit is one of watermarks
pub record IsSound (g : Given) : Type 0 where
  pub members : (1 ≤ g.members) × (g.members ≤ 4)
  pub grain : IsUnit g.grain
