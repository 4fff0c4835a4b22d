use Rattle.std.proofs.Common.{◌≡◌, ◌++◌, drop}
use Rattle.jet_layout.specs.Joints.{joints_from}
use Rattle.jet_layout.proofs.joints.add_joints.Given as goal

abbrev pub invariant-loop-number : goal.invariant-loop-number
invariant-loop-number l = l.joints ++ joints_from l.vertices l.edges l.ends l.number (drop l.number l.edges) ≡ joints_from l.vertices l.edges l.ends 0 l.edges
