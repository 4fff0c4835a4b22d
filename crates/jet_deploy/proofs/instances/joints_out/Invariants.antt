use Rattle.std.proofs.Common.{◌≡◌, filter, take}
use Rattle.jet_deploy.specs.Making.{leads_from}
use Rattle.jet_deploy.proofs.instances.joints_out.Given as goal

abbrev pub invariant-loop-joint : goal.invariant-loop-joint
invariant-loop-joint l = l.out.items ≡ filter (leads_from l.dag.edges l.name) (take l.joint-index l.joints)
