use Rattle.std.proofs.Common.{subst}
use Rattle.jet_deploy.proofs.TaskOrder.{receives_behind}
use Rattle.jet_deploy.proofs.Wired.{wires_all}
use Rattle.jet_deploy.proofs.standing.made_tasklets_are_wired.Goals as goal
use Rattle.jet_deploy.specs.inner.Standing.{WiresAll}
use Rattle.jet_plan.specs.Rings.{members}

pub returns : goal.returns
returns c = λ capacity rings joins. subst (λ d. WiresAll d c.args.layout.now c.args.harness.now) c.dag-dag.ensures.dag (wires_all c.dag-dag.result.now c.args.layout.now c.args.harness.now record {
  outputs = c.outputs_have_their_wires.ensures.outputs;
  ports = c.wires_have_their_ports.ensures.wires;
  files = c.wires_have_their_ports.ensures.files;
  rings = λ n x at. let r = c.every_ring_joins_its_two.ensures _ capacity rings joins n x at in (r.0, r.3);
  one_giver = λ g d lt. c.every_end_is_of_one_ring.ensures.givers _ capacity rings joins g d lt;
  one_taker = λ t q lt. c.every_end_is_of_one_ring.ensures.takers _ capacity rings joins t q lt;
  sends = λ g. c.every_end_is_of_one_ring.ensures.sends _ capacity rings joins g;
  behind = receives_behind (members c.args.plan.now.settings) c.args.plan.now.dag.vertices c.args.layout.now.links c.args.layout.now.tasks c.requires.layout.tasks;
})
