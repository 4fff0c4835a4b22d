use Rattle.std.proofs.Common.{arith, rules, FitsSigned, w64, to_z, of_z, to_z-of_z, ◌≡◌, ◌∙◌, ◌+◌, ◌<◌, ◌≤◌, ◌*◌, ℕ, List, Some, length, map, ap, refl, sym, subst}
use Rattle.std.specs.Prelude.{slice_get}
use Rattle.std.proofs.lemmas.List.{length-map}
use Rattle.std.proofs.lemmas.Option.{slice_get_read, slice_get_within, same_Some}
use Rattle.jet_boxes.specs.declared.port.Port.{Port}
use Rattle.jet_boxes.specs.declared.port.Port.TheVariants.{Stream}
use Rattle.jet_items.specs.Order.{Each}
use Rattle.jet_harness.specs.declared.channel.Giver.{Giver}
use Rattle.jet_harness.specs.Harness.{txs_of, rxs_of}
use Rattle.jet_layout.specs.declared.joint.Joint.{Joint}
use Rattle.jet_layout.specs.Ports.{joints_out}
use Rattle.jet_plan.specs.declared.dag.Dag.{Dag}
use Rattle.jet_plan.specs.declared.vertex.Vertex.{Vertex}
use Rattle.jet_plan.specs.Kinds.{is_sink}
use Rattle.jet_router.specs.Router as router
use Rattle.jet_tasklet.specs.Inputs.{InputView, inputs_view, queue_count}
use Rattle.jet_tasklet.specs.Keeps.{IsUnread, IsUnsent}
use Rattle.jet_tasklet.specs.Outputs.{HasDest}
use Rattle.jet_deploy.specs.Ends.{input_at, output_at, inputs_from, outputs_from, FitAll}
use Rattle.jet_deploy.specs.Grounds.{ground_of}
use Rattle.jet_deploy.specs.Making.{vertex_ports}
use Rattle.jet_deploy.proofs.Making.{few_ports, few_queues, vertex_same, joints_same, inputs_unread, dests_each, unsent_each, outputs_size, fits_moved, fresh_moved, made_if}
use Rattle.jet_deploy.proofs.instances.instance_tasklet.Goals as goal

pub inputs-requires-clause-ports : goal.inputs-requires-clause-ports
inputs-requires-clause-ports c = let few = few_ports c.deref.result.now c.in_ok-ports.ports.items c.dag-dag.result.now c.args.ground.plan.now.dag c.index-items-instance.result c.deref.ensures.value c.in_ok-ports.ensures c.dag-dag.ensures.dag c.dag-dag.ensures.shaped.edges in omega (arith, few)

pub inputs-requires-clause-few : goal.inputs-requires-clause-few
inputs-requires-clause-few c = λ n lt.
    let f = c.requires.can.fresh.rxs n in
    let size : length (rxs_of c.args.harness.now (input_at c.args.task n)) ≡ length f.0 = ap length f.1 ∙ (simp length-map) in
    let most = f.2 in
    omega (arith, size, most)

pub outputs-requires-clause-joints : goal.outputs-requires-clause-joints
outputs-requires-clause-joints c =
    let vertex = vertex_same c.items.result.now c.dag-dag.result.now c.args.ground.plan.now.dag c.args.instance.vertex c.index-items-instance.result c.requires.can.vertex c.items.ensures c.dag-dag.ensures.dag c.requires.can.there c.index-items-instance.is in
    let joints = joints_same c.deref-2.result.now c.in_ok-joints.joints.items c.args.ground.joints.now c.dag-dag.result.now c.args.ground.plan.now.dag c.index-items-instance.result c.requires.can.vertex c.deref-2.ensures.value c.in_ok-joints.ensures c.dag-dag.ensures.dag vertex in
    let size = ap length joints in
    let few = c.requires.can.few in
    omega (arith, size, few)

pub outputs-requires-clause-fit : goal.outputs-requires-clause-fit
outputs-requires-clause-fit c =
    let vertex = vertex_same c.items.result.now c.dag-dag.result.now c.args.ground.plan.now.dag c.args.instance.vertex c.index-items-instance.result c.requires.can.vertex c.items.ensures c.dag-dag.ensures.dag c.requires.can.there c.index-items-instance.is in
    let joints = joints_same c.deref-2.result.now c.in_ok-joints.joints.items c.args.ground.joints.now c.dag-dag.result.now c.args.ground.plan.now.dag c.index-items-instance.result c.requires.can.vertex c.deref-2.ensures.value c.in_ok-joints.ensures c.dag-dag.ensures.dag vertex in
    subst (FitAll c.inputs.new.harness c.args.task c.args.ground.members c.args.instance.member 0) (sym joints)
    (fits_moved c.args.harness.now c.inputs.new.harness c.args.task c.args.ground.members c.args.instance.member 0 (joints_out c.args.ground.plan.now.dag c.args.ground.joints.now c.requires.can.vertex.name) c.inputs.ensures.givers c.requires.can.fit)

pub stream_queues-queues-requires : goal.stream_queues-queues-requires
stream_queues-queues-requires c =
    let ports = few_ports c.deref.result.now c.in_ok-ports.ports.items c.dag-dag.result.now c.args.ground.plan.now.dag c.index-items-instance.result c.deref.ensures.value c.in_ok-ports.ensures c.dag-dag.ensures.dag c.dag-dag.ensures.shaped.edges in
    let few = few_queues Stream (inputs_view c.in_ok-inputs.inputs.items) c.args.harness.now c.args.task c.deref.result.now c.in_ok-inputs.ensures.views ports c.requires.can.fresh.rxs in
    let same = ap (λ is. queue_count Stream (inputs_view is)) c.deref-3.ensures.value in
    omega (arith, few, same)

pub overflow_cast-number : goal.overflow_cast-number
overflow_cast-number c =
    let within = slice_get_within c.args.ground.plan.now.dag.vertices c.args.instance.vertex c.requires.can.vertex c.requires.can.there in
    let few = c.dag-dag.ensures.shaped.vertices in
    omega (arith, within, few)

pub tasklet_of-requires-clause-there : goal.tasklet_of-requires-clause-there
tasklet_of-requires-clause-there c =
    let vertex = vertex_same c.items.result.now c.dag-dag.result.now c.args.ground.plan.now.dag c.args.instance.vertex c.index-items-instance.result c.requires.can.vertex c.items.ensures c.dag-dag.ensures.dag c.requires.can.there c.index-items-instance.is in
    c.requires.can.there ∙ ap (λ (v : Vertex). Some v) (sym vertex)

pub tasklet_of-requires-clause-no_sink : goal.tasklet_of-requires-clause-no_sink
tasklet_of-requires-clause-no_sink c =
    let vertex = vertex_same c.items.result.now c.dag-dag.result.now c.args.ground.plan.now.dag c.args.instance.vertex c.index-items-instance.result c.requires.can.vertex c.items.ensures c.dag-dag.ensures.dag c.requires.can.there c.index-items-instance.is in
    ap (λ (v : Vertex). is_sink v.kind) vertex ∙ c.requires.can.no_sink

pub tasklet_of-requires-clause-few : goal.tasklet_of-requires-clause-few
tasklet_of-requires-clause-few c = λ port.
    let ports = few_ports c.deref.result.now c.in_ok-ports.ports.items c.dag-dag.result.now c.args.ground.plan.now.dag c.index-items-instance.result c.deref.ensures.value c.in_ok-ports.ensures c.dag-dag.ensures.dag c.dag-dag.ensures.shaped.edges in
    few_queues port (inputs_view c.in_ok-inputs.inputs.items) c.args.harness.now c.args.task c.deref.result.now c.in_ok-inputs.ensures.views ports c.requires.can.fresh.rxs

pub tasklet_of-requires-clause-some : goal.tasklet_of-requires-clause-some
tasklet_of-requires-clause-some c =
    let vertex = vertex_same c.items.result.now c.dag-dag.result.now c.args.ground.plan.now.dag c.args.instance.vertex c.index-items-instance.result c.requires.can.vertex c.items.ensures c.dag-dag.ensures.dag c.requires.can.there c.index-items-instance.is in
    let joints = joints_same c.deref-2.result.now c.in_ok-joints.joints.items c.args.ground.joints.now c.dag-dag.result.now c.args.ground.plan.now.dag c.index-items-instance.result c.requires.can.vertex c.deref-2.ensures.value c.in_ok-joints.ensures c.dag-dag.ensures.dag vertex in
    let viewed : length (map router.view c.in_ok-outputs.outputs.items) ≡ length c.in_ok-outputs.outputs.items = simp length-map in
    let made = ap length c.in_ok-outputs.ensures.views ∙ outputs_size c.inputs.new.harness c.args.task c.args.ground.members c.args.instance.member 0 c.deref-2.result.now in
    let size = ap length joints in
    let some = c.requires.can.some in
    omega (arith, viewed, made, size, some)

pub tasklet_of-requires-clause-dests : goal.tasklet_of-requires-clause-dests
tasklet_of-requires-clause-dests c =
    let vertex = vertex_same c.items.result.now c.dag-dag.result.now c.args.ground.plan.now.dag c.args.instance.vertex c.index-items-instance.result c.requires.can.vertex c.items.ensures c.dag-dag.ensures.dag c.requires.can.there c.index-items-instance.is in
    let joints = joints_same c.deref-2.result.now c.in_ok-joints.joints.items c.args.ground.joints.now c.dag-dag.result.now c.args.ground.plan.now.dag c.index-items-instance.result c.requires.can.vertex c.deref-2.ensures.value c.in_ok-joints.ensures c.dag-dag.ensures.dag vertex in
    let fits : FitAll c.inputs.new.harness c.args.task c.args.ground.members c.args.instance.member 0 c.deref-2.result.now = subst (FitAll c.inputs.new.harness c.args.task c.args.ground.members c.args.instance.member 0) (sym joints)
    (fits_moved c.args.harness.now c.inputs.new.harness c.args.task c.args.ground.members c.args.instance.member 0 (joints_out c.args.ground.plan.now.dag c.args.ground.joints.now c.requires.can.vertex.name) c.inputs.ensures.givers c.requires.can.fit) in
    subst (Each HasDest) (sym c.in_ok-outputs.ensures.views) (dests_each c.inputs.new.harness c.args.task c.args.ground.members c.args.instance.member 0 c.deref-2.result.now fits)

pub tasklet_of-requires-clause-unread : goal.tasklet_of-requires-clause-unread
tasklet_of-requires-clause-unread c = subst (Each IsUnread) (sym c.in_ok-inputs.ensures.views) (inputs_unread c.args.harness.now c.args.task 0 c.deref.result.now c.requires.can.fresh.rxs)

pub tasklet_of-requires-clause-unsent : goal.tasklet_of-requires-clause-unsent
tasklet_of-requires-clause-unsent c =
    subst (Each IsUnsent) (sym c.in_ok-outputs.ensures.views)
    (unsent_each c.inputs.new.harness c.args.task c.args.ground.members c.args.instance.member 0 c.deref-2.result.now (fresh_moved c.args.harness.now c.inputs.new.harness c.args.task c.inputs.ensures.givers c.requires.can.fresh))

pub returns-clause-made : goal.returns-clause-made
returns-clause-made c =
    let vertex = vertex_same c.items.result.now c.dag-dag.result.now c.args.ground.plan.now.dag c.args.instance.vertex c.index-items-instance.result c.requires.can.vertex c.items.ensures c.dag-dag.ensures.dag c.requires.can.there c.index-items-instance.is in
    let there : slice_get c.args.ground.plan.now.dag.vertices c.args.instance.vertex ≡ Some c.index-items-instance.result = c.requires.can.there ∙ ap (λ (v : Vertex). Some v) (sym vertex) in
    let joints = joints_same c.deref-2.result.now c.in_ok-joints.joints.items c.args.ground.joints.now c.dag-dag.result.now c.args.ground.plan.now.dag c.index-items-instance.result c.index-items-instance.result c.deref-2.ensures.value c.in_ok-joints.ensures c.dag-dag.ensures.dag refl in
    let ports : c.deref.result.now ≡ vertex_ports c.args.ground.plan.now.dag c.index-items-instance.result =
    c.deref.ensures.value ∙ (c.in_ok-ports.ensures ∙ ap (λ (d : Dag). vertex_ports d c.index-items-instance.result) c.dag-dag.ensures.dag) in
    let fits : FitsSigned w64 c.args.ground.grain = search rules in
    made_if (ground_of c.args.ground) c.args.harness.now c.inputs.new.harness c.args.task c.args.instance c.index-items-instance.result there (λ n. c.inputs.ensures.givers (output_at c.args.task n))
    c.tasklet_of.result (inputs_view c.in_ok-inputs.inputs.items) (map router.view c.in_ok-outputs.outputs.items) c.deref-2.result.now
    c.tasklet_of.ensures.kind (to_z w64 (of_z w64 c.args.ground.grain)) (to_z-of_z fits) c.tasklet_of.ensures.more c.tasklet_of.ensures.ins (c.in_ok-inputs.ensures.views ∙ ap (inputs_from c.args.harness.now c.args.task 0) ports) c.tasklet_of.ensures.outs c.in_ok-outputs.ensures.views joints
