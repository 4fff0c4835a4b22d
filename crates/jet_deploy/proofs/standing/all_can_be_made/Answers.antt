use Rattle.std.proofs.Common.{ℕ, ◌≤◌, ◌<◌, List, length, subst, sym}
use Rattle.std.specs.List.{All}
use Rattle.jet_harness.specs.Channels.{channels}
use Rattle.jet_harness.specs.Harness.{Joins}
use Rattle.jet_layout.specs.Tasks.{member_of}
use Rattle.jet_plan.specs.declared.settings.Settings.{Settings}
use Rattle.jet_ring.specs.Ring.{Ring}
use Rattle.jet_plan.specs.declared.dag.Dag.{Dag}
use Rattle.jet_deploy.proofs.FreshEnds.{Counted, can_make_of, few_channels}
use Rattle.jet_deploy.proofs.Outsides.{all_inside, few_into_sink, one_a_file}
use Rattle.jet_deploy.proofs.TaskOrder.{receives_behind, sends_before, receives_first}
use Rattle.jet_deploy.proofs.standing.all_can_be_made.Goals as goal
use Rattle.jet_plan.specs.Rings.{members}

few : goal.returns-clause-few
few c = few_channels c.args.plan.now.dag c.dag-dag.result.now c.args.plan.now.settings c.settings-settings.result.now c.args.layout.now c.slots-slots.result
    c.dag-dag.ensures.dag c.settings-settings.ensures c.layouts_have_what_is_counted.ensures c.valid_jobs_keep_their_ranges.ensures.ring.0 c.slots-slots.ensures.value c.slots-slots.ensures.bound

-- as many ends as rings
counted : (c : goal.After-every_end_is_of_one_ring) (capacity : ℕ) (rings : List Ring) → Joins (channels c.args.layout.now) capacity rings c.args.harness.now → Counted (channels c.args.layout.now) c.args.harness.now
counted c capacity rings joins = record { sends = λ g. c.every_end_is_of_one_ring.ensures.sends _ capacity rings joins g; receives = λ t. c.every_end_is_of_one_ring.ensures.receives _ capacity rings joins t }

pub returns-clause-can : goal.returns-clause-can
returns-clause-can c = λ capacity rings grain joins.
    let vs = c.args.plan.now.dag.vertices in
    let links = c.args.layout.now.links in
    let tasks = c.args.layout.now.tasks in
    let width = members c.args.plan.now.settings in
    can_make_of c.args.plan.now.dag c.dag-dag.result.now c.args.plan.now.settings c.settings-settings.result.now c.args.layout.now capacity rings c.args.harness.now grain
    c.dag-dag.ensures.dag c.settings-settings.ensures record {
      instances = c.tasks_have_their_places.ensures.instances;
      senders = c.tasks_have_their_places.ensures.senders;
      wires = c.outputs_have_their_wires.ensures.wires;
      outputs = c.outputs_have_their_wires.ensures.outputs;
      some = c.outputs_have_their_wires.ensures.some;
      heard = c.links_have_their_wires.ensures.receivers;
      edges = subst (λ (d : Dag). length d.edges ≤ 64) (sym c.dag-dag.ensures.dag) c.dag-dag.ensures.shaped.edges;
      few = few c;
      behind = receives_behind width vs links tasks c.requires.layout.tasks;
      before = sends_before width vs links tasks c.requires.layout.tasks;
      first = receives_first width vs links tasks c.requires.layout.tasks;
    } joins (counted c capacity rings joins)

pub returns-clause-few : goal.returns-clause-few
returns-clause-few c = few c

pub returns-clause-inside : goal.returns-clause-inside
returns-clause-inside c = subst (λ (s : Settings). All (λ task. member_of task < members s) c.args.layout.now.tasks) c.settings-settings.ensures
    (all_inside c.dag-dag.result.now (members c.settings-settings.result.now) c.args.layout.now c.tasks_have_their_places.ensures.instances c.tasks_have_their_places.ensures.senders c.tasks_have_their_places.ensures.receivers)

pub returns-clause-sink : goal.returns-clause-sink
returns-clause-sink c = λ capacity rings joins. few_into_sink (channels c.args.layout.now) c.args.harness.now (counted c capacity rings joins) (few c)

pub returns-clause-files : goal.returns-clause-files
returns-clause-files c = λ capacity rings joins. one_a_file c.args.plan.now.dag (members c.args.plan.now.settings) c.args.layout.now c.args.harness.now c.requires.layout.files (counted c capacity rings joins)
