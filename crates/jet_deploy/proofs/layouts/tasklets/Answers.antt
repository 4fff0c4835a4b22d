use Rattle.std.proofs.Common.{arith, ◌≡◌, ◌∙◌, ◌+◌, ◌≤◌, ◌<◌, ℕ, List, Some, length, get_or, ap, refl, sym, subst}
use Rattle.std.specs.Prelude.{slice_get, slice_index_or}
use Rattle.std.proofs.lemmas.Option.{slice_get-get_or}
use Rattle.jet_layout.specs.declared.task.Instance.{Instance}
use Rattle.jet_layout.specs.declared.task.Link.{Link}
use Rattle.jet_layout.specs.declared.task.Task.{Task}
use Rattle.jet_layout.specs.declared.task.Task.TheVariants.{Run, Send, Receive}
use Rattle.jet_tasklet.specs.declared.any.AnyTasklet.TheVariants as any
use Rattle.jet_harness.specs.declared.harness.Harness.{Harness}
use Rattle.jet_deploy.specs.Grounds.{ground_of}
use Rattle.jet_deploy.specs.Making.{Remains}
use Rattle.jet_deploy.specs.inner.Places.{made_before}
use Rattle.jet_deploy.proofs.AllMade.{Stands, begins, run_made, link_made, receiver_made, ends, can_run_still, can_link_still}
use Rattle.jet_deploy.proofs.layouts.tasklets.Goals as goal
use Rattle.jet_deploy.proofs.layouts.tasklets.Goals.{in-Run+in_ok-instance_tasklet-in-Run+in_ok-push-in-Run, in-Send+in_ok-sender-in-Send+in_ok-push-in-Send+in_ok-push-in-Send-2, in-Receive}

found : (tasks : List Task) (n : ℕ) (d t : Task) → n < length tasks → get_or tasks n d ≡ t → slice_get tasks n ≡ Some t
found tasks n d t lt is = slice_get-get_or tasks n d lt ∙ ap (λ x. Some x) is

so_far : (tasks : List Task) (n : ℕ) (i : Instance) (m : ℕ) → slice_get tasks n ≡ Some (Run i) → m ≡ made_before (slice_get tasks n) n → m ≤ n
so_far tasks n i m at count = let size : m ≡ n = count ∙ ap (λ o. made_before o n) at in omega (arith, size)

so_far_too : (tasks : List Task) (n : ℕ) (l : Link) (m : ℕ) → slice_get tasks n ≡ Some (Send l) → m ≡ made_before (slice_get tasks n) n → m ≤ n
so_far_too tasks n l m at count = let size : m ≡ n = count ∙ ap (λ o. made_before o n) at in omega (arith, size)

pub loop-number-init : goal.loop-number-init
loop-number-init c = let start = begins (ground_of c.args.ground) c.args.harness.now c.args.tasks.now c.requires.can in let none = c.new-tasklets.ensures.items in rw none (record { count = start.count; made = start.made; rest = start.rest })

pub instance_tasklet-requires-clause-can : goal.instance_tasklet-requires-clause-can
instance_tasklet-requires-clause-can c =
    let at = found c.args.tasks.now c.loop-number.number _ (Run c.in-Run.instance) c.loop-number-test.true c.in-Run.is in
    can_run_still (length c.loop-number.tasklets.items) c.args.harness.now c.loop-number.harness c.loop-number.invariant.rest (ground_of c.args.ground) c.loop-number.number c.in-Run.instance (so_far c.args.tasks.now c.loop-number.number c.in-Run.instance (length c.loop-number.tasklets.items) at c.loop-number.invariant.count) (c.requires.can.runs c.loop-number.number c.in-Run.instance at)

pub link_tasklets-requires-clause-can : goal.link_tasklets-requires-clause-can
link_tasklets-requires-clause-can c =
    let at = found c.args.tasks.now c.loop-number.number _ (Send c.in-Send.link) c.loop-number-test.true c.in-Send.is in
    can_link_still (length c.loop-number.tasklets.items) c.args.harness.now c.loop-number.harness c.loop-number.invariant.rest (ground_of c.args.ground) c.loop-number.number c.in-Send.link (so_far_too c.args.tasks.now c.loop-number.number c.in-Send.link (length c.loop-number.tasklets.items) at c.loop-number.invariant.count) (c.requires.can.links c.loop-number.number c.in-Send.link at)

pub loop-number-preserved : goal.loop-number-preserved
loop-number-preserved c =
    let before : Stands (ground_of c.args.ground) c.args.harness.now c.args.tasks.now c.loop-number.number c.loop-number.tasklets.items c.loop-number.harness = (record { count = c.loop-number.invariant.count; made = c.loop-number.invariant.made; rest = c.loop-number.invariant.rest }) in
    let after : Stands (ground_of c.args.ground) c.args.harness.now c.args.tasks.now (c.loop-number.number + 1) c.match-task.tasklets.items c.match-task.harness = elim c.match-task.branch [
      | in-Run+in_ok-instance_tasklet-in-Run+in_ok-push-in-Run w ↦ subst (λ (x : Harness). Stands (ground_of c.args.ground) c.args.harness.now c.args.tasks.now (c.loop-number.number + 1) c.match-task.tasklets.items x) (sym w.harness-is)
          (run_made (ground_of c.args.ground) c.args.harness.now c.args.tasks.now c.requires.can c.loop-number.number c.loop-number.tasklets.items c.match-task.tasklets.items c.loop-number.harness w.instance_tasklet.new.harness before w.in-Run.instance w.in_ok-instance_tasklet-in-Run.field-0
          (found c.args.tasks.now c.loop-number.number _ (Run w.in-Run.instance) c.loop-number-test.true w.in-Run.is) w.in_ok-instance_tasklet-in-Run.ensures.made w.in_ok-instance_tasklet-in-Run.ensures.keeps w.in_ok-instance_tasklet-in-Run.ensures.leaves
          (ap (λ v. v.items) w.tasklets-is ∙ w.in_ok-push-in-Run.ensures.items))
      | in-Send+in_ok-sender-in-Send+in_ok-push-in-Send+in_ok-push-in-Send-2 w ↦ subst (λ (x : Harness). Stands (ground_of c.args.ground) c.args.harness.now c.args.tasks.now (c.loop-number.number + 1) c.match-task.tasklets.items x) (sym w.harness-is)
          (link_made (ground_of c.args.ground) c.args.harness.now c.args.tasks.now c.requires.can c.loop-number.number c.loop-number.tasklets.items w.push-in-Send.new.self.items c.loop-number.harness w.link_tasklets.new.harness before c.match-task.tasklets.items w.in-Send.link w.in_ok-sender-in-Send.sender w.in_ok-sender-in-Send.receiver
          (found c.args.tasks.now c.loop-number.number _ (Send w.in-Send.link) c.loop-number-test.true w.in-Send.is) w.in_ok-sender-in-Send.ensures.sends w.in_ok-sender-in-Send.ensures.receives w.in_ok-sender-in-Send.ensures.keeps.0 w.in_ok-sender-in-Send.ensures.keeps.1
          w.in_ok-sender-in-Send.ensures.linked w.in_ok-sender-in-Send.ensures.leaves w.in_ok-push-in-Send.ensures.items (ap (λ v. v.items) w.tasklets-is ∙ w.in_ok-push-in-Send-2.ensures.items))
      | in-Receive w ↦ receiver_made (ground_of c.args.ground) c.args.harness.now c.args.tasks.now c.requires.can c.loop-number.number c.loop-number.tasklets.items c.match-task.tasklets.items c.loop-number.harness c.match-task.harness before w.in-Receive.field-0 (found c.args.tasks.now c.loop-number.number _ (Receive w.in-Receive.field-0) c.loop-number-test.true w.in-Receive.is) (ap (λ v. v.items) w.tasklets-is) w.harness-is
    ] in
    record { count = after.count; made = after.made; rest = after.rest }

pub returns-clause-count : goal.returns-clause-count
returns-clause-count c =
    let past : length c.args.tasks.now ≤ c.loop-number.number = let no_more = c.loop-number-test.false in omega (arith, no_more) in
    let all = ends (ground_of c.args.ground) c.args.harness.now c.args.tasks.now c.requires.can c.loop-number.number c.loop-number.tasklets.items c.loop-number.harness (record { count = c.loop-number.invariant.count; made = c.loop-number.invariant.made; rest = c.loop-number.invariant.rest }) past c.loop-number.auto.number-end in
    omega (arith, all)

pub returns-clause-made : goal.returns-clause-made
returns-clause-made c = c.loop-number.invariant.made

pub returns-clause-rest : goal.returns-clause-rest
returns-clause-rest c =
    let past : length c.args.tasks.now ≤ c.loop-number.number = let no_more = c.loop-number-test.false in omega (arith, no_more) in
    let all = ends (ground_of c.args.ground) c.args.harness.now c.args.tasks.now c.requires.can c.loop-number.number c.loop-number.tasklets.items c.loop-number.harness (record { count = c.loop-number.invariant.count; made = c.loop-number.invariant.made; rest = c.loop-number.invariant.rest }) past c.loop-number.auto.number-end in
    subst (λ (k : ℕ). Remains k c.args.harness.now c.loop-number.harness) all c.loop-number.invariant.rest
