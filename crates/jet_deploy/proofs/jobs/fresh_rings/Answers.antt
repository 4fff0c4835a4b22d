use Rattle.jet_deploy.proofs.Deploying.{stands_ready}
use Rattle.jet_deploy.proofs.jobs.fresh_rings.Goals as goal

pub returns : goal.returns
returns c =
    let made = c.in_ok-harness.ensures in
    stands_ready c.args.plan.now.dag c.args.plan.now.settings c.args.layout.now c.in_ok-harness.harness _ made.0 made.1 (λ grain. c.all_can_be_made.ensures.can _ made.0 grain made.1)
    (c.made_tasklets_are_wired.ensures _ made.0 made.1) c.all_can_be_made.ensures.few c.all_can_be_made.ensures.inside (c.all_can_be_made.ensures.sink _ made.0 made.1) (c.all_can_be_made.ensures.files _ made.0 made.1)
