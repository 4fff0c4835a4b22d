use Rattle.std.proofs.Common.{arith, ap, subst}
use Rattle.jet_deploy.specs.Sites.{EachLink}
use Rattle.jet_deploy.proofs.Deploying.{put_together}
use Rattle.jet_deploy.proofs.jobs.deploy.Goals as goal

pub returns : goal.returns
returns c =
    let made = c.in_ok-tasklets.ensures.made in
    let some = c.in_ok-crew.ensures.some in
    let sink = c.in_ok-feeds.ensures.sink in
    record {
      deployed = put_together c.args.plan.now.dag c.args.plan.now.settings c.in_ok-layout.layout c.in_ok-harness.harness _ _ c.in_ok-tasklets.tasklets.items made.0 c.in_ok-links.links.items sink.0 c.in_ok-harness.ensures
          (omega (arith, c.in_ok-tasklets.ensures.count)) made.1 c.in_ok-tasklets.ensures.rest c.in_ok-crew.ensures.tasks c.in_ok-crew.ensures.placed (omega (arith, some.0), omega (arith, some.1))
          c.in_ok-wiring.ensures.sites (subst (λ tasks. EachLink tasks c.in_ok-links.links.items) c.items.ensures c.in_ok-links.ensures.each) (ap (λ (v : _). v.items) c.in_ok-wiring.ensures.links) c.in_ok-feeds.ensures.feeds sink.1 sink.2;
    }
