use Rattle.std.proofs.Common.{◌≡◌, ◌∙◌, ◌+◌, ◌++◌, ◌∷◌, drop, get_or, map, ap, subst, sym, List}
use Rattle.jet_harness.specs.Harness.{txs_of, rxs_of}
use Rattle.jet_layout.specs.declared.joint.Joint.{Joint}
use Rattle.jet_router.specs.Router.{view}
use Rattle.jet_deploy.specs.Ends.{output_at, router_over, outputs_from, FitAll}
use Rattle.jet_deploy.proofs.Fresh.{no_joint, next, outputs_more, outputs_gone, givers_kept, next_output}
use Rattle.jet_deploy.proofs.ends.outputs.Goals as goal

pub loop-number-preserved : goal.loop-number-preserved
loop-number-preserved c =
    let task = c.args.task in
    let k = c.loop-number.number in
    let first = c.args.harness.now in
    let before = c.loop-number.harness in
    let after = c.take_txs.new.self in
    let kept = c.loop-number.invariant in
    let joints = c.args.joints.now in
    let members = c.args.members in
    let m = c.args.member in
    let joint = get_or joints k no_joint in
    let here = next joints k no_joint c.loop-number-test.true in
    let rest : FitAll first task members m k (joint ∷ drop (k + 1) joints) = subst (FitAll first task members m k) here kept.fit in
    record {
      views = ap (λ rs. map view rs ++ outputs_from first task members m (k + 1) (drop (k + 1) joints)) c.in_ok-push.ensures.items
          ∙ outputs_more first task members m k c.loop-number.routers.items c.in_ok-router.field-0 joints joint _ here
          (c.in_ok-router.ensures ∙ ap (router_over members joint joint.distributed m) (c.in_ok-txs.ensures.taken ∙ next_output task k first before kept.others)) kept.views;
      fit = rest.1;
      gone = outputs_gone task k first before after c.in_ok-txs.ensures.gone c.in_ok-txs.ensures.others kept.gone;
      others = givers_kept task k first before after c.in_ok-txs.ensures.gone c.in_ok-txs.ensures.others kept.others;
      takers = λ t. c.in_ok-txs.ensures.takers t ∙ kept.takers t;
    }
