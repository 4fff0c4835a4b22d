use Rattle.std.proofs.Common.{◌≡◌, ◌∙◌, ◌+◌, ◌++◌, drop, get_or, ap}
use Rattle.jet_harness.specs.Harness.{txs_of, rxs_of}
use Rattle.jet_boxes.specs.declared.port.Port.TheVariants.{Stream}
use Rattle.jet_tasklet.specs.Inputs.{inputs_view}
use Rattle.jet_deploy.specs.Ends.{input_at, input_over, inputs_from}
use Rattle.jet_deploy.proofs.Fresh.{next, inputs_more, inputs_gone, takers_kept, next_input}
use Rattle.jet_deploy.proofs.ends.inputs.Goals as goal

pub loop-number-preserved : goal.loop-number-preserved
loop-number-preserved c =
    let task = c.args.task in
    let k = c.loop-number.number in
    let first = c.args.harness.now in
    let before = c.loop-number.harness in
    let after = c.input.new.harness in
    let kept = c.loop-number.invariant in
    let ports = c.args.ports.now in
    let port = get_or ports k Stream in
    let view = c.in_ok-input.ensures.view in
    record {
      views = ap (λ xs. inputs_view xs ++ inputs_from first task (k + 1) (drop (k + 1) ports)) c.in_ok-push.ensures.items
          ∙ inputs_more first task k c.loop-number.inputs.items c.in_ok-input.field-0 ports port _ (next ports k Stream c.loop-number-test.true)
          (view ∙ ap (input_over port) (next_input task k first before kept.others)) kept.views;
      gone = inputs_gone task k first before after c.in_ok-input.ensures.gone c.in_ok-input.ensures.others kept.gone;
      others = takers_kept task k first before after c.in_ok-input.ensures.gone c.in_ok-input.ensures.others kept.others;
      givers = λ g. c.in_ok-input.ensures.givers g ∙ kept.givers g;
    }
