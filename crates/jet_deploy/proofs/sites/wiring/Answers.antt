use Rattle.std.proofs.Common.{◌≡◌, ◌∙◌, List, rules, subst, sym}
use Rattle.jet_harness.specs.declared.channel.Channel.{Channel}
use Rattle.jet_deploy.specs.Sites.{NoFileToSink}
use Rattle.jet_deploy.proofs.EachRing.{no_file_to_sink}
use Rattle.jet_deploy.proofs.sites.wiring.Goals as goal

pub feeds-requires-clause-inputs : goal.feeds-requires-clause-inputs
feeds-requires-clause-inputs c =
    let same : c.deref-2.result.now ≡ c.in_ok-channels.channels.items = search rules in
    subst (λ (cs : List Channel). NoFileToSink cs) (sym (same ∙ c.in_ok-channels.ensures)) (no_file_to_sink c.args.layout.now)

pub drains-requires-clause-inputs : goal.drains-requires-clause-inputs
drains-requires-clause-inputs c =
    let same : c.deref-3.result.now ≡ c.in_ok-channels.channels.items = search rules in
    subst (λ (cs : List Channel). NoFileToSink cs) (sym (same ∙ c.in_ok-channels.ensures)) (no_file_to_sink c.args.layout.now)
