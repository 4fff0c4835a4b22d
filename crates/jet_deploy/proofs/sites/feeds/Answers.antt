use Rattle.std.proofs.Common.{◌≡◌, ◌≢◌, ◌∙◌, get_or, ap, refl}
use Rattle.std.proofs.lemmas.Option.{slice_get-get_or}
use Rattle.jet_harness.specs.declared.channel.Channel.{Channel}
use Rattle.jet_harness.specs.declared.channel.Giver.TheVariants.{File}
use Rattle.jet_harness.specs.Channels.{same_giver}
use Rattle.jet_layout.specs.declared.wire.Taker.TheVariants.{Sink}
use Rattle.jet_deploy.specs.Sites.{IsFeed}
use Rattle.jet_deploy.proofs.EachRing.{no_channel, one_more, none_more, not_file}
use Rattle.jet_deploy.proofs.sites.feeds.Goals as goal
use Rattle.jet_deploy.proofs.sites.feeds.Goals.{in-File-Input+in_ok-push, in-File+in-Sink-1, in-Output-1}

pub loop-number-preserved : goal.loop-number-preserved
loop-number-preserved c =
    let cs = c.args.channels.now in
    let n = c.loop-number.number in
    let ring = get_or cs n no_channel in
    let here = slice_get-get_or cs n no_channel c.loop-number-test.true in
    let before = c.loop-number.invariant in
    elim c.match-channel.branch [
      | in-File-Input+in_ok-push w ↦
          let file : ring.giver ≡ File = cc in
          let m = one_more (IsFeed cs) (λ (d : Channel). same_giver File d.giver) cs n ring c.loop-number.feeds.items c.match-channel.feeds.items w.queue_at.result
          here (ap (same_giver File) file) (ap (λ v. v.items) w.feeds-is ∙ w.in_ok-push.ensures.items) before.each before.count
          (record { takes = w.queue_at.ensures; file = file; place = refl }) in
          record { each = m.0; count = m.1 }
      | in-File+in-Sink-1 w ↦
          let file : ring.giver ≡ File = cc in
          let sink : ring.taker ≡ Sink = cc in
          let m = none_more (IsFeed cs) (λ (d : Channel). same_giver File d.giver) cs n ring c.loop-number.feeds.items c.match-channel.feeds.items here (absurd (c.requires.inputs n ring here file sink))
          (ap (λ v. v.items) w.feeds-is) before.each before.count in
          record { each = m.0; count = m.1 }
      | in-Output-1 w ↦
          let given : ring.giver ≢ File = λ file. cc in
          let m = none_more (IsFeed cs) (λ (d : Channel). same_giver File d.giver) cs n ring c.loop-number.feeds.items c.match-channel.feeds.items here (not_file ring given)
          (ap (λ v. v.items) w.feeds-is) before.each before.count in
          record { each = m.0; count = m.1 }
    ]
