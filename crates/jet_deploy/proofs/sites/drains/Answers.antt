use Rattle.std.proofs.Common.{◌≡◌, ◌≢◌, ◌∙◌, get_or, ap, refl}
use Rattle.std.proofs.lemmas.Option.{slice_get-get_or}
use Rattle.jet_harness.specs.declared.channel.Channel.{Channel}
use Rattle.jet_harness.specs.declared.channel.Giver.TheVariants.{File}
use Rattle.jet_harness.specs.Channels.{same_taker}
use Rattle.jet_layout.specs.declared.wire.Taker.TheVariants.{Sink}
use Rattle.jet_deploy.specs.Sites.{IsDrain}
use Rattle.jet_deploy.proofs.EachRing.{no_channel, one_more, none_more, not_sink, file_enters}
use Rattle.jet_deploy.proofs.sites.drains.Goals as goal
use Rattle.jet_deploy.proofs.sites.drains.Goals.{in-Output-Sink+in_ok-push, in-Output+in-Input-1, in-File-1}

pub loop-number-preserved : goal.loop-number-preserved
loop-number-preserved c =
    let cs = c.args.channels.now in
    let n = c.loop-number.number in
    let ring = get_or cs n no_channel in
    let here = slice_get-get_or cs n no_channel c.loop-number-test.true in
    let before = c.loop-number.invariant in
    elim c.match-channel.branch [
      | in-Output-Sink+in_ok-push w ↦
          let sink : ring.taker ≡ Sink = cc in
          let m = one_more (IsDrain cs) (λ (d : Channel). same_taker Sink d.taker) cs n ring c.loop-number.drains.items c.match-channel.drains.items w.dest_at.result
          here (ap (same_taker Sink) sink) (ap (λ v. v.items) w.drains-is ∙ w.in_ok-push.ensures.items) before.each before.count
          (record { gives = w.dest_at.ensures; sink = sink; place = refl }) in
          record { each = m.0; count = m.1 }
      | in-Output+in-Input-1 w ↦
          let taken : ring.taker ≢ Sink = λ sink. cc in
          let m = none_more (IsDrain cs) (λ (d : Channel). same_taker Sink d.taker) cs n ring c.loop-number.drains.items c.match-channel.drains.items here (not_sink ring taken)
          (ap (λ v. v.items) w.drains-is) before.each before.count in
          record { each = m.0; count = m.1 }
      | in-File-1 w ↦
          let file : ring.giver ≡ File = cc in
          let m = none_more (IsDrain cs) (λ (d : Channel). same_taker Sink d.taker) cs n ring c.loop-number.drains.items c.match-channel.drains.items here (file_enters cs n ring c.requires.inputs here file)
          (ap (λ v. v.items) w.drains-is) before.each before.count in
          record { each = m.0; count = m.1 }
    ]
