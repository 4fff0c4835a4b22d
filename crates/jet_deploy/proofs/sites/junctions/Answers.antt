use Rattle.std.proofs.Common.{◌≡◌, ◌∙◌, get_or, ap, refl}
use Rattle.std.proofs.lemmas.Option.{slice_get-get_or}
use Rattle.jet_harness.specs.declared.channel.Giver.TheVariants.{File}
use Rattle.jet_layout.specs.declared.wire.Taker.TheVariants.{Sink}
use Rattle.jet_deploy.specs.Sites.{IsJunction, is_between}
use Rattle.jet_deploy.proofs.EachRing.{no_channel, one_more, none_more, between, into_sink, of_file}
use Rattle.jet_deploy.proofs.sites.junctions.Goals as goal
use Rattle.jet_deploy.proofs.sites.junctions.Goals.{in-Output-Input+in_ok-push, in-Output+in-Sink-1, in-File-1}

pub loop-number-preserved : goal.loop-number-preserved
loop-number-preserved c =
    let cs = c.args.channels.now in
    let n = c.loop-number.number in
    let ring = get_or cs n no_channel in
    let here = slice_get-get_or cs n no_channel c.loop-number-test.true in
    let before = c.loop-number.invariant in
    elim c.match-channel.branch [
      | in-Output-Input+in_ok-push w ↦
          let m = one_more (IsJunction cs) is_between cs n ring c.loop-number.junctions.items c.match-channel.junctions.items (record { giver = w.dest_at-giver.result; taker = w.queue_at-taker.result })
          here (between ring w.in-Output-Input.from w.in-Output-Input.to (cc) (cc)) (ap (λ v. v.items) w.junctions-is ∙ w.in_ok-push.ensures.items) before.each before.count
          (record { gives = w.dest_at-giver.ensures; takes = w.queue_at-taker.ensures; place = refl }) in
          record { each = m.0; count = m.1 }
      | in-Output+in-Sink-1 w ↦
          let sink : ring.taker ≡ Sink = cc in
          let m = none_more (IsJunction cs) is_between cs n ring c.loop-number.junctions.items c.match-channel.junctions.items here (into_sink ring sink)
          (ap (λ v. v.items) w.junctions-is) before.each before.count in
          record { each = m.0; count = m.1 }
      | in-File-1 w ↦
          let file : ring.giver ≡ File = cc in
          let m = none_more (IsJunction cs) is_between cs n ring c.loop-number.junctions.items c.match-channel.junctions.items here (of_file ring file)
          (ap (λ v. v.items) w.junctions-is) before.each before.count in
          record { each = m.0; count = m.1 }
    ]
