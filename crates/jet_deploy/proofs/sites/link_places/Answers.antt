use Rattle.std.proofs.Common.{◌≡◌, ◌∙◌, Some, get_or, ap}
use Rattle.std.proofs.lemmas.Option.{slice_get-get_or}
use Rattle.jet_deploy.proofs.EachLink.{no_task, links_more, links_same, not_sending}
use Rattle.jet_deploy.proofs.sites.link_places.Goals as goal
use Rattle.jet_deploy.proofs.sites.link_places.Goals.{in-Send+in_ok-push, in_default}

pub loop-number-preserved : goal.loop-number-preserved
loop-number-preserved c =
    let tasks = c.args.tasks.now in
    let k = c.loop-number.number in
    let task = get_or tasks k no_task in
    let here = slice_get-get_or tasks k no_task c.loop-number-test.true in
    let before = c.loop-number.invariant in
    elim c.match-task.branch [
      | in-Send+in_ok-push w ↦
          let m = links_more tasks k w.in-Send.field-0 c.loop-number.links.items c.match-task.links.items (here ∙ ap Some w.in-Send.is)
          (ap (λ v. v.items) w.links-is ∙ w.in_ok-push.ensures.items) before.each before.count in
          record { each = m.0; count = m.1 }
      | in_default w ↦
          let m = links_same tasks k task c.loop-number.links.items c.match-task.links.items here (not_sending task w.in_default.not-Send)
          (ap (λ v. v.items) w.links-is) before.each before.count in
          record { each = m.0; count = m.1 }
    ]
