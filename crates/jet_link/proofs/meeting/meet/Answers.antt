use Rattle.std.proofs.Common.{rules, refl}
use Rattle.jet_link.specs.Views.{send_view, recv_view}
use Rattle.jet_link.proofs.Both.{both_met}
use Rattle.jet_link.proofs.meeting.meet.Goals as goal

pub returns-clause-met : goal.returns-clause-met
returns-clause-met c = both_met (send_view c.args.sender.now) _ (recv_view c.args.receiver.now) _ c.args.sender.now.right.shape c.args.sender.now.right.right c.args.receiver.now.right.right
    c.requires.shape refl (search rules) (search rules) c.refresh.ensures.all c.refresh-2.ensures.all c.refresh.ensures.free c.refresh-2.ensures.free
