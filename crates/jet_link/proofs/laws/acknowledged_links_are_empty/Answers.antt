use Rattle.jet_link.specs.Views.{send_view, recv_view}
use Rattle.jet_link.proofs.Emptied.{emptied}
use Rattle.jet_link.proofs.laws.acknowledged_links_are_empty.Goals as goal

pub returns : goal.returns
returns c = λ met e. emptied (send_view c.args.sender.now) (recv_view c.args.receiver.now) c.args.sender.now.right.right c.args.receiver.now.right.right met e
