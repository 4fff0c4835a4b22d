use Rattle.jet_link.specs.Views.{send_view, recv_view}
use Rattle.jet_wire.specs.Receiver.{receiver_view}
use Rattle.jet_wire.specs.Sender.{sender_view}
use Rattle.jet_wire.proofs.Meeting.{sender_met, receiver_met}
use Rattle.jet_wire.proofs.meetings.refresh_link.Goals as goal

pub returns-clause-sent : goal.returns-clause-sent
returns-clause-sent c = sender_met (sender_view c.args.sender.now) (send_view c.meet.new.sender) c.meet.ensures.sender

pub returns-clause-given : goal.returns-clause-given
returns-clause-given c = receiver_met (receiver_view c.args.receiver.now) (recv_view c.meet.new.receiver) c.meet.ensures.receiver
