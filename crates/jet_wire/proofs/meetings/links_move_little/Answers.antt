use Rattle.jet_wire.specs.Receiver.{receiver_view}
use Rattle.jet_wire.specs.Sender.{sender_view}
use Rattle.jet_wire.proofs.Moves.{few_packets, moves_little}
use Rattle.jet_wire.proofs.meetings.links_move_little.Goals as goal

pub returns-clause-packets : goal.returns-clause-packets
returns-clause-packets c = λ came sent k. few_packets (sender_view c.args.sender.now) came sent k

pub returns-clause-moves : goal.returns-clause-moves
returns-clause-moves c = λ came sent k m. moves_little (sender_view c.args.sender.now) (receiver_view c.args.receiver.now) came sent k m
