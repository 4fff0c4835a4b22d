use Rattle.std.proofs.Common.{refl, false}
use Rattle.jet_wire.specs.Receiver.{receiver_view}
use Rattle.jet_wire.proofs.Dealing.{fresh_keeps}
use Rattle.jet_wire.proofs.receiver.Receiver.new.Goals as goal

pub returns-clause-keeps : goal.returns-clause-keeps
returns-clause-keeps c = fresh_keeps (receiver_view (record { end = c.args.end; router = c.args.router; at = 0; ended = false })) c.requires.new c.requires.unsent refl refl
