use Rattle.std.proofs.Common.{rules}
use Rattle.jet_link.specs.Views.{recv_view}
use Rattle.jet_wire.specs.Receiver.{receiver_view}
use Rattle.jet_wire.proofs.Packets.{receives_by}
use Rattle.jet_wire.proofs.Periods.{counts_received}
use Rattle.jet_wire.proofs.receiver.Receiver.receive.Goals as goal

pub returns-clause-receives : goal.returns-clause-receives
returns-clause-receives c =
    receives_by c.spellings_are_short.ensures (receiver_view c.args.self.now) (recv_view c.receive.new.self) c.receive.ensures.same (search rules) c.receive.result c.receive.ensures.received c.receive.ensures.none

pub returns-clause-counts : goal.returns-clause-counts
returns-clause-counts c = counts_received c.receive.result (recv_view c.args.self.now.end) (recv_view c.receive.new.self) c.receive.ensures.received c.receive.ensures.counts c.receive.ensures.none
