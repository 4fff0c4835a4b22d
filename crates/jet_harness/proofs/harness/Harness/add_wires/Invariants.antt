use Rattle.std.proofs.Common.{map, take}
use Rattle.jet_harness.specs.Channels.{wire_channel}
use Rattle.jet_harness.specs.inner.Growing.{Adds}
use Rattle.jet_harness.proofs.harness.Harness.add_wires.Given as goal

abbrev pub invariant-loop-wire : goal.invariant-loop-wire
invariant-loop-wire l = Adds (map wire_channel (take l.wire-index l.wires)) l.capacity l.fn.self l.self
