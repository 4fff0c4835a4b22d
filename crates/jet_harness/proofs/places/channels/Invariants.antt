use Rattle.std.proofs.Common.{◌≡◌, ◌++◌, map, take}
use Rattle.jet_harness.specs.Channels.{wire_channel, file_channel}
use Rattle.jet_harness.proofs.places.channels.Given as goal

abbrev pub invariant-loop-wire : goal.invariant-loop-wire
invariant-loop-wire l = l.channels.items ≡ map wire_channel (take l.wire-index l.layout.wires)

abbrev pub invariant-loop-port : goal.invariant-loop-port
invariant-loop-port l = l.channels.items ≡ map wire_channel l.layout.wires ++ map file_channel (take l.port-index l.layout.files)
