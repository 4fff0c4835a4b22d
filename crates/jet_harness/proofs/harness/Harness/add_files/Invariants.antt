use Rattle.std.proofs.Common.{map, take}
use Rattle.jet_harness.specs.Channels.{file_channel}
use Rattle.jet_harness.specs.inner.Growing.{Adds}
use Rattle.jet_harness.proofs.harness.Harness.add_files.Given as goal

abbrev pub invariant-loop-port : goal.invariant-loop-port
invariant-loop-port l = Adds (map file_channel (take l.port-index l.files)) l.capacity l.fn.self l.self
