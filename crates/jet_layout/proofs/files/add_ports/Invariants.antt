use Rattle.std.proofs.Common.{◌≡◌, ◌++◌}
use Rattle.jet_layout.specs.Files.{file_ports}
use Rattle.jet_layout.proofs.files.add_ports.Given as goal

abbrev pub invariant-loop-place : goal.invariant-loop-place
invariant-loop-place l = l.ports ≡ l.fn.ports ++ file_ports l.members l.end l.place
