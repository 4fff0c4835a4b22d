use Rattle.std.proofs.Common.{◌≡◌, ◌++◌, drop}
use Rattle.jet_layout.specs.Files.{files_from}
use Rattle.jet_layout.proofs.files.add_files.Given as goal

abbrev pub invariant-loop-number : goal.invariant-loop-number
invariant-loop-number l = l.ports ++ files_from l.sides l.members (drop l.number l.ends) (drop l.number l.vertices) ≡ l.fn.ports ++ files_from l.sides l.members l.ends l.vertices
