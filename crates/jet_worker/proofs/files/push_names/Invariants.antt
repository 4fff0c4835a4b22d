use Rattle.std.proofs.Common.{◌≡◌, ◌++◌, map, take}
use Rattle.jet_flow.specs.DataFiles.{SourceFile}
use Rattle.jet_worker.specs.Opening.{file_in}
use Rattle.jet_worker.proofs.files.push_names.Given as goal

abbrev pub invariant-loop-name : goal.invariant-loop-name
invariant-loop-name l = map file_in l.files.items ≡ map file_in l.initial.files.items ++ map (λ name. SourceFile name l.lag) (take l.name-index l.names)
