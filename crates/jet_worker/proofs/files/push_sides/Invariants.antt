use Rattle.std.proofs.Common.{◌≡◌, ◌++◌, map, take}
use Rattle.std.specs.Prelude.{flat_map}
use Rattle.jet_flow.specs.DataFiles.{sides_of}
use Rattle.jet_worker.specs.Opening.{file_in}
use Rattle.jet_worker.proofs.files.push_sides.Given as goal

abbrev pub invariant-loop-vertex : goal.invariant-loop-vertex
invariant-loop-vertex l = map file_in l.files.items ≡ map file_in l.initial.files.items ++ flat_map (λ v. sides_of v.kind) (take l.vertex-index l.vertices)
