use Rattle.std.proofs.Common.{◌≡◌, take}
use Rattle.jet_plan.specs.Sizes.{files}
use Rattle.jet_plan.specs.Tables.{cap}
use Rattle.jet_plan.proofs.sizes.files.Given as goal

abbrev pub invariant-loop-vertex : goal.invariant-loop-vertex
invariant-loop-vertex l = l.files ≡ cap (files (take l.vertex-index l.vertices))
