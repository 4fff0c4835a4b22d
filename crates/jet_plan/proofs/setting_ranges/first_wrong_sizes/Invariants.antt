use Rattle.std.proofs.Common.{◌≡◌, drop}
use Rattle.jet_plan.specs.SettingRanges.{wrong_sizes_from}
use Rattle.jet_plan.proofs.setting_ranges.first_wrong_sizes.Given as goal

abbrev pub invariant-loop-i : goal.invariant-loop-i
invariant-loop-i l = wrong_sizes_from l.i (drop l.i l.vertices) ≡ wrong_sizes_from 0 l.vertices
