use Rattle.std.proofs.Common.{◌≡◌, true, take}
use Rattle.jet_tasklet.specs.Inputs.{inputs_view, all_done}
use Rattle.jet_tasklet.proofs.inputs.are_done.Given as goal

abbrev pub invariant-loop-input : goal.invariant-loop-input
invariant-loop-input l = all_done l.port (inputs_view (take l.input-index l.inputs)) ≡ true
