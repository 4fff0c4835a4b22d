use Rattle.jet_window.proofs.Staging.{instances_sum_kept}
use Rattle.jet_window.proofs.stages.instances_sum_kept.Goals as goal

pub returns : goal.returns
returns c = instances_sum_kept
