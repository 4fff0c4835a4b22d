use Rattle.jet_cli.proofs.BaseLemmas.{base_fault_is}
use Rattle.jet_cli.proofs.laws.window_faults_are_of_sizes.Goals as goal

pub returns : goal.returns
returns c = base_fault_is
