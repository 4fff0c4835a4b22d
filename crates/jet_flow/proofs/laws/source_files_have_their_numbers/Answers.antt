use Rattle.jet_flow.proofs.Numbers.{stand_in_job}
use Rattle.jet_flow.proofs.laws.source_files_have_their_numbers.Goals as goal

pub returns : goal.returns
returns c = stand_in_job c.args.dag.now
