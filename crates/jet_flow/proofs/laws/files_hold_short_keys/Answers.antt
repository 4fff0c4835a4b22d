use Rattle.jet_flow.proofs.ReadKeys.{contents_are_short}
use Rattle.jet_flow.proofs.laws.files_hold_short_keys.Goals as goal

pub returns : goal.returns
returns c = λ most bytes. contents_are_short most bytes c.args.dag.now
