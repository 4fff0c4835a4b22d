use Rattle.jet_flow.proofs.ShortKeys.{keys_within}
use Rattle.jet_flow.proofs.laws.keys_stay_short.Goals as goal

pub returns : goal.returns
returns c = keys_within c.args.dag.now c.args.settings.now c.requires
