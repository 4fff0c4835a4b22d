use Rattle.jet_flow.proofs.Flows.{flow_keeps}
use Rattle.jet_flow.proofs.laws.flow_keeps_the_rules.Goals as goal

pub returns : goal.returns
returns c = flow_keeps c.args.dag.now c.args.settings.now c.requires
