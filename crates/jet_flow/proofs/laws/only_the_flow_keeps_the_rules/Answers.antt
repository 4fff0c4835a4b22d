use Rattle.jet_flow.proofs.Flows.{flow_only}
use Rattle.jet_flow.proofs.laws.only_the_flow_keeps_the_rules.Goals as goal

pub returns : goal.returns
returns c = flow_only c.args.dag.now c.args.settings.now c.requires
