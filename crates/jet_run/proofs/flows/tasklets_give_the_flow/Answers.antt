use Rattle.jet_run.proofs.VertexFlows.{give_flow}
use Rattle.jet_run.proofs.flows.tasklets_give_the_flow.Goals as goal

pub returns : goal.returns
returns c = give_flow c.args.dag.now c.flow_keeps_the_rules.ensures c.keys_stay_short.ensures
