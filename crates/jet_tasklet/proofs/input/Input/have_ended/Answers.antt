use Rattle.jet_tasklet.proofs.Ports.{list_all_is}
use Rattle.jet_tasklet.specs.Inputs.{input_view}
use Rattle.jet_tasklet.proofs.input.Input.have_ended.Goals as goal

pub returns : goal.returns
returns c = list_all_is c.all_done.result (input_view c.args.self.now).queues.done c.all_done.ensures
