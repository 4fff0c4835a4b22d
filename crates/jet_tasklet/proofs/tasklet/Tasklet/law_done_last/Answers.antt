use Rattle.jet_tasklet.proofs.DoneLast.{done_last}
use Rattle.jet_tasklet.proofs.tasklet.Tasklet.law_done_last.Goals as goal

pub returns : goal.returns
returns g c = λ came gave k.
    let P = g.P.Processor in
    let met = g.met.P.Processor in
    done_last P.stands P.amid P.takes c.args.self.now came gave (λ taken given h e. met.open_law c.args.self.now.processor taken given h e) (λ taken entry given h e. met.open_law_amid c.args.self.now.processor taken entry given h e) k
