use Rattle.jet_tasklet.specs.Outputs.{outputs_view}
use Rattle.jet_tasklet.proofs.JoinWaits.{join_waits, none_sent}
use Rattle.jet_tasklet.proofs.rests.joins_wait.Goals as goal

pub returns : goal.returns
returns c = record {
  gave = λ came gave k h. (join_waits c.args.join.now came gave k h.waits h.sides).0;
  waits = λ came gave k h. (join_waits c.args.join.now came gave k h.waits h.sides).1;
  sent = λ came gave k h.
      let none = join_waits c.args.join.now came gave k h.waits h.sides in
      none_sent gave c.args.join.now.outbox.items (outputs_view c.args.join.now.outputs.items) k.gives_out none.0 none.1;
}
