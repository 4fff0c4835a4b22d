use Rattle.jet_tasklet.proofs.Keeping.{lawful_goes}
use Rattle.jet_tasklet.proofs.Rows.{went_trans, said_joined, exact, counts_moves}
use Rattle.jet_tasklet.proofs.turns.turns_in_a_row.Goals as goal

pub returns : goal.returns
returns g c = record {
  lawful = λ l w. lawful_goes g.P.Processor.stands g.P.Processor.amid g.P.Processor.takes c.args.first.now c.args.next.now l w.goes;
  went = went_trans g.P.Processor.stands g.P.Processor.amid g.P.Processor.takes g.P.Processor.same g.met.P.Processor.same_trans c.args.first.now c.args.next.now c.args.last.now;
  said = λ p q. said_joined g.P.Processor.stands g.P.Processor.amid g.P.Processor.takes g.P.Processor.same p q c.args.first.now c.args.next.now c.args.last.now;
  exact = λ w r. exact g.P.Processor.same c.args.first.now c.args.next.now w.turned r.still;
  counted = λ p came gave. counts_moves g.P.Processor.stands g.P.Processor.amid g.P.Processor.takes g.P.Processor.same p c.args.first.now c.args.next.now came gave;
}
