use Rattle.jet_tasklet.proofs.AnyRows.{any_lawful_on, any_went_trans, any_said_joined, any_exact, any_counts}
use Rattle.jet_tasklet.proofs.turns.any_turns_in_a_row.Goals as goal

pub returns : goal.returns
returns c = record {
  lawful = any_lawful_on c.args.first.now c.args.next.now;
  went = any_went_trans c.args.first.now c.args.next.now c.args.last.now;
  said = λ p q. any_said_joined p q c.args.first.now c.args.next.now c.args.last.now;
  exact = any_exact c.args.first.now c.args.next.now;
  counted = λ p came gave. any_counts p c.args.first.now c.args.next.now came gave;
}
