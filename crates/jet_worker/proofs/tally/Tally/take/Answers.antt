use Rattle.jet_worker.proofs.TallyLemmas.{side_refused_by}
use Rattle.jet_worker.proofs.tally.Tally.take.Goals as goal

pub returns-in-Side-clause-refused : goal.returns-in-Side-clause-refused
returns-in-Side-clause-refused c = side_refused_by c.laws_of_lines.ensures c.args.number c.args.line.now c.in-Side.tally c.args.self.now c.take-in-Side.result c.in-Side.is c.take-in-Side.ensures.refused
