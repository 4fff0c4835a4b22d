use Rattle.jet_flow.proofs.Places.{no_idle_before, none_other}
use Rattle.jet_flow.proofs.laws.without_idle_notes_the_own_mark_counts.Goals as goal

pub returns-clause-before : goal.returns-clause-before
returns-clause-before c = λ grain most bytes e file at none. no_idle_before grain most bytes c.args.dag.now e file at none

pub returns-clause-alone : goal.returns-clause-alone
returns-clause-alone c = λ grain most bytes e file at none. none_other grain most bytes c.args.dag.now e file at none
