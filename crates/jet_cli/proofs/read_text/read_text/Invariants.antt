use Rattle.std.proofs.Common.{length, ◌-◌}
use Rattle.jet_cli.proofs.TextLemmas.{TextSoFar}
use Rattle.jet_cli.proofs.read_text.read_text.Given as goal

abbrev pub invariant-pieces : goal.invariant-pieces
invariant-pieces g l = TextSoFar g.O.Outside.told g.O.Outside.opened g.O.Outside.steady g.O.Outside.faults l.file l.most l.text.items l.initial.out l.out

abbrev pub decreases-pieces : goal.decreases-pieces
decreases-pieces g l = l.most - length l.text.items
