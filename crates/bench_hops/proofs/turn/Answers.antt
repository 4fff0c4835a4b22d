use Rattle.bench_hops.proofs.Kept.{lawful_goes}
use Rattle.bench_hops.proofs.turn.Goals as goal

pub turns-preserved : goal.turns-preserved
turns-preserved g c = lawful_goes g.P.Processor.stands g.P.Processor.amid g.P.Processor.takes _ _ c.turn.ensures.keeps c.turns.invariant
