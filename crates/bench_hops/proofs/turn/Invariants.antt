use Rattle.jet_tasklet.specs.Keeps.{IsLawful}
use Rattle.bench_hops.proofs.turn.Given as goal

abbrev pub invariant-turns : goal.invariant-turns
invariant-turns g l = IsLawful g.P.Processor.stands g.P.Processor.amid g.P.Processor.takes l.tasklet
