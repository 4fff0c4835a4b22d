use Rattle.jet_tasklet.specs.Keeps.{Stays}
use Rattle.jet_tasklet.specs.Turned.{Turned}
use Rattle.jet_tasklet.specs.Turning.{rank, Worked}
use Rattle.jet_tasklet.proofs.tasklet.Tasklet.work.Given as goal

abbrev pub decreases-calls : goal.decreases-calls
decreases-calls g l = rank l.self.step

abbrev pub invariant-calls : goal.invariant-calls
invariant-calls g l = record {
  keeps : Stays g.P.Processor.stands g.P.Processor.amid g.P.Processor.takes l.initial.self l.self;
  worked : Worked l.initial.self l.self;
  turned : Turned g.P.Processor.same l.initial.self l.self;
}
