use Rattle.std.proofs.Common.{refl}
use Rattle.jet_tasklet.proofs.Lasting.{turned_still, turned_trans}
use Rattle.jet_tasklet.proofs.Keeping.{stays_refl, stays_trans, lawful_stays}
use Rattle.jet_tasklet.proofs.Turning.{worked_refl, worked_trans}
use Rattle.jet_tasklet.proofs.tasklet.Tasklet.work.Goals as goal

pub calls-init : goal.calls-init
calls-init g c = record { keeps = stays_refl g.P.Processor.stands g.P.Processor.amid g.P.Processor.takes c.args.self.now; worked = worked_refl c.args.self.now; turned = turned_still g.P.Processor.same c.args.self.now c.args.self.now (g.met.P.Processor.same_refl c.args.self.now.processor) refl refl refl }

pub advance-requires-clause-keeps : goal.advance-requires-clause-keeps
advance-requires-clause-keeps g c = lawful_stays g.P.Processor.stands g.P.Processor.amid g.P.Processor.takes c.args.self.now c.calls.self c.requires.keeps c.calls.invariant.keeps

pub returns-in_err-advance-clause-keeps : goal.returns-in_err-advance-clause-keeps
returns-in_err-advance-clause-keeps g c = stays_trans g.P.Processor.stands g.P.Processor.amid g.P.Processor.takes c.args.self.now c.calls.self c.advance.new.self c.calls.invariant.keeps c.advance.ensures.keeps

pub returns-then-not-branch-clause-keeps : goal.returns-then-not-branch-clause-keeps
returns-then-not-branch-clause-keeps g c = stays_trans g.P.Processor.stands g.P.Processor.amid g.P.Processor.takes c.args.self.now c.calls.self c.advance.new.self c.calls.invariant.keeps c.advance.ensures.keeps

pub calls-preserved : goal.calls-preserved
calls-preserved g c = record {
  keeps = stays_trans g.P.Processor.stands g.P.Processor.amid g.P.Processor.takes c.args.self.now c.calls.self c.advance.new.self c.calls.invariant.keeps c.advance.ensures.keeps;
  worked = worked_trans c.args.self.now c.calls.self c.advance.new.self c.calls.invariant.worked c.advance.ensures.worked;
  turned = turned_trans g.P.Processor.same g.met.P.Processor.same_trans c.args.self.now c.calls.self c.advance.new.self c.calls.invariant.turned c.advance.ensures.turned;
}

pub returns-in_err-advance-clause-worked : goal.returns-in_err-advance-clause-worked
returns-in_err-advance-clause-worked g c = worked_trans c.args.self.now c.calls.self c.advance.new.self c.calls.invariant.worked c.advance.ensures.worked

pub returns-then-not-branch-clause-worked : goal.returns-then-not-branch-clause-worked
returns-then-not-branch-clause-worked g c = worked_trans c.args.self.now c.calls.self c.advance.new.self c.calls.invariant.worked c.advance.ensures.worked

pub returns-in_err-advance-clause-turned : goal.returns-in_err-advance-clause-turned
returns-in_err-advance-clause-turned g c = turned_trans g.P.Processor.same g.met.P.Processor.same_trans c.args.self.now c.calls.self c.advance.new.self c.calls.invariant.turned c.advance.ensures.turned

pub returns-then-not-branch-clause-turned : goal.returns-then-not-branch-clause-turned
returns-then-not-branch-clause-turned g c = turned_trans g.P.Processor.same g.met.P.Processor.same_trans c.args.self.now c.calls.self c.advance.new.self c.calls.invariant.turned c.advance.ensures.turned
