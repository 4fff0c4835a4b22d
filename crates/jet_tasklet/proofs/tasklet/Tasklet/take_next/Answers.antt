use Rattle.jet_tasklet.proofs.Keeping.{goes_trans, stays_trans, lawful_stays, worked_goes}
use Rattle.jet_tasklet.proofs.Lasting.{turned_trans}
use Rattle.jet_tasklet.proofs.Fairness.{fair_worked, fair_trans}
use Rattle.jet_tasklet.proofs.tasklet.Tasklet.take_next.Goals as goal

pub take-requires-clause-keeps : goal.take-requires-clause-keeps
take-requires-clause-keeps g c = lawful_stays g.P.Processor.stands g.P.Processor.amid g.P.Processor.takes c.args.self.now c.work.new.self c.requires.keeps c.work.ensures.keeps

pub returns-clause-keeps : goal.returns-clause-keeps
returns-clause-keeps g c = goes_trans g.P.Processor.stands g.P.Processor.amid g.P.Processor.takes c.args.self.now c.work.new.self c.take.new.self (worked_goes g.P.Processor.stands g.P.Processor.amid g.P.Processor.takes c.args.self.now c.work.new.self c.work.ensures.keeps c.work.ensures.worked) c.take.ensures.keeps

pub returns-clause-turned : goal.returns-clause-turned
returns-clause-turned g c = turned_trans g.P.Processor.same g.met.P.Processor.same_trans c.args.self.now c.work.new.self c.take.new.self c.work.ensures.turned c.take.ensures.turned

pub returns-in_err-work-clause-keeps : goal.returns-in_err-work-clause-keeps
returns-in_err-work-clause-keeps g c = worked_goes g.P.Processor.stands g.P.Processor.amid g.P.Processor.takes c.args.self.now c.work.new.self c.work.ensures.keeps c.work.ensures.worked

pub returns-then-not-branch-clause-keeps : goal.returns-then-not-branch-clause-keeps
returns-then-not-branch-clause-keeps g c = worked_goes g.P.Processor.stands g.P.Processor.amid g.P.Processor.takes c.args.self.now c.work.new.self c.work.ensures.keeps c.work.ensures.worked

pub returns-then-not-is_polling-clause-keeps : goal.returns-then-not-is_polling-clause-keeps
returns-then-not-is_polling-clause-keeps g c = worked_goes g.P.Processor.stands g.P.Processor.amid g.P.Processor.takes c.args.self.now c.work.new.self c.work.ensures.keeps c.work.ensures.worked

pub returns-clause-same : goal.returns-clause-same
returns-clause-same g c = λ e. stays_trans g.P.Processor.stands g.P.Processor.amid g.P.Processor.takes c.args.self.now c.work.new.self c.take.new.self c.work.ensures.keeps (c.take.ensures.same e)

pub returns-clause-fair : goal.returns-clause-fair
returns-clause-fair g c = fair_trans c.args.self.now c.work.new.self c.take.new.self (fair_worked c.args.self.now c.work.new.self c.work.ensures.worked) c.take.ensures.fair

pub returns-in_err-work-clause-fair : goal.returns-in_err-work-clause-fair
returns-in_err-work-clause-fair g c = fair_worked c.args.self.now c.work.new.self c.work.ensures.worked

pub returns-then-not-branch-clause-fair : goal.returns-then-not-branch-clause-fair
returns-then-not-branch-clause-fair g c = fair_worked c.args.self.now c.work.new.self c.work.ensures.worked

pub returns-then-not-is_polling-clause-fair : goal.returns-then-not-is_polling-clause-fair
returns-then-not-is_polling-clause-fair g c = fair_worked c.args.self.now c.work.new.self c.work.ensures.worked
