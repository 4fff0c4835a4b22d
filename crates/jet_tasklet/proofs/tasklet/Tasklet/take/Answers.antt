use Rattle.std.proofs.Common.{ap}
use Rattle.jet_tasklet.proofs.Keeping.{goes_same, goes_trans, lawful_stays}
use Rattle.jet_tasklet.proofs.Lasting.{turned_trans}
use Rattle.jet_tasklet.proofs.Fairness.{fair_one, fair_none, same_turns}
use Rattle.jet_tasklet.proofs.tasklet.Tasklet.take.Goals as goal

pub returns-in_default-clause-keeps : goal.returns-in_default-clause-keeps
returns-in_default-clause-keeps g c = goes_same g.P.Processor.stands g.P.Processor.amid g.P.Processor.takes c.args.self.now c.find.new.self c.find.ensures.keeps (ap (λ t. t.outbox) c.find.ensures.rest)

pub hand_over-requires-clause-keeps : goal.hand_over-requires-clause-keeps
hand_over-requires-clause-keeps g c = lawful_stays g.P.Processor.stands g.P.Processor.amid g.P.Processor.takes c.args.self.now c.find.new.self c.requires.keeps c.find.ensures.keeps

pub note_front-requires-clause-keeps : goal.note_front-requires-clause-keeps
note_front-requires-clause-keeps g c = lawful_stays g.P.Processor.stands g.P.Processor.amid g.P.Processor.takes c.args.self.now c.find.new.self c.requires.keeps c.find.ensures.keeps

pub returns-in_err-hand_over-clause-keeps : goal.returns-in_err-hand_over-clause-keeps
returns-in_err-hand_over-clause-keeps g c = goes_trans g.P.Processor.stands g.P.Processor.amid g.P.Processor.takes c.args.self.now c.find.new.self c.hand_over.new.self (goes_same g.P.Processor.stands g.P.Processor.amid g.P.Processor.takes c.args.self.now c.find.new.self c.find.ensures.keeps (ap (λ t. t.outbox) c.find.ensures.rest)) c.hand_over.ensures.keeps

pub returns-in_err-hand_over-clause-turned : goal.returns-in_err-hand_over-clause-turned
returns-in_err-hand_over-clause-turned g c = turned_trans g.P.Processor.same g.met.P.Processor.same_trans c.args.self.now c.find.new.self c.hand_over.new.self c.find.ensures.turned c.hand_over.ensures.turned

pub returns-in_ok-hand_over-clause-keeps : goal.returns-in_ok-hand_over-clause-keeps
returns-in_ok-hand_over-clause-keeps g c = goes_trans g.P.Processor.stands g.P.Processor.amid g.P.Processor.takes c.args.self.now c.find.new.self c.hand_over.new.self (goes_same g.P.Processor.stands g.P.Processor.amid g.P.Processor.takes c.args.self.now c.find.new.self c.find.ensures.keeps (ap (λ t. t.outbox) c.find.ensures.rest)) c.hand_over.ensures.keeps

pub returns-in_ok-hand_over-clause-turned : goal.returns-in_ok-hand_over-clause-turned
returns-in_ok-hand_over-clause-turned g c = turned_trans g.P.Processor.same g.met.P.Processor.same_trans c.args.self.now c.find.new.self c.hand_over.new.self c.find.ensures.turned c.hand_over.ensures.turned

pub returns-else-is_data-clause-keeps : goal.returns-else-is_data-clause-keeps
returns-else-is_data-clause-keeps g c = goes_trans g.P.Processor.stands g.P.Processor.amid g.P.Processor.takes c.args.self.now c.find.new.self c.note_front.new.self (goes_same g.P.Processor.stands g.P.Processor.amid g.P.Processor.takes c.args.self.now c.find.new.self c.find.ensures.keeps (ap (λ t. t.outbox) c.find.ensures.rest)) c.note_front.ensures.keeps

pub returns-else-is_data-clause-turned : goal.returns-else-is_data-clause-turned
returns-else-is_data-clause-turned g c = turned_trans g.P.Processor.same g.met.P.Processor.same_trans c.args.self.now c.find.new.self c.note_front.new.self c.find.ensures.turned c.note_front.ensures.turned

pub returns-in_default-clause-fair : goal.returns-in_default-clause-fair
returns-in_default-clause-fair g c = fair_none c.args.self.now c.find.new.self (same_turns c.args.self.now c.find.new.self c.in_default.ensures.none.0 c.in_default.ensures.next)

pub returns-in_err-hand_over-clause-fair : goal.returns-in_err-hand_over-clause-fair
returns-in_err-hand_over-clause-fair g c = fair_one c.args.self.now c.find.new.self c.hand_over.new.self c.in-Some.spot c.in-Some.ensures.in_turn c.in-Some.ensures.spot c.hand_over.ensures.took c.hand_over.ensures.next

pub returns-in_ok-hand_over-clause-fair : goal.returns-in_ok-hand_over-clause-fair
returns-in_ok-hand_over-clause-fair g c = fair_one c.args.self.now c.find.new.self c.hand_over.new.self c.in-Some.spot c.in-Some.ensures.in_turn c.in-Some.ensures.spot c.hand_over.ensures.took c.hand_over.ensures.next

pub returns-else-is_data-clause-fair : goal.returns-else-is_data-clause-fair
returns-else-is_data-clause-fair g c = fair_one c.args.self.now c.find.new.self c.note_front.new.self c.in-Some.spot c.in-Some.ensures.in_turn c.in-Some.ensures.spot c.note_front.ensures.took c.note_front.ensures.next
