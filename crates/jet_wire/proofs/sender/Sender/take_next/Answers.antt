use Rattle.jet_wire.specs.Sender.{SenderView, sender_view}
use Rattle.std.proofs.Common.{rules, refl, sym, subst}
use Rattle.jet_wire.specs.SenderSteps.{Sends, HasNothing, Empty}
use Rattle.jet_wire.proofs.Sending.{sends_trans}
use Rattle.jet_wire.proofs.Going.{sends_went, sends_goes, takes_went, went_trans, lawful_goes}
use Rattle.jet_wire.proofs.sender.Sender.take_next.Goals as goal

pub returns-then-not-prepare-clause-went : goal.returns-then-not-prepare-clause-went
returns-then-not-prepare-clause-went c = sends_went (sender_view c.args.self.now) (sender_view c.prepare.new.self) c.prepare.ensures.sends

pub take-requires-clause-keeps : goal.take-requires-clause-keeps
take-requires-clause-keeps c =
    lawful_goes (sender_view c.args.self.now) (sender_view c.prepare.new.self) (sends_goes (sender_view c.args.self.now) (sender_view c.prepare.new.self) c.prepare.ensures.sends) c.requires.keeps

pub returns-then-take-clause-went : goal.returns-then-take-clause-went
returns-then-take-clause-went c =
    went_trans (sender_view c.args.self.now) (sender_view c.prepare.new.self) (sender_view c.take.new.self) (sends_went (sender_view c.args.self.now) (sender_view c.prepare.new.self) c.prepare.ensures.sends)
    (takes_went (sender_view c.prepare.new.self) (sender_view c.take.new.self) (c.take.ensures.took (search rules)))

pub returns-clause-none : goal.returns-clause-none
returns-clause-none c = λ _.
    let o : SenderView = sender_view c.args.self.now in
    let p : SenderView = sender_view c.prepare.new.self in
    let t : SenderView = sender_view c.take.new.self in
    let f : SenderView = sender_view c.flush.new.self in
    let none = c.take.ensures.none (search rules) in
    let back : Sends p f = subst (λ (w : SenderView). Sends w f) none.0 c.flush.ensures.sends in
    (sends_trans o p f c.prepare.ensures.sends back, Empty (subst HasNothing (sym c.flush.ensures.sends.queues) none.1) c.flush.ensures.flushed)

pub returns-clause-went : goal.returns-clause-went
returns-clause-went c = sends_went (sender_view c.args.self.now) (sender_view c.flush.new.self) (returns-clause-none c refl).0
