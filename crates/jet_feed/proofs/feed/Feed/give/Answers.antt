use Rattle.std.proofs.Common.{Bool, None, refl, sym, subst}
use Rattle.jet_ring.specs.Ring.{sent}
use Rattle.jet_feed.specs.Fed.{Gives}
use Rattle.jet_feed.proofs.FedLemmas.{given_item}
use Rattle.jet_feed.proofs.feed.Feed.give.Goals as goal

pub returns-clause-kept : goal.returns-clause-kept
returns-clause-kept c =
    subst (λ (b : Bool). Gives c.args.self.now (record c.args.self.now { body = c.note.new.self; waiting = None; is_idle = b }) (sent c.args.tx.now) (sent c.put.new.self)) (sym c.is_idle-self.ensures)
    (given_item c.args.self.now c.in-Some.item c.note.new.self (sent c.args.tx.now) (sent c.put.new.self) c.in-Some.is c.note.ensures (c.if-not-put.ensures.sent refl))
