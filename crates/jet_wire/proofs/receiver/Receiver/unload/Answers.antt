use Rattle.jet_wire.specs.Receiver.{receiver_view}
use Rattle.jet_wire.proofs.Dealing.{deals_refl, deals_trans, deals_keep}
use Rattle.jet_wire.proofs.receiver.Receiver.unload.Goals as goal

pub loop-init : goal.loop-init
loop-init c = deals_refl (receiver_view c.args.self.now)

pub give-requires : goal.give-requires
give-requires c = record { keeps = deals_keep (receiver_view c.args.self.now) (receiver_view c.loop.self) c.loop.invariant c.requires.keeps }

pub loop-preserved : goal.loop-preserved
loop-preserved c = deals_trans (receiver_view c.args.self.now) (receiver_view c.loop.self) (receiver_view c.give.new.self) c.loop.invariant c.give.ensures.deals

pub returns-clause-deals : goal.returns-clause-deals
returns-clause-deals c = deals_trans (receiver_view c.args.self.now) (receiver_view c.loop.self) (receiver_view c.give.new.self) c.loop.invariant c.give.ensures.deals
