use Rattle.std.proofs.Common.{rules, arith, ap}
use Rattle.jet_wire.specs.Sender.{sender_view}
use Rattle.jet_wire.specs.SenderTurn.{received_count}
use Rattle.jet_wire.proofs.Going.{went_trans, lawful_goes}
use Rattle.jet_wire.proofs.sender.Sender.take_items.Goals as goal

pub take_next-requires-in-items : goal.take_next-requires-in-items
take_next-requires-in-items c = record { keeps = lawful_goes (sender_view c.args.self.now) (sender_view c.items.self) c.items.invariant.went.goes c.requires.keeps }

pub items-preserved : goal.items-preserved
items-preserved c =
    let one = c.take_next-in-items.ensures.took (search rules) in
    record {
      went = went_trans (sender_view c.args.self.now) (sender_view c.items.self) (sender_view c.take_next-in-items.new.self) c.items.invariant.went c.take_next-in-items.ensures.went;
      some = omega (arith, one, c.items.invariant.some);
      few = omega (arith, one, c.items.invariant.few);
    }

pub returns-then-not-take_next-2-clause-went : goal.returns-then-not-take_next-2-clause-went
returns-then-not-take_next-2-clause-went c =
    went_trans (sender_view c.args.self.now) (sender_view c.items.self) (sender_view c.take_next-in-items.new.self) c.items.invariant.went c.take_next-in-items.ensures.went

pub returns-then-not-take_next-2-clause-few : goal.returns-then-not-take_next-2-clause-few
returns-then-not-take_next-2-clause-few c =
    let none = c.take_next-in-items.ensures.none (search rules) in
    omega (arith, ap received_count none.0.queues, c.items.invariant.few)

pub returns-then-not-take_next-2-clause-took : goal.returns-then-not-take_next-2-clause-took
returns-then-not-take_next-2-clause-took c = λ _.
    let none = c.take_next-in-items.ensures.none (search rules) in
    omega (arith, ap received_count none.0.queues, c.items.invariant.some)
