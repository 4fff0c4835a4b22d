use Rattle.std.proofs.Common.{Bool, ◌||◌, ◌+◌, sym, subst}
use Rattle.jet_router.specs.Router.{view}
use Rattle.jet_router.specs.declared.Given.TheVariants as given
use Rattle.jet_wire.specs.Receiver.{ReceiverView, receiver_view}
use Rattle.jet_wire.specs.ReceiverSteps.{Deals}
use Rattle.jet_wire.proofs.Dealing.{IsGift, deals_owed, deals_given}
use Rattle.jet_wire.proofs.receiver.Receiver.give.Goals as goal

pub returns-in-Again-clause-deals : goal.returns-in-Again-clause-deals
returns-in-Again-clause-deals c =
    let v : ReceiverView = receiver_view c.args.self.now in
    let gift : IsGift given.Again v.router (view c.give.new.self) c.in-Some.item = record {
      goes = record { same = c.give.ensures.same; sent = c.give.ensures.more; still_free = c.give.ensures.reach };
      fewer = c.give.ensures.fewer;
      gives = c.in-Again.ensures.gives;
      dealt = c.in-Again.ensures.dealt;
      hand = c.give.ensures.in_hand;
      all = c.in-Again.ensures.all;
    } in
    deals_owed v (view c.give.new.self) c.in-Some.item c.in-Some.len c.in-Some.ensures.next gift

pub returns-in-All-clause-deals : goal.returns-in-All-clause-deals
returns-in-All-clause-deals c =
    let v : ReceiverView = receiver_view c.args.self.now in
    let b = view c.give.new.self in
    let gift : IsGift given.All v.router b c.in-Some.item = record {
      goes = record { same = c.give.ensures.same; sent = c.give.ensures.more; still_free = c.give.ensures.reach };
      fewer = c.give.ensures.fewer;
      gives = c.in-All.ensures.gives;
      dealt = c.in-All.ensures.dealt;
      hand = c.give.ensures.in_hand;
      all = c.in-All.ensures.all;
    } in
    subst (λ (d : Bool). Deals v (record v { router = b; at = v.at + c.in-Some.len; ended = v.ended || d })) (sym c.is_done.ensures)
    (deals_given c.one_spelling.ensures c.spellings_are_short.ensures v b c.in-Some.item c.in-Some.len c.in-Some.ensures.next gift c.requires.keeps.0 c.requires.keeps.1)
