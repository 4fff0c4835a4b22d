use Rattle.std.proofs.Common.{◌≡◌, sym, ◌∙◌, ap, subst}
use Rattle.jet_items.specs.declared.item.Item.{Item}
use Rattle.jet_router.specs.declared.aim.Aim.{Aim}
use Rattle.jet_router.specs.declared.aim.Aim.TheVariants.{Each, Any, Only}
use Rattle.jet_items.specs.Partition.{item_key}
use Rattle.jet_router.specs.Aim.{aim_of}
use Rattle.jet_router.specs.Router.{View, view, aim}
use Rattle.jet_router.specs.Gives.{Gives}
use Rattle.jet_router.proofs.Gifts.{ServedEach, same_served, reach_served, fewer_served, more_served, gives_each, in_hand_given}
use Rattle.jet_router.proofs.Dealing.{gift_dealt, gift_stuck}
use Rattle.jet_router.proofs.Growing.{more_any, more_only}
use Rattle.jet_router.proofs.router.Router.give.Goals as goal
use Rattle.jet_router.proofs.router.Router.give.Goals.{After-give_each}

served_each : (c : After-give_each) → ServedEach (view c.args.self.now) (view c.give_each.new.self) c.args.item.now
served_each c =
    record {
      dests = c.give_each.ensures.dests;
      route = c.give_each.ensures.route.0;
      table = c.give_each.ensures.route.1;
      turn = c.give_each.ensures.turn;
    }

gave_each : (c : After-give_each) → (aim (view c.args.self.now) c.args.item.now ≡ Each)
    × Gives Each c.give_each.result (view c.args.self.now) (view c.give_each.new.self) c.args.item.now
gave_each c =
    let old : View = view c.args.self.now in
    let new : View = view c.give_each.new.self in
    let x : Item = c.args.item.now in
    let aimed : aim old x ≡ Each = ap (λ t. aim_of c.args.self.now.route t (item_key x)) (sym c.deref.ensures.value) ∙ sym c.in-Each.ensures in (
      aimed,
      gives_each old new x (served_each c) c.give_each.result aimed c.requires.pending c.give_each.ensures.all c.give_each.ensures.again,
    )

pub returns-in-Each-clause-gives : goal.returns-in-Each-clause-gives
returns-in-Each-clause-gives c =
    let P : Aim → Type 0 = λ w. Gives w c.give_each.result (view c.args.self.now) (view c.give_each.new.self) c.args.item.now in
    subst P (sym (gave_each c).0) (gave_each c).1

pub returns-in-Each-clause-in_hand : goal.returns-in-Each-clause-in_hand
returns-in-Each-clause-in_hand c =
    in_hand_given c.give_each.result (view c.args.self.now) (view c.give_each.new.self) c.args.item.now (gave_each c).1

pub returns-in-Each-clause-same : goal.returns-in-Each-clause-same
returns-in-Each-clause-same c = same_served (view c.args.self.now) (view c.give_each.new.self) c.args.item.now (served_each c)

pub returns-in-Each-clause-reach : goal.returns-in-Each-clause-reach
returns-in-Each-clause-reach c = reach_served (view c.args.self.now) (view c.give_each.new.self) c.args.item.now (served_each c)

pub returns-in-Each-clause-fewer : goal.returns-in-Each-clause-fewer
returns-in-Each-clause-fewer c = fewer_served (view c.args.self.now) (view c.give_each.new.self) c.args.item.now (served_each c)

pub returns-in-Each-clause-more : goal.returns-in-Each-clause-more
returns-in-Each-clause-more c = more_served (view c.args.self.now) (view c.give_each.new.self) c.args.item.now (served_each c)

pub returns-in-Each-clause-dealt : goal.returns-in-Each-clause-dealt
returns-in-Each-clause-dealt c =
    let a : View = view c.args.self.now in
    let b : View = view c.give_each.new.self in
    gift_dealt Each c.give_each.result a b c.args.item.now (gave_each c).0 (gave_each c).1 (same_served a b c.args.item.now (served_each c)) c.requires.pending

pub returns-in-Each-clause-stuck : goal.returns-in-Each-clause-stuck
returns-in-Each-clause-stuck c =
    let a : View = view c.args.self.now in
    let b : View = view c.give_each.new.self in
    gift_stuck Each c.give_each.result a b c.args.item.now (gave_each c).0 (gave_each c).1 (same_served a b c.args.item.now (served_each c)) (fewer_served a b c.args.item.now (served_each c))

pub returns-in-Any-clause-more : goal.returns-in-Any-clause-more
returns-in-Any-clause-more c = more_any c.give_any.result (view c.args.self.now) (view c.give_any.new.self) c.args.item.now c.give_any.ensures.gives

pub returns-in-Any-clause-dealt : goal.returns-in-Any-clause-dealt
returns-in-Any-clause-dealt c =
    let aimed : aim (view c.args.self.now) c.args.item.now ≡ Any = ap (λ t. aim_of c.args.self.now.route t (item_key c.args.item.now)) (sym c.deref.ensures.value) ∙ sym c.in-Any.ensures in
    gift_dealt Any c.give_any.result (view c.args.self.now) (view c.give_any.new.self) c.args.item.now aimed c.give_any.ensures.gives c.give_any.ensures.same c.requires.pending

pub returns-in-Any-clause-stuck : goal.returns-in-Any-clause-stuck
returns-in-Any-clause-stuck c =
    let aimed : aim (view c.args.self.now) c.args.item.now ≡ Any = ap (λ t. aim_of c.args.self.now.route t (item_key c.args.item.now)) (sym c.deref.ensures.value) ∙ sym c.in-Any.ensures in
    gift_stuck Any c.give_any.result (view c.args.self.now) (view c.give_any.new.self) c.args.item.now aimed c.give_any.ensures.gives c.give_any.ensures.same tt

pub returns-in-Only-clause-more : goal.returns-in-Only-clause-more
returns-in-Only-clause-more c = more_only c.in-Only.dest c.give_only.result (view c.args.self.now) (view c.give_only.new.self) c.args.item.now c.give_only.ensures.gives

pub returns-in-Only-clause-dealt : goal.returns-in-Only-clause-dealt
returns-in-Only-clause-dealt c =
    let aimed : aim (view c.args.self.now) c.args.item.now ≡ Only c.in-Only.dest = ap (λ t. aim_of c.args.self.now.route t (item_key c.args.item.now)) (sym c.deref.ensures.value) ∙ sym c.in-Only.ensures in
    gift_dealt (Only c.in-Only.dest) c.give_only.result (view c.args.self.now) (view c.give_only.new.self) c.args.item.now aimed c.give_only.ensures.gives c.give_only.ensures.same c.requires.pending

pub returns-in-Only-clause-stuck : goal.returns-in-Only-clause-stuck
returns-in-Only-clause-stuck c =
    let aimed : aim (view c.args.self.now) c.args.item.now ≡ Only c.in-Only.dest = ap (λ t. aim_of c.args.self.now.route t (item_key c.args.item.now)) (sym c.deref.ensures.value) ∙ sym c.in-Only.ensures in
    gift_stuck (Only c.in-Only.dest) c.give_only.result (view c.args.self.now) (view c.give_only.new.self) c.args.item.now aimed c.give_only.ensures.gives c.give_only.ensures.same tt
