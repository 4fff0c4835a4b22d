use Rattle.std.proofs.Common.{◌≡◌, ◌∙◌, Bool, true, ◌||◌, nat_lt, List, length, ap, sym, subst, arith, ltb-true, ltb-false}
use Rattle.std.specs.Prelude.{Ok}
use Rattle.jet_items.specs.declared.item.Item.{Item}
use Rattle.jet_tasklet.specs.Outputs.{outputs_view, sent_count, Says}
use Rattle.jet_tasklet.proofs.Turning.{moving, stilled, idles, none_of, rooms_on, begun_goes, turn_goes, turn_stays}
use Rattle.std.proofs.Common.{refl}
use Rattle.jet_tasklet.proofs.Lasting.{turned_still, turned_trans}
use Rattle.jet_tasklet.proofs.Fairness.{fair_none, fair_given, fair_turn}
use Rattle.jet_tasklet.proofs.Keeping.{goes_refl, goes_trans, lawful_goes}
use Rattle.jet_tasklet.proofs.tasklet.Tasklet.turn.Goals as goal

pub returns-then-has_ended-clause-keeps : goal.returns-then-has_ended-clause-keeps
returns-then-has_ended-clause-keeps g c = goes_refl g.P.Processor.stands g.P.Processor.amid g.P.Processor.takes c.args.self.now

pub take_items-requires : goal.take_items-requires
take_items-requires g c = record { keeps = lawful_goes g.P.Processor.stands g.P.Processor.amid g.P.Processor.takes c.args.self.now c.give-pushed.new.self c.requires.keeps c.give-pushed.ensures.keeps }

pub returns-in_err-took-clause-keeps : goal.returns-in_err-took-clause-keeps
returns-in_err-took-clause-keeps g c = goes_trans g.P.Processor.stands g.P.Processor.amid g.P.Processor.takes c.args.self.now c.give-pushed.new.self c.take_items.new.self c.give-pushed.ensures.keeps c.take_items.ensures.keeps

pub work-requires : goal.work-requires
work-requires g c =
    let begun = begun_goes g.P.Processor.stands g.P.Processor.amid g.P.Processor.takes c.args.self.now c.give-pushed.new.self c.take_items.new.self c.begin_finish.new.self c.give-pushed.ensures.keeps c.take_items.ensures.keeps c.begin_finish.ensures.keeps c.begin_finish.ensures.begins in
    record { keeps = lawful_goes g.P.Processor.stands g.P.Processor.amid g.P.Processor.takes c.args.self.now c.begin_finish.new.self c.requires.keeps begun }

pub returns-in_err-work-clause-keeps : goal.returns-in_err-work-clause-keeps
returns-in_err-work-clause-keeps g c =
    turn_goes g.P.Processor.stands g.P.Processor.amid g.P.Processor.takes c.args.self.now c.give-pushed.new.self c.take_items.new.self c.begin_finish.new.self c.work.new.self c.give-pushed.ensures.keeps c.take_items.ensures.keeps c.begin_finish.ensures.keeps c.begin_finish.ensures.begins c.work.ensures.keeps c.work.ensures.worked

pub returns-then-moved-clause-keeps : goal.returns-then-moved-clause-keeps
returns-then-moved-clause-keeps g c =
    turn_goes g.P.Processor.stands g.P.Processor.amid g.P.Processor.takes c.args.self.now c.give-pushed.new.self c.take_items.new.self c.begin_finish.new.self c.work.new.self c.give-pushed.ensures.keeps c.take_items.ensures.keeps c.begin_finish.ensures.keeps c.begin_finish.ensures.begins c.work.ensures.keeps c.work.ensures.worked

pub returns-else-moved-clause-keeps : goal.returns-else-moved-clause-keeps
returns-else-moved-clause-keeps g c =
    turn_goes g.P.Processor.stands g.P.Processor.amid g.P.Processor.takes c.args.self.now c.give-pushed.new.self c.take_items.new.self c.begin_finish.new.self c.work.new.self c.give-pushed.ensures.keeps c.take_items.ensures.keeps c.begin_finish.ensures.keeps c.begin_finish.ensures.begins c.work.ensures.keeps c.work.ensures.worked

pub returns-then-moved-clause-moved : goal.returns-then-moved-clause-moved
returns-then-moved-clause-moved g c = λ e.
    let o = c.args.self.now in
    let a = c.give-pushed.new.self in
    let d = c.work.new.self in
    let room = c.free-room.ensures in
    let after = c.free-after.ensures in
    moving o a c.take_items.new.self c.begin_finish.new.self d c.give-pushed.result c.in_ok-took.took (nat_lt c.free-after.result c.free-room.result) c.give-pushed.ensures.pushed c.in_ok-took.ensures.took c.give-pushed.ensures.inputs c.take_items.ensures.outputs c.give-pushed.ensures.stays (λ none. (c.in_ok-took.ensures.none (ap Ok none)).0) c.begin_finish.ensures.begins c.work.ensures.worked
    (λ none s.
    let rooms = rooms_on a c.take_items.new.self c.begin_finish.new.self d (c.in_ok-took.ensures.none (ap Ok none)).0 c.begin_finish.ensures.begins c.work.ensures.worked in
    let lt = ltb-true c.free-after.result c.free-room.result s in omega (arith, lt, after, room, rooms))
    c.if-moved.true

pub returns-else-moved-clause-still : goal.returns-else-moved-clause-still
returns-else-moved-clause-still g c = λ e.
    let o = c.args.self.now in
    let a = c.give-pushed.new.self in
    let d = c.work.new.self in
    let p = c.give-pushed.result in
    let q = c.in_ok-took.took in
    let s = nat_lt c.free-after.result c.free-room.result in
    let e1 = none_of (p || q) s c.if-moved.false in
    let e2 = none_of p q e1.0 in
    let stays = c.give-pushed.ensures.stays e2.0 in
    let room = c.free-room.ensures in
    let after = c.free-after.ensures in
    let given = c.give-pushed.ensures.room in
    let worked = (c.in_ok-took.ensures.none (ap Ok e2.1)).0 in
    let rooms = rooms_on a c.take_items.new.self c.begin_finish.new.self d worked c.begin_finish.ensures.begins c.work.ensures.worked in
    let more = ltb-false c.free-after.result c.free-room.result e1.1 in
    stilled o a c.take_items.new.self c.begin_finish.new.self d
    (subst (λ (b : Bool). Says b (sent_count (outputs_view o.outputs.items)) (sent_count (outputs_view a.outputs.items))) e2.0 c.give-pushed.ensures.pushed)
    c.give-pushed.ensures.inputs stays worked c.begin_finish.ensures.begins c.work.ensures.worked
    (omega (arith, more, after, room, rooms))

pub returns-else-moved-clause-same : goal.returns-else-moved-clause-same
returns-else-moved-clause-same g c = λ e.
    let p = c.give-pushed.result in
    let q = c.in_ok-took.took in
    let e1 = none_of (p || q) (nat_lt c.free-after.result c.free-room.result) c.if-moved.false in
    let e2 = none_of p q e1.0 in
    turn_stays g.P.Processor.stands g.P.Processor.amid g.P.Processor.takes c.args.self.now c.give-pushed.new.self c.take_items.new.self c.begin_finish.new.self c.work.new.self (c.give-pushed.ensures.same e2.0) (c.take_items.ensures.same (c.in_ok-took.was ∙ ap Ok e2.1)) c.begin_finish.ensures.keeps c.work.ensures.keeps

pub returns-else-moved-clause-idle : goal.returns-else-moved-clause-idle
returns-else-moved-clause-idle g c = λ e.
    let o = c.args.self.now in
    let a = c.give-pushed.new.self in
    let d = c.work.new.self in
    let p = c.give-pushed.result in
    let q = c.in_ok-took.took in
    let s = nat_lt c.free-after.result c.free-room.result in
    let e1 = none_of (p || q) s c.if-moved.false in
    let e2 = none_of p q e1.0 in
    let stays = c.give-pushed.ensures.stays e2.0 in
    let room = c.free-room.ensures in
    let after = c.free-after.ensures in
    let given = c.give-pushed.ensures.room in
    let roomy = c.requires.keeps.keeps.room in
    let none = c.in_ok-took.ensures.none (ap Ok e2.1) in
    let rooms = rooms_on a c.take_items.new.self c.begin_finish.new.self d none.0 c.begin_finish.ensures.begins c.work.ensures.worked in
    let more = ltb-false c.free-after.result c.free-room.result e1.1 in
    idles o a c.take_items.new.self c.begin_finish.new.self d c.in_ok-work.field-0
    (λ h. let is : c.has_ended.result ≡ true = c.has_ended.ensures.1 h in absurd (cc (is, c.if-has_ended.false)))
    c.give-pushed.ensures.step
    (let same : length o.outbox.items ≡ length a.outbox.items = ap (λ (xs : List Item). length xs) (sym stays) in omega (arith, same))
    (omega (arith, roomy, given))
    c.give-pushed.ensures.stops none.0 none.1 c.begin_finish.ensures.begins c.work.ensures.worked
    (λ t. c.in_ok-work.ensures.free (ap Ok t))
    (λ f. c.in_ok-work.ensures.full (ap Ok f))
    (omega (arith, more, after, room, rooms))

pub returns-then-has_ended-clause-turned : goal.returns-then-has_ended-clause-turned
returns-then-has_ended-clause-turned g c = turned_still g.P.Processor.same c.args.self.now c.args.self.now (g.met.P.Processor.same_refl c.args.self.now.processor) refl refl refl

pub returns-in_err-took-clause-turned : goal.returns-in_err-took-clause-turned
returns-in_err-took-clause-turned g c = turned_trans g.P.Processor.same g.met.P.Processor.same_trans c.args.self.now c.give-pushed.new.self c.take_items.new.self c.give-pushed.ensures.turned c.take_items.ensures.turned

pub returns-in_err-work-clause-turned : goal.returns-in_err-work-clause-turned
returns-in_err-work-clause-turned g c =
    let took = turned_trans g.P.Processor.same g.met.P.Processor.same_trans c.args.self.now c.give-pushed.new.self c.take_items.new.self c.give-pushed.ensures.turned c.take_items.ensures.turned in
    let begun = turned_trans g.P.Processor.same g.met.P.Processor.same_trans c.args.self.now c.take_items.new.self c.begin_finish.new.self took c.begin_finish.ensures.turned in
    turned_trans g.P.Processor.same g.met.P.Processor.same_trans c.args.self.now c.begin_finish.new.self c.work.new.self begun c.work.ensures.turned

pub returns-then-moved-clause-turned : goal.returns-then-moved-clause-turned
returns-then-moved-clause-turned g c =
    let took = turned_trans g.P.Processor.same g.met.P.Processor.same_trans c.args.self.now c.give-pushed.new.self c.take_items.new.self c.give-pushed.ensures.turned c.take_items.ensures.turned in
    let begun = turned_trans g.P.Processor.same g.met.P.Processor.same_trans c.args.self.now c.take_items.new.self c.begin_finish.new.self took c.begin_finish.ensures.turned in
    turned_trans g.P.Processor.same g.met.P.Processor.same_trans c.args.self.now c.begin_finish.new.self c.work.new.self begun c.work.ensures.turned

pub returns-else-moved-clause-turned : goal.returns-else-moved-clause-turned
returns-else-moved-clause-turned g c =
    let took = turned_trans g.P.Processor.same g.met.P.Processor.same_trans c.args.self.now c.give-pushed.new.self c.take_items.new.self c.give-pushed.ensures.turned c.take_items.ensures.turned in
    let begun = turned_trans g.P.Processor.same g.met.P.Processor.same_trans c.args.self.now c.take_items.new.self c.begin_finish.new.self took c.begin_finish.ensures.turned in
    turned_trans g.P.Processor.same g.met.P.Processor.same_trans c.args.self.now c.begin_finish.new.self c.work.new.self begun c.work.ensures.turned

pub returns-then-has_ended-clause-fair : goal.returns-then-has_ended-clause-fair
returns-then-has_ended-clause-fair g c = fair_none c.args.self.now c.args.self.now refl

pub returns-in_err-took-clause-fair : goal.returns-in_err-took-clause-fair
returns-in_err-took-clause-fair g c = fair_given c.args.self.now c.give-pushed.new.self c.take_items.new.self c.give-pushed.ensures.inputs c.give-pushed.ensures.next c.take_items.ensures.fair

pub returns-in_err-work-clause-fair : goal.returns-in_err-work-clause-fair
returns-in_err-work-clause-fair g c = fair_turn c.args.self.now c.give-pushed.new.self c.take_items.new.self c.begin_finish.new.self c.work.new.self c.give-pushed.ensures.inputs c.give-pushed.ensures.next c.take_items.ensures.fair c.begin_finish.ensures.begins c.work.ensures.worked

pub returns-then-moved-clause-fair : goal.returns-then-moved-clause-fair
returns-then-moved-clause-fair g c = fair_turn c.args.self.now c.give-pushed.new.self c.take_items.new.self c.begin_finish.new.self c.work.new.self c.give-pushed.ensures.inputs c.give-pushed.ensures.next c.take_items.ensures.fair c.begin_finish.ensures.begins c.work.ensures.worked

pub returns-else-moved-clause-fair : goal.returns-else-moved-clause-fair
returns-else-moved-clause-fair g c = fair_turn c.args.self.now c.give-pushed.new.self c.take_items.new.self c.begin_finish.new.self c.work.new.self c.give-pushed.ensures.inputs c.give-pushed.ensures.next c.take_items.ensures.fair c.begin_finish.ensures.begins c.work.ensures.worked
