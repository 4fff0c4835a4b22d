use Rattle.std.proofs.Common.{rules, false, ℤ, ◌≤ℤ◌, sym, subst, refl, Ok, FitsSigned, to_z-of_z, w64}
use Rattle.jet_boxes.specs.Held.{BoxView}
use Rattle.jet_boxes.specs.Calls.{Call}
use Rattle.jet_boxes.specs.Entry.{MarkTold}
use Rattle.jet_window.specs.inner.FrameMoves.{Moved, StopsAbove}
use Rattle.jet_window.specs.Passing.{told_due}
use Rattle.jet_window.specs.FrameCalls.{Stands, Amid, Alike}
use Rattle.jet_window.proofs.FrameCalls.{moved_call, mark_call}
use Rattle.jet_window.proofs.frame.FramePProcessor.mark.Goals as goal

pub returns-then-not-give_closed-clause-call : goal.returns-then-not-give_closed-clause-call
returns-then-not-give_closed-clause-call c =
    let fits : FitsSigned w64 c.mark.inside.t = search rules in
    let moved = simp to_z-of_z at c.give_closed.ensures.moved in
    moved_call c.args.self.now c.give_closed.new.self c.mark.inside.t (MarkTold c.args.mark) c.args.out.now c.give_closed.new.out moved (λ taken e le. told_due taken c.args.mark e (subst (λ (t : ℤ). e ≤ℤ t) c.mark.view_is le))
    c.give_closed.ensures.vertex c.give_closed.ensures.times c.give_closed.ensures.room (c.give_closed.ensures.full c.if-not-give_closed.true)

pub returns-then-not-put-clause-call : goal.returns-then-not-put-clause-call
returns-then-not-put-clause-call c =
    let fits : FitsSigned w64 c.mark.inside.t = search rules in
    let moved = simp to_z-of_z at c.give_closed.ensures.moved in
    subst (λ (z : BoxView). Call Stands Amid Alike false c.args.self.now (MarkTold c.args.mark) c.args.out.now (Ok false) c.give_closed.new.self z) (sym (c.put.ensures.none c.if-not-put.true))
    (moved_call c.args.self.now c.give_closed.new.self c.mark.inside.t (MarkTold c.args.mark) c.args.out.now c.give_closed.new.out moved (λ taken e le. told_due taken c.args.mark e (subst (λ (t : ℤ). e ≤ℤ t) c.mark.view_is le))
    c.give_closed.ensures.vertex c.give_closed.ensures.times c.give_closed.ensures.room (c.put.ensures.full c.if-not-put.true))

pub returns-clause-call : goal.returns-clause-call
returns-clause-call c =
    let fits : FitsSigned w64 c.mark.inside.t = search rules in
    let moved = simp to_z-of_z at c.give_closed.ensures.moved in
    let stops = simp to_z-of_z at (c.give_closed.ensures.stops c.if-not-give_closed.false) in
    mark_call c.args.self.now c.give_closed.new.self _ c.args.mark c.args.out.now c.give_closed.new.out c.put.new.out
    (subst (λ (t : ℤ). Moved c.args.self.now.vertex t c.args.self.now.held c.args.out.now.items c.give_closed.new.self.held c.give_closed.new.out.items) c.mark.view_is moved)
    c.give_closed.ensures.vertex c.give_closed.ensures.times c.give_closed.ensures.room
    (subst (λ (t : ℤ). StopsAbove t c.give_closed.new.self.held) c.mark.view_is stops) refl c.take.ensures refl (c.put.ensures.yes c.if-not-put.false)
