use Rattle.std.proofs.Common.{refl, subst}
use Rattle.std.specs.Prelude.{IsSome}
use Rattle.jet_window.proofs.Reaching.{left_there, left_empty}
use Rattle.jet_window.proofs.held_frames.leave.Goals as goal

pub returns-then-left : goal.returns-then-left
returns-then-left c =
    left_empty c.args.slides.now.entries _ _ c.args.key.now c.in-Some.slide.now c.leave_first.new.self c.in-Some.ensures.value c.leave_first.ensures (c.is_empty-left.ensures.yes c.if-left.true)
    ((c.get_mut.follows.holds c.leave_first.new.self).3 (subst IsSome c.in-Some.ensures.value refl)).0 c.remove.ensures.updates.0

pub returns-else-left : goal.returns-else-left
returns-else-left c =
    left_there c.args.slides.now.entries _ c.args.key.now c.in-Some.slide.now c.leave_first.new.self c.in-Some.ensures.value c.leave_first.ensures (c.is_empty-left.ensures.no c.if-left.false)
    ((c.get_mut.follows.holds c.leave_first.new.self).3 (subst IsSome c.in-Some.ensures.value refl)).0
