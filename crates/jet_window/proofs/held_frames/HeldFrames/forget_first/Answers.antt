use Rattle.std.proofs.Common.{◌≡◌, ◌∷◌, sym, ◌∙◌}
use Rattle.jet_items.specs.Values.{AccValue}
use Rattle.jet_window.specs.Tables.{Place}
use Rattle.jet_window.proofs.Reaching.{kept_rest, first_left, first_apart}
use Rattle.jet_window.proofs.held_frames.HeldFrames.forget_first.Goals as goal

pub invariant_of-self : goal.invariant_of-self
invariant_of-self c =
    let f : Place × AccValue = (c.in-Some.place, c.in-Some.field-0-1) in
    let is : c.self.inside.frames ≡ f ∷ c.take_first.new.self = c.in-Some.ensures.some in (
      kept_rest f c.self.inside.frames c.take_first.new.self is c.self.invariant.0,
      first_left c.self.inside.reached f c.self.inside.frames c.take_first.new.self c.self.inside.slides.entries c.leave.new.slides.entries is (sym c.is_up_to.ensures ∙ c.if-is_up_to.true) c.leave.ensures c.self.invariant.1,
    )

pub invariant_of-self-else-is_up_to : goal.invariant_of-self-else-is_up_to
invariant_of-self-else-is_up_to c =
    let f : Place × AccValue = (c.in-Some.place, c.in-Some.field-0-1) in
    let is : c.self.inside.frames ≡ f ∷ c.take_first.new.self = c.in-Some.ensures.some in (
      kept_rest f c.self.inside.frames c.take_first.new.self is c.self.invariant.0,
      first_apart c.self.inside.reached f c.self.inside.frames c.take_first.new.self c.self.inside.slides.entries is (sym c.is_up_to.ensures ∙ c.if-is_up_to.false) c.self.invariant.1,
    )
