use Rattle.std.proofs.Common.{◌≡◌, false, sym, ◌∙◌, FitsSigned, to_z-of_z, w64}
use Rattle.jet_window.specs.Tables.{Place}
use Rattle.jet_window.specs.inner.Reached.{is_up_to}
use Rattle.jet_window.proofs.Opening.{kept_joined}
use Rattle.jet_window.proofs.Reaching.{none_entered, kept_behind}
use Rattle.jet_window.proofs.held_frames.HeldFrames.keep.Goals as goal

pub invariant_of-self-then-is_up_to : goal.invariant_of-self-then-is_up_to
invariant_of-self-then-is_up_to c =
    let fits : FitsSigned w64 c.args.end = c.ranges.end in
    let k : Place = (c.args.end, c.args.key.now) in
    let ok = simp to_z-of_z at c.in_ok-put.ensures.ok in
    (kept_joined k c.args.acc.now c.self.inside.frames _ c.self.invariant.0 c.requires ok, none_entered c.put.new.self c.new.result.entries c.new.ensures.empty)

pub invariant_of-self-else-is_up_to : goal.invariant_of-self-else-is_up_to
invariant_of-self-else-is_up_to c =
    let fits : FitsSigned w64 c.args.end = c.ranges.end in
    let k : Place = (c.args.end, c.args.key.now) in
    let ok = simp to_z-of_z at c.in_ok-put.ensures.ok in
    let tested = simp to_z-of_z at c.is_up_to.ensures in
    let later : is_up_to c.self.inside.reached k ≡ false = sym tested ∙ c.if-is_up_to.false in
    (kept_joined k c.args.acc.now c.self.inside.frames _ c.self.invariant.0 c.requires ok, kept_behind c.self.inside.reached k c.args.acc.now c.self.inside.frames _ c.self.inside.slides.entries ok later c.self.invariant.1)
