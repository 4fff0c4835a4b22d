use Rattle.std.proofs.Common.{◌<ℤ◌, ◌-ℤ◌, ℤ, subst, FitsSigned, to_z-of_z, w64}
use Rattle.jet_items.specs.Order.{Each}
use Rattle.jet_items.specs.Values.{AccValue}
use Rattle.jet_window.specs.FrameTables.{Table}
use Rattle.jet_window.specs.Tables.{Place}
use Rattle.jet_window.specs.inner.Reached.{EnteredUntil, JoinedByKey}
use Rattle.jet_window.specs.inner.WindowOf.{WindowOf}
use Rattle.jet_window.proofs.Reaching.{none_entered, tracks_until, window_is, ok_more}
use Rattle.jet_window.proofs.held_frames.HeldFrames.window.Goals as goal

pub enter_until-requires-clause-entered : goal.enter_until-requires-clause-entered
enter_until-requires-clause-entered c = c.before-reached.ensures.tracks c.self.inside.frames c.self.invariant.1

pub invariant_of-self : goal.invariant_of-self
invariant_of-self c =
    let fits : FitsSigned w64 c.args.end = c.ranges.end in
    let entered = simp to_z-of_z at c.in-Ok.ensures in
    (c.self.invariant.0, tracks_until c.args.end c.in-Ok.reached c.self.inside.frames c.enter_until.new.slides.entries entered)

pub returns-in-Ok-clause-rows : goal.returns-in-Ok-clause-rows
returns-in-Ok-clause-rows c =
    let fits : FitsSigned w64 c.args.end = c.ranges.end in
    let inside : EnteredUntil c.args.end c.in-Ok.reached c.self.inside.frames c.enter_until.new.slides.entries = simp to_z-of_z at c.in-Ok.ensures in
    let entered : EnteredUntil c.args.end c.in-Ok.reached c.args.self.now c.enter_until.new.slides.entries = subst (λ (t : Table). EnteredUntil c.args.end c.in-Ok.reached t c.enter_until.new.slides.entries) c.self.view_is inside in
    ok_more (λ rows. JoinedByKey c.enter_until.new.slides.entries rows.items) (λ rows. (size : ℤ) → Each (λ (f : Place × AccValue). (c.args.end -ℤ size) <ℤ f.0.0) c.args.self.now → WindowOf size c.args.end c.args.self.now rows.items) c.rows_of.result
    (λ rows j size span. window_is size c.args.end c.in-Ok.reached c.args.self.now c.enter_until.new.slides.entries rows.items entered j span) c.rows_of.ensures

pub invariant_of-self-in-Err : goal.invariant_of-self-in-Err
invariant_of-self-in-Err c = (c.self.invariant.0, none_entered c.self.inside.frames c.new.result.entries c.new.ensures.empty)
