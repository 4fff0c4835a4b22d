use Rattle.std.proofs.Common.{rules, ◌≡◌, true, false, Ok, sym, ◌∙◌, ap, subst, refl, FitsSigned, to_z-of_z, w64}
use Rattle.jet_items.specs.Values.{FrameValue}
use Rattle.jet_items.specs.declared.item.Item.{Item}
use Rattle.jet_items.specs.declared.item.Item.TheVariants as item
use Rattle.jet_boxes.specs.Entry.{Given}
use Rattle.jet_boxes.specs.Calls.{Call}
use Rattle.jet_boxes.specs.Held.{BoxView}
use Rattle.jet_window.specs.declared.combine.CombineP.{CombineP}
use Rattle.jet_window.specs.CombineCalls.{Stands, Amid, Alike}
use Rattle.jet_window.specs.CombineStands.{IsFrame}
use Rattle.jet_window.proofs.Giving.{when_err, rest_refl, rest_held}
use Rattle.jet_window.proofs.Calling.{frame_call, over_call, pass_call, not_frame, nothing_call, err_not_ok, no_yes}
use Rattle.jet_window.proofs.combine.CombinePProcessor.accept.Goals as goal

pub returns-in_ok-keep-clause-call : goal.returns-in_ok-keep-clause-call
returns-in_ok-keep-clause-call c =
    let fits : FitsSigned w64 c.frame.inside.end = search rules in
    let f : FrameValue = record { vertex = c.frame.inside.vertex; end = c.frame.inside.end; key = c.frame.inside.key; acc = c.frame.inside.acc } in
    let is : item.Frame f ≡ c.args.item.now = ap item.Frame c.frame.view_is ∙ sym c.in-Frame.is in
    let held = simp to_z-of_z at c.in_ok-keep.ensures.ok in
    let some = simp to_z-of_z at (c.has_window.ensures.yes c.if-has_window.true) in
    let s : CombineP = record c.args.self.now { held = c.keep.new.self } in
    subst (λ (x : Item). Call Stands Amid Alike false c.args.self.now (Given c.args._port c.args._queue x) c.args.out.now (Ok true) s c.args.out.now) is
    (frame_call c.args.self.now s c.args._port c.args._queue f c.args.out.now c.frame.invariant some (rest_held c.args.self.now c.keep.new.self) refl refl refl held)

pub returns-else-has_window-clause-call : goal.returns-else-has_window-clause-call
returns-else-has_window-clause-call c =
    let fits : FitsSigned w64 c.frame.inside.end = search rules in
    let f : FrameValue = record { vertex = c.frame.inside.vertex; end = c.frame.inside.end; key = c.frame.inside.key; acc = c.frame.inside.acc } in
    let is : item.Frame f ≡ c.args.item.now = ap item.Frame c.frame.view_is ∙ sym c.in-Frame.is in
    let over = simp to_z-of_z at (c.has_window.ensures.no c.if-has_window.false) in
    subst (λ (x : Item). Call Stands Amid Alike false c.args.self.now (Given c.args._port c.args._queue x) c.args.out.now (Ok true) c.args.self.now c.args.out.now) is
    (over_call c.args.self.now c.args._port c.args._queue f c.args.out.now over)

pub returns-in-Ok-clause-call : goal.returns-in-Ok-clause-call
returns-in-Ok-clause-call c =
    pass_call c.args.self.now c.args._port c.args._queue c.args.item.now c.args.out.now c.offer.new.self (not_frame c.args.item.now c.in_default.not-Frame) c.requires.3.2
    (ap (λ (b : BoxView). b.room) c.in-Ok.ensures.put) (ap (λ (b : BoxView). b.items) c.in-Ok.ensures.put)

pub returns-in_err-keep-clause-call : goal.returns-in_err-keep-clause-call
returns-in_err-keep-clause-call c =
    nothing_call c.args.self.now _ c.args._port c.args._queue c.args.item.now c.args.out.now c.from_residual.result (err_not_ok c.from_residual.result true c.from_residual.ensures.0)
    (λ e. absurd (err_not_ok c.from_residual.result false c.from_residual.ensures.0 e)) (rest_held c.args.self.now c.keep.new.self) refl refl c.in_err-keep.ensures.err refl

pub returns-in-Err-clause-call : goal.returns-in-Err-clause-call
returns-in-Err-clause-call c =
    subst (λ (z : BoxView). Call Stands Amid Alike false c.args.self.now (Given c.args._port c.args._queue c.args.item.now) c.args.out.now (Ok false) c.args.self.now z) (sym c.in-Err.ensures.kept)
    (nothing_call c.args.self.now c.args.self.now c.args._port c.args._queue c.args.item.now c.args.out.now (Ok false) no_yes (λ e. c.in-Err.ensures.full) (rest_refl c.args.self.now) refl refl refl refl)

pub returns-in_err-keep-clause-memory : goal.returns-in_err-keep-clause-memory
returns-in_err-keep-clause-memory c = when_err c.from_residual.result (subst IsFrame (sym c.in-Frame.is) tt)
