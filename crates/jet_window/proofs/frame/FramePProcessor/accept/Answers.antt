use Rattle.std.proofs.Common.{rules, arith, get_or, slice_index_or, pos, ◌≡◌, true, false, ℤ, sym, ◌∙◌, ap, subst, refl, Ok, FitsSigned, to_z-of_z, w64}
use Rattle.std.proofs.lemmas.Int.{ints}
use Rattle.jet_boxes.specs.Calls.{Call}
use Rattle.jet_boxes.specs.Entry.{Given}
use Rattle.jet_items.specs.Values.{AccValue, EventValue}
use Rattle.jet_items.specs.declared.item.Item.{Item}
use Rattle.jet_items.specs.declared.item.Item.TheVariants as item
use Rattle.jet_items.specs.Rows.{first_value}
use Rattle.jet_items.specs.Totals.{one}
use Rattle.jet_items.specs.Frames.{frame_end}
use Rattle.jet_items.specs.Ranges.{IsWithin, most_time, most_frame_end}
use Rattle.jet_window.specs.FrameTables.{joined_in}
use Rattle.jet_window.specs.declared.frame.FrameP.{FrameP}
use Rattle.jet_window.specs.FrameCalls.{Stands, Amid, Alike}
use Rattle.jet_window.proofs.FrameCalls.{pass_call, late_call, kept_call, err_call, not_event, first_within}
use Rattle.jet_window.proofs.frame.FramePProcessor.accept.Goals as goal

pub returns-in_default-clause-call : goal.returns-in_default-clause-call
returns-in_default-clause-call c = pass_call c.args.self.now c.args._port c.args._queue c.args.item.now c.args.out.now c.put.new.out c.put.result (not_event c.args.item.now c.in_default.not-Event) c.requires.3.2 c.put.ensures.yes c.put.ensures.none c.put.ensures.full

pub one-requires : goal.one-requires
one-requires c =
    let within : IsWithin most_time (slice_index_or c.event.inside.v 0 (pos 0)) = first_within c.event.inside.v c.event.invariant.1 in
    let fits : FitsSigned w64 (slice_index_or c.event.inside.v 0 (pos 0)) = search rules in
    let a = within.0 in
    let b = within.1 in
    (omega (arith, ints), omega (arith, ints))

pub returns-then-is_late-clause-call : goal.returns-then-is_late-clause-call
returns-then-is_late-clause-call c =
    let fits : FitsSigned w64 c.event.inside.ts = search rules in
    let tested = simp to_z-of_z at c.is_late.ensures.value in
    let e : EventValue = record { part = c.event.inside.part; line = c.event.inside.line; ts = c.event.inside.ts; key = c.event.inside.key; v = c.event.inside.v } in
    let is : item.Event e ≡ c.args.item.now = ap item.Event c.event.view_is ∙ sym c.in-Event.is in
    subst (λ (x : Item). Call Stands Amid Alike false c.args.self.now (Given c.args._port c.args._queue x) c.args.out.now (Ok c.put-then-is_late.result) c.args.self.now c.put-then-is_late.new.out) is
    (late_call c.args.self.now c.args._port c.args._queue e c.args.out.now c.put-then-is_late.new.out c.put-then-is_late.result c.is_late.ensures.policy.slide_low (sym tested ∙ c.if-is_late.true) c.put-then-is_late.ensures.yes c.put-then-is_late.ensures.none c.put-then-is_late.ensures.full)

pub returns-clause-call : goal.returns-clause-call
returns-clause-call c =
    let fits : FitsSigned w64 c.event.inside.ts = search rules in
    let fits_end : FitsSigned w64 c.frame_end-end.result = record { sfits = c.frame_end-end.type_inv } in
    let tested = simp to_z-of_z at c.is_late.ensures.value in
    let e : EventValue = record { part = c.event.inside.part; line = c.event.inside.line; ts = c.event.inside.ts; key = c.event.inside.key; v = c.event.inside.v } in
    let is : item.Event e ≡ c.args.item.now = ap item.Event c.event.view_is ∙ sym c.in-Event.is in
    let end : ℤ = frame_end c.args.self.now.times.policy.slide c.event.inside.ts in
    let value : c.frame_end-end.result ≡ end = simp to_z-of_z at c.frame_end-end.ensures.value in
    let range : IsWithin most_frame_end end = subst (IsWithin most_frame_end) value c.frame_end-end.ensures.range in
    let ok = simp to_z-of_z at c.in_ok-keep.ensures.ok in
    let fits_v : FitsSigned w64 (get_or c.event.inside.v 0 (pos 0)) = search rules in
    let one_is : c.one.result ≡ one (first_value e) = simp to_z-of_z at c.one.ensures.value in
    let s : FrameP = record c.args.self.now { times = c.frame_end-end.new.self; held = c.keep.new.self } in
    let held : c.keep.new.self ≡ joined_in c.args.self.now.held (end, c.event.inside.key) (one (first_value e)) =
    ok ∙ (ap (λ (z : ℤ). joined_in c.args.self.now.held (z, c.event.inside.key) c.one.result) value ∙ ap (λ (x : AccValue). joined_in c.args.self.now.held (end, c.event.inside.key) x) one_is) in
    subst (λ (x : Item). Call Stands Amid Alike false c.args.self.now (Given c.args._port c.args._queue x) c.args.out.now (Ok true) s c.args.out.now) is
    (kept_call c.args.self.now s c.args._port c.args._queue e c.args.out.now c.is_late.ensures.policy.slide_low (sym tested ∙ c.if-is_late.false) range refl c.frame_end-end.ensures.same held)

pub returns-in_err-keep-clause-call : goal.returns-in_err-keep-clause-call
returns-in_err-keep-clause-call c = err_call c.args.self.now _ (Given c.args._port c.args._queue c.args.item.now) c.args.out.now c.from_residual.result c.from_residual.ensures.0 refl c.frame_end-end.ensures.same c.in_err-keep.ensures.err
