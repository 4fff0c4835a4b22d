use Rattle.std.proofs.Common.{rules, arith, ◌≡◌, ℤ, ◌≤ℤ◌, ◌<ℤ◌, filter, sym, ◌∙◌, ap, subst, FitsSigned, to_z, of_z, to_z-of_z, w64}
use Rattle.std.proofs.lemmas.Int.{ints}
use Rattle.std.specs.declared.ops.Bound.{Bound}
use Rattle.std.specs.declared.ops.Bound.TheVariants.{Unbounded}
use Rattle.std.specs.BTreeMap.Range.{entries_between}
use Rattle.jet_items.specs.Values.{AccValue}
use Rattle.jet_window.specs.FrameTables.{Table, Ordered}
use Rattle.jet_window.specs.Tables.{Place, place_cmp}
use Rattle.jet_window.specs.inner.Reached.{Enters, EnteredUntil}
use Rattle.jet_window.proofs.Reaching.{is_left, range_is, enters_first, one_entered, may_enter, entered_until, entered_all}
use Rattle.jet_window.proofs.open_frames.OpenFrames.enter_until.Goals as goal

pub loop-place-init : goal.loop-place-init
loop-place-init c =
    let fits : FitsSigned w64 c.args.end = c.ranges.end in
    let e : to_z w64 (of_z w64 c.args.end) ≡ c.args.end = to_z-of_z fits in
    let range : c.range-place-items.result ≡ filter (is_left c.args.reached) c.self.inside.accs.entries =
    c.range-place-items.ensures.between tt ∙ ap (λ (b : Bound Place). entries_between place_cmp b Unbounded c.self.inside.accs.entries) c.behind.ensures in
    let left : c.requires.entered.back ≡ c.into_iter-place-iterator.result =
    sym (range_is c.args.reached c.args.self.now c.args.slides.now.entries c.requires.entered) ∙ (ap (filter (is_left c.args.reached)) (sym c.self.view_is) ∙ (sym range ∙ sym c.into_iter-place-iterator.ensures.into_iter_gives)) in
    subst (λ (z : ℤ). Enters z c.args.reached c.args.self.now c.args.slides.now.entries c.into_iter-place-iterator.result) (sym e)
    (subst (λ (t : Table). Enters c.args.end c.args.reached c.args.self.now c.args.slides.now.entries t) left
    (enters_first c.args.end c.args.reached c.args.self.now c.args.slides.now.entries c.requires.entered c.requires.until))

pub loop-place-preserved : goal.loop-place-preserved
loop-place-preserved c =
    let fits : FitsSigned w64 c.in-Some.place.now.0 = search rules in
    let order : Ordered c.args.self.now = subst Ordered c.self.view_is c.self.invariant.ordered in
    let within : c.in-Some.place.now.0 ≤ℤ to_z w64 (of_z w64 c.args.end) = omega (arith, ints) in
    let f : Place × AccValue = (c.in-Some.place.now, c.in-Some.acc.now) in
    one_entered _ c.loop-place.last f c.args.self.now c.loop-place.place-iterator c.next.new.self c.loop-place.slides.entries c.enter.new.slides.entries order c.in-Some.ensures.steps within c.in_ok-enter.ensures c.loop-place.invariant

pub enter-requires : goal.enter-requires
enter-requires c =
    let order : Ordered c.args.self.now = subst Ordered c.self.view_is c.self.invariant.ordered in
    let f : Place × AccValue = (c.in-Some.place.now, c.in-Some.acc.now) in
    may_enter _ c.loop-place.last f c.args.self.now c.loop-place.place-iterator c.next.new.self c.loop-place.slides.entries order c.in-Some.ensures.steps c.loop-place.invariant

pub returns-then-end-place : goal.returns-then-end-place
returns-then-end-place c =
    let fits_end : FitsSigned w64 c.args.end = c.ranges.end in
    let fits : FitsSigned w64 c.in-Some.place.now.0 = search rules in
    let order : Ordered c.args.self.now = subst Ordered c.self.view_is c.self.invariant.ordered in
    let above : to_z w64 (of_z w64 c.args.end) <ℤ c.in-Some.place.now.0 = omega (arith, ints) in
    let f : Place × AccValue = (c.in-Some.place.now, c.in-Some.acc.now) in
    subst (λ (z : ℤ). EnteredUntil z c.loop-place.last c.args.self.now c.loop-place.slides.entries) (to_z-of_z fits_end)
    (entered_until _ c.loop-place.last f c.args.self.now c.loop-place.place-iterator c.next.new.self c.loop-place.slides.entries order c.in-Some.ensures.steps above c.loop-place.invariant)

pub returns : goal.returns
returns c =
    let fits_end : FitsSigned w64 c.args.end = c.ranges.end in
    subst (λ (z : ℤ). EnteredUntil z c.loop-place.last c.args.self.now c.loop-place.slides.entries) (to_z-of_z fits_end)
    (entered_all _ c.loop-place.last c.args.self.now c.loop-place.place-iterator c.loop-place.slides.entries c.in-None.ensures.steps.0 c.loop-place.invariant)
