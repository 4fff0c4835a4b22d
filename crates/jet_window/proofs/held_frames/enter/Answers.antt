use Rattle.std.proofs.Common.{rules, ◌≡◌, ◌++◌, ◌∷◌, [], List, ℕ, cond, Some, refl, sym, ◌∙◌, ap, subst, FitsSigned, to_z-of_z, w64}
use Rattle.std.specs.Prelude.{IsSome}
use Rattle.std.specs.Map.{lookup}
use Rattle.std.specs.BTreeMap.{is_at}
use Rattle.std.specs.Ordering.{nat_cmp}
use Rattle.std.specs.Cmp.Lexicographic.{slice_cmp}
use Rattle.jet_window.specs.Slides.{Pair}
use Rattle.jet_window.specs.inner.Reached.{SlidesByKey}
use Rattle.jet_window.proofs.Reaching.{entered_there, entered_new}
use Rattle.jet_window.proofs.held_frames.enter.Goals as goal

pub returns : goal.returns
returns c =
    let fits : FitsSigned w64 c.args.place.now.0 = search rules in
    let same : c.get_mut.follows.lender-at-none.entries ≡ c.args.slides.now.entries = search rules in
    let ok = simp to_z-of_z at c.in_ok-enter-2.ensures.ok in
    let put = subst (λ (es : SlidesByKey). (q : List ℕ) → lookup (is_at (slice_cmp nat_cmp q)) c.insert.new.self.entries ≡ cond (is_at (slice_cmp nat_cmp c.args.place.now.1) q) (Some c.enter-2.new.self) (lookup (is_at (slice_cmp nat_cmp q)) es)) same c.in_ok-insert.ensures.updates.0 in
    entered_new c.args.slides.now.entries c.insert.new.self.entries (c.args.place.now, c.args.acc.now) c.enter-2.new.self (sym c.in_default.ensures.value)
    (ok ∙ ap (λ (ps : List Pair). ps ++ (c.args.place.now.0, c.args.acc.now) ∷ []) c.new-slide.ensures) put

pub returns-in-Some : goal.returns-in-Some
returns-in-Some c =
    let fits : FitsSigned w64 c.args.place.now.0 = search rules in
    let ok = simp to_z-of_z at c.in_ok-enter.ensures.ok in
    entered_there c.args.slides.now.entries _ (c.args.place.now, c.args.acc.now) c.in-Some.slide.now c.enter.new.self c.in-Some.ensures.value ok
    ((c.get_mut.follows.holds c.enter.new.self).3 (subst IsSome c.in-Some.ensures.value refl)).0
