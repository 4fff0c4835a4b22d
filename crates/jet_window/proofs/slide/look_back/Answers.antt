use Rattle.std.proofs.Common.{rules, arith, ◌≡◌, ◌+◌, ◌-◌, refl, sym, ◌∙◌, ap, subst, to_z, of_z, w64}
use Rattle.std.specs.Prelude.{slice_index_or}
use Rattle.std.specs.Int.{int_min, int_max}
use Rattle.jet_window.specs.declared.slide.Entry.{Entry}
use Rattle.jet_window.proofs.Extremes.{one_looked}
use Rattle.jet_window.proofs.slide.look_back.Goals as goal

pub loop-place-preserved : goal.loop-place-preserved
loop-place-preserved c =
    let at : (c.loop-place.place - 1) + 1 ≡ c.loop-place.place = omega arith in
    let low : to_z w64 (of_z w64 c.min-least.result) ≡ int_min (to_z w64 c.loop-place.least-bits) c.index_mut-entry.result.now.acc.min = search rules in
    let high : to_z w64 (of_z w64 c.max-greatest.result) ≡ int_max (to_z w64 c.loop-place.greatest-bits) c.index_mut-entry.result.now.acc.max = search rules in
    let is = subst (λ (x : Entry). x ≡ slice_index_or c.loop-place.entries.items (c.loop-place.place - 1) x) (sym c.entry.view_is) c.index_mut-entry.ensures.value in
    one_looked _ c.loop-place.entries.items _ c.loop-place.place _ _ _ _ _ _ at is (low ∙ ap (λ (x : Entry). int_min (to_z w64 c.loop-place.least-bits) x.acc.min) (sym c.entry.view_is))
    (high ∙ ap (λ (x : Entry). int_max (to_z w64 c.loop-place.greatest-bits) x.acc.max) (sym c.entry.view_is)) refl c.loop-place.invariant
