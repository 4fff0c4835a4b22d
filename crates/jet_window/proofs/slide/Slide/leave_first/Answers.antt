use Rattle.std.proofs.Common.{rules, arith, ◌≡◌, ◌<◌, ◌-◌, ◌^◌, ℤ, ◌-ℤ◌, List, length, subst, sym, ap, ◌∙◌, refl, ◌∷◌, FitsSigned, to_z-of_z}
use Rattle.std.specs.Int.{int_wrap, w128}
use Rattle.std.proofs.lemmas.Int.{SFits-int_wrap}
use Rattle.jet_window.specs.Slides.{Runs}
use Rattle.jet_window.specs.declared.slide.Entry.{Entry}
use Rattle.jet_window.specs.inner.Extremes.{KnowsExtremes, pair_in, pairs_in}
use Rattle.jet_window.proofs.Extremes.{first_leaves_known, all_known}
use Rattle.jet_window.proofs.Sliding.{runs_pop, runs_at}
use Rattle.jet_window.proofs.slide.Slide.leave_first.Goals as goal

pub invariant_of-self-then-self-gt0 : goal.invariant_of-self-then-self-gt0
invariant_of-self-then-self-gt0 c =
    let items : c.self.inside.entries.items ≡ c.in-Some.first ∷ c.pop_front.new.self.items = c.in-Some.ensures.items in
    let fits : FitsSigned w128 c.deduct-count.result.1 = subst (FitsSigned w128) (sym c.deduct-count.ensures.sum) (SFits-int_wrap w128 _) in
    let fits_sum : FitsSigned w128 c.self.inside.sum = subst (FitsSigned w128) (sym c.self.invariant.0.sum_is) (SFits-int_wrap w128 _) in
    let sum = ap (λ (z : ℤ). int_wrap w128 (z -ℤ c.in-Some.first.acc.sum)) (to_z-of_z fits_sum) in
    let low : c.deduct-count.result.0 < 2 ^ 64 = search rules in
    let some : 0 < c.self.inside.known - 1 = omega arith in (
      runs_at _ _ _ _ _ _ refl refl (to_z-of_z fits)
          (runs_pop (pair_in c.in-Some.first) (pairs_in c.pop_front.new.self.items) c.self.inside.count c.deduct-count.result.0 c.self.inside.sum c.deduct-count.result.1
          (subst (λ (es : List Entry). Runs (pairs_in es) c.self.inside.count c.self.inside.sum) items c.self.invariant.0) low c.deduct-count.ensures.count (c.deduct-count.ensures.sum ∙ sum)),
      first_leaves_known c.in-Some.first c.pop_front.new.self.items c.self.inside.known c.self.inside.least c.self.inside.greatest some
          (subst (λ (es : List Entry). KnowsExtremes es c.self.inside.known c.self.inside.least c.self.inside.greatest) items c.self.invariant.1),
    )

pub invariant_of-self-2 : goal.invariant_of-self-2
invariant_of-self-2 c =
    let items : c.self.inside.entries.items ≡ c.in-Some.first ∷ c.pop_front.new.self.items = c.in-Some.ensures.items in
    let fits : FitsSigned w128 c.deduct-count.result.1 = subst (FitsSigned w128) (sym c.deduct-count.ensures.sum) (SFits-int_wrap w128 _) in
    let fits_sum : FitsSigned w128 c.self.inside.sum = subst (FitsSigned w128) (sym c.self.invariant.0.sum_is) (SFits-int_wrap w128 _) in
    let sum = ap (λ (z : ℤ). int_wrap w128 (z -ℤ c.in-Some.first.acc.sum)) (to_z-of_z fits_sum) in
    let low : c.deduct-count.result.0 < 2 ^ 64 = search rules in
    let long : c.len-self-inside.result ≡ length c.look_back.new.entries.items = search rules in
    let before = subst (λ (es : List Entry). KnowsExtremes es c.self.inside.known c.self.inside.least c.self.inside.greatest) items c.self.invariant.1 in (
      runs_at _ _ _ _ _ _ c.look_back.ensures.pairs refl (to_z-of_z fits)
          (runs_pop (pair_in c.in-Some.first) (pairs_in c.pop_front.new.self.items) c.self.inside.count c.deduct-count.result.0 c.self.inside.sum c.deduct-count.result.1
          (subst (λ (es : List Entry). Runs (pairs_in es) c.self.inside.count c.self.inside.sum) items c.self.invariant.0) low c.deduct-count.ensures.count (c.deduct-count.ensures.sum ∙ sum)),
      all_known c.look_back.new.entries.items c.pop_front.new.self.items c.len-self-inside.result long c.look_back.ensures.pairs c.look_back.ensures.know before.fits.1,
    )
