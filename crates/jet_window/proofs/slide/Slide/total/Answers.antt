use Rattle.std.proofs.Common.{rules, ◌≡◌, ◌<◌, refl, sym, ◌∙◌, ap, subst, length, FitsSigned, to_z-of_z, to_z, of_z, w64}
use Rattle.std.specs.Int.{int_min, int_max, w128}
use Rattle.std.proofs.lemmas.Int.{SFits-int_wrap}
use Rattle.jet_window.specs.Slides.{joined_pairs}
use Rattle.jet_window.proofs.Extremes.{total_at, total_again}
use Rattle.jet_window.proofs.slide.Slide.total.Goals as goal

pub invariant_of-result : goal.invariant_of-result
invariant_of-result c =
    let long : 0 < length c.self.inside.entries.items = search rules in
    let low : to_z w64 (of_z w64 c.min.result) ≡ int_min c.in_ok-first.first.now.least c.self.inside.least = search rules in
    let high : to_z w64 (of_z w64 c.max.result) ≡ int_max c.in_ok-first.first.now.greatest c.self.inside.greatest = search rules in
    let t = total_at c.self.inside.entries.items c.in_ok-first.first.now c.self.inside.known c.self.inside.count c.self.inside.sum c.self.inside.least c.self.inside.greatest long c.in_ok-first.ensures.lookup c.self.invariant.0 c.self.invariant.1 in
    let again = total_again _ _ _ _ _ _ _ _ refl low high t in
    (again.least_within, again.greatest_within)

pub returns : goal.returns
returns c =
    let long : 0 < length c.self.inside.entries.items = search rules in
    let fits_sum : FitsSigned w128 c.self.inside.sum = subst (FitsSigned w128) (sym c.self.invariant.0.sum_is) (SFits-int_wrap w128 _) in
    let low : to_z w64 (of_z w64 c.min.result) ≡ int_min c.in_ok-first.first.now.least c.self.inside.least = search rules in
    let high : to_z w64 (of_z w64 c.max.result) ≡ int_max c.in_ok-first.first.now.greatest c.self.inside.greatest = search rules in
    let t = total_at c.self.inside.entries.items c.in_ok-first.first.now c.self.inside.known c.self.inside.count c.self.inside.sum c.self.inside.least c.self.inside.greatest long c.in_ok-first.ensures.lookup c.self.invariant.0 c.self.invariant.1 in
    let again = total_again _ _ _ _ _ _ _ _ (to_z-of_z fits_sum) low high t in
    again.value ∙ ap joined_pairs c.self.view_is
