use Rattle.std.proofs.Common.{rules, arith, ◌≡◌, ◌+◌, ◌%◌, ◌^◌, ◌++◌, ◌∷◌, [], List, ◌+ℤ◌, ◌<ℤ◌, subst, sym, ap, ◌∙◌, FitsSigned, to_z-of_z, to_z, of_z, w64}
use Rattle.std.specs.Int.{int_wrap, int_min, int_max, w128}
use Rattle.std.proofs.lemmas.Int.{wraps}
use Rattle.jet_items.specs.Order.{Each}
use Rattle.jet_items.specs.Values.{AccValue}
use Rattle.jet_window.specs.Slides.{Pair}
use Rattle.jet_window.specs.declared.slide.Entry.{Entry}
use Rattle.jet_window.specs.inner.Extremes.{KnowsExtremes, pairs_in}
use Rattle.jet_window.proofs.Extremes.{pushed, first_enters, next_enters, at_extremes}
use Rattle.jet_window.proofs.Sliding.{runs_push, runs_at}
use Rattle.jet_window.proofs.slide.Slide.enter.Goals as goal

pub invariant_of-self-then-self-eq0 : goal.invariant_of-self-then-self-eq0
invariant_of-self-then-self-eq0 c =
    let fits : FitsSigned w64 c.args.end = c.ranges.end in
    let fits_min : FitsSigned w64 c.acc.inside.min = search rules in
    let fits_max : FitsSigned w64 c.acc.inside.max = search rules in
    let e : Entry = record { end = c.args.end; acc = c.args.acc; least = c.acc.inside.min; greatest = c.acc.inside.max } in
    let items : c.push_back.new.self.items ≡ c.self.inside.entries.items ++ e ∷ [] = simp to_z-of_z at c.in_ok-push_back.ensures.items in
    let counts : (c.self.inside.count + c.acc.inside.count) % 2 ^ 64 ≡ (c.self.inside.count + c.args.acc.count) % 2 ^ 64 = ap (λ (a : AccValue). (c.self.inside.count + a.count) % 2 ^ 64) c.acc.view_is in
    let sums : to_z w128 ((of_z w128 c.self.inside.sum + of_z w128 c.acc.inside.sum) % 340282366920938463463374607431768211456) ≡ int_wrap w128 (c.self.inside.sum +ℤ c.acc.inside.sum) = search (rules, wraps) in
    let zero : c.self.inside.known ≡ 0 = omega arith in (
      runs_at _ _ _ _ _ _ (pushed c.self.inside.entries.items _ e items) counts (sums ∙ ap (λ (a : AccValue). int_wrap w128 (c.self.inside.sum +ℤ a.sum)) c.acc.view_is)
          (runs_push (pairs_in c.self.inside.entries.items) c.self.inside.count c.self.inside.sum (c.args.end, c.args.acc) (subst (Each (λ (p : Pair). p.0 <ℤ c.args.end)) (sym c.self.view_is) c.requires) c.self.invariant.0),
      subst (λ (es : List Entry). KnowsExtremes es 1 c.self.inside.least c.self.inside.greatest) (sym items)
          (first_enters c.self.inside.entries.items c.self.inside.known c.self.inside.least c.self.inside.greatest e zero c.fits.ensures (ap (λ (a : AccValue). a.min) c.acc.view_is) (ap (λ (a : AccValue). a.max) c.acc.view_is) c.self.invariant.1),
    )

pub returns-then-self-eq0-clause-ok : goal.returns-then-self-eq0-clause-ok
returns-then-self-eq0-clause-ok c =
    let fits : FitsSigned w64 c.args.end = c.ranges.end in
    let fits_min : FitsSigned w64 c.acc.inside.min = search rules in
    let fits_max : FitsSigned w64 c.acc.inside.max = search rules in
    let e : Entry = record { end = c.args.end; acc = c.args.acc; least = c.acc.inside.min; greatest = c.acc.inside.max } in
    let items : c.push_back.new.self.items ≡ c.self.inside.entries.items ++ e ∷ [] = simp to_z-of_z at c.in_ok-push_back.ensures.items in
    pushed c.self.inside.entries.items _ e items ∙ ap (λ (ps : List Pair). ps ++ (c.args.end, c.args.acc) ∷ []) c.self.view_is

pub invariant_of-self-2 : goal.invariant_of-self-2
invariant_of-self-2 c =
    let fits : FitsSigned w64 c.args.end = c.ranges.end in
    let fits_min : FitsSigned w64 c.acc.inside.min = search rules in
    let fits_max : FitsSigned w64 c.acc.inside.max = search rules in
    let e : Entry = record { end = c.args.end; acc = c.args.acc; least = c.acc.inside.min; greatest = c.acc.inside.max } in
    let items : c.push_back.new.self.items ≡ c.self.inside.entries.items ++ e ∷ [] = simp to_z-of_z at c.in_ok-push_back.ensures.items in
    let counts : (c.self.inside.count + c.acc.inside.count) % 2 ^ 64 ≡ (c.self.inside.count + c.args.acc.count) % 2 ^ 64 = ap (λ (a : AccValue). (c.self.inside.count + a.count) % 2 ^ 64) c.acc.view_is in
    let sums : to_z w128 ((of_z w128 c.self.inside.sum + of_z w128 c.acc.inside.sum) % 340282366920938463463374607431768211456) ≡ int_wrap w128 (c.self.inside.sum +ℤ c.acc.inside.sum) = search (rules, wraps) in
    let low : to_z w64 (of_z w64 c.min-self-inside.result) ≡ int_min c.self.inside.least c.acc.inside.min = search rules in
    let high : to_z w64 (of_z w64 c.max-self-inside.result) ≡ int_max c.self.inside.greatest c.acc.inside.max = search rules in
    let some : c.self.inside.known ≡ 0 → ⊥ = λ z. absurd (omega arith) in (
      runs_at _ _ _ _ _ _ (pushed c.self.inside.entries.items _ e items) counts (sums ∙ ap (λ (a : AccValue). int_wrap w128 (c.self.inside.sum +ℤ a.sum)) c.acc.view_is)
          (runs_push (pairs_in c.self.inside.entries.items) c.self.inside.count c.self.inside.sum (c.args.end, c.args.acc) (subst (Each (λ (p : Pair). p.0 <ℤ c.args.end)) (sym c.self.view_is) c.requires) c.self.invariant.0),
      at_extremes _ _ _ _ _ _ _ items (low ∙ ap (λ (a : AccValue). int_min c.self.inside.least a.min) c.acc.view_is) (high ∙ ap (λ (a : AccValue). int_max c.self.inside.greatest a.max) c.acc.view_is)
          (next_enters c.self.inside.entries.items c.self.inside.known c.self.inside.least c.self.inside.greatest e some c.fits.ensures c.self.invariant.1),
    )

pub returns-clause-ok : goal.returns-clause-ok
returns-clause-ok c =
    let fits : FitsSigned w64 c.args.end = c.ranges.end in
    let fits_min : FitsSigned w64 c.acc.inside.min = search rules in
    let fits_max : FitsSigned w64 c.acc.inside.max = search rules in
    let e : Entry = record { end = c.args.end; acc = c.args.acc; least = c.acc.inside.min; greatest = c.acc.inside.max } in
    let items : c.push_back.new.self.items ≡ c.self.inside.entries.items ++ e ∷ [] = simp to_z-of_z at c.in_ok-push_back.ensures.items in
    pushed c.self.inside.entries.items _ e items ∙ ap (λ (ps : List Pair). ps ++ (c.args.end, c.args.acc) ∷ []) c.self.view_is
