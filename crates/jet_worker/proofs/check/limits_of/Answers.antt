use Rattle.std.proofs.Common.{rules, arith, ◌≡◌, ◌≤◌, ℕ, pos, ap, sym, ◌∙◌, subst, to_z, w64, of_z, to_z-of_z, FitsSigned}
use Rattle.std.specs.Prelude.{unsigned_abs}
use Rattle.std.proofs.lemmas.Int.{ints, fits_signed_from_abs}
use Rattle.jet_lines.specs.Files.{most_lines}
use Rattle.jet_flow.specs.Grain.{IsGrain}
use Rattle.jet_plan.specs.declared.dag.Dag.{Dag}
use Rattle.jet_plan.specs.declared.settings.Settings.{Settings}
use Rattle.jet_worker.proofs.PlanLemmas.{lines_within, unit_is, unit_within}
use Rattle.jet_worker.proofs.check.limits_of.Goals as goal

most_is : (c : goal.After-unsigned_abs-most) → (c.args.plan.now.settings.lines ≡ pos c.unsigned_abs-most.result) × (c.unsigned_abs-most.result ≤ most_lines)
most_is c =
    let within = lines_within c.args.plan.now.dag c.args.plan.now.settings c.dag.ensures.valid in
    let lines = c.args.plan.now.settings.lines in
    let fits : FitsSigned w64 lines = fits_signed_from_abs w64 lines (omega (arith, within.1)) in
    let value : c.unsigned_abs-most.result ≡ unsigned_abs lines =
    subst (λ (s : Settings). c.unsigned_abs-most.result ≡ unsigned_abs (to_z w64 (of_z w64 s.lines))) c.settings.ensures c.unsigned_abs-most.ensures.value
    ∙ ap unsigned_abs (to_z-of_z fits) in
    (within.0 ∙ ap pos (sym value), subst (λ (n : ℕ). n ≤ most_lines) (sym value) within.1)

unit_of : (c : goal.After-unsigned_abs-most) → IsGrain c.args.plan.now.dag c.grain-unit.result
unit_of c = subst (λ (d : Dag). IsGrain d c.grain-unit.result) c.dag.ensures.dag c.grain-unit.ensures

bounds_of : (c : goal.After-unsigned_abs-most) → (1 ≤ c.grain-unit.result) × (c.grain-unit.result ≤ 1000000000000)
bounds_of c = unit_within c.args.plan.now.dag c.args.plan.now.settings c.grain-unit.result c.dag.ensures.valid (unit_of c)

unit_same : (c : goal.After-unsigned_abs-most) → to_z w64 c.grain-unit.result ≡ pos c.grain-unit.result
unit_same c = let bounds = bounds_of c in omega (arith, ints, bounds.1)

pub overflow_cast-result : goal.overflow_cast-result
overflow_cast-result c = let small = (most_is c).1 in search rules

pub overflow_cast-result-2 : goal.overflow_cast-result-2
overflow_cast-result-2 c = let bounds = bounds_of c in fits_signed_from_abs w64 (pos c.grain-unit.result) (omega (arith, bounds.1))

pub returns-clause-most : goal.returns-clause-most
returns-clause-most c = (most_is c).0

pub returns-clause-most_bound : goal.returns-clause-most_bound
returns-clause-most_bound c = (most_is c).1

pub returns-clause-unit : goal.returns-clause-unit
returns-clause-unit c = λ unit h. unit_same c ∙ ap pos (unit_is c.args.plan.now.dag c.grain-unit.result unit (unit_of c) h)

pub returns-clause-unit_bound : goal.returns-clause-unit_bound
returns-clause-unit_bound c = let bounds = bounds_of c in let same = unit_same c in (omega (arith, ints, bounds.0, same), omega (arith, ints, bounds.1, same))

pub returns-clause-checks : goal.returns-clause-checks
returns-clause-checks c = λ check is.
    (ap unsigned_abs (sym is.most ∙ (most_is c).0), unit_same c ∙ ap pos (unit_is c.args.plan.now.dag c.grain-unit.result check.unit (unit_of c) is.unit))
