use Rattle.std.proofs.Common.{rules, arith, ◌≡◌, ℤ, sym, ◌∙◌, subst, pos, ◌+ℤ◌, ◌≤ℤ◌, ◌<ℤ◌, FitsSigned, to_z, of_z, to_z-of_z, w64}
use Rattle.std.proofs.lemmas.Int.{ints}
use Rattle.jet_items.specs.Ranges.{IsWithin, most_frame_end}
use Rattle.jet_policy.specs.Policy.{IsPolicy}
use Rattle.jet_window.specs.FrameTables.{IsKept}
use Rattle.jet_window.specs.inner.NextEnds.{IsEndAbove, IsNextEnd}
use Rattle.jet_window.specs.Combining.{Forgets}
use Rattle.jet_window.proofs.Ending.{first_within, next_end_at, forget_at, fewer_left, nothing_first, Forgets-trans}
use Rattle.jet_window.proofs.combine.CombineP.next_end.Goals as goal

pub end_above-next-requires : goal.end_above-next-requires
end_above-next-requires c =
    let fits_end : FitsSigned w64 c.in-Some.end = search rules in
    let kept : IsKept c.loop-end.self.held = c.loop-end.invariant.forgets.kept c.requires in
    let range : IsWithin most_frame_end c.in-Some.end = first_within c.loop-end.self.held c.in-Some.end (sym c.first_end.ensures ∙ c.in-Some.is) kept in
    simp to_z-of_z range

pub overflow_add-end : goal.overflow_add-end
overflow_add-end c =
    let fits_end : FitsSigned w64 c.in-Some.end = search rules in
    let kept : IsKept c.loop-end.self.held = c.loop-end.invariant.forgets.kept c.requires in
    let range : IsWithin most_frame_end c.in-Some.end = first_within c.loop-end.self.held c.in-Some.end (sym c.first_end.ensures ∙ c.in-Some.is) kept in
    let policy : IsPolicy c.loop-end.self.policy.size c.loop-end.self.policy.slide = c.size.ensures.policy in
    let a : c.size.result ≤ℤ pos 1000000000000 = omega (arith, ints) in
    let b : pos 1 ≤ℤ c.size.result = omega (arith, ints) in
    omega (arith, ints)

pub returns-then-next-end-clause-some : goal.returns-then-next-end-clause-some
returns-then-next-end-clause-some c =
    let fits_end : FitsSigned w64 c.in-Some.end = search rules in
    let fits_next : FitsSigned w64 c.end_above-next.result = record { sfits = c.end_above-next.type_inv } in
    let kept : IsKept c.loop-end.self.held = c.loop-end.invariant.forgets.kept c.requires in
    let is = sym c.first_end.ensures ∙ c.in-Some.is in
    let range : IsWithin most_frame_end c.in-Some.end = first_within c.loop-end.self.held c.in-Some.end is kept in
    let policy : IsPolicy c.loop-end.self.policy.size c.loop-end.self.policy.slide = c.size.ensures.policy in
    let size : c.size.result ≡ c.loop-end.self.policy.size = c.size.ensures.value in
    let end : to_z w64 (of_z w64 c.in-Some.end) ≡ c.in-Some.end = omega (arith, ints) in
    let next : c.end_above-next.result ≡ to_z w64 (of_z w64 c.end_above-next.result) = omega (arith, ints) in
    let most : c.loop-end.self.policy.size ≤ℤ pos 1000000000000 = policy.size_high in
    let some : pos 1 ≤ℤ c.loop-end.self.policy.size = policy.size_low in
    let lt : c.end_above-next.result <ℤ (c.in-Some.end +ℤ c.loop-end.self.policy.size) = omega (arith, ints) in
    let above : IsEndAbove c.loop-end.self.policy.slide c.loop-end.self.passed c.in-Some.end c.end_above-next.result = subst (λ (z : ℤ). IsEndAbove c.loop-end.self.policy.slide c.loop-end.self.passed z c.end_above-next.result) end c.end_above-next.ensures in
    rw (← c.loop-end.invariant.rest.policy, ← c.loop-end.invariant.passed)
    (subst (λ (z : ℤ). IsNextEnd c.loop-end.self.policy.size c.loop-end.self.policy.slide c.loop-end.self.passed c.loop-end.self.held z) next
    (next_end_at c.loop-end.self.policy.size c.loop-end.self.policy.slide c.loop-end.self.passed c.loop-end.self.held c.in-Some.end c.end_above-next.result is kept above lt policy))

pub loop-end-preserved : goal.loop-end-preserved
loop-end-preserved c =
    let fits_end : FitsSigned w64 c.in-Some.end = search rules in
    let fits_next : FitsSigned w64 c.end_above-next.result = record { sfits = c.end_above-next.type_inv } in
    let kept : IsKept c.loop-end.self.held = c.loop-end.invariant.forgets.kept c.requires in
    let is = sym c.first_end.ensures ∙ c.in-Some.is in
    let range : IsWithin most_frame_end c.in-Some.end = first_within c.loop-end.self.held c.in-Some.end is kept in
    let policy : IsPolicy c.loop-end.self.policy.size c.loop-end.self.policy.slide = c.size.ensures.policy in
    let size : c.size.result ≡ c.loop-end.self.policy.size = c.size.ensures.value in
    let end : to_z w64 (of_z w64 c.in-Some.end) ≡ c.in-Some.end = omega (arith, ints) in
    let most : c.loop-end.self.policy.size ≤ℤ pos 1000000000000 = policy.size_high in
    let some : pos 1 ≤ℤ c.loop-end.self.policy.size = policy.size_low in
    let le : (c.in-Some.end +ℤ c.loop-end.self.policy.size) ≤ℤ c.end_above-next.result = omega (arith, ints) in
    let above : IsEndAbove c.loop-end.self.policy.slide c.loop-end.self.passed c.in-Some.end c.end_above-next.result = subst (λ (z : ℤ). IsEndAbove c.loop-end.self.policy.slide c.loop-end.self.passed z c.end_above-next.result) end c.end_above-next.ensures in
    let one : Forgets c.loop-end.self.policy.size c.loop-end.self.policy.slide c.loop-end.self.passed c.loop-end.self.held c.forget_first.new.self =
    forget_at c.loop-end.self.policy.size c.loop-end.self.policy.slide c.loop-end.self.passed c.loop-end.self.held c.forget_first.new.self c.in-Some.end c.end_above-next.result is c.forget_first.ensures above le in
    let two : Forgets c.args.self.now.policy.size c.args.self.now.policy.slide c.args.self.now.passed c.loop-end.self.held c.forget_first.new.self = rw (← c.loop-end.invariant.rest.policy, ← c.loop-end.invariant.passed) one in
    record {
      rest = record { vertex = c.loop-end.invariant.rest.vertex; policy = c.loop-end.invariant.rest.policy; begun = c.loop-end.invariant.rest.begun; start = c.loop-end.invariant.rest.start; last = c.loop-end.invariant.rest.last };
      passed = c.loop-end.invariant.passed;
      end = c.loop-end.invariant.end;
      ready = c.loop-end.invariant.ready;
      forgets = Forgets-trans c.args.self.now.policy.size c.args.self.now.policy.slide c.args.self.now.passed c.args.self.now.held c.loop-end.self.held c.forget_first.new.self c.loop-end.invariant.forgets two;
    }

pub loop-end-smaller : goal.loop-end-smaller
loop-end-smaller c = fewer_left c.loop-end.self.held c.forget_first.new.self c.in-Some.end (sym c.first_end.ensures ∙ c.in-Some.is) c.forget_first.ensures

pub returns-clause-none : goal.returns-clause-none
returns-clause-none c = nothing_first c.loop-end.self.held (sym c.first_end.ensures ∙ c.in_default.is)
