use Rattle.std.proofs.Common.{rules, arith, ◌≡◌, ◌<◌, ◌∙◌, [], ℤ, Option, Some, refl, sym, subst, ◌≤ℤ◌, ◌<ℤ◌, FitsSigned, to_z, of_z, to_z-of_z, w64}
use Rattle.std.proofs.lemmas.Int.{ints}
use Rattle.jet_items.specs.Ranges.{IsWithin, most_row_end}
use Rattle.jet_window.specs.declared.combine.CombineP.{CombineP}
use Rattle.jet_window.specs.FrameTables.{IsKept}
use Rattle.jet_window.specs.inner.NextEnds.{IsNextEnd, gap}
use Rattle.jet_window.specs.CombineStands.{Gave}
use Rattle.jet_window.proofs.Standing.{Gave-refl, Gave-trans}
use Rattle.jet_window.specs.CombineView.{combine_of}
use Rattle.jet_window.specs.Combining.{Clear, Passes, OpenAbove}
use Rattle.jet_window.proofs.Giving.{rest_refl, rest_trans, gave_put, gave_next, up_step, nearer, when_err, clear_next, clear_up, skips_clear, open_next, not_clear, passes_up}
use Rattle.jet_window.proofs.Ending.{reaches_low}
use Rattle.jet_window.proofs.combine.CombineP.give_until.Goals as goal

pub take_up-requires-clause-reaches : goal.take_up-requires-clause-reaches
take_up-requires-clause-reaches c =
    let fits : FitsSigned w64 c.in-Some.end = search rules in
    let next : IsNextEnd c.next_end.new.self.policy.size c.next_end.new.self.policy.slide c.next_end.new.self.passed c.next_end.new.self.held c.in-Some.end = rw (c.next_end.ensures.rest.policy, c.next_end.ensures.passed) c.in-Some.ensures.some in
    let low = reaches_low c.next_end.new.self.policy.size c.next_end.new.self.policy.slide c.in-Some.end c.next_end.new.self.held next.reaches in
    simp to_z-of_z low

pub returns-in_default-clause-gave : goal.returns-in_default-clause-gave
returns-in_default-clause-gave c =
    gave_next c.args.self.now c.put_ready.new.self c.next_end.new.self c.args.out.now.items c.put_ready.new.out.items
    (gave_put c.args.self.now c.loop-self.self c.put_ready.new.self c.args.out.now.items c.loop-self.out.items c.put_ready.new.out.items c.loop-self.invariant.gave c.put_ready.ensures.rest c.put_ready.ensures.passed c.put_ready.ensures.end c.put_ready.ensures.held c.put_ready.ensures.put)
    c.next_end.ensures.rest c.next_end.ensures.passed c.next_end.ensures.end c.next_end.ensures.ready c.next_end.ensures.forgets

pub returns-then-t-end-clause-gave : goal.returns-then-t-end-clause-gave
returns-then-t-end-clause-gave c =
    gave_next c.args.self.now c.put_ready.new.self c.next_end.new.self c.args.out.now.items c.put_ready.new.out.items
    (gave_put c.args.self.now c.loop-self.self c.put_ready.new.self c.args.out.now.items c.loop-self.out.items c.put_ready.new.out.items c.loop-self.invariant.gave c.put_ready.ensures.rest c.put_ready.ensures.passed c.put_ready.ensures.end c.put_ready.ensures.held c.put_ready.ensures.put)
    c.next_end.ensures.rest c.next_end.ensures.passed c.next_end.ensures.end c.next_end.ensures.ready c.next_end.ensures.forgets

pub returns-in_default-clause-above : goal.returns-in_default-clause-above
returns-in_default-clause-above c = λ ok. subst (OpenAbove c.next_end.new.self.policy.size c.next_end.new.self.policy.slide c.args.t) (sym c.in_default.ensures.none) tt

pub returns-in_default-clause-bound : goal.returns-in_default-clause-bound
returns-in_default-clause-bound c =
    let fits_t : FitsSigned w64 c.args.t = c.ranges.t in
    let t_is : to_z w64 (of_z w64 c.args.t) ≡ c.args.t = omega (arith, ints) in
    let bound = subst (λ (t : ℤ). Passes c.args.self.now.passed (Some t) → Passes c.loop-self.self.passed (Some t)) t_is c.loop-self.invariant.bound in
    rw (c.next_end.ensures.passed, c.put_ready.ensures.passed) bound

pub returns-clause-bound : goal.returns-clause-bound
returns-clause-bound c =
    let fits_t : FitsSigned w64 c.args.t = c.ranges.t in
    let t_is : to_z w64 (of_z w64 c.args.t) ≡ c.args.t = omega (arith, ints) in
    let bound = subst (λ (t : ℤ). Passes c.args.self.now.passed (Some t) → Passes c.loop-self.self.passed (Some t)) t_is c.loop-self.invariant.bound in
    rw c.put_ready.ensures.passed bound

pub returns-then-t-end-clause-clear : goal.returns-then-t-end-clause-clear
returns-then-t-end-clause-clear c =
    let fits : FitsSigned w64 c.in-Some.end = search rules in
    let next : IsNextEnd c.next_end.new.self.policy.size c.next_end.new.self.policy.slide c.next_end.new.self.passed c.next_end.new.self.held c.in-Some.end = rw (c.next_end.ensures.rest.policy, c.next_end.ensures.passed) c.in-Some.ensures.some in
    let fits_t : FitsSigned w64 c.args.t = c.ranges.t in
    let lt : c.args.t <ℤ c.in-Some.end = omega (arith, ints) in
    λ ok. skips_clear c.next_end.new.self.policy.size c.next_end.new.self.policy.slide c.next_end.new.self.passed c.next_end.new.self.held c.in-Some.end c.args.t next lt

pub returns-then-t-end-clause-above : goal.returns-then-t-end-clause-above
returns-then-t-end-clause-above c =
    let fits : FitsSigned w64 c.in-Some.end = search rules in
    let next : IsNextEnd c.next_end.new.self.policy.size c.next_end.new.self.policy.slide c.next_end.new.self.passed c.next_end.new.self.held c.in-Some.end = rw (c.next_end.ensures.rest.policy, c.next_end.ensures.passed) c.in-Some.ensures.some in
    let fits_t : FitsSigned w64 c.args.t = c.ranges.t in
    let lt : c.args.t <ℤ c.in-Some.end = omega (arith, ints) in
    λ ok. open_next c.next_end.new.self.policy.size c.next_end.new.self.policy.slide c.in-Some.end c.args.t c.next_end.new.self.held next.reaches lt

pub loop-self-preserved : goal.loop-self-preserved
loop-self-preserved c =
    let fits : FitsSigned w64 c.in-Some.end = search rules in
    let next : IsNextEnd c.next_end.new.self.policy.size c.next_end.new.self.policy.slide c.next_end.new.self.passed c.next_end.new.self.held c.in-Some.end = rw (c.next_end.ensures.rest.policy, c.next_end.ensures.passed) c.in-Some.ensures.some in
    let passed = simp to_z-of_z at c.in_ok-take_up.ensures.passed in
    let end = simp to_z-of_z at c.in_ok-take_up.ensures.end in
    let rows = simp to_z-of_z at c.in_ok-take_up.ensures.rows in
    let none : c.next_end.new.self.ready.items ≡ [] = rw c.next_end.ensures.ready (c.put_ready.ensures.all c.loop-self-test.true) in
    let before : Gave (combine_of c.args.self.now) c.args.out.now.items (combine_of c.next_end.new.self) c.put_ready.new.out.items =
    gave_next c.args.self.now c.put_ready.new.self c.next_end.new.self c.args.out.now.items c.put_ready.new.out.items
    (gave_put c.args.self.now c.loop-self.self c.put_ready.new.self c.args.out.now.items c.loop-self.out.items c.put_ready.new.out.items c.loop-self.invariant.gave c.put_ready.ensures.rest c.put_ready.ensures.passed c.put_ready.ensures.end c.put_ready.ensures.held c.put_ready.ensures.put)
    c.next_end.ensures.rest c.next_end.ensures.passed c.next_end.ensures.end c.next_end.ensures.ready c.next_end.ensures.forgets in
    let kept : IsKept c.put_ready.new.self.held = rw c.put_ready.ensures.held c.loop-self.invariant.kept in
    let fits_t : FitsSigned w64 c.args.t = c.ranges.t in
    let le : c.in-Some.end ≤ℤ to_z w64 (of_z w64 c.args.t) = omega (arith, ints) in
    let clear_here : Clear c.args.self.now.policy.size c.args.self.now.policy.slide c.args.self.now.passed c.args.self.now.held (to_z w64 (of_z w64 c.args.t)) → Clear c.next_end.new.self.policy.size c.next_end.new.self.policy.slide c.next_end.new.self.passed c.next_end.new.self.held (to_z w64 (of_z w64 c.args.t)) =
    λ clear. clear_next c.loop-self.self c.put_ready.new.self c.next_end.new.self _ c.put_ready.ensures.rest.policy c.put_ready.ensures.passed c.put_ready.ensures.held c.next_end.ensures.rest.policy c.next_end.ensures.passed c.next_end.ensures.forgets (c.loop-self.invariant.clear clear) in
    record {
      rest = rest_trans _ _ _ (rest_trans _ _ _ (rest_trans _ _ _ c.loop-self.invariant.rest c.put_ready.ensures.rest) c.next_end.ensures.rest) c.in_ok-take_up.ensures.rest;
      gave = Gave-trans (combine_of c.args.self.now) c.args.out.now.items (combine_of c.next_end.new.self) c.put_ready.new.out.items (combine_of c.take_up.new.self) c.put_ready.new.out.items before
          (up_step c.next_end.new.self c.take_up.new.self c.put_ready.new.out.items c.in-Some.end c.in_ok-take_up.ensures.rest c.in_ok-take_up.ensures.held passed end none next rows);
      room = c.put_ready.ensures.room ∙ c.loop-self.invariant.room;
      range = subst (λ (z : ℤ). IsWithin most_row_end z) (sym end) next.range;
      kept = rw c.in_ok-take_up.ensures.held (c.next_end.ensures.forgets.kept kept);
      bound = λ b. subst (λ (o : Option ℤ). Passes o (Some (to_z w64 (of_z w64 c.args.t)))) (sym passed) (passes_up c.in-Some.end (to_z w64 (of_z w64 c.args.t)) le);
      clear = λ clear. clear_up c.next_end.new.self c.take_up.new.self c.in-Some.end _ c.in_ok-take_up.ensures.rest.policy c.in_ok-take_up.ensures.held passed next.later (clear_here clear);
    }

pub loop-self-smaller : goal.loop-self-smaller
loop-self-smaller c =
    let fits : FitsSigned w64 c.in-Some.end = search rules in
    let next : IsNextEnd c.next_end.new.self.policy.size c.next_end.new.self.policy.slide c.next_end.new.self.passed c.next_end.new.self.held c.in-Some.end = rw (c.next_end.ensures.rest.policy, c.next_end.ensures.passed) c.in-Some.ensures.some in
    let passed = simp to_z-of_z at c.in_ok-take_up.ensures.passed in
    let same : c.next_end.new.self.passed ≡ c.loop-self.self.passed = c.next_end.ensures.passed ∙ c.put_ready.ensures.passed in
    let less : gap (Some c.in-Some.end) < gap c.next_end.new.self.passed = nearer c.next_end.new.self.policy.size c.next_end.new.self.policy.slide c.next_end.new.self.passed c.next_end.new.self.held c.in-Some.end next in
    subst (λ (o : Option ℤ). gap o < gap c.loop-self.self.passed) (sym passed) (subst (λ (o : Option ℤ). gap (Some c.in-Some.end) < gap o) same less)

pub returns-in_err-take_up-clause-gave : goal.returns-in_err-take_up-clause-gave
returns-in_err-take_up-clause-gave c =
    subst (λ (z : CombineP). Gave (combine_of c.args.self.now) c.args.out.now.items (combine_of z) c.put_ready.new.out.items) (sym c.in_err-take_up.ensures.same)
    (gave_next c.args.self.now c.put_ready.new.self c.next_end.new.self c.args.out.now.items c.put_ready.new.out.items
    (gave_put c.args.self.now c.loop-self.self c.put_ready.new.self c.args.out.now.items c.loop-self.out.items c.put_ready.new.out.items c.loop-self.invariant.gave c.put_ready.ensures.rest c.put_ready.ensures.passed c.put_ready.ensures.end c.put_ready.ensures.held c.put_ready.ensures.put)
    c.next_end.ensures.rest c.next_end.ensures.passed c.next_end.ensures.end c.next_end.ensures.ready c.next_end.ensures.forgets)

pub returns-in_err-take_up-clause-wants : goal.returns-in_err-take_up-clause-wants
returns-in_err-take_up-clause-wants c =
    let fits : FitsSigned w64 c.in-Some.end = search rules in
    let next : IsNextEnd c.next_end.new.self.policy.size c.next_end.new.self.policy.slide c.next_end.new.self.passed c.next_end.new.self.held c.in-Some.end = rw (c.next_end.ensures.rest.policy, c.next_end.ensures.passed) c.in-Some.ensures.some in
    let fits_t : FitsSigned w64 c.args.t = c.ranges.t in
    let le : c.in-Some.end ≤ℤ to_z w64 (of_z w64 c.args.t) = omega (arith, ints) in
    let clear_here : Clear c.args.self.now.policy.size c.args.self.now.policy.slide c.args.self.now.passed c.args.self.now.held (to_z w64 (of_z w64 c.args.t)) → Clear c.next_end.new.self.policy.size c.next_end.new.self.policy.slide c.next_end.new.self.passed c.next_end.new.self.held (to_z w64 (of_z w64 c.args.t)) =
    λ clear. clear_next c.loop-self.self c.put_ready.new.self c.next_end.new.self _ c.put_ready.ensures.rest.policy c.put_ready.ensures.passed c.put_ready.ensures.held c.next_end.ensures.rest.policy c.next_end.ensures.passed c.next_end.ensures.forgets (c.loop-self.invariant.clear clear) in
    let t_is : c.args.t ≡ to_z w64 (of_z w64 c.args.t) = omega (arith, ints) in
    when_err c.from_residual.result (λ clear. not_clear c.next_end.new.self.policy.size c.next_end.new.self.policy.slide c.next_end.new.self.passed c.next_end.new.self.held c.in-Some.end _ next le
    (clear_here (subst (λ (t : ℤ). Clear c.args.self.now.policy.size c.args.self.now.policy.slide c.args.self.now.passed c.args.self.now.held t) t_is clear)))

pub returns-clause-gave : goal.returns-clause-gave
returns-clause-gave c =
    gave_put c.args.self.now c.loop-self.self c.put_ready.new.self c.args.out.now.items c.loop-self.out.items c.put_ready.new.out.items c.loop-self.invariant.gave
    c.put_ready.ensures.rest c.put_ready.ensures.passed c.put_ready.ensures.end c.put_ready.ensures.held c.put_ready.ensures.put

pub loop-self-init : goal.loop-self-init
loop-self-init c = record {
  rest = rest_refl _;
  gave = Gave-refl (combine_of c.args.self.now) c.args.out.now.items;
  room = refl;
  range = c.requires.range;
  kept = c.requires.kept;
  bound = λ h. h;
  clear = λ h. h;
}
