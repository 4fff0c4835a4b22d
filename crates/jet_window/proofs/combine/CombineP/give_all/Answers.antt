use Rattle.std.proofs.Common.{rules, ◌≡◌, ◌<◌, ◌∙◌, [], ℤ, Option, Some, refl, sym, subst, FitsSigned, to_z-of_z, w64}
use Rattle.jet_items.specs.Ranges.{IsWithin, most_row_end}
use Rattle.jet_window.specs.declared.combine.CombineP.{CombineP}
use Rattle.jet_window.specs.FrameTables.{IsKept}
use Rattle.jet_window.specs.inner.NextEnds.{IsNextEnd, gap}
use Rattle.jet_window.specs.CombineStands.{Gave}
use Rattle.jet_window.proofs.Standing.{Gave-refl, Gave-trans}
use Rattle.jet_window.specs.CombineView.{combine_of}
use Rattle.jet_window.proofs.Giving.{rest_refl, rest_trans, gave_put, gave_next, up_step, nearer, when_err, rest_empty, not_empty}
use Rattle.jet_window.proofs.Ending.{reaches_low}
use Rattle.jet_window.proofs.combine.CombineP.give_all.Goals as goal

pub take_up-requires-clause-reaches : goal.take_up-requires-clause-reaches
take_up-requires-clause-reaches c =
    let fits : FitsSigned w64 c.in-Some.end = search rules in
    let next : IsNextEnd c.next_end.new.self.policy.size c.next_end.new.self.policy.slide c.next_end.new.self.passed c.next_end.new.self.held c.in-Some.end = rw (c.next_end.ensures.rest.policy, c.next_end.ensures.passed) c.in-Some.ensures.some in
    let low = reaches_low c.next_end.new.self.policy.size c.next_end.new.self.policy.slide c.in-Some.end c.next_end.new.self.held next.reaches in
    simp to_z-of_z low

pub returns-in_default-clause-gave : goal.returns-in_default-clause-gave
returns-in_default-clause-gave c =
    gave_next c.args.self.now c.put_ready.new.self c.next_end.new.self c.args.out.now.items c.put_ready.new.out.items
    (gave_put c.args.self.now c.loop-self.self c.put_ready.new.self c.args.out.now.items c.loop-self.out.items c.put_ready.new.out.items c.loop-self.invariant.gave c.put_ready.ensures.rest c.put_ready.ensures.passed c.put_ready.ensures.end c.put_ready.ensures.held c.put_ready.ensures.put)
    c.next_end.ensures.rest c.next_end.ensures.passed c.next_end.ensures.end c.next_end.ensures.ready c.next_end.ensures.forgets

pub loop-self-preserved : goal.loop-self-preserved
loop-self-preserved c =
    let fits : FitsSigned w64 c.in-Some.end = search rules in
    let next : IsNextEnd c.next_end.new.self.policy.size c.next_end.new.self.policy.slide c.next_end.new.self.passed c.next_end.new.self.held c.in-Some.end = rw (c.next_end.ensures.rest.policy, c.next_end.ensures.passed) c.in-Some.ensures.some in
    let passed = simp to_z-of_z at c.in_ok-take_up.ensures.passed in
    let end = simp to_z-of_z at c.in_ok-take_up.ensures.end in
    let rows = simp to_z-of_z at c.in_ok-take_up.ensures.rows in
    let none : c.next_end.new.self.ready.items ≡ [] = rw c.next_end.ensures.ready (c.put_ready.ensures.all c.loop-self-test.true) in
    let before : Gave (combine_of c.args.self.now) c.args.out.now.items (combine_of c.next_end.new.self) c.put_ready.new.out.items =
    gave_next c.args.self.now c.put_ready.new.self c.next_end.new.self c.args.out.now.items c.put_ready.new.out.items
    (gave_put c.args.self.now c.loop-self.self c.put_ready.new.self c.args.out.now.items c.loop-self.out.items c.put_ready.new.out.items c.loop-self.invariant.gave c.put_ready.ensures.rest c.put_ready.ensures.passed c.put_ready.ensures.end c.put_ready.ensures.held c.put_ready.ensures.put)
    c.next_end.ensures.rest c.next_end.ensures.passed c.next_end.ensures.end c.next_end.ensures.ready c.next_end.ensures.forgets in
    let kept : IsKept c.put_ready.new.self.held = rw c.put_ready.ensures.held c.loop-self.invariant.kept in
    let empty_here : c.args.self.now.held ≡ [] → c.next_end.new.self.held ≡ [] =
    λ none. rest_empty c.next_end.ensures.forgets.first c.next_end.new.self.held (sym c.next_end.ensures.forgets.held_is ∙ (c.put_ready.ensures.held ∙ c.loop-self.invariant.empty none)) in
    record {
      rest = rest_trans _ _ _ (rest_trans _ _ _ (rest_trans _ _ _ c.loop-self.invariant.rest c.put_ready.ensures.rest) c.next_end.ensures.rest) c.in_ok-take_up.ensures.rest;
      gave = Gave-trans (combine_of c.args.self.now) c.args.out.now.items (combine_of c.next_end.new.self) c.put_ready.new.out.items (combine_of c.take_up.new.self) c.put_ready.new.out.items before
          (up_step c.next_end.new.self c.take_up.new.self c.put_ready.new.out.items c.in-Some.end c.in_ok-take_up.ensures.rest c.in_ok-take_up.ensures.held passed end none next rows);
      room = c.put_ready.ensures.room ∙ c.loop-self.invariant.room;
      range = subst (λ (z : ℤ). IsWithin most_row_end z) (sym end) next.range;
      kept = rw c.in_ok-take_up.ensures.held (c.next_end.ensures.forgets.kept kept);
      empty = λ nothing. c.in_ok-take_up.ensures.held ∙ empty_here nothing;
    }

pub loop-self-smaller : goal.loop-self-smaller
loop-self-smaller c =
    let fits : FitsSigned w64 c.in-Some.end = search rules in
    let next : IsNextEnd c.next_end.new.self.policy.size c.next_end.new.self.policy.slide c.next_end.new.self.passed c.next_end.new.self.held c.in-Some.end = rw (c.next_end.ensures.rest.policy, c.next_end.ensures.passed) c.in-Some.ensures.some in
    let passed = simp to_z-of_z at c.in_ok-take_up.ensures.passed in
    let same : c.next_end.new.self.passed ≡ c.loop-self.self.passed = c.next_end.ensures.passed ∙ c.put_ready.ensures.passed in
    let less : gap (Some c.in-Some.end) < gap c.next_end.new.self.passed = nearer c.next_end.new.self.policy.size c.next_end.new.self.policy.slide c.next_end.new.self.passed c.next_end.new.self.held c.in-Some.end next in
    subst (λ (o : Option ℤ). gap o < gap c.loop-self.self.passed) (sym passed) (subst (λ (o : Option ℤ). gap (Some c.in-Some.end) < gap o) same less)

pub returns-in_err-take_up-clause-gave : goal.returns-in_err-take_up-clause-gave
returns-in_err-take_up-clause-gave c =
    subst (λ (z : CombineP). Gave (combine_of c.args.self.now) c.args.out.now.items (combine_of z) c.put_ready.new.out.items) (sym c.in_err-take_up.ensures.same)
    (gave_next c.args.self.now c.put_ready.new.self c.next_end.new.self c.args.out.now.items c.put_ready.new.out.items
    (gave_put c.args.self.now c.loop-self.self c.put_ready.new.self c.args.out.now.items c.loop-self.out.items c.put_ready.new.out.items c.loop-self.invariant.gave c.put_ready.ensures.rest c.put_ready.ensures.passed c.put_ready.ensures.end c.put_ready.ensures.held c.put_ready.ensures.put)
    c.next_end.ensures.rest c.next_end.ensures.passed c.next_end.ensures.end c.next_end.ensures.ready c.next_end.ensures.forgets)

pub returns-in_err-take_up-clause-wants : goal.returns-in_err-take_up-clause-wants
returns-in_err-take_up-clause-wants c =
    let fits : FitsSigned w64 c.in-Some.end = search rules in
    let next : IsNextEnd c.next_end.new.self.policy.size c.next_end.new.self.policy.slide c.next_end.new.self.passed c.next_end.new.self.held c.in-Some.end = rw (c.next_end.ensures.rest.policy, c.next_end.ensures.passed) c.in-Some.ensures.some in
    let empty_here : c.args.self.now.held ≡ [] → c.next_end.new.self.held ≡ [] =
    λ none. rest_empty c.next_end.ensures.forgets.first c.next_end.new.self.held (sym c.next_end.ensures.forgets.held_is ∙ (c.put_ready.ensures.held ∙ c.loop-self.invariant.empty none)) in
    when_err c.from_residual.result (λ none. not_empty c.next_end.new.self.policy.size c.next_end.new.self.policy.slide c.next_end.new.self.passed c.next_end.new.self.held c.in-Some.end next (empty_here none))

pub returns-clause-gave : goal.returns-clause-gave
returns-clause-gave c =
    gave_put c.args.self.now c.loop-self.self c.put_ready.new.self c.args.out.now.items c.loop-self.out.items c.put_ready.new.out.items c.loop-self.invariant.gave
    c.put_ready.ensures.rest c.put_ready.ensures.passed c.put_ready.ensures.end c.put_ready.ensures.held c.put_ready.ensures.put

pub loop-self-init : goal.loop-self-init
loop-self-init c = record {
  rest = rest_refl _;
  gave = Gave-refl (combine_of c.args.self.now) c.args.out.now.items;
  room = refl;
  range = c.requires.range;
  kept = c.requires.kept;
  empty = λ h. h;
}
