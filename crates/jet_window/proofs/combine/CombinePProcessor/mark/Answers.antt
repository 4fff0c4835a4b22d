use Rattle.std.proofs.Common.{rules, true, false, ℤ, Ok, sym, ◌∙◌, ap, subst, refl, FitsSigned, to_z-of_z, w64}
use Rattle.jet_boxes.specs.Entry.{MarkTold}
use Rattle.jet_boxes.specs.Calls.{Call}
use Rattle.jet_boxes.specs.Held.{BoxView}
use Rattle.jet_window.specs.Combining.{Clear, OpenAbove}
use Rattle.jet_window.specs.CombineCalls.{Stands, Amid, Alike}
use Rattle.jet_window.proofs.Giving.{when_err, clear_until}
use Rattle.jet_window.proofs.Calling.{mark_partial, mark_whole, bound_until, no_yes, err_not_ok}
use Rattle.jet_window.proofs.combine.CombinePProcessor.mark.Goals as goal

pub returns-then-not-branch-clause-call : goal.returns-then-not-branch-clause-call
returns-then-not-branch-clause-call c =
    let fits : FitsSigned w64 c.until.inside.t = search rules in
    let bound = simp to_z-of_z at c.give_until.ensures.bound in
    mark_partial c.args.self.now c.give_until.new.self c.args.mark c.args.out.now c.give_until.new.out (Ok false) c.give_until.ensures.rest c.give_until.ensures.gave (bound_until _ _ _ _ _ c.until.view_is c.later-until.ensures bound) c.give_until.ensures.room no_yes
    (λ e. c.give_until.ensures.full (c.in_ok-give_until.was ∙ ap Ok c.if-not-branch.true))

pub returns-in_err-give_until-clause-call : goal.returns-in_err-give_until-clause-call
returns-in_err-give_until-clause-call c =
    let fits : FitsSigned w64 c.until.inside.t = search rules in
    let bound = simp to_z-of_z at c.give_until.ensures.bound in
    mark_partial c.args.self.now c.give_until.new.self c.args.mark c.args.out.now c.give_until.new.out c.from_residual.result c.give_until.ensures.rest c.give_until.ensures.gave (bound_until _ _ _ _ _ c.until.view_is c.later-until.ensures bound) c.give_until.ensures.room (err_not_ok c.from_residual.result true c.from_residual.ensures.0)
    (λ e. absurd (err_not_ok c.from_residual.result false c.from_residual.ensures.0 e))

pub returns-in-Ok-clause-call : goal.returns-in-Ok-clause-call
returns-in-Ok-clause-call c =
    let fits : FitsSigned w64 c.until.inside.t = search rules in
    let bound = simp to_z-of_z at c.give_until.ensures.bound in
    let done = c.in_ok-give_until.was ∙ ap Ok c.if-not-branch.false in
    let clear = simp to_z-of_z at (c.give_until.ensures.clear done) in
    let clear_until : Clear c.give_until.new.self.policy.size c.give_until.new.self.policy.slide c.give_until.new.self.passed c.give_until.new.self.held c.later-until.result = subst (λ (t : ℤ). Clear c.give_until.new.self.policy.size c.give_until.new.self.policy.slide c.give_until.new.self.passed c.give_until.new.self.held t) c.until.view_is clear in
    let above = simp to_z-of_z at (c.give_until.ensures.above done) in
    let above_until : OpenAbove c.give_until.new.self.policy.size c.give_until.new.self.policy.slide c.later-until.result c.give_until.new.self.held = subst (λ (t : ℤ). OpenAbove c.give_until.new.self.policy.size c.give_until.new.self.policy.slide t c.give_until.new.self.held) c.until.view_is above in
    mark_whole c.args.self.now c.give_until.new.self _ c.args.mark c.later-until.result c.args.out.now c.give_until.new.out c.offer.new.self c.give_until.ensures.rest c.give_until.ensures.gave (bound_until _ _ _ _ _ c.until.view_is c.later-until.ensures bound) c.give_until.ensures.room
    c.later-until.ensures (c.give_until.ensures.all done) clear_until above_until refl refl refl refl refl refl refl refl refl (ap (λ (b : BoxView). b.room) c.in-Ok.ensures.put) (ap (λ (b : BoxView). b.items) c.in-Ok.ensures.put)

pub returns-in-Err-clause-call : goal.returns-in-Err-clause-call
returns-in-Err-clause-call c =
    let fits : FitsSigned w64 c.until.inside.t = search rules in
    let bound = simp to_z-of_z at c.give_until.ensures.bound in
    subst (λ (z : BoxView). Call Stands Amid Alike false c.args.self.now (MarkTold c.args.mark) c.args.out.now (Ok false) c.give_until.new.self z) (sym c.in-Err.ensures.kept)
    (mark_partial c.args.self.now c.give_until.new.self c.args.mark c.args.out.now c.give_until.new.out (Ok false) c.give_until.ensures.rest c.give_until.ensures.gave (bound_until _ _ _ _ _ c.until.view_is c.later-until.ensures bound) c.give_until.ensures.room no_yes (λ e. c.in-Err.ensures.full))

pub returns-in_err-give_until-clause-memory : goal.returns-in_err-give_until-clause-memory
returns-in_err-give_until-clause-memory c =
    let fits : FitsSigned w64 c.until.inside.t = search rules in
    let wants = simp to_z-of_z at c.in_err-give_until.ensures.wants in
    when_err c.from_residual.result
    (λ clear. subst (λ (t : ℤ). Clear c.args.self.now.policy.size c.args.self.now.policy.slide c.args.self.now.passed c.args.self.now.held t → ⊥) c.until.view_is wants
    (clear_until c.args.self.now.policy.size c.args.self.now.policy.slide c.args.self.now.begun c.args.self.now.passed c.args.self.now.held c.args.mark c.later-until.result c.requires.2.promises.begins c.later-until.ensures clear))
