use Rattle.std.proofs.Common.{arith, ◌≡◌, ℤ, ◌+ℤ◌, ◌≤ℤ◌, ◌<ℤ◌, pos, false, None, Option, Some, refl, subst, FitsSigned, to_z, of_z, w64}
use Rattle.std.specs.Prelude.{is_some}
use Rattle.std.proofs.lemmas.Int.{ints}
use Rattle.jet_policy.specs.Policy.{IsPolicy}
use Rattle.jet_window.specs.inner.NextEnds.{IsEndAbove}
use Rattle.jet_window.specs.Taken.{is_due}
use Rattle.jet_window.proofs.Ending.{window_above, has_open, has_none}
use Rattle.jet_window.proofs.combine.CombineP.has_window.Goals as goal

pub returns-clause-yes : goal.returns-clause-yes
returns-clause-yes c = λ yes_is.
    let fits_end : FitsSigned w64 c.args.end = c.ranges.end in
    let fits_next : FitsSigned w64 c.end_above.result = record { sfits = c.end_above.type_inv } in
    let size : c.size-size.result ≡ c.args.self.now.policy.size = c.size-size.ensures.value in
    let policy : IsPolicy c.args.self.now.policy.size c.args.self.now.policy.slide = c.size-size.ensures.policy in
    let most : c.args.self.now.policy.size ≤ℤ pos 1000000000000 = policy.size_high in
    let some : pos 1 ≤ℤ c.args.self.now.policy.size = policy.size_low in
    let low = c.requires.0 in
    let high = c.requires.1 in
    let end : to_z w64 (of_z w64 c.args.end) ≡ c.args.end = omega (arith, ints) in
    let lt : c.end_above.result <ℤ (c.args.end +ℤ c.args.self.now.policy.size) = omega (arith, ints) in
    has_open c.args.self.now.policy.size c.args.self.now.policy.slide c.args.self.now.begun c.args.end c.end_above.result
    (subst (λ (z : ℤ). IsEndAbove c.args.self.now.policy.slide c.args.self.now.begun z c.end_above.result) end c.end_above.ensures) lt

pub returns-clause-no : goal.returns-clause-no
returns-clause-no c = λ no_is.
    let fits_end : FitsSigned w64 c.args.end = c.ranges.end in
    let fits_next : FitsSigned w64 c.end_above.result = record { sfits = c.end_above.type_inv } in
    let size : c.size-size.result ≡ c.args.self.now.policy.size = c.size-size.ensures.value in
    let policy : IsPolicy c.args.self.now.policy.size c.args.self.now.policy.slide = c.size-size.ensures.policy in
    let most : c.args.self.now.policy.size ≤ℤ pos 1000000000000 = policy.size_high in
    let some : pos 1 ≤ℤ c.args.self.now.policy.size = policy.size_low in
    let low = c.requires.0 in
    let high = c.requires.1 in
    let end : to_z w64 (of_z w64 c.args.end) ≡ c.args.end = omega (arith, ints) in
    let le : (c.args.end +ℤ c.args.self.now.policy.size) ≤ℤ c.end_above.result = omega (arith, ints) in
    has_none c.args.self.now.policy.size c.args.self.now.policy.slide c.args.self.now.begun c.args.end c.end_above.result
    (subst (λ (z : ℤ). IsEndAbove c.args.self.now.policy.slide c.args.self.now.begun z c.end_above.result) end c.end_above.ensures) le

never_due : (o : Option ℤ) (e : ℤ) → is_some o ≡ false → is_due o e ≡ false
never_due None e h = refl
never_due (Some p) e h = absurd (cc)

pub returns-then-is_none-clause-yes : goal.returns-then-is_none-clause-yes
returns-then-is_none-clause-yes c = λ yes_is.
    let policy : IsPolicy c.args.self.now.policy.size c.args.self.now.policy.slide = c.size-size.ensures.policy in
    let w = window_above c.args.self.now.policy.size c.args.self.now.policy.slide c.args.end policy in
    (w.0, w.1, w.2, never_due c.args.self.now.begun w.0 c.if-is_none.ensures)
