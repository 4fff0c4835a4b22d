use Rattle.std.proofs.Common.{rules, arith, ◌≡◌, ℤ, ◌+ℤ◌, Option, Some, None, sym, subst, ap, ◌∙◌, FitsSigned, to_z, of_z, w64, to_z-of_z}
use Rattle.std.specs.Int.{int_min}
use Rattle.std.proofs.lemmas.Int.{ints}
use Rattle.jet_items.specs.Ranges.{IsWithin, most_time}
use Rattle.jet_policy.specs.Policy.{IsPolicy}
use Rattle.jet_window.specs.Tables.{IsLastDue}
use Rattle.jet_window.proofs.Ends.{last_alone, last_least}
use Rattle.jet_window.proofs.plain.last_due.Goals as goal

sum_is : (ts size given slide : ℤ) → IsWithin most_time ts → IsPolicy size slide → given ≡ size → to_z w64 (of_z w64 (to_z w64 (of_z w64 ts) +ℤ to_z w64 (of_z w64 given))) ≡ ts +ℤ size
sum_is ts size given slide within policy is =
    let low = within.0 in
    let high = within.1 in
    omega (arith, ints, policy.size_low, policy.size_high, is)

pub returns-in-Some : goal.returns-in-Some
returns-in-Some c =
    let sum = sum_is c.args.ts c.args.policy.now.size c.size.result c.args.policy.now.slide c.requires c.size.ensures.policy c.size.ensures.value in
    let fits_t : FitsSigned w64 c.mark.inside.t = search rules in
    let fits_r : FitsSigned w64 c.min.result = record { sfits = c.min.type_inv } in
    let least : c.min.result ≡ int_min (c.args.ts +ℤ c.args.policy.now.size) c.mark.inside.t = c.min.ensures.value ∙ (ap (λ (a : ℤ). int_min a (to_z w64 (of_z w64 c.mark.inside.t))) sum ∙ ap (λ (b : ℤ). int_min (c.args.ts +ℤ c.args.policy.now.size) b) (to_z-of_z fits_t)) in
    let is : Some c.mark.inside.t ≡ c.args.upto.now = ap Some c.mark.view_is ∙ sym c.in-Some.is in
    subst (λ (o : Option ℤ). IsLastDue c.args.policy.now.size o c.args.ts (to_z w64 (of_z w64 c.min.result))) is
    (subst (λ (r : ℤ). IsLastDue c.args.policy.now.size (Some c.mark.inside.t) c.args.ts r) (sym (to_z-of_z fits_r ∙ least)) (last_least c.args.policy.now.size c.mark.inside.t c.args.ts))

pub returns-in-None : goal.returns-in-None
returns-in-None c =
    let sum = sum_is c.args.ts c.args.policy.now.size c.size.result c.args.policy.now.slide c.requires c.size.ensures.policy c.size.ensures.value in
    subst (λ (o : Option ℤ). IsLastDue c.args.policy.now.size o c.args.ts (to_z w64 (of_z w64 (to_z w64 (of_z w64 c.args.ts) +ℤ to_z w64 (of_z w64 c.size.result))))) (sym c.in-None.is)
    (subst (λ (r : ℤ). IsLastDue c.args.policy.now.size None c.args.ts r) (sym sum) (last_alone c.args.policy.now.size c.args.ts))
