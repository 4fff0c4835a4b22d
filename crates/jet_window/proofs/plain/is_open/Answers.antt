use Rattle.std.proofs.Common.{rules, arith, ◌≡◌, ℤ, ◌+ℤ◌, ap, ◌∙◌, FitsSigned, to_z, of_z, w64, to_z-of_z}
use Rattle.std.specs.Prelude.{int_lt}
use Rattle.std.proofs.lemmas.Int.{ints}
use Rattle.jet_items.specs.Grid.{floor_to}
use Rattle.jet_items.specs.Ranges.{IsWithin, most_time}
use Rattle.jet_items.specs.Values.{EventValue}
use Rattle.jet_policy.specs.Policy.{IsPolicy}
use Rattle.jet_window.proofs.plain.is_open.Goals as goal

sum_is : (ts size given slide : ℤ) → IsWithin most_time ts → IsPolicy size slide → given ≡ size → to_z w64 (of_z w64 (to_z w64 (of_z w64 ts) +ℤ to_z w64 (of_z w64 given))) ≡ ts +ℤ size
sum_is ts size given slide within policy is =
    let low = within.0 in
    let high = within.1 in
    omega (arith, ints, policy.size_low, policy.size_high, is)

pub returns : goal.returns
returns c =
    let sum = sum_is c.event.inside.ts c.args.policy.now.size c.size.result c.args.policy.now.slide c.event.invariant.0 c.size.ensures.policy c.size.ensures.value in
    let fits_t : FitsSigned w64 c.mark.inside.t = search rules in
    let fits_r : FitsSigned w64 c.floor.result = record { sfits = c.floor.type_inv } in
    let ts : c.event.inside.ts ≡ c.args.event.now.ts = ap (λ (e : EventValue). e.ts) c.event.view_is in
    let floor : c.floor.result ≡ floor_to c.args.policy.now.slide (c.args.event.now.ts +ℤ c.args.policy.now.size) = c.floor.ensures.value ∙ (ap (λ (t : ℤ). floor_to c.args.policy.now.slide t) sum ∙ ap (λ (t : ℤ). floor_to c.args.policy.now.slide (t +ℤ c.args.policy.now.size)) ts) in
    ap (λ (a : ℤ). int_lt a (to_z w64 (of_z w64 c.floor.result))) (to_z-of_z fits_t ∙ c.mark.view_is) ∙ ap (λ (b : ℤ). int_lt c.args.mark b) (to_z-of_z fits_r ∙ floor)
