use Rattle.std.proofs.Common.{arith, ◌≡◌, pos, ◌∙◌, sym}
use Rattle.std.proofs.lemmas.Int.{ints}
use Rattle.jet_policy.proofs.policy.WinPolicy.new.Goals as goal

pub invariant_of-result : goal.invariant_of-result
invariant_of-result c =
    let none : c.rem_euclid.result ≡ pos 0 = omega (arith, ints, c.rem_euclid.ensures.lower_bound) in
    record {
      size_low = omega (arith, ints);
      size_high = omega (arith, ints);
      slide_low = omega (arith, ints);
      slide_high = omega (arith, ints);
      whole = sym c.rem_euclid.ensures.value ∙ none;
      ratio = omega (arith, ints);
    }
