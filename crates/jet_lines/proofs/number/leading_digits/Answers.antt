use Rattle.std.proofs.Common.{◌≡◌, ◌+◌, ◌*◌, ◌^◌, ◌<◌, ◌≤◌, ◌&&◌, Bool, true, ℕ, length, take, arith, sym, refl, ◌∙◌, length-take}
use Rattle.std.proofs.Math.Nat.{pow-le-pow_right}
use Rattle.std.specs.Char.{is_ascii_digit}
use Rattle.std.proofs.lemmas.Grind.{pow_more}
use Rattle.std.proofs.lemmas.List.Folds.{list_all_more}
use Rattle.std.proofs.lemmas.Str.{digit_value_digit}
use Rattle.std.proofs.lemmas.Int.Digits.{digits_value_more}
use Rattle.jet_lines.proofs.number.leading_digits.Goals as goal

-- fifteen digits and one more fit
fits : (n i d : ℕ) → n < 10 ^ i → i < 16 → d ≤ 9 → n * 10 + d < 18446744073709551616
fits n i d below few digit = let power : 10 ^ i ≤ 1000000000000000 = pow-le-pow_right {n = 10} (omega arith) {i = i} {j = 15} (omega arith) in omega arith

one_more : (n i d : ℕ) → n < 10 ^ i → d ≤ 9 → n * 10 + d < 10 ^ (i + 1)
one_more n i d below digit = omega (arith, pow_more 10 i)

both : (a b : Bool) → a ≡ true → b ≡ true → (a && b) ≡ true
both a b p q = rw (p, q) refl

pub overflow_mul-n : goal.overflow_mul-n
overflow_mul-n c =
    let few : c.loop-b.b-index < 16 = omega (arith, length-take c.min.result c.args.bytes.now) in
    omega (arith, fits c.loop-b.n c.loop-b.b-index 0 c.loop-b.invariant.below few (omega arith))

pub overflow_add-n : goal.overflow_add-n
overflow_add-n c =
    let few : c.loop-b.b-index < 16 = omega (arith, length-take c.min.result c.args.bytes.now) in
    let digit = digit_value_digit _ c.if-not-is_ascii_digit.ensures.cases in
    omega (arith, fits c.loop-b.n c.loop-b.b-index c.from.result c.loop-b.invariant.below few (omega (arith, digit, c.if-not-is_ascii_digit.ensures.cases)))

pub loop-b-preserved : goal.loop-b-preserved
loop-b-preserved c =
    let front = take c.min.result c.args.bytes.now in
    let i = c.loop-b.b-index in
    let below : i < length front = omega arith in
    let now = digits_value_more 10 front i below in
    let all = list_all_more is_ascii_digit front i 0 below in
    let digit = digit_value_digit _ c.if-not-is_ascii_digit.ensures.cases in record {
      at = omega arith;
      digits = all ∙ both _ _ c.loop-b.invariant.digits (sym c.if-not-is_ascii_digit.ensures.value);
      value = omega (arith, now, digit, c.loop-b.invariant.value);
      below = one_more c.loop-b.n i c.from.result c.loop-b.invariant.below (omega (arith, digit, c.if-not-is_ascii_digit.ensures.cases));
    }
