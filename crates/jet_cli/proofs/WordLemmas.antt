-- What the numbers among the words are.
use Rattle.std.proofs.Common.{◌≡◌, ℕ, ◌<◌, ◌≤◌, ◌^◌, Bool, true, false, ◌&&◌, List, [], ◌∷◌, length, Result, refl, ap, ◌∙◌, arith, Some}
use Rattle.std.specs.Prelude.{nat_le, nat_lt, ◌==◌, IfSome}
use Rattle.std.specs.List.{list_all}
use Rattle.std.specs.Char.{is_ascii_digit}
use Rattle.std.specs.Str.{all_ascii_digits}
use Rattle.std.specs.Str.Parse.{digits_value, ParsesUnsigned}
use Rattle.std.specs.Result.{result_ok}
use Rattle.std.specs.Str.{IsUtf8}
use Rattle.std.proofs.lemmas.Str.{is_utf8-from_IsUtf8}
use Rattle.jet_plan.specs.Texts.{text_at}
use Rattle.std.proofs.lemmas.Str.Parse.{IsNumeralModel, numerals_by_value, tells_all_ascii_digits, digits_value_short, parse_gives}
use Rattle.std.proofs.lemmas.Bool.Decides.{nat_tests}
use Rattle.jet_cli.specs.Digits.{is_digits, digits_word}

own : IsNumeralModel (λ ds. all_ascii_digits ds ≡ true) (digits_value 10)
own = numerals_by_value _ tells_all_ascii_digits

same_test : (ds : List ℕ) → all_ascii_digits ds ≡ list_all is_ascii_digit ds
same_test [] = refl
same_test (c ∷ cs) = ap (λ (b : Bool). is_ascii_digit c && b) (same_test cs)

and_parts : (a b : Bool) → (a && b) ≡ true → (a ≡ true) × (b ≡ true)
and_parts true b h = (refl, h)
and_parts false b h = (h, cc)

pub parsed : {E : Type 0} (most : ℕ) (word : List ℕ) (r : Result ℕ E) → most ≤ 16 → is_digits most word ≡ true → ParsesUnsigned 64 10 word r → result_ok r ≡ digits_word most word
parsed most word r bound h p =
    let one = and_parts (nat_le 1 (length word) && nat_le (length word) most) (list_all is_ascii_digit word) h in
    let two = and_parts (nat_le 1 (length word)) (nat_le (length word) most) one.0 in
    let low : 1 ≤ length word = grind (arith, nat_tests, two.0) in
    let high : length word ≤ 16 = grind (arith, nat_tests, two.1, bound) in
    let digits : all_ascii_digits word ≡ true = same_test word ∙ one.1 in
    let short : digits_value 10 word < 10 ^ 16 = digits_value_short own word 16 digits high in
    let is = parse_gives own 64 word r p digits (omega (arith, low)) (omega (arith, short)) in
    rw (is, h) refl

-- such a number is small
pub small_word : (most : ℕ) (word : List ℕ) → most ≤ 16 → is_digits most word ≡ true → IfSome (digits_word most word) (λ n. n < 10 ^ 16)
small_word most word bound h =
    let one = and_parts (nat_le 1 (length word) && nat_le (length word) most) (list_all is_ascii_digit word) h in
    let two = and_parts (nat_le 1 (length word)) (nat_le (length word) most) one.0 in
    let high : length word ≤ 16 = grind (arith, nat_tests, two.1, bound) in
    let short : digits_value 10 word < 10 ^ 16 = digits_value_short own word 16 (same_test word ∙ one.1) high in
    rw h short

-- a name of 1 to 255 bytes in UTF-8 is a text
pub text_is : (name : List ℕ) → IsUtf8 name → (length name == 0) ≡ false → length name ≤ 255 → text_at name ≡ Some name
text_is name utf8 full few =
    let short : nat_lt 255 (length name) ≡ false = not_more (length name) few in
    rw (full, short, is_utf8-from_IsUtf8 name utf8) refl
  where
    not_more : (n : ℕ) → n ≤ 255 → nat_lt 255 n ≡ false
    not_more n h = grind (arith, nat_tests, h)
