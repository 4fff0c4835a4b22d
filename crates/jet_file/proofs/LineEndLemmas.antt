-- The room before the end of a line.
use Rattle.std.proofs.Common.{◌≡◌, ℕ, ◌+◌, ◌<◌, ◌≤◌, List, length, drop, ap, arith, length-drop, decimal}
use Rattle.std.proofs.lemmas.Fmt.{length-decimal-le}

-- what stands before the end
pub room : (at : ℕ) (bytes rest : List ℕ) → drop at bytes ≡ rest → length bytes ≡ 256 → at ≤ 256 → at + length rest ≡ 256
room at bytes rest e full within = omega (arith, ap length e, length-drop at bytes)

-- a number of 64 bits has at most twenty digits, and a signed one nineteen
pub few_digits : (n : ℕ) → n < 18446744073709551616 → length (decimal n) ≤ 20
few_digits n fits = length-decimal-le 20 n (omega arith) (omega arith) (omega arith)

pub fewer_digits : (n : ℕ) → n ≤ 9223372036854775808 → length (decimal n) ≤ 19
fewer_digits n fits = length-decimal-le 19 n (omega arith) (omega arith) (omega arith)
