-- The bytes of the first packets, and counts kept modulo 2^64.
use Rattle.std.proofs.Common.{◌≡◌, ℕ, zero, suc, ◌+◌, ◌-◌, ◌^◌, ◌<◌, ◌≤◌, List, [], ◌∷◌, ◌++◌, length, get_or, refl, ap, arith}
use Rattle.jet_link.specs.Link.{PacketView, no_packet, bytes_of, all_bytes, kept, less}

pub bytes_front : (k : ℕ) (xs ys : List PacketView) → k ≤ length xs → bytes_of k (xs ++ ys) ≡ bytes_of k xs
unfolding bytes_of
bytes_front zero xs ys le = refl
bytes_front (suc k) [] ys le = absurd (omega (arith, le))
bytes_front (suc k) (x ∷ xs) ys le = ap (λ (n : ℕ). x.size + n) (bytes_front k xs ys (omega (arith, le)))

pub bytes_more : (j k : ℕ) (xs : List PacketView) → j ≤ k → bytes_of j xs ≤ bytes_of k xs
unfolding bytes_of
bytes_more zero k xs le = omega arith
bytes_more (suc j) zero xs le = absurd (omega (arith, le))
bytes_more (suc j) (suc k) [] le = omega arith
bytes_more (suc j) (suc k) (x ∷ xs) le = let r = bytes_more j k xs (omega (arith, le)) in omega (arith, r)

-- one more packet
pub bytes_push : (xs : List PacketView) (n : PacketView) → all_bytes (xs ++ n ∷ []) ≡ all_bytes xs + n.size
unfolding bytes_of
bytes_push [] n = omega arith
bytes_push (x ∷ xs) n = let r = bytes_push xs n in omega (arith, r)

-- the difference of two counts that are near each other
pub less_is : (a b : ℕ) → b ≤ a → a - b < 2 ^ 64 → less (kept a) (kept b) ≡ a - b
less_is a b le near = omega (arith, le, near)

-- counts that are kept the same, and differ by less than 2^64, are the same
pub less_zero : (a b : ℕ) → a < 2 ^ 64 → b < 2 ^ 64 → less a b ≡ 0 → b ≡ a
less_zero a b la lb e = omega (arith, la, lb, e)

-- the next packet's bytes
pub bytes_next : (k : ℕ) (ps : List PacketView) → bytes_of (suc k) ps ≡ bytes_of k ps + (get_or ps k no_packet).size
unfolding bytes_of
bytes_next zero [] = refl
bytes_next zero (p ∷ ps) = omega arith
bytes_next (suc k) [] = refl
bytes_next (suc k) (p ∷ ps) = let r = bytes_next k ps in omega (arith, r)
