-- Big-endian numbers of any width: what was written is read, and what was read is written.
use Rattle.std.proofs.Common.{◌≡◌, ℕ, zero, suc, ◌+◌, ◌-◌, ◌*◌, ◌/◌, ◌%◌, ◌^◌, ◌<◌, List, [], ◌∷◌, length, get_or, refl, sym, ap, subst, ◌∙◌, arith}
use Rattle.std.specs.Int.{Width, w8, w16, w32, w64, w128, byte_len, byte_at, byte_worth, bytes_high_first, sum_through, to_be_bytes, from_be_bytes}
use mir.Val.{bits}
use Rattle.std.proofs.Math.Nat.{pow-suc, mul-add-div_right}
use Rattle.std.proofs.lemmas.Nat.{div-add-mod', mul-add-lt, div-mul-add, mod-mul-add, mod_below}
use Rattle.jet_spell.specs.Laws.{AreBytes}

-- the number that bytes spell, the highest first
abbrev value : List ℕ → ℕ
value [] = 0
value (b ∷ bs) = b * 256 ^ length bs + value bs

some_power : (k : ℕ) → 0 < 256 ^ k
some_power zero = omega arith
some_power (suc k) = let rest = some_power k in omega (arith, pow-suc 256 k, rest)

byte_is : (k n : ℕ) → byte_at k n ≡ n / 256 ^ k % 256
byte_is zero n = omega arith
byte_is (suc k) n = refl

value_below : (bs : List ℕ) → AreBytes bs → value bs < 256 ^ length bs
value_below [] small = omega arith
value_below (b ∷ bs) small =
    let rest : value bs < 256 ^ length bs = value_below bs (λ i. small (suc i)) in
    let b_small : b < 256 = small 0 in
    omega (arith, pow-suc 256 (length bs), mul-add-lt b (256 ^ length bs) (value bs) 256 b_small rest)

-- ---- what was written is read

pub length_high : (k n : ℕ) → length (bytes_high_first k n) ≡ k
length_high zero n = refl
length_high (suc k) n = ap (λ (j : ℕ). suc j) (length_high k n)

regrouped : (d m p r : ℕ) → (d * 256 + m) * p + r ≡ d * (p * 256) + (m * p + r)
regrouped d m p r = omega arith

-- the lowest k bytes and the one above them
mod_more : (n p : ℕ) → 0 < p → n % (p * 256) ≡ n / p % 256 * p + n % p
mod_more n p some =
    let digit : n / p % 256 < 256 = mod_below (n / p) 256 (omega arith) in
    let low : n % p < p = mod_below n p some in
    let split : n ≡ n / p / 256 * (p * 256) + (n / p % 256 * p + n % p) =
    sym (div-add-mod' n p) ∙ ap (λ (q : ℕ). q * p + n % p) (sym (div-add-mod' (n / p) 256)) ∙ regrouped (n / p / 256) (n / p % 256) p (n % p) in
    let below : n / p % 256 * p + n % p < p * 256 = omega (arith, mul-add-lt (n / p % 256) p (n % p) 256 digit low) in
    ap (λ (m : ℕ). m % (p * 256)) split ∙ mod-mul-add (n / p / 256) (p * 256) (n / p % 256 * p + n % p) below

value_high : (k n : ℕ) → value (bytes_high_first k n) ≡ n % 256 ^ k
value_high zero n = omega arith
value_high (suc k) n =
    rw (length_high k n, value_high k n, byte_is k n, pow-suc 256 k) (sym (mod_more n (256 ^ k) (some_power k)))

-- ---- what was read is written

turned : (m q : ℕ) → (m * 256 + q) % 256 ≡ q % 256
turned m q = omega arith

moved : (m p v : ℕ) → m * (p * 256) + v ≡ (m * 256) * p + v
moved m p v = omega arith

high_of : (k m v : ℕ) → bytes_high_first k (m * 256 ^ k + v) ≡ bytes_high_first k v
high_of zero m v = refl
high_of (suc k) m v =
    let apart : m * 256 ^ suc k + v ≡ (m * 256) * 256 ^ k + v = ap (λ (p : ℕ). m * p + v) (pow-suc 256 k) ∙ moved m (256 ^ k) v in
    let byte : byte_at k (m * 256 ^ suc k + v) ≡ byte_at k v =
    byte_is k (m * 256 ^ suc k + v) ∙ ap (λ (x : ℕ). x / 256 ^ k % 256) apart
    ∙ ap (λ (x : ℕ). x % 256) (mul-add-div_right (some_power k) (m * 256) v)
    ∙ turned m (v / 256 ^ k) ∙ sym (byte_is k v) in
    let rest : bytes_high_first k (m * 256 ^ suc k + v) ≡ bytes_high_first k v = ap (λ (x : ℕ). bytes_high_first k x) apart ∙ high_of k (m * 256) v in
    λ i. byte i ∷ rest i

small_is : (b : ℕ) → b < 256 → b % 256 ≡ b
small_is b lt = omega arith

high_value : (bs : List ℕ) → AreBytes bs → bytes_high_first (length bs) (value bs) ≡ bs
high_value [] small = refl
high_value (b ∷ bs) small =
    let b_small : b < 256 = small 0 in
    let below = value_below bs (λ i. small (suc i)) in
    let byte : byte_at (length bs) (b * 256 ^ length bs + value bs) ≡ b =
    byte_is (length bs) (b * 256 ^ length bs + value bs) ∙ ap (λ (x : ℕ). x % 256) (div-mul-add b (256 ^ length bs) (value bs) below) ∙ small_is b b_small in
    let rest = high_of (length bs) b (value bs) ∙ high_value bs (λ i. small (suc i)) in
    λ i. byte i ∷ rest i

-- ---- the same in std's words

first_apart : (f : ℕ → ℕ) (k : ℕ) → sum_through f (suc k) ≡ f 0 + sum_through (λ i. f (suc i)) k
first_apart f zero = refl
first_apart f (suc k) = ap (λ (s : ℕ). s + f (suc (suc k))) (first_apart f k) ∙ omega arith

less : (k i : ℕ) → suc k - suc i ≡ k - i
less k i = omega arith

less_none : (k : ℕ) → suc k - 0 ≡ suc k
less_none k = omega arith

sum_is : (k : ℕ) (bs : List ℕ) → length bs ≡ suc k → sum_through (λ i. byte_worth (k - i) (get_or bs i 0)) k ≡ value bs
sum_is k [] l = absurd (omega arith)
sum_is zero (b ∷ []) l = omega arith
sum_is zero (b ∷ c ∷ bs) l = absurd (omega arith)
sum_is (suc k) (b ∷ bs) l =
    let short : length bs ≡ suc k = omega arith in
    let later : (i : ℕ) → byte_worth (suc k - suc i) (get_or bs i 0) ≡ byte_worth (k - i) (get_or bs i 0) = λ i. ap (λ (j : ℕ). byte_worth j (get_or bs i 0)) (less k i) in
    first_apart (λ i. byte_worth (suc k - i) (get_or (b ∷ bs) i 0)) k
    ∙ (λ j. byte_worth (less_none k j) b + sum_through (λ i. later i j) k)
    ∙ ap (λ (s : ℕ). b * 256 ^ suc k + s) (sum_is k bs short)
    ∙ ap (λ (n : ℕ). b * 256 ^ n + value bs) (sym short)

read_is : (w : Width) (bs : List ℕ) → length bs ≡ byte_len w → from_be_bytes w bs ≡ value bs
read_is w8 bs l = sum_is 0 bs l
read_is w16 bs l = sum_is 1 bs l
read_is w32 bs l = sum_is 3 bs l
read_is w64 bs l = sum_is 7 bs l
read_is w128 bs l = sum_is 15 bs l

low : (w : Width) (n : ℕ) → n < 2 ^ bits w → n % 256 ^ byte_len w ≡ n
low w8 n lt = omega arith
low w16 n lt = omega arith
low w32 n lt = omega arith
low w64 n lt = omega arith
low w128 n lt = omega arith

pub number_again : (w : Width) (n : ℕ) → n < 2 ^ bits w → from_be_bytes w (to_be_bytes w n) ≡ n
number_again w n lt = read_is w (to_be_bytes w n) (length_high (byte_len w) n) ∙ value_high (byte_len w) n ∙ low w n lt

fits : (w : Width) (v n : ℕ) → n ≡ byte_len w → v < 256 ^ n → v < 2 ^ bits w
fits w8 v n l lt = rw l at lt
fits w16 v n l lt = rw l at lt
fits w32 v n l lt = rw l at lt
fits w64 v n l lt = rw l at lt
fits w128 v n l lt = rw l at lt

pub bytes_again : (w : Width) (bs : List ℕ) → length bs ≡ byte_len w → AreBytes bs → (to_be_bytes w (from_be_bytes w bs) ≡ bs) × (from_be_bytes w bs < 2 ^ bits w)
bytes_again w bs l small = (
  ap (λ (n : ℕ). bytes_high_first (byte_len w) n) (read_is w bs l) ∙ ap (λ (k : ℕ). bytes_high_first k (value bs)) (sym l) ∙ high_value bs small,
  subst (λ (v : ℕ). v < 2 ^ bits w) (sym (read_is w bs l)) (fits w (value bs) (length bs) l (value_below bs small)),
)
