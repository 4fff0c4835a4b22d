-- Sums over the destinations of a router.
use Rattle.std.proofs.Common.{◌≡◌, ℕ, ◌+◌, ◌≤◌, suc, List, [], ◌∷◌, map, length, get_or, refl, sym, ◌∙◌, ap, arith}
use Rattle.std.specs.Prelude.{fold, sum, sum_by}
use Rattle.jet_items.specs.declared.item.Item.{Item}
use Rattle.jet_ring.specs.Ring.{TxView}
use Rattle.jet_router.specs.Router.{View, txs, frees, reaches, sent_count, free_count}

shift : {X : Type 0} (f : X → ℕ) (n m : ℕ) (xs : List X) → fold (λ (a : ℕ) (x : X). a + f x) (n + m) xs ≡ n + fold (λ (a : ℕ) (x : X). a + f x) m xs
shift f n m [] = refl
shift {X} f n m (x ∷ xs) =
    let order : (n + m) + f x ≡ n + (m + f x) = omega arith in
    ap (λ (k : ℕ). fold (λ (a : ℕ) (y : X). a + f y) k xs) order ∙ shift f n (m + f x) xs

-- the first and the rest
pub sum_first : {X : Type 0} (f : X → ℕ) (x : X) (xs : List X) → sum_by f (x ∷ xs) ≡ f x + sum_by f xs
sum_first {X} f x xs =
    let order : 0 + f x ≡ f x + 0 = omega arith in
    ap (λ (k : ℕ). fold (λ (a : ℕ) (y : X). a + f y) k xs) order ∙ shift f (f x) 0 xs

sum_map : {X : Type 0} (f : X → ℕ) (xs : List X) → sum (map f xs) ≡ sum_by f xs
sum_map f [] = refl
sum_map f (x ∷ xs) =
    let left = sum_first (λ (n : ℕ). n) (f x) (map f xs) in
    let right = sum_first f x xs in
    let rest = sum_map f xs in
    omega (arith, left, right, rest)

sum_both : (ts : List (TxView Item)) → sum_by (λ (t : TxView Item). length t.sent + t.free) ts ≡ sum_by (λ (t : TxView Item). length t.sent) ts + sum_by (λ (t : TxView Item). t.free) ts
sum_both [] = refl
sum_both (t ∷ ts) =
    let both = sum_first (λ (u : TxView Item). length u.sent + u.free) t ts in
    let left = sum_first (λ (u : TxView Item). length u.sent) t ts in
    let right = sum_first (λ (u : TxView Item). u.free) t ts in
    let rest = sum_both ts in
    omega (arith, both, left, right, rest)

sum_fewer : (xs ys : List ℕ) → ((k : ℕ) → get_or ys k 0 ≤ get_or xs k 0) → sum ys ≤ sum xs
sum_fewer [] [] h = omega arith
sum_fewer [] (y ∷ ys) h =
    let first : y ≤ 0 = h 0 in
    let rest = sum_fewer [] ys (λ k. h (suc k)) in
    let whole = sum_first (λ (n : ℕ). n) y ys in
    omega (arith, first, rest, whole)
sum_fewer (x ∷ xs) [] h = omega arith
sum_fewer (x ∷ xs) (y ∷ ys) h =
    let first : y ≤ x = h 0 in
    let rest = sum_fewer xs ys (λ k. h (suc k)) in
    let left = sum_first (λ (n : ℕ). n) x xs in
    let right = sum_first (λ (n : ℕ). n) y ys in
    omega (arith, first, rest, left, right)

-- what is sent uses up as many free slots
pub sent_and_free : (a b : View) → reaches b ≡ reaches a → sent_count b + free_count b ≡ sent_count a + free_count a
sent_and_free a b reach =
    let of_a = sum_map (λ (t : TxView Item). length t.sent + t.free) (txs a) in
    let of_b = sum_map (λ (t : TxView Item). length t.sent + t.free) (txs b) in
    let both_a = sum_both (txs a) in
    let both_b = sum_both (txs b) in
    sym both_b ∙ (sym of_b ∙ (ap sum reach ∙ (of_a ∙ both_a)))

pub free_falls : (a b : View) → ((k : ℕ) → get_or (frees b) k 0 ≤ get_or (frees a) k 0) → free_count b ≤ free_count a
free_falls a b fewer =
    let of_a = sum_map (λ (t : TxView Item). t.free) (txs a) in
    let of_b = sum_map (λ (t : TxView Item). t.free) (txs b) in
    let sums = sum_fewer (frees a) (frees b) fewer in
    omega (arith, of_a, of_b, sums)
