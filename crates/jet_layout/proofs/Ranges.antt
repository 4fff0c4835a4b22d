-- Lists over the numbers below another, with one number more.
use Rattle.std.proofs.Common.{arith, ◌≡◌, ◌∙◌, ◌+◌, ◌++◌, ◌∷◌, [], ℕ, zero, suc, List, map, ap, sym}
use Rattle.std.specs.List.{flat_map, range_with_len}
use Rattle.std.proofs.lemmas.Grind.{flat_map-append}
use Rattle.std.proofs.lemmas.List.FromFn.{map-range_with_len_more}
use Rattle.std.proofs.lemmas.List.{append-nil, append_assoc}

-- one number more
from_more : (a n j : ℕ) → a + n ≡ j → range_with_len a (suc n) ≡ range_with_len a n ++ j ∷ []
from_more a zero j e = let same : a ≡ j = omega arith in ap (λ k. k ∷ []) same
from_more a (suc n) j e = ap (λ l. a ∷ l) (from_more (a + 1) n j (omega arith))

pub range_more : (n : ℕ) → range_with_len 0 (n + 1) ≡ range_with_len 0 n ++ n ∷ []
range_more n = let on : n + 1 ≡ suc n = omega arith in ap (range_with_len 0) on ∙ from_more 0 n n (omega arith)

pub map_more : {X : Type 0} (f : ℕ → X) (n : ℕ) → map f (range_with_len 0 (n + 1)) ≡ map f (range_with_len 0 n) ++ f n ∷ []
map_more f n = map-range_with_len_more f 0 n n (omega arith)

pub flat_map_more : {X : Type 0} (f : ℕ → List X) (n : ℕ) → flat_map f (range_with_len 0 (n + 1)) ≡ flat_map f (range_with_len 0 n) ++ f n
flat_map_more f n = ap (flat_map f) (range_more n) ∙ flat_map-append f (range_with_len 0 n) (n ∷ []) ∙ ap (λ l. flat_map f (range_with_len 0 n) ++ l) (append-nil (f n))

-- what was added in a step, behind what was added before
pub grown : {X : Type 0} (old xs ys : List X) {before new all : List X} → before ≡ old ++ xs → new ≡ before ++ ys → all ≡ xs ++ ys → new ≡ old ++ all
grown old xs ys p q r = q ∙ ap (λ l. l ++ ys) p ∙ append_assoc old xs ys ∙ ap (λ l. old ++ l) (sym r)

pub grown_one : {X : Type 0} (old xs : List X) (x y : X) {before new all : List X} → before ≡ old ++ xs → new ≡ before ++ x ∷ [] → x ≡ y → all ≡ xs ++ y ∷ [] → new ≡ old ++ all
grown_one old xs x y {before} p q e r = grown old xs (y ∷ []) p (q ∙ ap (λ z. before ++ z ∷ []) e) r
