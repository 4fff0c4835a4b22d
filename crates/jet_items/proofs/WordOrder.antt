-- That lists of bytes stand in the order of the numbers that their parts are, and keys in that of their padded lists.
use Rattle.std.proofs.Common.{◌≡◌, ◌≢◌, ℕ, zero, suc, ◌+◌, ◌*◌, ◌-◌, ◌<◌, ◌≤◌, List, [], ◌∷◌, ◌++◌, length, drop, replicate, get_or, true, refl, sym, ap, ◌∙◌, arith}
use Rattle.std.specs.List.{list_all}
use Rattle.std.specs.declared.cmp.Ordering.{Ordering}
use Rattle.std.specs.declared.cmp.Ordering.TheVariants.{Less, Equal, Greater}
use Rattle.std.specs.Ordering.{nat_cmp, ordering_then, MatchOrdering}
use Rattle.std.specs.Cmp.{nat_cmp_is, first_so, second_so}
use Rattle.std.specs.Cmp.Lexicographic.{slice_cmp}
use Rattle.std.proofs.lemmas.Cmp.{ranked, by_ranked, nat_list_cmp_total, tied_itself}
use Rattle.std.proofs.lemmas.List.{drop_more}
use Rattle.jet_items.specs.KeyBytes.{is_key_byte, IsKey}
use Rattle.jet_items.specs.KeyWords.{number_from}

then_assoc : (a b c : Ordering) → ordering_then a (ordering_then b c) ≡ ordering_then (ordering_then a b) c
then_assoc Less b c = refl
then_assoc Equal b c = refl
then_assoc Greater b c = refl

-- one more byte behind two numbers
one_more : (x y r s : ℕ) → r < 256 → s < 256 → ordering_then (nat_cmp x y) (nat_cmp r s) ≡ nat_cmp (x * 256 + r) (y * 256 + s)
one_more x y r s h k =
    by_ranked (x < y) (x ≡ y) (y < x) (nat_cmp x y) (ranked x y (nat_cmp x y) refl)
    (λ is lt. rw is (nat_cmp_is (x * 256 + r) (y * 256 + s) Less (omega arith)))
    (λ is same. rw is (behind (nat_cmp r s) (ranked r s (nat_cmp r s) refl) same))
    (λ is gt. rw is (nat_cmp_is (x * 256 + r) (y * 256 + s) Greater (omega arith)))
  where
    behind : (o : Ordering) → MatchOrdering o (r < s) (r ≡ s) (s < r) → x ≡ y → o ≡ nat_cmp (x * 256 + r) (y * 256 + s)
    behind Less lt same = nat_cmp_is (x * 256 + r) (y * 256 + s) Less (omega arith)
    behind Equal eq same = nat_cmp_is (x * 256 + r) (y * 256 + s) Equal (omega arith)
    behind Greater gt same = nat_cmp_is (x * 256 + r) (y * 256 + s) Greater (omega arith)

-- the order of what follows place k is that of the numbers of n bytes there, and then that of what follows these
pub by_numbers : (a b : List ℕ) → ((i : ℕ) → get_or a i 0 < 256) → ((i : ℕ) → get_or b i 0 < 256) → (k n : ℕ) → k + n ≤ length a → k + n ≤ length b
    → slice_cmp nat_cmp (drop k a) (drop k b) ≡ ordering_then (nat_cmp (number_from a k n) (number_from b k n)) (slice_cmp nat_cmp (drop (k + n) a) (drop (k + n) b))
by_numbers a b low low' k zero h h' = let here : k + 0 ≡ k = omega arith in rw here refl
by_numbers a b low low' k (suc n) h h' =
    by_numbers a b low low' k n (omega arith) (omega arith)
    ∙ (ap (λ (o : Ordering). ordering_then (nat_cmp (number_from a k n) (number_from b k n)) o) here
    ∙ (then_assoc (nat_cmp (number_from a k n) (number_from b k n)) (nat_cmp (get_or a (k + n) 0) (get_or b (k + n) 0)) (slice_cmp nat_cmp (drop (k + suc n) a) (drop (k + suc n) b))
    ∙ ap (λ (o : Ordering). ordering_then o (slice_cmp nat_cmp (drop (k + suc n) a) (drop (k + suc n) b)))
    (one_more (number_from a k n) (number_from b k n) (get_or a (k + n) 0) (get_or b (k + n) 0) (low (k + n)) (low' (k + n)))))
  where
    next : k + n + 1 ≡ k + suc n
    next = omega arith

    here : slice_cmp nat_cmp (drop (k + n) a) (drop (k + n) b)
        ≡ ordering_then (nat_cmp (get_or a (k + n) 0) (get_or b (k + n) 0)) (slice_cmp nat_cmp (drop (k + suc n) a) (drop (k + suc n) b))
    here = rw (drop_more a (k + n) 0 (omega arith), drop_more b (k + n) 0 (omega arith), next) refl

-- where the numbers of eight bytes differ, they say the order, and else what follows them does
tied : (x y : ℕ) (o : Ordering) → x ≡ y → ordering_then (nat_cmp x y) o ≡ o
tied x y o h = let equal : Equal ≡ nat_cmp x y = nat_cmp_is x y Equal h in rw (← equal) refl

apart : (x y : ℕ) (o : Ordering) → x ≢ y → ordering_then (nat_cmp x y) o ≡ nat_cmp x y
apart x y o h =
    by_ranked (x < y) (x ≡ y) (y < x) (nat_cmp x y) (ranked x y (nat_cmp x y) refl) (λ is lt. rw is refl) (λ is same. absurd (h same)) (λ is gt. rw is refl)

module _ (a b : List ℕ) (low : (i : ℕ) → get_or a i 0 < 256) (low' : (i : ℕ) → get_or b i 0 < 256) (n : ℕ) (h : 8 * n + 8 ≤ length a) (h' : 8 * n + 8 ≤ length b)
    (x y : ℕ) (is : x ≡ number_from a (8 * n) 8) (is' : y ≡ number_from b (8 * n) 8) where
  in_turn : slice_cmp nat_cmp (drop (8 * n) a) (drop (8 * n) b) ≡ ordering_then (nat_cmp x y) (slice_cmp nat_cmp (drop (8 * n + 8) a) (drop (8 * n + 8) b))
  in_turn = by_numbers a b low low' (8 * n) 8 h h'
      ∙ (ap (λ (z : ℕ). ordering_then (nat_cmp z (number_from b (8 * n) 8)) (slice_cmp nat_cmp (drop (8 * n + 8) a) (drop (8 * n + 8) b))) (sym is)
      ∙ ap (λ (z : ℕ). ordering_then (nat_cmp x z) (slice_cmp nat_cmp (drop (8 * n + 8) a) (drop (8 * n + 8) b))) (sym is'))

  pub same_words : x ≡ y → slice_cmp nat_cmp (drop (8 * n) a) (drop (8 * n) b) ≡ slice_cmp nat_cmp (drop (8 * (n + 1)) a) (drop (8 * (n + 1)) b)
  same_words same =
      let next : 8 * n + 8 ≡ 8 * (n + 1) = omega arith in
      in_turn ∙ (tied x y (slice_cmp nat_cmp (drop (8 * n + 8) a) (drop (8 * n + 8) b)) same ∙ ap (λ (k : ℕ). slice_cmp nat_cmp (drop k a) (drop k b)) next)

  pub unlike_words : x ≢ y → slice_cmp nat_cmp (drop (8 * n) a) (drop (8 * n) b) ≡ nat_cmp x y
  unlike_words differ = in_turn ∙ apart x y (slice_cmp nat_cmp (drop (8 * n + 8) a) (drop (8 * n + 8) b)) differ

-- a byte of a key is above 0
above_zero : (x : ℕ) → is_key_byte x ≡ true → 0 < x
above_zero zero h = cc
above_zero (suc x) h = omega arith

-- zeros behind keys up to one length leave their order as it is
pub by_padded : (xs ys : List ℕ) (i j : ℕ) → list_all is_key_byte xs ≡ true → list_all is_key_byte ys ≡ true → length xs + i ≡ length ys + j
    → slice_cmp nat_cmp (xs ++ replicate i 0) (ys ++ replicate j 0) ≡ slice_cmp nat_cmp xs ys
by_padded [] [] i j h h' e = let same : i ≡ j = omega arith in rw same (tied_itself nat_list_cmp_total (replicate j 0))
by_padded [] (y ∷ ys) zero j h h' e = absurd (omega arith)
by_padded [] (y ∷ ys) (suc i) j h h' e =
    let less : Less ≡ nat_cmp 0 y = nat_cmp_is 0 y Less (above_zero y (first_so (is_key_byte y) (list_all is_key_byte ys) h')) in
    rw (← less) refl
by_padded (x ∷ xs) [] i zero h h' e = absurd (omega arith)
by_padded (x ∷ xs) [] i (suc j) h h' e =
    let more : Greater ≡ nat_cmp x 0 = nat_cmp_is x 0 Greater (above_zero x (first_so (is_key_byte x) (list_all is_key_byte xs) h)) in
    rw (← more) refl
by_padded (x ∷ xs) (y ∷ ys) i j h h' e =
    ap (λ (o : Ordering). ordering_then (nat_cmp x y) o)
    (by_padded xs ys i j (second_so (is_key_byte x) (list_all is_key_byte xs) h) (second_so (is_key_byte y) (list_all is_key_byte ys) h') (omega arith))

-- keys stand in the order of their padded lists
pub padded_order : (a b key other : List ℕ) → IsKey 40 key → IsKey 40 other → key ++ replicate (40 - length key) 0 ≡ a → other ++ replicate (40 - length other) 0 ≡ b
    → slice_cmp nat_cmp a b ≡ slice_cmp nat_cmp key other
padded_order a b key other h h' is is' =
    rw (← is, ← is') (by_padded key other (40 - length key) (40 - length other) h.alphabet h'.alphabet (omega (arith, h.not_long, h'.not_long)))
