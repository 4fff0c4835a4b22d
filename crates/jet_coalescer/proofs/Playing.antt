-- What stands at the top of a tournament, and how it is played on after a change.
use Rattle.std.proofs.Common.{◌≡◌, ◌≢◌, ℕ, zero, suc, ◌+◌, ◌*◌, ◌-◌, ◌≤◌, ◌<◌, List, [], ◌∷◌, length, take, drop, drop-cons, refl, ap, sym, subst, ◌∙◌, arith, slice_set, ◌⊎◌, inl, inr}
use Rattle.std.proofs.lemmas.Bool.{cases_eq, cases_lt}
use Rattle.std.proofs.lemmas.List.{take_all, take-take, drop-take, drop-drop, length-drop, take-set-le, drop-set-lt, drop-set-add, get_or-set_same, get_or-set_other}
use Rattle.jet_coalescer.specs.declared.standing.Standing.{Standing}
use Rattle.jet_coalescer.specs.declared.standing.Standing.TheVariants as standing
use Rattle.jet_coalescer.specs.inner.Standings.{lesser, least_of}
use Rattle.jet_coalescer.specs.inner.Tournaments.{place, span, below, IsTournament, IsTournamentBut}
use Rattle.jet_coalescer.proofs.Lesser.{lesser-assoc, lesser-comm, lesser-passes}

-- ---- the least of a part and of the rest
pub least_parts : (n : ℕ) (ss : List Standing) → least_of ss ≡ lesser (least_of (take n ss)) (least_of (drop n ss))
least_parts zero ss = refl
least_parts (suc n) [] = refl
least_parts (suc n) (s ∷ ss) = ap (lesser s) (least_parts n ss) ∙ sym (lesser-assoc s (least_of (take n ss)) (least_of (drop n ss)))

pub span_parts : (ps : List Standing) (k a b : ℕ) → least_of (span ps k (a + b)) ≡ lesser (least_of (span ps k a)) (least_of (span ps (k + a) b))
span_parts ps k a b =
    least_parts a (span ps k (a + b))
    ∙ (ap (λ (ss : List Standing). lesser (least_of ss) (least_of (drop a (span ps k (a + b))))) (take-take a (a + b) (drop k ps) (omega arith))
    ∙ ap (λ (ss : List Standing). lesser (least_of (span ps k a)) (least_of ss)) (drop-take a b (drop k ps) ∙ ap (take b) (drop-drop a k ps)))

pub span_one : (ps : List Standing) (k : ℕ) → k < length ps → least_of (span ps k 1) ≡ place ps k
span_one ps k inside = ap (λ (ss : List Standing). least_of (take 1 ss)) (drop-cons ps k standing.Passes inside) ∙ lesser-passes (place ps k)

-- ---- the top
-- the places from m on, seven times as many as m and one, and those from m + 1 on, are the same but for a place and the
-- eight below it
widens : (ps : List Standing) (m : ℕ) → m < length ps → place ps m ≡ below ps m → least_of (span ps m (7 * m + 1)) ≡ least_of (span ps (suc m) (7 * suc m + 1))
widens ps m inside wins =
    let rest : Standing = least_of (span ps (suc m) (7 * m)) in
    let next : m + 1 ≡ suc m = omega arith in
    let from : suc m + 7 * m ≡ 8 * m + 1 = omega arith in
    let some : 7 * m + 1 ≡ 1 + 7 * m = omega arith in
    let more : 7 * m + 8 ≡ 7 * suc m + 1 = omega arith in
    ap (λ (i : ℕ). least_of (span ps m i)) some
    ∙ (span_parts ps m 1 (7 * m)
    ∙ (ap (λ (i : ℕ). lesser (least_of (span ps m 1)) (least_of (span ps i (7 * m)))) next
    ∙ (ap (λ (s : Standing). lesser s rest) (span_one ps m inside ∙ wins)
    ∙ (lesser-comm (below ps m) rest
    ∙ (ap (λ (i : ℕ). lesser rest (least_of (span ps i 8))) (sym from)
    ∙ (sym (span_parts ps (suc m) (7 * m) 8)
    ∙ ap (λ (i : ℕ). least_of (span ps (suc m) i)) more))))))

climbs : (ps : List Standing) (n m : ℕ) → IsTournament n ps → m ≤ n → place ps 0 ≡ least_of (span ps m (7 * m + 1))
climbs ps n zero is inside = sym (span_one ps 0 (omega (arith, is.0)))
climbs ps n (suc m) is inside =
    climbs ps n m is (omega (arith, inside))
    ∙ widens ps m (omega (arith, is.0, inside)) (is.1 m (omega (arith, inside)))

pub top : (ps : List Standing) (n : ℕ) → IsTournament n ps → place ps 0 ≡ least_of (drop n ps)
top ps n is =
    climbs ps n n is (omega arith)
    ∙ ap least_of (take_all (7 * n + 1) (drop n ps) (omega (arith, length-drop n ps, is.0)))

-- ---- a change
-- places stay where another one changes
span_kept : (ps : List Standing) (k m p : ℕ) (s : Standing) → (p < k) ⊎ (k + m ≤ p) → span (slice_set ps p s) k m ≡ span ps k m
span_kept ps k m p s (inl before) = ap (take m) (drop-set-lt k ps p s before)
span_kept ps k m p s (inr behind) =
    let at : p ≡ k + (p - k) = omega (arith, behind) in
    ap (λ (i : ℕ). span (slice_set ps i s) k m) at
    ∙ (ap (take m) (drop-set-add k ps (p - k) s)
    ∙ take-set-le m (drop k ps) (p - k) s (omega (arith, behind)))

under : (p k : ℕ) → (p ≤ 8 * k) ⊎ (8 * k + 8 < p) → (p < 8 * k + 1) ⊎ (8 * k + 1 + 8 ≤ p)
under p k (inl before) = inl (omega (arith, before))
under p k (inr behind) = inr (omega (arith, behind))

below_kept : (ps : List Standing) (k p : ℕ) (s : Standing) → (p ≤ 8 * k) ⊎ (8 * k + 8 < p) → below (slice_set ps p s) k ≡ below ps k
below_kept ps k p s out = ap least_of (span_kept ps (8 * k + 1) 8 p s (under p k out))

-- a place and those below it stay where another one changes
apart : (ps : List Standing) (p k : ℕ) (s : Standing) → k ≢ p → (p ≤ 8 * k) ⊎ (8 * k + 8 < p) → place ps k ≡ below ps k → place (slice_set ps p s) k ≡ below (slice_set ps p s) k
apart ps p k s here out wins = get_or-set_other ps p k s standing.Passes here ∙ (wins ∙ sym (below_kept ps k p s out))

-- a queue changed
pub changed : (ps : List Standing) (n p : ℕ) (s : Standing) → IsTournament n ps → n ≤ p → IsTournamentBut n (slice_set ps p s) p
changed ps n p s is over = λ k inside out. apart ps p k s (λ e. omega (arith, e, over, inside)) out (is.1 k inside)

-- the least of those below a place, and that place itself
settles : (ps : List Standing) (p : ℕ) → p < length ps → place (slice_set ps p (below ps p)) p ≡ below (slice_set ps p (below ps p)) p
settles ps p inside =
    get_or-set_same ps p (below ps p) standing.Passes inside ∙ sym (below_kept ps p p (below ps p) (inl (omega arith)))

-- a place that this one is not below
other : (k p at : ℕ) → 8 * p < at → at ≤ 8 * p + 8 → k ≢ p → (at ≤ 8 * k) ⊎ (8 * k + 8 < at)
other k p at from to ne = either (cases_lt k p)
  where
    either : (k < p) ⊎ (p ≤ k) → (at ≤ 8 * k) ⊎ (8 * k + 8 < at)
    either (inl less) = inr (omega (arith, less, from))
    either (inr more) = inl (omega (arith, more, to, ne))

-- the place that one is below was settled, and the next one up is to be
pub settled : (ps : List Standing) (n p at : ℕ) → IsTournamentBut n ps at → length ps ≡ 8 * n + 1 → 8 * p < at → at ≤ 8 * p + 8 → p < n → IsTournamentBut n (slice_set ps p (below ps p)) p
settled ps n p at but sized from to inside = λ k first out.
    elim (cases_eq k p) as (λ _. place (slice_set ps p (below ps p)) k ≡ below (slice_set ps p (below ps p)) k) [
      | inl e ↦ subst (λ (i : ℕ). place (slice_set ps p (below ps p)) i ≡ below (slice_set ps p (below ps p)) i) (sym e) (settles ps p (omega (arith, sized, inside)))
      | inr ne ↦ apart ps p k (below ps p) ne out (but k first (other k p at from to ne))
    ]

-- a place was settled before
pub settled_before : (ps now : List Standing) (n p at : ℕ) → IsTournamentBut n ps at → length ps ≡ 8 * n + 1 → 8 * p < at → at ≤ 8 * p + 8 → p < n → now ≡ slice_set ps p (below ps p) → now ≡ ps → IsTournament n now
settled_before ps now n p at but sized from to inside is same = subst (IsTournament n) (sym same) (sized, λ k first. holds k first (cases_eq k p))
  where
    holds_p : place ps p ≡ below ps p
    holds_p = subst (λ (qs : List Standing). place qs p ≡ below qs p) (sym is ∙ same) (settles ps p (omega (arith, sized, inside)))

    holds : (k : ℕ) → k < n → (k ≡ p) ⊎ (k ≢ p) → place ps k ≡ below ps k
    holds k first (inl e) = subst (λ (i : ℕ). place ps i ≡ below ps i) (sym e) holds_p
    holds k first (inr ne) = but k first (other k p at from to ne)

-- the top was settled
pub at_top : (ps : List Standing) (n at : ℕ) → IsTournamentBut n ps at → length ps ≡ 8 * n + 1 → at ≡ 0 → IsTournament n ps
at_top ps n at but sized zero_is = (sized, λ k first. but k first (inl (omega (arith, zero_is))))
