-- Ranks, and the standings that they stand for.
use Rattle.std.proofs.Common.{◌≡◌, ℕ, zero, suc, ◌+◌, ◌*◌, ◌<◌, ◌≤◌, Bool, true, false, not, eqb, eqb-true, List, ◌∷◌, length, get_or, set, take, drop, drop-cons, ◌++◌, replicate, subst, ℤ, pos, refl, ap, sym, ◌∙◌, arith, slice_set}
use Rattle.std.specs.Prelude.{IsFalse}
use Rattle.std.proofs.Math.Facts.{to_z-of_z}
use mir.Syntax.{w64}
use mir.Val.{SFits, of_z, to_z}
use Rattle.std.proofs.lemmas.List.{get_or-map, get_or_append_left, get_or-replicate, length-append, length-map, length-replicate, map-append, map-set, set-get_or, drop-set-add}
use Rattle.jet_coalescer.specs.declared.standing.Standing.{Standing}
use Rattle.jet_coalescer.specs.declared.standing.Standing.TheVariants as standing
use Rattle.jet_coalescer.specs.inner.Standings.{lesser, least_of, standing_at}
use Rattle.jet_coalescer.specs.inner.Tournaments.{places, place, span, below, IsTournament, IsTournamentBut}
use Rattle.jet_coalescer.proofs.Playing.{changed, span_one, span_parts}

-- ---- the lesser of ranks
place_is : (ranks : List ℤ) (k : ℕ) → k < length ranks → place (places ranks) k ≡ standing_at (get_or ranks k (pos 0))
place_is ranks k lt = get_or-map standing_at ranks k (pos 0) standing.Passes lt

one_is : (ranks : List ℤ) (k : ℕ) (rank : ℤ) → k < length ranks → rank ≡ get_or ranks k (pos 0) → standing_at rank ≡ least_of (span (places ranks) k 1)
one_is ranks k rank lt is =
    ap standing_at is ∙ (sym (place_is ranks k lt) ∙ sym (span_one (places ranks) k (omega (arith, lt, length-map ranks standing_at))))

-- of so many places, and as many behind them
pub halves_are : (ranks : List ℤ) (k m : ℕ) (one two least : ℤ) → standing_at one ≡ least_of (span (places ranks) k m) → standing_at two ≡ least_of (span (places ranks) (k + m) m) → standing_at least ≡ lesser (standing_at one) (standing_at two) → standing_at least ≡ least_of (span (places ranks) k (m + m))
halves_are ranks k m one two least left right is =
    is
    ∙ (ap (λ (s : Standing). lesser s (standing_at two)) left
    ∙ (ap (lesser (least_of (span (places ranks) k m))) right
    ∙ sym (span_parts (places ranks) k m m)))

-- of two places, one behind the other
pub pair_is : (ranks : List ℤ) (k : ℕ) (one two least : ℤ) → k + 1 < length ranks → one ≡ get_or ranks k (pos 0) → two ≡ get_or ranks (k + 1) (pos 0) → standing_at least ≡ lesser (standing_at one) (standing_at two) → standing_at least ≡ least_of (span (places ranks) k 2)
pair_is ranks k one two least lt left right is =
    halves_are ranks k 1 one two least (one_is ranks k one (omega (arith, lt)) left) (one_is ranks (k + 1) two lt right) is

-- ---- the least below was put into a place
pub rank_settled : (ranks : List ℤ) (at : ℕ) (least : ℤ) → standing_at least ≡ below (places ranks) at → places (set ranks at least) ≡ slice_set (places ranks) at (below (places ranks) at)
rank_settled ranks at least is = map-set standing_at ranks at least ∙ ap (slice_set (places ranks) at) is

-- a rank that stood there already
pub rank_kept : (ranks : List ℤ) (at : ℕ) (least : ℤ) → least ≡ get_or ranks at (pos 0) → places (set ranks at least) ≡ places ranks
rank_kept ranks at least is = ap places (ap (set ranks at) is ∙ set-get_or ranks at (pos 0))

pub same_bits : (a b : ℤ) → SFits w64 a → SFits w64 b → IsFalse (not (eqb (of_z w64 a) (of_z w64 b))) → a ≡ b
same_bits a b f g same = sym (to_z-of_z f) ∙ (ap (to_z w64) (eqb-true (of_z w64 a) (of_z w64 b) (is_true (eqb (of_z w64 a) (of_z w64 b)) same)) ∙ to_z-of_z g)
  where
    is_true : (t : Bool) → IsFalse (not t) → t ≡ true
    is_true true h = refl
    is_true false h = cc

-- ---- a rank was put in the place of one
pub rank_set : (ranks : List ℤ) (count at : ℕ) (rank put : ℤ) (s : Standing) → put ≡ rank → standing_at rank ≡ s → drop count (places (slice_set ranks (count + at) put)) ≡ slice_set (drop count (places ranks)) at s
rank_set ranks count at rank put s same is =
    ap (drop count) (map-set standing_at ranks (count + at) put)
    ∙ (drop-set-add count (places ranks) at (standing_at put)
    ∙ ap (slice_set (drop count (places ranks)) at) (ap standing_at same ∙ is))

pub rank_changed : (ranks : List ℤ) (n p : ℕ) (put : ℤ) → IsTournament n (places ranks) → n ≤ p → IsTournamentBut n (places (slice_set ranks p put)) p
rank_changed ranks n p put is over = subst (λ (ps : List Standing). IsTournamentBut n ps p) (sym (map-set standing_at ranks p put)) (changed (places ranks) n p (standing_at put) is over)

-- ---- a new tournament: so many places wait, and then as many as are told pass
abbrev pub fresh : ℕ → ℕ → List Standing
fresh waiting passing = replicate waiting standing.Waits ++ replicate passing standing.Passes

all_at : (n : ℕ) (r : ℤ) (s : Standing) → standing_at r ≡ s → places (replicate n r) ≡ replicate n s
all_at zero r s is = refl
all_at (suc n) r s is = ap (λ (first : Standing). first ∷ places (replicate n r)) is ∙ ap (λ (ss : List Standing). s ∷ ss) (all_at n r s is)

pub fresh_places : (ranks : List ℤ) (a b : ℕ) (r s : ℤ) → ranks ≡ replicate a r ++ replicate b s → standing_at r ≡ standing.Waits → standing_at s ≡ standing.Passes → places ranks ≡ fresh a b
fresh_places ranks a b r s all waits passes =
    ap places all ∙ (map-append standing_at (replicate a r) (replicate b s)
    ∙ (ap (λ (ss : List Standing). ss ++ places (replicate b s)) (all_at a r standing.Waits waits)
    ∙ ap (λ (ss : List Standing). replicate a standing.Waits ++ ss) (all_at b s standing.Passes passes)))

place_waits : (a b k : ℕ) → k < a → place (fresh a b) k ≡ standing.Waits
place_waits a b k lt =
    get_or_append_left (replicate a standing.Waits) (replicate b standing.Passes) standing.Passes k (omega (arith, lt, length-replicate a standing.Waits))
    ∙ get_or-replicate a k standing.Waits standing.Passes lt

below_waits : (a b k : ℕ) → 8 * k + 1 < a → below (fresh a b) k ≡ standing.Waits
below_waits a b k lt =
    ap (λ (ss : List Standing). least_of (take 8 ss)) (drop-cons (fresh a b) (8 * k + 1) standing.Passes (omega (arith, lt, length-append (replicate a standing.Waits) (replicate b standing.Passes), length-replicate a standing.Waits)))
    ∙ ap (λ (s : Standing). lesser s (least_of (take 7 (drop (suc (8 * k + 1)) (fresh a b))))) (place_waits a b (8 * k + 1) lt)

pub new_tournament : (ps : List Standing) (n a b : ℕ) → ps ≡ fresh a b → a + b ≡ 8 * n + 1 → n ≤ a → 8 * n < a + 7 → IsTournament n ps
new_tournament ps n a b is sized some full = subst (IsTournament n) (sym is) (
  omega (arith, length-append (replicate a standing.Waits) (replicate b standing.Passes), length-replicate a standing.Waits, length-replicate b standing.Passes, sized),
  λ k inside. place_waits a b k (omega (arith, inside, some)) ∙ sym (below_waits a b k (omega (arith, inside, full))),
)

passing : (b : ℕ) → least_of (replicate b standing.Passes) ≡ standing.Passes
passing zero = refl
passing (suc b) = passing b

-- the queues, and what stands behind them
behind_first : (n count b a : ℕ) → a ≡ n + count → drop n (fresh a b) ≡ fresh count b
behind_first zero count b a is = ap (λ (i : ℕ). fresh i b) (omega (arith, is))
behind_first (suc n) count b zero is = absurd (omega (arith, is))
behind_first (suc n) count b (suc a) is = behind_first n count b a (omega (arith, is))

pub new_queues : (ps : List Standing) (n count b : ℕ) → ps ≡ fresh (n + count) b → take count (drop n ps) ≡ replicate count standing.Waits
new_queues ps n count b is =
    ap (λ (qs : List Standing). take count (drop n qs)) is
    ∙ (ap (take count) (behind_first n count b (n + count) refl)
    ∙ heads count)
  where
    heads : (m : ℕ) → take m (fresh m b) ≡ replicate m standing.Waits
    heads zero = refl
    heads (suc m) = ap (λ (ss : List Standing). standing.Waits ∷ ss) (heads m)

pub new_behind : (ps : List Standing) (n count b : ℕ) → ps ≡ fresh (n + count) b → least_of (drop count (drop n ps)) ≡ standing.Passes
new_behind ps n count b is =
    ap (λ (qs : List Standing). least_of (drop count (drop n qs))) is
    ∙ (ap (λ (qs : List Standing). least_of (drop count qs)) (behind_first n count b (n + count) refl)
    ∙ (ap least_of (tails count) ∙ passing b))
  where
    tails : (m : ℕ) → drop m (fresh m b) ≡ replicate b standing.Passes
    tails zero = refl
    tails (suc m) = tails m
