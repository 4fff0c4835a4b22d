-- Standings that begin with those of some queues, and behind which nothing counts.
use Rattle.std.proofs.Common.{◌≡◌, ℕ, zero, suc, ◌-◌, ◌≤◌, ◌<◌, List, [], ◌∷◌, ◌++◌, length, take, drop, replicate, refl, ap, sym, ◌∙◌, arith, slice_set}
use Rattle.std.proofs.lemmas.List.{take_all, length-map, length-take, length-replicate, length-set, drop-set-lt, map-set}
use Rattle.jet_coalescer.specs.declared.queue.Queue.{Queue}
use Rattle.jet_coalescer.specs.declared.standing.Standing.{Standing}
use Rattle.jet_coalescer.specs.declared.standing.Standing.TheVariants as standing
use Rattle.jet_coalescer.specs.Queues.{unknown, present}
use Rattle.jet_coalescer.specs.inner.Standings.{lesser, least_of, mark_of, standing_of, standings}
use Rattle.jet_coalescer.specs.inner.Tournaments.{IsOf}
use Rattle.jet_coalescer.proofs.Lesser.{lesser-passes, least_is_present, standings-unknown}
use Rattle.jet_coalescer.proofs.Playing.{least_parts}

pub as_many : (qs : List Queue) (all : List Standing) → IsOf qs all → length qs ≤ length all
as_many qs all is = omega (arith, length-take (length qs) all, ap length is.0, length-map qs standing_of)

-- a new list, filled
pub filled : (now before : List Queue) (n many : ℕ) → before ≡ [] → many ≡ 0 → now ≡ take n before ++ replicate (n - many) unknown → now ≡ replicate n unknown
filled now before n many none zero_is is =
    let all : n - many ≡ n = omega (arith, zero_is) in
    is
    ∙ (ap (λ (qs : List Queue). take n qs ++ replicate (n - many) unknown) none
    ∙ (ap (λ (qs : List Queue). qs ++ replicate (n - many) unknown) (take_all n [] (omega arith))
    ∙ ap (λ (i : ℕ). replicate i unknown) all))

pub of_new : (qs : List Queue) (all : List Standing) (n : ℕ) → qs ≡ replicate n unknown → take n all ≡ replicate n standing.Waits → least_of (drop n all) ≡ standing.Passes → IsOf qs all
of_new qs all n is waits passes =
    let many : length qs ≡ n = ap length is ∙ length-replicate n unknown in (
      ap (λ (i : ℕ). take i all) many ∙ (waits ∙ (sym (standings-unknown n) ∙ ap standings (sym is))),
      ap (λ (i : ℕ). least_of (drop i all)) many ∙ passes,
    )

take_set : (n at : ℕ) (all : List Standing) (s : Standing) → at < n → take n (slice_set all at s) ≡ slice_set (take n all) at s
take_set zero at all s less = absurd (omega (arith, less))
take_set (suc n) at [] s less = refl
take_set (suc n) zero (t ∷ all) s less = refl
take_set (suc n) (suc at) (t ∷ all) s less = ap (λ (ss : List Standing). t ∷ ss) (take_set n at all s (omega (arith, less)))

pub of_set : (qs : List Queue) (all : List Standing) (at : ℕ) (queue : Queue) → IsOf qs all → at < length qs → IsOf (slice_set qs at queue) (slice_set all at (standing_of queue))
of_set qs all at queue is less =
    let n : ℕ = length qs in
    let s : Standing = standing_of queue in
    let many : length (slice_set qs at queue) ≡ n = length-set qs at queue in (
      ap (λ (i : ℕ). take i (slice_set all at s)) many
          ∙ (take_set n at all s less
          ∙ (ap (λ (ss : List Standing). slice_set ss at s) is.0
          ∙ sym (map-set standing_of qs at queue))),
      ap (λ (i : ℕ). least_of (drop i (slice_set all at s))) many
          ∙ (ap least_of (drop-set-lt n all at s less) ∙ is.1),
    )

pub of_present : (qs : List Queue) (all : List Standing) → IsOf qs all → mark_of (least_of all) ≡ present qs
of_present qs all is =
    ap mark_of (least_parts (length qs) all
    ∙ (ap (λ (ss : List Standing). lesser (least_of ss) (least_of (drop (length qs) all))) is.0
    ∙ (ap (lesser (least_of (standings qs))) is.1
    ∙ lesser-passes (least_of (standings qs)))))
    ∙ least_is_present qs
