-- Tournaments: a list in which the standings of the queues stand at the end, and at each place before these the least of the
-- eight places below it.
use Rattle.std.specs.Prelude.{◌≡◌, ℕ, ◌+◌, ◌*◌, ◌≤◌, ◌<◌, ◌⊎◌, ℤ, List, map, length, take, drop, slice_index_or}
use Rattle.jet_coalescer.specs.inner.Standings.{least_of, standing_at, standings}
use Rattle.jet_coalescer.specs.declared.queue.Queue.{Queue}
use Rattle.jet_coalescer.specs.declared.standing.Standing.{Standing}
use Rattle.jet_coalescer.specs.declared.standing.Standing.TheVariants as standing

-- the standings that these ranks stand for
abbrev pub places : List ℤ → List Standing
places ranks = map standing_at ranks

-- what stands at a place
abbrev pub place : List Standing → ℕ → Standing
place places k = slice_index_or places k standing.Passes

-- so many places from one on
abbrev pub span : List Standing → ℕ → ℕ → List Standing
span places k m = take m (drop k places)

-- the least of the eight places below a place
abbrev pub below : List Standing → ℕ → Standing
below places k = least_of (span places (8 * k + 1) 8)

-- a tournament whose queues stand from this place on
abbrev pub IsTournament : ℕ → List Standing → Type 0
IsTournament first places = (length places ≡ 8 * first + 1) × ((k : ℕ) → k < first → place places k ≡ below places k)

-- the same, but perhaps for the place that this one is below
abbrev pub IsTournamentBut : ℕ → List Standing → ℕ → Type 0
IsTournamentBut first places at = (k : ℕ) → k < first → (at ≤ 8 * k) ⊎ (8 * k + 8 < at) → place places k ≡ below places k

-- standings that are those of these queues, and behind these no other counts
abbrev pub IsOf : List Queue → List Standing → Type 0
IsOf queues all = (take (length queues) all ≡ standings queues) × (least_of (drop (length queues) all) ≡ standing.Passes)
