-- Which worker has which tasklet.
use Rattle.std.specs.Prelude.{◌≡◌, ◌==◌, ℕ, ◌+◌, ◌*◌, ◌%◌, List, count_by, take, Some, slice_get}
use Rattle.jet_crew.specs.declared.spot.Spot.{Spot}
use Rattle.jet_layout.specs.declared.task.Task.{Task}
use Rattle.jet_layout.specs.Tasks.{member_of}

-- how many of the first n tasklets stand on a member
abbrev pub before_on : List Task → ℕ → ℕ → ℕ
before_on sites n member = count_by (λ s. member_of s == member) (take n sites)

-- The tasklets of each member are dealt in turn to its workers, of which each member has `each`.
pub record IsDealt (each : ℕ) (sites : List Task) (order : List Spot) : Type 0 where
  pub turn : (n : ℕ) (site : Task) (spot : Spot) → slice_get sites n ≡ Some site → slice_get order n ≡ Some spot
      → spot.worker ≡ member_of site * each + before_on sites n (member_of site) % each
