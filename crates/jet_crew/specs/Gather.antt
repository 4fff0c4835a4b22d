-- The tasks of all workers as one list.
use Rattle.std.specs.Prelude.{◌≡◌, ◌≢◌, ℕ, List, [], ◌∷◌, Option, None, Some, length, slice_get}
use Rattle.jet_crew.specs.declared.worker.Worker.{Worker}
use Rattle.jet_crew.specs.declared.spot.Spot.{Spot}

-- u is another place than s
abbrev pub IsOther : Spot → Spot → Type 0
IsOther s u = u.worker ≡ s.worker → u.slot ≢ s.slot

abbrev pub AwayFrom : Spot → List Spot → Type 0
AwayFrom s [] = Unit {0}
AwayFrom s (u ∷ us) = IsOther s u × AwayFrom s us

-- no spot stands twice
abbrev pub Apart : List Spot → Type 0
Apart [] = Unit {0}
Apart (s ∷ ss) = AwayFrom s ss × Apart ss

-- the list has a spot for this place of a worker
pub record HasSpot (ss : List Spot) (worker slot : ℕ) : Type 0 where
  pub place : ℕ
  pub spot : Spot
  pub stands : slice_get ss place ≡ Some spot
  pub is : (spot.worker ≡ worker) × (spot.slot ≡ slot)

module _ {T : Type 0} where
  abbrev pub task_in : Option (Worker T) → ℕ → Option T
  task_in None slot = None
  task_in (Some w) slot = slice_get w.tasks.items slot

  -- the task at a worker's slot, if there is one
  abbrev pub lookup : List (Worker T) → ℕ → ℕ → Option T
  lookup ws worker slot = task_in (slice_get ws worker) slot

  abbrev pub put_if : Option T → List T → List T
  put_if None ts = ts
  put_if (Some t) ts = t ∷ ts

  -- the tasks at these spots, in order
  abbrev pub gather : List (Worker T) → List Spot → List T
  gather ws [] = []
  gather ws (s ∷ ss) = put_if (lookup ws s.worker s.slot) (gather ws ss)

  -- each spot holds a task, no spot stands twice, and each task has one
  pub record Placed (ws : List (Worker T)) (ss : List Spot) : Type 0 where
    pub filled : length (gather ws ss) ≡ length ss
    pub apart : Apart ss
    pub covered : (worker slot : ℕ) (t : T) → lookup ws worker slot ≡ Some t → HasSpot ss worker slot

  -- how many epochs each worker had
  abbrev pub epochs_of : List (Worker T) → List ℕ
  epochs_of [] = []
  epochs_of (w ∷ ws) = w.epochs ∷ epochs_of ws
