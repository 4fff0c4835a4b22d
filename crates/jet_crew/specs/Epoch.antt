-- What an epoch leaves, and what its answer says of the tasks.
use Rattle.std.specs.Prelude.{◌≡◌, ◌⊎◌, ℕ, ◌<◌, ◌+◌, ◌%◌, ◌^◌, List, All, length, slice_index_or}
use Rattle.jet_crew.specs.declared.end.EpochEnd.{EpochEnd}
use Rattle.jet_crew.specs.declared.end.EpochEnd.TheVariants.{Moved, Idle, Done, NoMemory}
use Rattle.jet_crew.specs.declared.worker.Worker.{Worker}
use Rattle.jet_crew.specs.Turns.{Together, Took}

-- what holds before each turn holds of each task of a worker
abbrev pub AllKeep : {T : Type 0} → (T → Type 0) → Worker T → Type 0
AllKeep keeps w = All keeps w.tasks.items

-- two lists of one length, of which each two in the same place are related
pub record Placewise {T : Type 0} (R : T → T → Type 0) (xs ys : List T) : Type 0 where
  pub count : length ys ≡ length xs
  pub each : (k : ℕ) (d : T) → k < length xs → R (slice_index_or xs k d) (slice_index_or ys k d)

-- two in some place are related
pub record SomePlace {T : Type 0} (R : T → T → Type 0) (xs ys : List T) : Type 0 where
  pub place : ℕ
  pub exists : place < length xs
  pub has : (d : T) → R (slice_index_or xs place d) (slice_index_or ys place d)

-- NoMemory: some task wanted memory. Moved: some task moved something. Idle: each is idle or has ended. Done: each has ended.
abbrev pub SaidAll : {T : Type 0} → (EpochEnd → T → T → Type 0) → EpochEnd → List T → List T → Type 0
SaidAll said NoMemory xs ys = SomePlace (said NoMemory) xs ys
SaidAll said Moved xs ys = SomePlace (said Moved) xs ys
SaidAll said Idle xs ys = Placewise (λ a b. said Idle a b ⊎ said Done a b) xs ys
SaidAll said Done xs ys = Placewise (said Done) xs ys

-- each task of a list took so many turns, and what all of these came to
pub record TookAll {T : Type 0} (went : T → T → Type 0) (said : EpochEnd → T → T → Type 0) (turns : ℕ) (end : EpochEnd) (xs ys : List T) : Type 0 where
  pub count : length ys ≡ length xs
  pub ends : List EpochEnd
  pub each : length ends ≡ length xs
  pub took : (k : ℕ) (d : T) → k < length xs → Took went said turns (slice_index_or ends k Done) (slice_index_or xs k d) (slice_index_or ys k d)
  pub together : Together ends end

-- each task of a list went on, and the answer says it of all
pub record EpochOver {T : Type 0} (went : T → T → Type 0) (said : EpochEnd → T → T → Type 0) (end : EpochEnd) (xs ys : List T) : Type 0 where
  pub went_all : Placewise went xs ys
  pub said_all : SaidAll said end xs ys

-- a worker had an epoch
pub record Worked {T : Type 0} (went : T → T → Type 0) (said : EpochEnd → T → T → Type 0) (turns : ℕ) (a b : Worker T) : Type 0 where
  pub took : TookAll went said turns b.end a.tasks.items b.tasks.items
  pub over : EpochOver went said b.end a.tasks.items b.tasks.items
  pub epochs : b.epochs ≡ (a.epochs + 1) % 2 ^ 128

-- and so had each worker
abbrev pub AllWorked : {T : Type 0} → (T → T → Type 0) → (EpochEnd → T → T → Type 0) → ℕ → List (Worker T) → List (Worker T) → Type 0
AllWorked went said turns ws vs = Placewise (Worked went said turns) ws vs
