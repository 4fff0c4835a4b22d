-- How long the keys are that a job holds.
use Rattle.std.specs.Prelude.{ℕ, ◌≤◌, List, length, All}
use Rattle.jet_flow.specs.Flow.{Contents}

-- no key of an event and no label of a row has more than 24 bytes
pub record AreShort (files : Contents) : Type 0 where
  pub keys : (name : List ℕ) → All (λ e. length e.key ≤ 24) (files.events name)
  pub labels : (name : List ℕ) → All (λ s. length s.label ≤ 24) (files.rows name)
