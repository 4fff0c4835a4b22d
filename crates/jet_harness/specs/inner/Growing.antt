-- What rings that are made add to a harness.
use Rattle.std.specs.Prelude.{ℕ, List, ◌++◌}
use Rattle.jet_ring.specs.Ring.{Ring}
use Rattle.jet_harness.specs.declared.channel.Channel.{Channel}
use Rattle.jet_harness.specs.declared.harness.Harness.{Harness}
use Rattle.jet_harness.specs.Harness.{Joins}

-- rings of these channels are added behind those that are there
abbrev pub Adds : List Channel → ℕ → Harness → Harness → Type 0
Adds more capacity a b = (channels : List Channel) (rings : List Ring) → Joins channels capacity rings a → (all : List Ring) × Joins (channels ++ more) capacity all b
