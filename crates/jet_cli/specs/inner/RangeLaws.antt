-- What a law of valid jobs says to the check of a job.
use Rattle.std.specs.Prelude.{◌≡◌, None, pos, unsigned_abs}
use Rattle.jet_plan.specs.declared.dag.Dag.{Dag}
use Rattle.jet_plan.specs.declared.settings.Settings.{Settings}
use Rattle.jet_plan.specs.Faults.{fault}

-- a valid job allows a number of lines that is not below zero
abbrev pub AllowsLines : Type 0
AllowsLines = (dag : Dag) (settings : Settings) → fault dag settings ≡ None → settings.lines ≡ pos (unsigned_abs settings.lines)
