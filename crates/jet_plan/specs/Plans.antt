-- Which jobs are accepted.
use Rattle.std.specs.Prelude.{◌≡◌, None, Some}
use Rattle.jet_items.specs.declared.no_memory.Refused.{Refused}
use Rattle.jet_items.specs.declared.no_memory.Refused.TheVariants as refused
use Rattle.jet_plan.specs.declared.dag.Dag.{Dag}
use Rattle.jet_plan.specs.declared.settings.Settings.{Settings}
use Rattle.jet_plan.specs.declared.fault.PlanFault.{PlanFault}
use Rattle.jet_plan.specs.Faults.{fault}

-- a job without a fault
abbrev pub IsValid : Dag → Settings → Type 0
IsValid dag s = fault dag s ≡ None

-- the fault is the first of the job; want of memory is free
abbrev pub IsFirst : Dag → Settings → Refused PlanFault → Type 0
IsFirst dag s (refused.Fault f) = fault dag s ≡ Some f
IsFirst dag s refused.NoMemory = Unit {0}
