-- The numbers of the faults, and where they are.
use Rattle.std.specs.Prelude.{ℕ, Option, Some, None}
use Rattle.jet_job.specs.declared.place.Place.{Place}
use Rattle.jet_job.specs.declared.fault.JobFault.{JobFault}
use Rattle.jet_job.specs.declared.fault.JobFault.TheVariants.{Long, NotJson, Missing, WrongKind, UnknownField, Expr}

-- the faults by their numbers, from 1 on
abbrev pub fault_number : JobFault → ℕ
fault_number Long = 1
fault_number NotJson = 2
fault_number (Missing place which) = 3
fault_number (WrongKind place which) = 4
fault_number (UnknownField place) = 5
fault_number (Expr place which why) = 6

-- the object that has the fault
abbrev pub fault_place : JobFault → Option Place
fault_place Long = None
fault_place NotJson = None
fault_place (Missing place which) = Some place
fault_place (WrongKind place which) = Some place
fault_place (UnknownField place) = Some place
fault_place (Expr place which why) = Some place
