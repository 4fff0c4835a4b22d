-- The numbers of faults, and where they are.
use Rattle.std.specs.Prelude.{ℕ, Option, Some, None}
use Rattle.jet_plan.specs.declared.setting_name.SettingName.TheVariants.{Lag}
use Rattle.jet_plan.specs.declared.large.Large.TheVariants.{Growth}
use Rattle.jet_plan.specs.declared.fault.PlanFault.{PlanFault}
use Rattle.jet_plan.specs.declared.fault.PlanFault.TheVariants.{NoVertex, TooMany, DoubleName, UnknownEnd, Cycle, NoSource, SinkCount, WrongInputs, WrongOutputs, WindowPath, SideMixed, IsolatedDistributed, BroadcastData, NotGathered, KeyGrowth, Policy, Setting, TooLarge}

-- the faults by their numbers, from 1 on
abbrev pub fault_number : PlanFault → ℕ
fault_number NoVertex = 1
fault_number (TooMany many) = 2
fault_number (DoubleName at) = 3
fault_number (UnknownEnd at) = 4
fault_number Cycle = 5
fault_number NoSource = 6
fault_number (SinkCount count) = 7
fault_number (WrongInputs at) = 8
fault_number (WrongOutputs at) = 9
fault_number (WindowPath at) = 10
fault_number (SideMixed at) = 11
fault_number (IsolatedDistributed at) = 12
fault_number (BroadcastData at) = 13
fault_number (NotGathered at) = 14
fault_number (KeyGrowth at) = 15
fault_number (Policy at why) = 16
fault_number (Setting name) = 17
fault_number (TooLarge what) = 18

-- the number of the vertex or edge that has the fault
abbrev pub fault_place : PlanFault → Option ℕ
fault_place (DoubleName at) = Some at
fault_place (UnknownEnd at) = Some at
fault_place (WrongInputs at) = Some at
fault_place (WrongOutputs at) = Some at
fault_place (WindowPath at) = Some at
fault_place (SideMixed at) = Some at
fault_place (IsolatedDistributed at) = Some at
fault_place (BroadcastData at) = Some at
fault_place (NotGathered at) = Some at
fault_place (KeyGrowth at) = Some at
fault_place (Policy at why) = Some at
fault_place (Setting (Lag at)) = Some at
fault_place (TooLarge (Growth at)) = Some at
fault_place _ = None
