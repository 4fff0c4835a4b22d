-- The numbers of the faults of a line.
use Rattle.std.specs.Prelude.{ℕ}
use Rattle.jet_lines.specs.declared.fault.LineFault.{LineFault}
use Rattle.jet_lines.specs.declared.fault.LineFault.TheVariants as fault

-- the number by which programs tell a fault
abbrev pub fault_number : LineFault → ℕ
fault_number fault.TooLong = 1
fault_number (fault.BadByte at) = 2
fault_number fault.Quote = 3
fault_number fault.Fields = 4
fault_number (fault.Number place) = 5
fault_number (fault.Key key) = 6
fault_number fault.TooMany = 7
fault_number fault.KeyFull = 8
