-- The numbers of the faults of an expression.
use Rattle.std.specs.Prelude.{ℕ}
use Rattle.jet_expr.specs.declared.fault.ExprFault.{ExprFault}
use Rattle.jet_expr.specs.declared.fault.ExprFault.TheVariants.{Unknown, Expected, NumberRange, Deep, Large}

-- the number by which programs tell a fault
abbrev pub fault_number : ExprFault → ℕ
fault_number (Unknown at) = 1
fault_number (Expected at) = 2
fault_number (NumberRange at) = 3
fault_number Deep = 4
fault_number Large = 5
