-- What one token more gives.
use Rattle.std.specs.Prelude.{◌≡◌, ℕ, Some, None, Result, Ok, Err}
use Rattle.jet_expr.specs.Term.{Term}
use Rattle.jet_expr.specs.Machine.{State, advance, terms, is_full, fault_at}
use Rattle.jet_expr.specs.States.{state_of}
use Rattle.jet_expr.specs.declared.fault.ExprFault.{ExprFault}
use Rattle.jet_expr.specs.declared.token.Token.{Token}
use Rattle.jet_expr.specs.declared.state.State as rust
use Rattle.jet_items.specs.declared.no_memory.Refused.{Refused}
use Rattle.jet_items.specs.declared.no_memory.Refused.TheVariants as refused

abbrev pub Refuses : Refused ExprFault → State Term → ℕ → Token → Type 0
Refuses (refused.Fault f) s at t = (advance terms s t ≡ None) × (f ≡ fault_at (is_full s) at t)
Refuses refused.NoMemory s at t = Unit {0}

-- the next state, or the fault, or no memory was found
abbrev pub Advances : Result rust.State (Refused ExprFault) → State Term → ℕ → Token → Type 0
Advances (Ok next) s at t = advance terms s t ≡ Some (state_of next)
Advances (Err e) s at t = Refuses e s at t
