-- What a call answers that may also want memory.
use Rattle.std.specs.Prelude.{◌≡◌, Result, Ok, Err}
use Rattle.jet_items.specs.declared.no_memory.Refused.{Refused}
use Rattle.jet_items.specs.declared.no_memory.Refused.TheVariants as refused

-- a fault is the one that is wanted; want of memory is free
abbrev pub Fails : {Y F : Type 0} → Refused F → Result Y F → Type 0
Fails (refused.Fault f) wanted = wanted ≡ Err f
Fails refused.NoMemory wanted = Unit {0}

-- the answer is the one that is wanted, unless memory ran out
abbrev pub Gives : {Y F : Type 0} → Result Y (Refused F) → Result Y F → Type 0
Gives (Ok x) wanted = wanted ≡ Ok x
Gives (Err e) wanted = Fails e wanted
