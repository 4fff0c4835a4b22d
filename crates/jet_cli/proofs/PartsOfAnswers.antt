-- What the parts of an answer say.
use Rattle.std.specs.Prelude.{Result, Ok, Err, IfOk, IfErr}

-- what the value of an answer says is weaker, and what its error says
pub if_ok_weaker : {V E : Type 0} (r : Result V E) (P Q : V → Type 0) → ((v : V) → P v → Q v) → IfOk r P → IfOk r Q
if_ok_weaker (Ok v) P Q f h = f v h
if_ok_weaker (Err e) P Q f h = tt

pub if_err_weaker : {V E : Type 0} (r : Result V E) (P Q : E → Type 0) → ((e : E) → P e → Q e) → IfErr r P → IfErr r Q
if_err_weaker (Ok v) P Q f h = tt
if_err_weaker (Err e) P Q f h = f e h
