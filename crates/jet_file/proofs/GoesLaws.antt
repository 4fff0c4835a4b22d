-- Laws, generic in the properties R, S and T of steps: steps of an outside that tells all, one after another. Each loop over an
-- outside keeps a fact `WhereTold R old now`, and these laws carry it over one call more.
use Rattle.std.specs.Prelude.{Option, Some, None}
use Rattle.jet_file.specs.Outside.{Told, WhereTold}

-- two steps are one
pub goes_then : (R S T : Told → Told → Type 0) → ((a b c : Told) → R a b → S b c → T a c)
    → (old now next : Option Told) → WhereTold R old now → WhereTold S now next → WhereTold T old next
goes_then R S T joins None now next r s = tt
goes_then R S T joins (Some old) None next r s = absurd r
goes_then R S T joins (Some old) (Some now) None r s = absurd s
goes_then R S T joins (Some old) (Some now) (Some next) r s = joins old now next r s

-- a step is a weaker one
pub goes_weaker : (R S : Told → Told → Type 0) → ((a b : Told) → R a b → S a b) → (old now : Option Told) → WhereTold R old now → WhereTold S old now
goes_weaker R S weaker None now r = tt
goes_weaker R S weaker (Some old) None r = absurd r
goes_weaker R S weaker (Some old) (Some now) r = weaker old now r

-- two facts of one step are one
pub goes_both : (R S T : Told → Told → Type 0) → ((a b : Told) → R a b → S a b → T a b) → (old now : Option Told) → WhereTold R old now → WhereTold S old now → WhereTold T old now
goes_both R S T joins None now r s = tt
goes_both R S T joins (Some old) None r s = absurd r
goes_both R S T joins (Some old) (Some now) r s = joins old now r s

-- no step
pub goes_same : (R : Told → Told → Type 0) → ((a : Told) → R a a) → (old : Option Told) → WhereTold R old old
goes_same R same None = tt
goes_same R same (Some old) = same old
