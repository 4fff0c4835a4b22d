-- When sizes are refused, and why.
use Rattle.std.specs.Prelude.{ℕ, Bool, not, ◌&&◌, ℤ, pos, ◌*ℤ◌, int_le, int_lt, Option, Some, None, if◌then◌else◌}
use Rattle.std.specs.Ordering.{int_eq}
use Rattle.std.specs.Int.{int_rem_euclid}
use Rattle.jet_policy.specs.declared.policy.PolicyFault.{PolicyFault}
use Rattle.jet_policy.specs.declared.policy.PolicyFault.TheVariants.{Size, Slide, NotMultiple, Ratio}

-- from 1 to 10 ^ 12
abbrev pub is_length : ℤ → Bool
is_length z = int_le (pos 1) z && int_le z (pos 1000000000000)

-- the first fault of the sizes
abbrev pub policy_fault : ℤ → ℤ → Option PolicyFault
policy_fault size slide =
    if not (is_length size) then Some Size
    else if not (is_length slide) then Some Slide
    else if not (int_eq (int_rem_euclid size slide) (pos 0)) then Some NotMultiple
    else if int_lt (pos 1024 *ℤ slide) size then Some Ratio
    else None

-- the faults by their numbers, from 1 on
abbrev pub fault_number : PolicyFault → ℕ
fault_number Size = 1
fault_number Slide = 2
fault_number NotMultiple = 3
fault_number Ratio = 4
