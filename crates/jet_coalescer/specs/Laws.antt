-- What the watermark of queues that are never idle is, by what came from each of them.
use Rattle.std.specs.Prelude.{◌≡◌, false, ℤ, ◌≤ℤ◌, List, map, Some}
use Rattle.std.specs.Option.{IsSomeAnd}
use Rattle.jet_coalescer.specs.Low.{History, known, low, all_done}
use Rattle.jet_coalescer.specs.Queues.{HaveReached, IsLeast}

-- the watermark is the least of the greatest marks of the queues without Done: each of these has reached it, and one has it
abbrev pub LowIsLeast : Type 0
LowIsLeast = (told : List History) (t : ℤ) → low told ≡ Some t → IsLeast (map known told) t

-- while a queue is without Done, the watermark has got to each time that all such queues have reached
abbrev pub LowHoldsNoneBack : Type 0
LowHoldsNoneBack = (told : List History) (s : ℤ) → all_done told ≡ false → HaveReached (map known told) s → IsSomeAnd (low told) (λ t. s ≤ℤ t)
