-- What the queues let the watermark be, each alone and all together.
use Rattle.std.specs.Prelude.{if◌then◌else◌, Bool, true, false, ℤ, pos, neg_ℤ, List, [], ◌∷◌, map, Option, Some, None, int_lt}
use Rattle.std.specs.Int.{int_min}
use Rattle.jet_items.specs.Ranges.{most_mark}
use Rattle.jet_coalescer.specs.Queues.{counts}
use Rattle.jet_coalescer.specs.declared.queue.Queue.{Queue}
use Rattle.jet_coalescer.specs.declared.standing.Standing.{Standing}
use Rattle.jet_coalescer.specs.declared.standing.Standing.TheVariants as standing

-- the lesser of two
abbrev pub lesser : Standing → Standing → Standing
lesser standing.Waits other = standing.Waits
lesser (standing.At t) standing.Waits = standing.Waits
lesser (standing.At t) (standing.At u) = standing.At (int_min t u)
lesser (standing.At t) standing.Passes = standing.At t
lesser standing.Passes other = other

-- the least of several
abbrev pub least_of : List Standing → Standing
least_of [] = standing.Passes
least_of (s ∷ rest) = lesser s (least_of rest)

abbrev pub mark_of : Standing → Option ℤ
mark_of standing.Waits = None
mark_of (standing.At t) = Some t
mark_of standing.Passes = None

-- a queue without a mark waits
abbrev pub at_mark : Option ℤ → Standing
at_mark None = standing.Waits
at_mark (Some t) = standing.At t

-- a queue that does not count passes
abbrev pub standing_of : Queue → Standing
standing_of queue = if counts queue then at_mark queue.mark else standing.Passes

-- how each queue stands
abbrev pub standings : List Queue → List Standing
standings queues = map standing_of queues

-- the standing that a number stands for: one below all marks waits, and one above passes
abbrev pub placed : Bool → Bool → ℤ → Standing
placed true above t = standing.Waits
placed false true t = standing.Passes
placed false false t = standing.At t

abbrev pub standing_at : ℤ → Standing
standing_at t = placed (int_lt t (neg_ℤ (pos most_mark))) (int_lt (pos most_mark) t) t
