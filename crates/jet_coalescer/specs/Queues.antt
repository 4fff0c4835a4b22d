-- What a coalescer knows of its queues, and the watermark that they have now.
use Rattle.std.specs.Prelude.{◌≡◌, ℕ, Bool, true, false, not, ◌||◌, ℤ, ◌≤ℤ◌, List, map, filter, Option, Some, None, slice_get, slice_set, slice_index_or}
use Rattle.std.specs.List.{list_all}
use Rattle.std.specs.Option.{IsSomeAnd}
use Rattle.std.specs.Int.{int_min, int_max}
use Rattle.jet_coalescer.specs.Low.{least, has_risen}
use Rattle.jet_coalescer.specs.View.{View}
use Rattle.jet_coalescer.specs.declared.queue.Queue.{Queue}

-- nothing is known of a queue
abbrev pub unknown : Queue
unknown = record { mark = None; done = false; idle = false }

-- the queue is done
abbrev pub is_done_at : View → ℕ → Bool
is_done_at c q = let queue = slice_index_or c.queues q unknown in queue.done

-- a queue counts for the watermark while it is neither done nor idle
abbrev pub counts : Queue → Bool
counts queue = not (queue.done || queue.idle)

-- the greater of a mark, if there is one, and one more
abbrev pub greatest_with : Option ℤ → ℤ → Option ℤ
greatest_with None t = Some t
greatest_with (Some mark) t = Some (int_max mark t)

-- the lesser of a mark, if there is one, and one more
abbrev pub least_with : Option ℤ → ℤ → Option ℤ
least_with None t = Some t
least_with (Some mark) t = Some (int_min mark t)

-- the greater of two watermarks, where none is less than any
abbrev pub greater : Option ℤ → Option ℤ → Option ℤ
greater low None = low
greater low (Some t) = greatest_with low t

-- one queue changes, and no other
abbrev pub with_queue : (Queue → Queue) → List Queue → ℕ → List Queue
with_queue change queues q = slice_set queues q (change (slice_index_or queues q unknown))

-- one more mark of a queue: its mark becomes the greater of it and this one, and it is idle no more
abbrev pub with_queue_mark : ℤ → Queue → Queue
with_queue_mark t queue = record { mark = greatest_with queue.mark t; done = queue.done; idle = false }

abbrev pub with_queue_done : Queue → Queue
with_queue_done queue = record { mark = queue.mark; done = true; idle = queue.idle }

abbrev pub with_queue_idle : Bool → Queue → Queue
with_queue_idle idle queue = record { mark = queue.mark; done = queue.done; idle = idle }

abbrev pub marked : List Queue → ℕ → ℤ → List Queue
marked queues q t = with_queue (with_queue_mark t) queues q

abbrev pub ended : List Queue → ℕ → List Queue
ended queues q = with_queue with_queue_done queues q

abbrev pub idled : List Queue → ℕ → List Queue
idled queues q = with_queue (with_queue_idle true) queues q

abbrev pub woken : List Queue → ℕ → List Queue
woken queues q = with_queue (with_queue_idle false) queues q

-- the marks of the queues that count
abbrev pub open_marks : List Queue → List (Option ℤ)
open_marks queues = map (λ queue. queue.mark) (filter counts queues)

-- The present value: the least of these marks. None where no queue counts, or where one that does has no mark yet.
abbrev pub present : List Queue → Option ℤ
present queues = least (open_marks queues)

-- no queue is left
abbrev pub none_left : List Queue → Bool
none_left queues = list_all (λ queue. queue.done) queues

-- each queue that counts has a mark, which is not below t
abbrev pub HaveReached : List Queue → ℤ → Type 0
HaveReached queues t = (q : ℕ) (queue : Queue) → slice_get queues q ≡ Some queue → counts queue ≡ true → IsSomeAnd queue.mark (λ mark. t ≤ℤ mark)

-- t is the least mark of the queues that count: each of them has reached it, and one has it
pub record IsLeast (queues : List Queue) (t : ℤ) : Type 0 where
  pub reached : HaveReached queues t
  pub q : ℕ
  pub queue : Queue
  pub is : slice_get queues q ≡ Some queue
  pub counted : counts queue ≡ true
  pub has : queue.mark ≡ Some t

-- the present value is that, where there is one
abbrev pub PresentIsLeast : List Queue → Type 0
PresentIsLeast queues = (t : ℤ) → present queues ≡ Some t → IsLeast queues t

-- a watermark that rose from `before` is the least mark of the queues that count
abbrev pub RisesToLeast : Option ℤ → View → Type 0
RisesToLeast before c = (t : ℤ) → c.low ≡ Some t → has_risen before t ≡ true → IsLeast c.queues t

-- while a queue counts, the watermark has got to each time that all of these have reached
abbrev pub HoldsNoneBack : View → Type 0
HoldsNoneBack c = (s : ℤ) (q : ℕ) (queue : Queue) → HaveReached c.queues s → slice_get c.queues q ≡ Some queue → counts queue ≡ true → IsSomeAnd c.low (λ t. s ≤ℤ t)
