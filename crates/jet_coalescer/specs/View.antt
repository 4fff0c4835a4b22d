-- What a contract sees of a coalescer.
use Rattle.std.specs.Prelude.{ℤ, List, Option}
use Rattle.jet_coalescer.specs.declared.queue.Queue.{Queue}

-- its queues, and the watermark
pub record View : Type 0 where
  pub queues : List Queue
  pub low : Option ℤ
