-- That a sink's queues are those of a conveyor.
use Rattle.std.specs.Prelude.{◌≡◌, List, length, map}
use Rattle.jet_coalescer.specs.declared.queue.Queue.{Queue}
use Rattle.jet_conveyor.specs.Conveyor as conveyor

-- there are as many, and the same ones are done
pub record AreAlike (queues : List Queue) (v : conveyor.View) : Type 0 where
  pub count : length queues ≡ length v.rings
  pub lists : length v.received ≡ length v.rings
  pub done : map (λ queue. queue.done) queues ≡ v.done
