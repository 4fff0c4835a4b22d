-- How many queues are left.
use Rattle.std.specs.Prelude.{ℕ, not, List, count_by}
use Rattle.jet_coalescer.specs.declared.queue.Queue.{Queue}

-- how many queues are not done
abbrev pub left_count : List Queue → ℕ
left_count queues = count_by (λ queue. not queue.done) queues
