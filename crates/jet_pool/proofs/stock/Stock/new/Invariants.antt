use Rattle.std.proofs.Common.{◌≡◌, ◌≤◌, length}
use Rattle.std.specs.List.{All}
use Rattle.std.specs.Vec.{vec_capacity}
use Rattle.jet_pool.specs.Pool.{empty_buf}
use Rattle.jet_pool.proofs.stock.Stock.new.Given as goal

abbrev pub invariant-loop : goal.invariant-loop
invariant-loop l =
    (length l.buffers.items ≡ l.counter) × (l.n ≤ vec_capacity l.buffers) × All (λ b. b ≡ empty_buf l.bytes) l.buffers.items
