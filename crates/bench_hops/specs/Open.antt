-- Coalescers of which no queue is done.
use Rattle.std.specs.Prelude.{◌≡◌, ℕ, false}
use Rattle.jet_coalescer.specs.Queues.{is_done_at}
use Rattle.jet_coalescer.specs.View.{View}

abbrev pub AreOpen : View → Type 0
AreOpen c = (q : ℕ) → is_done_at c q ≡ false
