-- A job that runs: what is known of it between two epochs.
use Rattle.std.specs.Prelude.{◌≡◌, ◌≢◌, ◌≤ℤ◌, pos, ℕ, Bool, length, All, IsTrue}
use Rattle.std.specs.List.{AllPairs}
use Rattle.jet_conveyor.specs.Conveyor as lanes
use Rattle.jet_engine.specs.Jobs.{IsReady}
use Rattle.jet_items.specs.Ranges.{most_time}
use Rattle.jet_sink.specs.Alike.{AreAlike}
use Rattle.jet_sink.specs.View.{view}
use Rattle.jet_coordinator.specs.declared.run.Running.{Running}

-- what each step wants: the job is ready, and each of its rings has the feed of an opened file of its own
pub record CanGo (is_open : ℕ → Bool) (r : Running) : Type 0 where
  pub ready : IsReady r.job
  pub ahead : (pos 0 ≤ℤ r.ahead) × (r.ahead ≤ℤ pos most_time)
  pub rings : length r.job.feeds.items ≡ length r.feeds.items
  pub opened : All (λ f. IsTrue (is_open f.file)) r.feeds.items
  pub apart : AllPairs (λ f g. f.file ≢ g.file) r.feeds.items
  pub alike : AreAlike (view r.sink).marks.queues (lanes.view r.job.sink)
