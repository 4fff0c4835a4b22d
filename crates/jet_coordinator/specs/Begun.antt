-- How a run begins.
use Rattle.std.specs.Prelude.{◌≡◌, ◌≢◌, ℕ, Bool, List, [], length, All, Some, IsTrue}
use Rattle.std.specs.List.{AllPairs}
use Rattle.jet_deploy.specs.Deployed.{IsDeployed}
use Rattle.jet_items.specs.declared.item.Item.{Item}
use Rattle.jet_items.specs.Rows.{Window}
use Rattle.jet_feed.specs.declared.feed.Feed.{Feed}
use Rattle.jet_file.specs.Outside.{Told}
use Rattle.jet_ring.specs.Ring.{TxView}
use Rattle.jet_sink.specs.Drained.{HasDrained}
use Rattle.jet_sink.specs.View.{view}
use Rattle.jet_worker.specs.CheckText.{Checks}
use Rattle.jet_worker.specs.Opening.{AreNew, HasOpened, Opened}
use Rattle.jet_coordinator.specs.Feeds.{AreFed}
use Rattle.jet_coordinator.specs.Progress.{AreOpen, HasComeTo}
use Rattle.jet_coordinator.specs.declared.run.Running.{Running}

-- each feed is of an opened file of its own
pub record CanFeed (is_open : ℕ → Bool) (feeds : List Feed) : Type 0 where
  pub opened : All (λ f. IsTrue (is_open f.file)) feeds
  pub apart : AllPairs (λ f g. f.file ≢ g.file) feeds

-- the files were opened, and each has its feed, which is to send all of it
pub record HasFeeds (c : Checks) (before is_open : ℕ → Bool) (feeds : List Feed) (start now : Told) : Type 0 where
  pub opened : List Opened
  pub are : AreOpen c opened start
  pub new : AreNew before is_open opened
  pub told : HasOpened opened start now
  pub fed : (txs : List (TxView Item)) → length txs ≡ length opened → All (λ tx. tx.sent ≡ []) txs → AreFed c opened (Some now) (Some now) txs feeds

-- the files were opened, the job is deployed, and nothing was read, sent, taken or written
pub record HasBegun (c : Checks) (windows : List Window) (before is_open : ℕ → Bool) (r : Running) (start now : Told) : Type 0 where
  pub opened : List Opened
  pub are : AreOpen c opened start
  pub new : AreNew before is_open opened
  pub told : HasOpened opened start now
  pub deployed : IsDeployed (length opened) r.job
  pub drained : HasDrained (view r.sink) [] []
  pub come : HasComeTo c windows opened start now r
