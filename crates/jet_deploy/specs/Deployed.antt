-- A job as it is deployed, before its first epoch.
use Rattle.std.specs.Prelude.{◌≡◌, ℕ, List, [], length}
use Rattle.std.specs.List.{All}
use Rattle.jet_conveyor.specs.Conveyor.{IsNew, view}
use Rattle.jet_engine.specs.declared.job.Job.{Job}
use Rattle.jet_engine.specs.Jobs.{IsReady, tasklets_of}
use Rattle.jet_items.specs.declared.item.Item.{Item}
use Rattle.jet_ring.specs.Ring.{received, sent}
use Rattle.jet_ring.specs.declared.ends.Rx.{Rx}
use Rattle.jet_tasklet.specs.Any.{AnyKeeps}

-- It is ready, and has a ring for each of so many files. No tasklet has taken or given anything, and nothing went through the
-- rings of the files or of the sink.
pub record IsDeployed (files : ℕ) (j : Job) : Type 0 where
  pub ready : IsReady j
  pub fresh : All (λ t. AnyKeeps t [] []) (tasklets_of j)
  pub one_each : length j.feeds.items ≡ files
  pub unsent : All (λ tx. sent tx ≡ []) j.feeds.items
  pub queues : List (Rx Item)
  pub sink : IsNew (view j.sink) queues
  pub untaken : All (λ rx. received rx ≡ []) queues
