-- A job between two epochs.
use Rattle.std.specs.Prelude.{ℕ, ◌<◌, ◌^◌, List, map, length}
use Rattle.std.specs.List.{All}
use Rattle.jet_conveyor.specs.Conveyor.{view}
use Rattle.jet_crew.specs.Gather.{gather, Placed}
use Rattle.jet_ring.specs.Ring.{tx_view}
use Rattle.jet_tasklet.specs.declared.any.AnyTasklet.{AnyTasklet}
use Rattle.jet_tasklet.specs.Any.{AnyIsLawful}
use Rattle.jet_engine.specs.declared.job.Job.{Job}
use Rattle.jet_engine.specs.Wiring.{IsWired}

-- all its tasklets, in their order
abbrev pub tasklets_of : Job → List AnyTasklet
tasklets_of j = gather j.workers.items j.order.items

-- There is a worker, each tasklet stands in its place and keeps its laws, and the ends of all rings and links belong together.
pub record IsReady (j : Job) : Type 0 where
  pub some : (0 < length j.workers.items) × (length j.workers.items < 2 ^ 32)
  pub placed : Placed j.workers.items j.order.items
  pub lawful : All AnyIsLawful (tasklets_of j)
  pub wired : IsWired (tasklets_of j) (map tx_view j.feeds.items) (view j.sink) j.wiring
