-- How far a run has come since it began.
use Rattle.std.specs.Prelude.{◌≡◌, ◌≢◌, ℕ, true, List, ◌++◌, map, All, Some, IsSome}
use Rattle.jet_conveyor.specs.Conveyor as conveyor
use Rattle.jet_feed.specs.Fed.{IsOver}
use Rattle.jet_feed.specs.declared.feed.Feed.{Feed}
use Rattle.jet_file.specs.Outside.{CallMade, Told}
use Rattle.jet_file.specs.Text.{rows_text, late_text}
use Rattle.jet_file.specs.declared.outside.Out.TheVariants as out
use Rattle.jet_flow.specs.DataFiles.{file_name}
use Rattle.jet_items.specs.declared.item.Item.{Item}
use Rattle.jet_items.specs.Kinds.{lates_of}
use Rattle.jet_items.specs.Rows.{Window}
use Rattle.jet_items.specs.Values.{RowValue}
use Rattle.jet_ring.specs.Ring.{TxView, tx_view}
use Rattle.jet_sink.specs.Drained.{HasDrained}
use Rattle.jet_sink.specs.Taken.{TakenItem, items_from, items_in}
use Rattle.jet_sink.specs.View.{View, view}
use Rattle.jet_worker.specs.Calls.{Calling, ReadsOrWrites, opening_call}
use Rattle.jet_worker.specs.CheckText.{Checks}
use Rattle.jet_worker.specs.Checked.{numbered}
use Rattle.jet_worker.specs.Opening.{Opened, opening_of, pair_of}
use Rattle.jet_worker.specs.declared.stop.Stop.{Stop}
use Rattle.jet_coordinator.specs.Feeds.{AreFed}
use Rattle.jet_coordinator.specs.Runs.{RunStops}
use Rattle.jet_coordinator.specs.declared.run.Running.{Running}

-- these are the files of a job, opened in the order of their numbers, and each is there
pub record AreOpen (c : Checks) (opened : List Opened) (start : Told) : Type 0 where
  pub pairs : map pair_of opened ≡ numbered c
  pub there : All (λ o. IsSome (start.content (file_name o.file))) opened

-- Since it began a run has opened these files, and then read and written only. Each file is fed, and what came to the sink is
-- written but for the rows that the sink holds.
pub record HasCome (c : Checks) (windows : List Window) (opened : List Opened) (start now : Told) (txs : List (TxView Item)) (queues : conveyor.View) (feeds : List Feed) (s : View) : Type 0 where
  pub content : now.content ≡ start.content
  pub fed : AreFed c opened (Some start) (Some now) txs feeds
  pub calls : List CallMade
  pub trace : now.trace ≡ start.trace ++ (map opening_call (map opening_of opened) ++ calls)
  pub reads : All ReadsOrWrites calls
  pub taken : List TakenItem
  pub printed : List RowValue
  pub received : (q : ℕ) → conveyor.received_at queues q ≡ items_from q taken
  pub drained : HasDrained s taken printed
  pub windows_are : s.windows ≡ windows
  pub rows : now.written out.Rows ≡ start.written out.Rows ++ rows_text windows printed
  pub notes : now.written out.Notes ≡ start.written out.Notes ++ late_text windows (lates_of (items_in taken))
  pub others : (at : ℕ) → All (λ o. o.at ≢ at) opened → now.place at ≡ start.place at
  pub names : All (λ o. (now.place o.at).name ≡ file_name o.file) opened

-- a running job has come so far
abbrev pub HasComeTo : Checks → List Window → List Opened → Told → Told → Running → Type 0
HasComeTo c windows opened start now r = HasCome c windows opened start now (map tx_view r.job.feeds.items) (conveyor.view r.job.sink) r.feeds.items (view r.sink)

-- whatever the one has come to, the other has come to then
abbrev pub ComesOn : Running → Running → Told → Told → Type 0
ComesOn a b old new = (c : Checks) (windows : List Window) (opened : List Opened) (start : Told) → HasComeTo c windows opened start old a → HasComeTo c windows opened start new b

-- whatever it had come to, the run stops so
abbrev pub StopsFrom : Running → Stop → Told → Told → Type 0
StopsFrom a stop old new = (c : Checks) (windows : List Window) (opened : List Opened) (start : Told) → AreOpen c opened start → HasComeTo c windows opened start old a → Calling (RunStops c windows stop) start new

-- each file is over, and each queue of the sink is done
pub record IsAtEnd (r : Running) : Type 0 where
  pub files : All IsOver r.feeds.items
  pub queues : All (λ done. done ≡ true) (conveyor.view r.job.sink).done
