-- What the job that ran holds at the end of its run.
use Rattle.std.specs.Prelude.{◌≡◌, ℕ, true, List, [], ◌∷◌, ◌++◌, length, map, slice_get, All, Some}
use Rattle.std.specs.List.Sorted.{IsPermutation}
use Rattle.jet_conveyor.specs.Conveyor.{received_at, view}
use Rattle.jet_engine.specs.declared.job.Job.{Job}
use Rattle.jet_engine.specs.Jobs.{IsReady}
use Rattle.jet_feed.specs.FileItems.{file_items}
use Rattle.jet_file.specs.Outside.{Told}
use Rattle.jet_file.specs.Text.{rows_text, late_text}
use Rattle.jet_file.specs.declared.outside.Out.TheVariants as out
use Rattle.jet_flow.specs.DataFiles.{DataFile, file_name}
use Rattle.jet_items.specs.Kinds.{rows_of, lates_of}
use Rattle.jet_items.specs.Rows.{Window}
use Rattle.jet_items.specs.Values.{RowValue}
use Rattle.jet_items.specs.declared.item.Item.{Item}
use Rattle.jet_items.specs.declared.item.Item.TheVariants as item
use Rattle.jet_ring.specs.Ring.{TxView, tx_view}
use Rattle.jet_sink.specs.Taken.{TakenItem, items_from, items_in}
use Rattle.jet_worker.specs.CheckText.{Checks}
use Rattle.jet_worker.specs.Checked.{numbered}

-- The job that ran, as it stands at the end: the ring of each file was sent the items of all its lines, and then Done; the
-- queues of the sink received these items and are done; and so many of them were written.
pub record HasCarried (c : Checks) (windows : List Window) (job : Job) (old new : Told) : Type 0 where
  pub ready : IsReady job
  pub feeds : length job.feeds.items ≡ length c.files
  pub sent : (p : ℕ × DataFile) (tx : TxView Item) (content : List ℕ) → slice_get (numbered c) p.0 ≡ Some p → slice_get (map tx_view job.feeds.items) p.0 ≡ Some tx
      → old.content (file_name p.1) ≡ Some content → tx.sent ≡ file_items c p content ++ item.Done ∷ []
  pub came : List TakenItem
  pub received : (q : ℕ) → received_at (view job.sink) q ≡ items_from q came
  pub done : All (λ done. done ≡ true) (view job.sink).done
  pub printed : List RowValue
  pub each : IsPermutation (rows_of (items_in came)) printed
  pub rows : new.written out.Rows ≡ old.written out.Rows ++ rows_text windows printed
  pub notes : new.written out.Notes ≡ old.written out.Notes ++ late_text windows (lates_of (items_in came))
