-- The histories of joins whose queues have not ended, of which the tests speak.
use Rattle.std.specs.Prelude.{ℕ, List}
use Rattle.jet_items.specs.Order.{Each}
use Rattle.jet_items.specs.declared.item.Item.{Item}
use Rattle.jet_boxes.specs.Entry.{CallEntry, NotFinish, NotClosed}
use Rattle.jet_boxes.specs.declared.port.Port.{Port}
use Rattle.jet_join.specs.declared.join.JoinP.{JoinP}
use Rattle.jet_join.specs.Calls.{Stands, Amid}

-- nothing has ended
pub record NothingEnded (taken : List CallEntry) : Type 0 where
  pub unfinished : Each NotFinish taken
  pub unclosed : (port : Port) (queue : ℕ) → Each (NotClosed port queue) taken

-- between two calls
pub record IsOpen (p : JoinP) : Type 0 where
  pub taken : List CallEntry
  pub given : List Item
  pub stands : Stands p taken given
  pub goes_on : NothingEnded taken

-- in the middle of a call for an entry
pub record IsAmid (p : JoinP) (entry : CallEntry) : Type 0 where
  pub taken : List CallEntry
  pub given : List Item
  pub amid : Amid p taken entry given
  pub goes_on : NothingEnded taken
