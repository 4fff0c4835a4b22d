-- A history that any call but one after the end may go on; tests keep it from call to call.
use Rattle.std.specs.Prelude.{List}
use Rattle.jet_items.specs.Order.{Each}
use Rattle.jet_boxes.specs.Entry.{CallEntry, Given, MarkTold, QueueClosed, Finish}

-- items and marks alone
abbrev pub IsItemOrMark : CallEntry → Type 0
IsItemOrMark (Given port queue x) = Unit {0}
IsItemOrMark (MarkTold t) = Unit {0}
IsItemOrMark (QueueClosed port queue) = ⊥
IsItemOrMark Finish = ⊥

abbrev pub IsRunning : List CallEntry → Type 0
IsRunning taken = Each IsItemOrMark taken
