-- Where Done stands in what a tasklet sends.
use Rattle.std.specs.Prelude.{◌≡◌, true, List}
use Rattle.jet_items.specs.declared.item.Item.{Item}
use Rattle.jet_boxes.specs.declared.port.Port.{Port}
use Rattle.jet_conveyor.specs.Conveyor.{EndsIn}
use Rattle.jet_tasklet.specs.Inputs.{InputView, all_done}
use Rattle.jet_tasklet.specs.Trace.{has_ended}

-- Done stands nowhere in the list but at its end; it is there only where the tasklet has put Done, and then every queue is done; and it is there once the tasklet has ended
pub record DoneLast (has_put ended : Type 0) (inputs : List InputView) (xs : List Item) : Type 0 where
  pub last : EndsIn (has_ended xs) xs
  pub put : has_ended xs ≡ true → has_put
  pub over : has_ended xs ≡ true → (port : Port) → all_done port inputs ≡ true
  pub given : ended → has_ended xs ≡ true
