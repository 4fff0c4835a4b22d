-- What is said of the lists that a tasklet sends.
use Rattle.std.specs.Prelude.{◌≡◌, ℕ, ◌<◌, List, [], ◌++◌, length, get_or}
use Rattle.jet_items.specs.declared.item.Item.{Item}
use Rattle.jet_items.specs.Order.{Each}
use Rattle.jet_boxes.specs.Entry.{CallEntry}
use Rattle.jet_router.specs.Router as router
use Rattle.jet_boxes.specs.declared.port.Port.{Port}
use Rattle.jet_tasklet.specs.Inputs.{InputView, received, queue_count}
use Rattle.jet_tasklet.specs.Outputs.{OutputView}

-- P holds of the list that each destination was sent
abbrev pub EachSent : (List Item → Type 0) → List OutputView → Type 0
EachSent P outputs = Each (λ o. (k : ℕ) → k < length o.router.dests → P (get_or (router.sents o.router) k [])) outputs

-- P holds of each front of the entries
abbrev pub EachFront : (List CallEntry → Type 0) → List CallEntry → Type 0
EachFront P entries = (taken more : List CallEntry) → entries ≡ taken ++ more → P taken

-- P holds of the list that each queue received
abbrev pub EachReceived : (List Item → Type 0) → List InputView → Type 0
EachReceived P inputs = (port : Port) (q : ℕ) → q < queue_count port inputs → P (get_or (received port inputs) q [])
