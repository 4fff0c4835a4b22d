-- What the tasklet of a stamp asks of the lists that its queues received.
use Rattle.std.specs.Prelude.{◌≡◌, ◌≢◌, ℕ, ◌<◌, Bool, true, ℤ, List, [], ◌∷◌, ◌++◌, get_or}
use Rattle.jet_items.specs.declared.item.Item.{Item}
use Rattle.jet_items.specs.declared.item.Item.TheVariants as item
use Rattle.jet_items.specs.Kinds.{events_of}
use Rattle.jet_items.specs.Marks.{idle_before, is_behind, is_under}
use Rattle.jet_items.specs.Order.{Each, EachPair}
use Rattle.jet_items.specs.Values.{EventValue}
use Rattle.jet_boxes.specs.declared.port.Port.TheVariants.{Stream}
use Rattle.jet_stages.specs.Stamp.{InPlace, StandsIn, IsNotLate}
use Rattle.jet_tasklet.specs.Inputs.{InputView, received, queue_count}
use Rattle.jet_tasklet.specs.Sending.{EachReceived}

-- each stream queue has a file of its own, with its events and the numbers of its idle lines: the events of the queue stand in the file and came in the order of their lines, and each idle note stands in the place of an idle line;
-- `behind` tells of each file the events that stand behind: behind its own mark, or behind an idle line and below the mark of all events of the file of another queue; and no late item came
pub record AreFromFiles (lag grain : ℤ) (behind : ℕ → ℕ → Bool) (inputs : List InputView) : Type 0 where
  pub files : ℕ → List EventValue
  pub idles : ℕ → List ℕ
  pub inside : (q : ℕ) → q < queue_count Stream inputs → Each (StandsIn (files q)) (events_of (get_or (received Stream inputs) q []))
  pub order : (q : ℕ) → q < queue_count Stream inputs → EachPair (λ d e. d.line < e.line) (events_of (get_or (received Stream inputs) q []))
  pub places : (q : ℕ) → q < queue_count Stream inputs → (front back : List Item) → get_or (received Stream inputs) q [] ≡ front ++ item.Idle ∷ back → InPlace (idles q) (events_of front) (events_of back)
  pub told : (q : ℕ) → q < queue_count Stream inputs → Each (λ e. is_behind lag grain (files q) e ≡ true → behind e.part e.line ≡ true) (files q)
  pub told_idle : (q p : ℕ) → q < queue_count Stream inputs → p < queue_count Stream inputs → p ≢ q → Each (λ e. idle_before e.line (idles q) ≡ true → is_under lag grain (files p) e ≡ true → behind e.part e.line ≡ true) (files q)
  pub no_late : EachReceived (Each IsNotLate) inputs
