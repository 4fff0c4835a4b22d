-- All ends of a job: which belong together, and when they have met.
use Rattle.std.specs.Prelude.{◌≡◌, ◌≢◌, ℕ, ◌+◌, ◌<◌, ◌≤◌, ◌^◌, List, length, get_or}
use Rattle.std.specs.List.{All, AllPairs, Contains}
use Rattle.jet_items.specs.declared.item.Item.{Item}
use Rattle.jet_ring.specs.Ring.{TxView}
use Rattle.jet_conveyor.specs.Conveyor.{View, SeesMore}
use Rattle.jet_tasklet.specs.declared.any.AnyTasklet.{AnyTasklet}
use Rattle.jet_tasklet.specs.declared.arrival.Arrival.{Arrival}
use Rattle.jet_tasklet.specs.Any.{AnyKeeps}
use Rattle.jet_tasklet.specs.Views.{ins, outs, waiting, step_of}
use Rattle.jet_crew.specs.Epoch.{Placewise}
use Rattle.jet_engine.specs.declared.places.DestAt.{DestAt}
use Rattle.jet_engine.specs.declared.places.QueueAt.{QueueAt}
use Rattle.jet_engine.specs.declared.wiring.Wiring.{Wiring}
use Rattle.jet_engine.specs.Ends.{IsJoined, HasMet, IsFed, HasFed, IsDrained, HasDrained}
use Rattle.jet_engine.specs.Links.{AreLinked, HaveLinkMet, AreLinksApart, HaveSameWork}
use Rattle.jet_engine.specs.Looking.{SameInput, SameOutput, AreApart}

-- the ring of each file leads to the queue that takes its items
pub record AreFed (ts : List AnyTasklet) (txs : List (TxView Item)) (feeds : List QueueAt) : Type 0 where
  pub count : length txs ≡ length feeds
  pub each : (k : ℕ) (d : TxView Item) (e : QueueAt) → k < length feeds → IsFed ts (get_or txs k d) (get_or feeds k e)

-- and its ends have met
pub record HaveFed (ts : List AnyTasklet) (txs : List (TxView Item)) (feeds : List QueueAt) : Type 0 where
  pub each : (k : ℕ) (d : TxView Item) (e : QueueAt) → k < length feeds → HasFed ts (get_or txs k d) (get_or feeds k e)

-- what an end outside knows to be free may have grown
pub record TxMet (a b : TxView Item) : Type 0 where
  pub ring : b.ring ≡ a.ring
  pub sent : b.sent ≡ a.sent
  pub reach : length a.sent + a.free ≤ length b.sent + b.free

-- these destinations lead to the queues of the sink
pub record AreDrained (ts : List AnyTasklet) (drains : List DestAt) (sink : View) : Type 0 where
  pub each : (k : ℕ) (e : DestAt) → k < length drains → IsDrained ts (get_or drains k e) sink k

-- and the ends have met
pub record HaveDrained (ts : List AnyTasklet) (drains : List DestAt) (sink : View) : Type 0 where
  pub each : (k : ℕ) (e : DestAt) → k < length drains → HasDrained ts (get_or drains k e) sink k

-- the sink knows of more items, and took none
pub record SinkMet (a b : View) : Type 0 where
  pub rings : b.rings ≡ a.rings
  pub received : b.received ≡ a.received
  pub done : b.done ≡ a.done
  pub cursor : b.cursor ≡ a.cursor
  pub seen : SeesMore a b

-- The ends that stand at the places of a wiring belong together, and each end stands there once.
pub record IsWired (ts : List AnyTasklet) (txs : List (TxView Item)) (sink : View) (w : Wiring) : Type 0 where
  pub links : All (AreLinked ts) w.links.items
  pub junctions : All (IsJoined ts) w.junctions.items
  pub feeds : AreFed ts txs w.feeds.items
  pub drains : AreDrained ts w.drains.items sink
  pub links_apart : AllPairs AreLinksApart w.links.items
  pub junctions_apart : AllPairs AreApart w.junctions.items
  pub feeds_apart : AllPairs (λ p q. p ≢ q) w.feeds.items
  pub drains_apart : AllPairs (λ p q. p ≢ q) w.drains.items
  pub not_fed : All (λ j. Contains w.feeds.items j.taker → ⊥) w.junctions.items
  pub not_drained : All (λ j. Contains w.drains.items j.giver → ⊥) w.junctions.items
  pub few : length w.drains.items < 2 ^ 32

-- The two ends of each ring and of each link have met.
pub record HaveAllMet (ts : List AnyTasklet) (txs : List (TxView Item)) (sink : View) (w : Wiring) : Type 0 where
  pub links : All (HaveLinkMet ts) w.links.items
  pub junctions : All (HasMet ts) w.junctions.items
  pub feeds : HaveFed ts txs w.feeds.items
  pub drains : HaveDrained ts w.drains.items sink

-- Nothing came to a tasklet and nothing was given, and it is as it was but for what its ends know.
pub record Attended (t u : AnyTasklet) : Type 0 where
  pub keeps : (came : List Arrival) (gave : List Item) → AnyKeeps t came gave → AnyKeeps u came gave
  pub inputs : Placewise SameInput (ins t) (ins u)
  pub outputs : Placewise SameOutput (outs t) (outs u)
  pub outbox : waiting u ≡ waiting t
  pub step : step_of u ≡ step_of t
  pub work : HaveSameWork t u
