-- That tasklets made over the fresh rings of a layout are wired.
use Rattle.std.specs.Prelude.{◌≡◌, ℕ, ◌<◌, ◌≤◌, ◌^◌, ℤ, List, All, length, map}
use Rattle.jet_conveyor.specs.Conveyor as conveyor
use Rattle.jet_engine.specs.declared.wiring.Wiring.{Wiring}
use Rattle.jet_engine.specs.Wiring.{IsWired}
use Rattle.jet_flow.specs.DataFiles.{data_files}
use Rattle.jet_harness.specs.Channels.{channels}
use Rattle.jet_harness.specs.declared.channel.Giver.TheVariants.{File}
use Rattle.jet_harness.specs.declared.harness.Harness.{Harness}
use Rattle.jet_harness.specs.Harness.{txs_of, rxs_of, fresh_tx, fresh_rx}
use Rattle.jet_items.specs.declared.item.Item.{Item}
use Rattle.jet_layout.specs.declared.layout.Layout.{Layout}
use Rattle.jet_layout.specs.declared.wire.Taker.TheVariants.{Sink}
use Rattle.jet_layout.specs.Tasks.{member_of}
use Rattle.jet_plan.specs.declared.dag.Dag.{Dag}
use Rattle.jet_ring.specs.declared.ends.Rx.{Rx}
use Rattle.jet_plan.specs.declared.settings.Settings.{Settings}
use Rattle.jet_plan.specs.Rings.{members}
use Rattle.jet_ring.specs.Ring.{Ring, TxView, rx_view}
use Rattle.jet_tasklet.specs.declared.any.AnyTasklet.{AnyTasklet}
use Rattle.jet_deploy.specs.Making.{Ground, AreMade, CanMake}
use Rattle.jet_deploy.specs.Sites.{AreSites, EachLink}

abbrev pub ground_over : Dag → Layout → ℕ → ℤ → Ground
ground_over dag l members grain = record { dag = dag; members = members; joints = l.joints; grain = grain }

-- whatever tasklets are made over these ends, they and the ends outside are wired at the sites of the rings
abbrev pub WiresAll : Dag → Layout → Harness → Type 0
WiresAll dag l h = (members : ℕ) (grain : ℤ) (ts : List AnyTasklet) (w : Wiring) (txs : List (TxView Item)) (v : conveyor.View) (queues : List (Rx Item))
    → length ts ≡ length l.tasks → AreMade (ground_over dag l members grain) h l.tasks ts → AreSites (channels l) w → EachLink l.tasks w.links.items
    → txs ≡ txs_of h File → conveyor.IsNew v queues → map rx_view queues ≡ rxs_of h Sink → length (channels l) < 2 ^ 32
    → IsWired ts txs v w

-- Over the fresh rings of a layout all its tasklets can be made, each on one of the members; they are wired then; and the ends
-- outside are one for each data file, and not many into the sink.
pub record StandsReady (dag : Dag) (s : Settings) (l : Layout) (h : Harness) : Type 0 where
  pub can : (grain : ℤ) → CanMake (ground_over dag l (members s) grain) h l.tasks
  pub wires : WiresAll dag l h
  pub few : length (channels l) ≤ 2000000
  pub inside : All (λ task. member_of task < members s) l.tasks
  pub files : List Ring
  pub fed : txs_of h File ≡ map fresh_tx files
  pub one_each : length files ≡ length (data_files dag)
  pub queues : List Ring
  pub drained : rxs_of h Sink ≡ map fresh_rx queues
  pub few_queues : length queues ≤ 2000000
