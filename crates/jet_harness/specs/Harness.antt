-- The ends of rings, and whose each is.
use Rattle.std.specs.Prelude.{◌≡◌, ℕ, Bool, List, [], ◌∷◌, map, filter, length, All, if◌then◌else◌}
use Rattle.jet_items.specs.declared.item.Item.{Item}
use Rattle.jet_ring.specs.Ring.{Ring, TxView, tx_view, RxView, rx_view}
use Rattle.jet_layout.specs.declared.wire.Taker.{Taker}
use Rattle.jet_harness.specs.declared.channel.Channel.{Channel}
use Rattle.jet_harness.specs.declared.channel.Giver.{Giver}
use Rattle.jet_harness.specs.declared.harness.Harness.{Harness}
use Rattle.jet_harness.specs.Channels.{same_giver, same_taker}

-- the ends that are there for a giver to send with, and for a taker to receive with
abbrev pub txs_of : Harness → Giver → List (TxView Item)
txs_of h g = map (λ e. tx_view e.tx) (filter (λ e. same_giver g e.giver) h.txs.items)

abbrev pub rxs_of : Harness → Taker → List (RxView Item)
rxs_of h t = map (λ e. rx_view e.rx) (filter (λ e. same_taker t e.taker) h.rxs.items)

-- the ends of a ring through which nothing went
abbrev pub fresh_tx : Ring → TxView Item
fresh_tx r = record { ring = r; sent = []; free = r.cap }

abbrev pub fresh_rx : Ring → RxView Item
fresh_rx r = record { ring = r; received = []; known = [] }

-- of rings, one for each channel, those whose channel passes the test
abbrev pub chosen : (Channel → Bool) → List Channel → List Ring → List Ring
chosen p [] rs = []
chosen p (c ∷ cs) [] = []
chosen p (c ∷ cs) (r ∷ rs) = if p c then r ∷ chosen p cs rs else chosen p cs rs

-- the rings into which a giver gives, and those from which a taker takes, in the order of the channels
abbrev pub given_by : Giver → List Channel → List Ring → List Ring
given_by g = chosen (λ c. same_giver g c.giver)

abbrev pub taken_by : Taker → List Channel → List Ring → List Ring
taken_by t = chosen (λ c. same_taker t c.taker)

-- There is a ring of this capacity for each channel. Its giver has the one end and its taker the other, and nothing went
-- through it.
pub record Joins (channels : List Channel) (capacity : ℕ) (rings : List Ring) (h : Harness) : Type 0 where
  pub one_each : length rings ≡ length channels
  pub sizes : All (λ r. r.cap ≡ capacity) rings
  pub givers : (g : Giver) → txs_of h g ≡ map fresh_tx (given_by g channels rings)
  pub takers : (t : Taker) → rxs_of h t ≡ map fresh_rx (taken_by t channels rings)
