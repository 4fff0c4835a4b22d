-- Which of its giver's destinations, and which of its taker's queues, a ring is.
use Rattle.std.specs.Prelude.{◌≡◌, ℕ, List, Some, count_by, take, slice_get}
use Rattle.jet_ring.specs.Ring.{Ring}
use Rattle.jet_layout.specs.declared.wire.Taker.{Taker}
use Rattle.jet_harness.specs.declared.channel.Channel.{Channel}
use Rattle.jet_harness.specs.declared.channel.Giver.{Giver}
use Rattle.jet_harness.specs.declared.harness.Harness.{Harness}
use Rattle.jet_harness.specs.Channels.{same_giver, same_taker}
use Rattle.jet_harness.specs.Harness.{txs_of, rxs_of, fresh_tx, fresh_rx}

-- how many of the channels before the one with the number n have this giver, and this taker
abbrev pub place_at_giver : List Channel → ℕ → Giver → ℕ
place_at_giver cs n g = count_by (λ c. same_giver g c.giver) (take n cs)

abbrev pub place_at_taker : List Channel → ℕ → Taker → ℕ
place_at_taker cs n t = count_by (λ c. same_taker t c.taker) (take n cs)

-- the ring r of the channel c with the number n stands at these places
pub record IsPlaced (cs : List Channel) (h : Harness) (n : ℕ) (c : Channel) (r : Ring) : Type 0 where
  pub giver : slice_get (txs_of h c.giver) (place_at_giver cs n c.giver) ≡ Some (fresh_tx r)
  pub taker : slice_get (rxs_of h c.taker) (place_at_taker cs n c.taker) ≡ Some (fresh_rx r)

-- the number n is that of a channel with this giver, or this taker, that stands at this place there, and of no other
pub record IsOneAtGiver (cs : List Channel) (g : Giver) (d n : ℕ) : Type 0 where
  pub channel : Channel
  pub at : slice_get cs n ≡ Some channel
  pub giver : channel.giver ≡ g
  pub place : place_at_giver cs n g ≡ d
  pub only : (m : ℕ) (other : Channel) → slice_get cs m ≡ Some other → other.giver ≡ g → place_at_giver cs m g ≡ d → m ≡ n

pub record IsOneAtTaker (cs : List Channel) (t : Taker) (q n : ℕ) : Type 0 where
  pub channel : Channel
  pub at : slice_get cs n ≡ Some channel
  pub taker : channel.taker ≡ t
  pub place : place_at_taker cs n t ≡ q
  pub only : (m : ℕ) (other : Channel) → slice_get cs m ≡ Some other → other.taker ≡ t → place_at_taker cs m t ≡ q → m ≡ n
