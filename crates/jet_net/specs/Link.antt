-- A link, counted, once its two ends have met.
use Rattle.std.specs.Prelude.{◌≡◌, ◌⊎◌, ℕ, ◌+◌, ◌≤◌}

-- Where its buffers are: in the stock, in work, in the ring of packets, at the receiver, and in the ring of acknowledgements. Its counts of bytes, and of both rings the slots and those that are free.
pub record Link : Type 0 where
  pub stock : ℕ
  pub work : ℕ
  pub packets : ℕ
  pub received : ℕ
  pub acks : ℕ
  pub buffers : ℕ
  pub window : ℕ
  pub sent : ℕ
  pub acked : ℕ
  pub limit : ℕ
  pub packet_slots : ℕ
  pub packet_free : ℕ
  pub ack_slots : ℕ
  pub ack_free : ℕ

pub record LinkHasMet (l : Link) : Type 0 where
  pub together : l.stock + (l.work + (l.packets + (l.received + l.acks))) ≡ l.buffers
  pub some_buffers : 1 ≤ l.buffers
  pub some_window : 1 ≤ l.window
  pub limit : l.acked + l.window ≤ l.limit
  -- what is on no way is acknowledged
  pub all_acked : l.packets ≡ 0 → l.received ≡ 0 → l.acks ≡ 0 → l.acked ≡ l.sent
  pub packet_ring : l.packet_free + l.packets ≡ l.packet_slots
  pub ack_ring : l.ack_free + l.acks ≡ l.ack_slots
  pub some_slots : (1 ≤ l.packet_slots) × (1 ≤ l.ack_slots)

-- nothing is in work, and no packet may begin
abbrev pub MayNotBegin : Link → Type 0
MayNotBegin l = (l.work ≡ 0) × ((l.limit ≤ l.sent) ⊎ (l.stock ≡ 0))

-- no packet may be pushed, and no acknowledgement
abbrev pub MayNotPush : Link → Type 0
MayNotPush l = l.packet_free ≡ 0

abbrev pub MayNotAcknowledge : Link → Type 0
MayNotAcknowledge l = l.ack_free ≡ 0
