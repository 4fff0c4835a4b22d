-- Links: what holds of the sender alone, of the receiver alone, and where the two meet.
use Rattle.jet_link.specs.declared.shape.LinkShape.{LinkShape}
use Rattle.std.specs.Prelude.{◌≡◌, ℕ, zero, suc, ◌+◌, ◌-◌, ◌%◌, ◌^◌, ◌<◌, ◌≤◌, List, [], ◌∷◌, ◌++◌, length, get_or, ◌⊎◌}

-- what an acknowledgement carries, with the room of the buffer that it brings back
pub record AckView : Type 0 where
  pub room : ℕ
  pub processed : ℕ
  pub offer : ℕ

abbrev pub no_ack : AckView
no_ack = record { room = 0; processed = 0; offer = 0 }

-- what counts of a packet: the room of its buffer and its bytes
pub record PacketView : Type 0 where
  pub room : ℕ
  pub size : ℕ

abbrev pub no_packet : PacketView
no_packet = record { room = 0; size = 0 }

-- a count as the code keeps it, and how far one is ahead of another
abbrev pub kept : ℕ → ℕ
kept n = n % 2 ^ 64

abbrev pub less : ℕ → ℕ → ℕ
less a b = (a + (2 ^ 64 - b)) % 2 ^ 64

-- the bytes of the first k packets
unfoldable pub bytes_of : ℕ → List PacketView → ℕ
bytes_of zero packets = 0
bytes_of (suc k) [] = 0
bytes_of (suc k) (p ∷ packets) = p.size + bytes_of k packets

abbrev pub all_bytes : List PacketView → ℕ
all_bytes packets = bytes_of (length packets) packets

-- how far the limit of an acknowledgement lies ahead of its bytes
abbrev pub ahead : AckView → ℕ
ahead a = less a.offer a.processed

-- the limit that the first k acknowledgements give: the window before the first
abbrev pub offer_after : LinkShape → List PacketView → List AckView → ℕ → ℕ
offer_after l packets acks zero = l.window
offer_after l packets acks (suc k) = bytes_of (suc k) packets + ahead (get_or acks k no_ack)

-- acknowledgements that say of these packets, one after the other, what the definition says
pub record IsHonest (l : LinkShape) (packets : List PacketView) (acks : List AckView) : Type 0 where
  pub fewer : length acks ≤ length packets
  pub room : (k : ℕ) → k < length acks → (get_or acks k no_ack).room ≡ (get_or packets k no_packet).room
  pub processed : (k : ℕ) → k < length acks → (get_or acks k no_ack).processed ≡ kept (bytes_of (suc k) packets)
  pub offer : (k : ℕ) → k < length acks → (get_or acks k no_ack).offer ≡ kept (offer_after l packets acks (suc k))
  pub low : (k : ℕ) → k < length acks → l.window ≤ ahead (get_or acks k no_ack)
  pub high : (k : ℕ) → k < length acks → ahead (get_or acks k no_ack) ≤ l.peak
  pub rising : (k : ℕ) → k < length acks → offer_after l packets acks k ≤ offer_after l packets acks (suc k)

-- what a contract sees of a sender: the packets that it pushed, the acknowledgements that it took, the three counts, the buffers in the stock and in work
pub record SendState : Type 0 where
  pub pushed : List PacketView
  pub taken : List AckView
  pub sent : ℕ
  pub acked : ℕ
  pub limit : ℕ
  pub inside : ℕ
  pub work : ℕ

-- the bytes that are not acknowledged, and the counts as whole numbers
abbrev pub in_flight : SendState → ℕ
in_flight s = less s.sent s.acked

abbrev pub room_left : SendState → ℕ
room_left s = less s.limit s.acked

abbrev pub whole_sent : SendState → ℕ
whole_sent s = all_bytes s.pushed

abbrev pub whole_acked : SendState → ℕ
whole_acked s = whole_sent s - in_flight s

abbrev pub whole_limit : SendState → ℕ
whole_limit s = whole_acked s + room_left s

-- acknowledgements that are honest were all taken in, and gave their buffers back
pub record TookIn (l : LinkShape) (s : SendState) : Type 0 where
  pub acked : whole_acked s ≡ bytes_of (length s.taken) s.pushed
  pub limit : whole_limit s ≡ offer_after l s.pushed s.taken (length s.taken)
  pub buffers : s.inside + s.work + length s.pushed ≡ l.buffers + length s.taken

-- the sender alone, in every state: whatever acknowledgements came, its bytes in flight are bounded
pub record SendsRight (l : LinkShape) (s : SendState) : Type 0 where
  pub sent : s.sent ≡ kept (whole_sent s)
  pub acked : s.acked < 2 ^ 64
  pub limit : s.limit < 2 ^ 64
  pub within : in_flight s ≤ whole_sent s
  pub bound : in_flight s ≤ l.peak + l.packet
  pub low : l.window ≤ room_left s
  pub high : room_left s ≤ l.peak
  pub begun : 0 < s.work → in_flight s < room_left s
  pub one : s.work ≤ 1
  pub fewer : length s.taken ≤ length s.pushed
  pub buffers : s.inside + s.work + length s.pushed ≤ l.buffers + length s.taken
  pub rooms : (k : ℕ) → k < length s.pushed → (get_or s.pushed k no_packet).room ≡ l.packet
  pub honest : IsHonest l s.pushed s.taken → TookIn l s

-- what a contract sees of a receiver: the packets that it received, the acknowledgements that it pushed, whether it holds a packet, and whether all items of that one were given
pub record RecvState : Type 0 where
  pub received : List PacketView
  pub gave : List AckView
  pub holds : ℕ
  pub whole : ℕ
  pub processed : ℕ
  pub offer : ℕ
  pub grant : ℕ

-- the bytes of the packets whose items were all given: those acknowledged, and perhaps the packet in hand
abbrev pub whole_processed : RecvState → ℕ
whole_processed r = bytes_of (length r.gave + r.whole) r.received

-- the bytes that the sender may send in all, as the receiver has it
abbrev pub whole_offer : LinkShape → RecvState → ℕ
whole_offer l r = offer_after l r.received r.gave (length r.gave)

-- the receiver alone, in every state
pub record RecvsRight (l : LinkShape) (r : RecvState) : Type 0 where
  pub honest : IsHonest l r.received r.gave
  pub one : length r.received ≡ length r.gave + r.holds
  pub most : r.holds ≤ 1
  pub held : r.whole ≤ r.holds
  pub processed : r.processed ≡ kept (whole_processed r)
  pub offer : r.offer ≡ kept (whole_offer l r)
  pub low : l.window ≤ r.grant
  pub high : r.grant ≤ l.peak

-- the two ends where they meet: what is known between them is all that there is
pub record LinkMet (l : LinkShape) (s : SendState) (r : RecvState) (known : List PacketView) (acks : List AckView) : Type 0 where
  pub packets_are : s.pushed ≡ r.received ++ known
  pub acks_are : r.gave ≡ s.taken ++ acks
  pub took_in : TookIn l s
  pub acked : whole_acked s ≤ whole_processed r
  pub processed : whole_processed r ≤ whole_sent s
  pub buffers : s.inside + s.work + length known + r.holds + length acks ≡ l.buffers
  pub may_take : length s.taken + length acks ≤ length s.pushed
  pub at_rest : known ≡ [] → r.holds ≡ 0 → acks ≡ [] → (s.acked ≡ s.sent) × (in_flight s ≡ 0)

-- an acknowledgement that the definition allows at these counts
abbrev pub Accepts : LinkShape → ℕ → ℕ → ℕ → ℕ → ℕ → Type 0
Accepts l sent acked limit processed offer =
    (less processed acked ≤ less sent acked) × (l.window ≤ less offer processed) × (less offer processed ≤ l.peak)
    × (less limit acked ≤ less processed acked + less offer processed)

-- an offer that was raised to the grant ahead of `size` bytes after `before` where that is more
abbrev pub Raised : ℕ → ℕ → ℕ → ℕ → ℕ → Type 0
Raised offer before size grant new =
    ((less offer before < size + grant) × (new ≡ kept (before + (size + grant)))) ⊎ ((size + grant ≤ less offer before) × (new ≡ offer))
