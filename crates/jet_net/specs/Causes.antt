-- Why a vertex does nothing.
use Rattle.std.specs.Prelude.{◌≡◌, ◌⊎◌, ℕ, ◌<◌, true, false, ℤ, pos, ◌+ℤ◌, ◌<ℤ◌, Some}
use Rattle.jet_net.specs.Net.{Net, BuildsDone}

-- it has an item for a ring that has no free slot; or it sends over a link, and may not
pub record IsFull (n : Net) (v : ℕ) : Type 0 where
  pub ring : ℕ
  pub exists : ring < n.rings
  pub out : n.giver ring ≡ v
  pub full : n.free ring ≡ 0
  pub holds : n.is_link ring ≡ false → 0 < n.held v

-- it holds nothing, some queue was not given Done, and none that may be polled has a known item: of its builds while one is open, then of its streams
pub record IsStarved (n : Net) (v : ℕ) : Type 0 where
  pub empty : n.held v ≡ 0
  pub waits : (r : ℕ) × (r < n.rings) × (n.taker r ≡ v) × (n.done r ≡ false)
  pub builds : (r : ℕ) → r < n.rings → n.taker r ≡ v → n.build r ≡ true → n.done r ≡ false → n.known r ≡ 0
  pub streams : BuildsDone n v → (r : ℕ) → r < n.rings → n.taker r ≡ v → n.build r ≡ false → n.done r ≡ false → n.known r ≡ 0

-- it gave Done to all, once each queue was given Done
pub record HasEnded (n : Net) (v : ℕ) : Type 0 where
  pub ended : n.ended v ≡ true
  pub empty : n.held v ≡ 0
  pub done : (r : ℕ) → r < n.rings → n.taker r ≡ v → n.done r ≡ true

-- the read-ahead rule holds a source file back: it is not idle and has a mark, and the sink has none, or one with which that mark is too far ahead
pub record IsHeldBack (n : Net) (v : ℕ) : Type 0 where
  pub awake : n.idle v ≡ false
  pub mark : ℤ
  pub is : n.mark v ≡ Some mark
  pub far : (low : ℤ) → n.low ≡ Some low → (low +ℤ pos n.ahead) <ℤ mark

-- it is a source file that is not read on: all that was read of it was given, and it is held back or cut
pub record IsPaused (n : Net) (v : ℕ) : Type 0 where
  pub source : n.is_side v ≡ false
  pub going : n.ended v ≡ false
  pub empty : n.held v ≡ 0
  pub reason : IsHeldBack n v ⊎ (n.cut v ≡ true)
