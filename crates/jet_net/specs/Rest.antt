-- A job in which nothing moves, and what is left in it then.
use Rattle.std.specs.Prelude.{◌≡◌, ◌⊎◌, ℕ, ◌<◌, true, false}
use Rattle.jet_net.specs.Net.{Net}
use Rattle.jet_net.specs.Causes.{IsFull, IsStarved, HasEnded, IsPaused}

-- Nothing moved, the coordinator's work included: each tasklet has its cause, each file is full, not read on or has ended, and the sink has taken all.
pub record StandsStill (n : Net) : Type 0 where
  pub tasklets : (v : ℕ) → v < n.vertices → n.is_file v ≡ false → IsFull n v ⊎ (IsStarved n v ⊎ HasEnded n v)
  pub files : (v : ℕ) → v < n.vertices → n.is_file v ≡ true → IsFull n v ⊎ (IsPaused n v ⊎ HasEnded n v)
  pub sink : (r : ℕ) → r < n.rings → n.taker r ≡ n.vertices → n.known r ≡ 0

-- Nothing is on the way: every ring, outbox and link is empty, every side file was carried to its end, and what leads down from a source file that has not ended is open.
pub record IsAligned (n : Net) : Type 0 where
  pub known : (r : ℕ) → r < n.rings → n.known r ≡ 0
  pub held : (v : ℕ) → v < n.vertices → n.held v ≡ 0
  pub builds : (r : ℕ) → r < n.rings → n.build r ≡ true → n.done r ≡ true
  pub sides : (v : ℕ) → v < n.vertices → n.is_side v ≡ true → n.ended v ≡ true
  pub tasklets : (v : ℕ) → v < n.vertices → n.is_file v ≡ false → IsStarved n v ⊎ HasEnded n v
  pub files : (v : ℕ) → v < n.vertices → n.is_file v ≡ true → IsPaused n v ⊎ HasEnded n v
  pub open_rings : (r : ℕ) → r < n.rings → n.ended (n.giver r) ≡ false → n.done r ≡ false
  pub goes_on : (r : ℕ) → r < n.rings → n.ended (n.giver r) ≡ false → n.ended (n.taker r) ≡ false

-- no file is cut
abbrev pub IsWhole : Net → Type 0
IsWhole n = (v : ℕ) → v < n.vertices → n.cut v ≡ false

-- all was carried to the end
pub record IsFinished (n : Net) : Type 0 where
  pub ended : (v : ℕ) → v < n.vertices → n.ended v ≡ true
  pub held : (v : ℕ) → v < n.vertices → n.held v ≡ 0
  pub known : (r : ℕ) → r < n.rings → n.known r ≡ 0
  pub done : (r : ℕ) → r < n.rings → n.done r ≡ true
