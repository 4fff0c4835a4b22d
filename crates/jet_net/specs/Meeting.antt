-- What holds of a job once the two ends of each ring have met, and stays so while nothing moves.
use Rattle.std.specs.Prelude.{◌≡◌, ℕ, ◌<◌, true, false}
use Rattle.jet_net.specs.Net.{Net, IsClear}

pub record HasMet (n : Net) : Type 0 where
  -- a ring in which nothing is on the way has a free slot, and such a link may be sent on
  pub free : (r : ℕ) → r < n.rings → IsClear n r → 0 < n.free r
  -- nothing follows Done
  pub last : (r : ℕ) → r < n.rings → n.done r ≡ true → n.known r ≡ 0
  -- Done comes to each ring out of a vertex that gave it to all, and from no vertex but one that holds it or gave it to all
  pub ends : (r : ℕ) → r < n.rings → n.ended (n.giver r) ≡ true → IsClear n r → n.done r ≡ true
  pub ended : (r : ℕ) → r < n.rings → n.done r ≡ true → n.held (n.giver r) ≡ 0 → n.ended (n.giver r) ≡ true
  -- and a vertex gives it only once each of its queues was given Done
  pub over : (r : ℕ) → r < n.rings → n.ended (n.taker r) ≡ true → n.done r ≡ true

-- a tasklet holds nothing while one of its builds is open
abbrev pub WaitsForBuilds : Net → Type 0
WaitsForBuilds n = (r : ℕ) → r < n.rings → n.build r ≡ true → n.done r ≡ false → n.held (n.taker r) ≡ 0
