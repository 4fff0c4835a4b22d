-- Which marks stand in the rings of a job in which nothing moves.
use Rattle.std.specs.Prelude.{◌≡◌, ◌≢◌, ◌⊎◌, ℕ, ◌<◌, Bool, true, false, ℤ}
use Rattle.jet_net.specs.Net.{Net, IsClear, BuildsDone, HasReached}
use Rattle.jet_net.specs.Causes.{IsStarved}

-- a stream queue of v was not given Done
pub record IsOpen (n : Net) (v q : ℕ) : Type 0 where
  pub exists : q < n.rings
  pub taker : n.taker q ≡ v
  pub stream : n.build q ≡ false
  pub going : n.done q ≡ false

-- no idle file gives into a ring
abbrev pub IsAwake : Net → ℕ → Type 0
IsAwake n r = n.is_file (n.giver r) ≡ true → n.idle (n.giver r) ≡ false

-- an open queue counts for the watermark of v while it is awake
pub record Counts (n : Net) (v q : ℕ) : Type 0 where
  pub is_open : IsOpen n v q
  pub awake : IsAwake n q

-- some queue of v counts
abbrev pub HasCounting : Net → ℕ → Type 0
HasCounting n v = (q : ℕ) × Counts n v q

-- a ring that a tasklet at rest gives into, with nothing on the way
pub record IsSettled (n : Net) (r : ℕ) : Type 0 where
  pub exists : r < n.rings
  pub inner : n.is_file (n.giver r) ≡ false
  pub clear : IsClear n r
  pub rests : IsStarved n (n.giver r)
  pub builds : BuildsDone n (n.giver r)

-- Of a file its mark has come; a tasklet at rest has given the mark that all its queues which count allow, while one does; and the sink has it.
pub record MarksCome (n : Net) : Type 0 where
  pub files : (t : ℤ) (r : ℕ) → r < n.rings → n.is_file (n.giver r) ≡ true → IsClear n r → HasReached t (n.mark (n.giver r)) → HasReached t (n.last r)
  pub passed : (t : ℤ) (r : ℕ) → IsSettled n r → HasCounting n (n.giver r) → ((q : ℕ) → Counts n (n.giver r) q → HasReached t (n.last q)) → HasReached t (n.last r)
  pub sink : (t : ℤ) → HasCounting n n.vertices → ((q : ℕ) → Counts n n.vertices q → HasReached t (n.last q)) → HasReached t n.low

-- and while none counts, the mark that all its open queues allow
abbrev pub IdleMarksCome : Net → Type 0
IdleMarksCome n = (t : ℤ) (r : ℕ) → IsSettled n r → ((q : ℕ) → Counts n (n.giver r) q → ⊥) → ((q : ℕ) → IsOpen n (n.giver r) q → HasReached t (n.last q)) → HasReached t (n.last r)

-- another file that gives to the same tasklet
pub record IsBeside (n : Net) (r q : ℕ) : Type 0 where
  pub exists : q < n.rings
  pub same : n.taker q ≡ n.taker r

-- Of a file no greater mark than its own has come; a tasklet at rest has given none that an open queue does not allow. A file that was idle allows what another file allows that gives to the same tasklet.
pub record NoneAbove (n : Net) : Type 0 where
  pub files : (t : ℤ) (r : ℕ) → r < n.rings → n.is_file (n.giver r) ≡ true → IsClear n r → HasReached t (n.last r) → HasReached t (n.mark (n.giver r))
  pub passed : (t : ℤ) (r q : ℕ) → IsSettled n r → IsOpen n (n.giver r) q → HasReached t (n.last r)
      → HasReached t (n.last q) ⊎ ((n.is_file (n.giver q) ≡ true) × (n.was_idle (n.giver q) ≡ true) × (p : ℕ) × IsBeside n q p × HasReached t (n.last p))

-- some vertices, and with each all from which its stream queues come
abbrev pub IsUpward : Net → (ℕ → Bool) → Type 0
IsUpward n above = (q : ℕ) → q < n.rings → n.taker q < n.vertices → n.build q ≡ false → above (n.taker q) ≡ true → above (n.giver q) ≡ true

-- what comes out of a ring may come from the file, by stream queues alone
pub data Comes (n : Net) (file : ℕ) : ℕ → Type 0 where
  here : (r : ℕ) → r < n.rings → n.giver r ≡ file → Comes n file r
  behind : (r q : ℕ) → r < n.rings → q < n.rings → n.build q ≡ false → n.taker q ≡ n.giver r → Comes n file q → Comes n file r

-- Each of these files that has not ended and is not idle has a mark that is not below t, and none of these tasklets waits for idle files alone. Then so has each open ring out of these vertices.
abbrev pub MarksPass : Net → Type 0
MarksPass n = (t : ℤ) (above : ℕ → Bool) → IsUpward n above
    → ((v q : ℕ) → v < n.vertices → above v ≡ true → IsOpen n v q → HasCounting n v)
    → ((v : ℕ) → v < n.vertices → n.is_file v ≡ true → above v ≡ true → n.ended v ≡ false → n.idle v ≡ false → HasReached t (n.mark v))
    → (r : ℕ) → r < n.rings → above (n.giver r) ≡ true → n.done r ≡ false → IsAwake n r → HasReached t (n.last r)

-- The same where each of these files that has not ended has such a mark, be it idle or not.
abbrev pub IdleMarksPass : Net → Type 0
IdleMarksPass n = (t : ℤ) (above : ℕ → Bool) → IsUpward n above
    → ((v : ℕ) → v < n.vertices → n.is_file v ≡ true → above v ≡ true → n.ended v ≡ false → HasReached t (n.mark v))
    → (r : ℕ) → r < n.rings → above (n.giver r) ≡ true → n.done r ≡ false → HasReached t (n.last r)

-- another file has a mark that is not below t
pub record AnotherHas (n : Net) (t : ℤ) (file : ℕ) : Type 0 where
  pub other : ℕ
  pub is_file : n.is_file other ≡ true
  pub differs : other ≢ file
  pub reached : HasReached t (n.mark other)

-- A ring has a mark that is not below t only where each file from which it comes and that has not ended has one, or was idle while another had one.
abbrev pub MarksStay : Net → Type 0
MarksStay n = (t : ℤ) (file r : ℕ) → n.is_file file ≡ true → n.ended file ≡ false → Comes n file r → HasReached t (n.last r)
    → HasReached t (n.mark file) ⊎ ((n.was_idle file ≡ true) × AnotherHas n t file)
