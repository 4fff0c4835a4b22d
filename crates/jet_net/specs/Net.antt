-- A job at one moment, as plain data: vertices, and the rings between them.
use Rattle.std.specs.Prelude.{◌≡◌, ◌<◌, ℕ, Bool, true, ℤ, ◌≤ℤ◌, Option}
use Rattle.std.specs.Option.{IsSomeAnd}

-- The vertices are the tasklets and, for each file, the coordinator as the one who gives it. Their numbers are below
-- `vertices`, and that number itself is the coordinator as the sink. A link stands here as one ring.
pub record Net : Type 0 where
  pub vertices : ℕ
  pub rings : ℕ
  -- of a ring: who gives into it and who takes from it, whether it leads to a build queue, and whether it is a link
  pub giver : ℕ → ℕ
  pub taker : ℕ → ℕ
  pub build : ℕ → Bool
  pub is_link : ℕ → Bool
  -- how many items its taker knows, of a link packets; how many slots its giver knows to be free, of a link none where it may not send; and whether its taker was given Done
  pub known : ℕ → ℕ
  pub free : ℕ → ℕ
  pub done : ℕ → Bool
  -- the greatest mark that its taker was given, where a file gives into it that of the events
  pub last : ℕ → Option ℤ
  -- of a vertex: how deep it stands, whether it is a file, and whether it serves builds alone
  pub depth : ℕ → ℕ
  pub is_file : ℕ → Bool
  pub is_side : ℕ → Bool
  -- how many items it holds, which it has in its outbox or in a packet, or has read and not given; and whether it gave Done to all
  pub held : ℕ → ℕ
  pub ended : ℕ → Bool
  -- of a file: the mark of the events that were given, whether an idle note was the last that was given of it, whether one ever was, and whether it is cut, so that no more of it may be given
  pub mark : ℕ → Option ℤ
  pub idle : ℕ → Bool
  pub was_idle : ℕ → Bool
  pub cut : ℕ → Bool
  -- the watermark of the sink, and how far the mark of a file may be ahead of it
  pub low : Option ℤ
  pub ahead : ℕ

-- nothing is on the way in a ring: no item is known, and of a link the receiver holds none
pub record IsClear (n : Net) (r : ℕ) : Type 0 where
  pub known : n.known r ≡ 0
  pub held : n.is_link r ≡ true → n.held (n.taker r) ≡ 0

-- each build queue of a vertex was given Done
abbrev pub BuildsDone : Net → ℕ → Type 0
BuildsDone n v = (r : ℕ) → r < n.rings → n.taker r ≡ v → n.build r ≡ true → n.done r ≡ true

-- there is a mark, and it is not below t
abbrev pub HasReached : ℤ → Option ℤ → Type 0
HasReached t mark = IsSomeAnd mark (λ m. t ≤ℤ m)
