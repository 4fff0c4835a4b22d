-- The ranges in which the numbers of items lie.
use Rattle.std.specs.Prelude.{ℕ, ℤ, pos, neg_ℤ, ◌≤ℤ◌, Bool, ◌&&◌, int_le}

-- z lies from -most to most
abbrev pub IsWithin : ℕ → ℤ → Type 0
IsWithin most z = (neg_ℤ (pos most) ≤ℤ z) × (z ≤ℤ pos most)

-- the same as a test
abbrev pub is_within : ℕ → ℤ → Bool
is_within most z = int_le (neg_ℤ (pos most)) z && int_le z (pos most)

-- timestamps and values lie within 10 ^ 15
abbrev pub most_time : ℕ
most_time = 1000000000000000

-- a frame ends at most a slide of 10 ^ 12 from a timestamp
abbrev pub most_frame_end : ℕ
most_frame_end = 1001000000000000

-- a row ends at most a size of 10 ^ 12 from a frame's end
abbrev pub most_row_end : ℕ
most_row_end = 1002000000000000

-- marks have room for a timestamp less a lag, and more
abbrev pub most_mark : ℕ
most_mark = 4000000000000000
