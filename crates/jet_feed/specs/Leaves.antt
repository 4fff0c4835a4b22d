-- When a file may be read on.
use Rattle.std.specs.Prelude.{Bool, true, false, ℤ, ◌+ℤ◌, int_le, Option, Some, None}

-- a file without a mark may; one with a mark where the sink has one, and the file's is at most that and so much more
abbrev pub allows : ℤ → Option ℤ → Option ℤ → Bool
allows ahead sink None = true
allows ahead None (Some mark) = false
allows ahead (Some sink) (Some mark) = int_le mark (sink +ℤ ahead)
