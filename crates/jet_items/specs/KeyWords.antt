-- Bytes read as numbers, the first byte worth most.
use Rattle.std.specs.Prelude.{ℕ, zero, suc, ◌+◌, ◌*◌, List, slice_index}

-- the number that n bytes are, from place k on
abbrev pub number_from : List ℕ → ℕ → ℕ → ℕ
number_from bytes k zero = 0
number_from bytes k (suc n) = number_from bytes k n * 256 + slice_index bytes (k + n)
