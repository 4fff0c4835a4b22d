-- Texts: one to 255 bytes of UTF-8.
use Rattle.std.specs.Prelude.{ℕ, ◌<◌, ◌≤◌, ◌==◌, nat_lt, ◌||◌, List, length, Option, Some, None, if◌then◌else◌}
use Rattle.std.specs.Str.{is_utf8}

pub record IsText (bytes : List ℕ) : Type 0 where
  pub not_empty : 0 < length bytes
  pub not_long : length bytes ≤ 255

-- the text of bytes that are one
abbrev pub text_at : List ℕ → Option (List ℕ)
text_at bytes = if length bytes == 0 || nat_lt 255 (length bytes) then None else if is_utf8 bytes then Some bytes else None
