-- What a file that is cut into lines keeps.
use Rattle.std.specs.Prelude.{ℕ, ◌+◌, ◌≤◌, List, length, drop}
use Rattle.jet_lines.specs.Feeds.{NoFeed}

-- the places of the last line and of the bytes that are left, of which so many hold no line feed
pub record IsHeld (items : List ℕ) (from to at clear number most : ℕ) : Type 0 where
  pub from_to : from ≤ to
  pub to_at : to ≤ at
  pub end_at : at ≤ to + 2
  pub within : at + clear ≤ length items
  pub no_feed : NoFeed (drop at items) clear
  pub not_many : number ≤ most
  pub most_fits : most ≤ 4294967294
