-- The counting of the rows of a side file, key by key.
use Rattle.std.specs.Prelude.{◌≡◌, ℕ, ◌+◌, ◌<◌, ◌≤◌, List, bytes_eq, if◌then◌else◌}
use Rattle.std.specs.Option.{unwrap_or}
use Rattle.std.specs.Map.{lookup}
use Rattle.std.specs.BTreeMap.{is_at}
use Rattle.std.specs.Ordering.{nat_cmp}
use Rattle.std.specs.Cmp.Lexicographic.{slice_cmp}
use Rattle.jet_items.specs.Values.{SideValue}
use Rattle.jet_items.specs.declared.no_memory.Refused.{Refused}
use Rattle.jet_items.specs.declared.no_memory.Refused.TheVariants as refused
use Rattle.jet_lines.specs.declared.fault.LineFault.{LineFault}
use Rattle.jet_lines.specs.declared.fault.LineFault.TheVariants.{KeyFull}
use Rattle.jet_flow.specs.SideFiles.{most_rows}
use Rattle.jet_feed.specs.declared.rows.Rows.{Rows}

-- how many rows of a key were counted
abbrev pub rows_at : List ℕ → Rows → ℕ
rows_at key rows = unwrap_or (lookup (is_at (slice_cmp nat_cmp key)) rows.counts.entries) 0

-- the row was counted, which its key had room for
pub record CountsRow (row : SideValue) (old new : Rows) : Type 0 where
  pub room : rows_at row.key old < most_rows
  pub counts : (key : List ℕ) → rows_at key new ≡ rows_at key old + (if bytes_eq row.key key then 1 else 0)

-- the key of the row has no room
abbrev pub RefusesRow : SideValue → Rows → Refused LineFault → Type 0
RefusesRow row old refused.NoMemory = Unit {0}
RefusesRow row old (refused.Fault why) = (why ≡ KeyFull) × (most_rows ≤ rows_at row.key old)

-- each key has as many rows as before
abbrev pub SameRows : Rows → Rows → Type 0
SameRows old new = (key : List ℕ) → rows_at key new ≡ rows_at key old
