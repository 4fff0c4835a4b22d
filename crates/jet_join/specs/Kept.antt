-- The side rows that are kept, by their key.
use Rattle.std.specs.Prelude.{ℕ, List, []}
use Rattle.std.specs.Option.{option_map_or}
use Rattle.std.specs.Map.{lookup}
use Rattle.std.specs.BTreeMap.{is_at}
use Rattle.std.specs.Ordering.{nat_cmp}
use Rattle.std.specs.Cmp.Lexicographic.{slice_cmp}
use Rattle.jet_items.specs.Values.{SideValue}
use Rattle.jet_join.specs.declared.side_rows.SideRows.{SideRows}

-- the rows kept with this key, in the order in which they came
abbrev pub kept_with : List ℕ → SideRows → List SideValue
kept_with key kept = option_map_or (λ rows. rows.items) (lookup (is_at (slice_cmp nat_cmp key)) kept.by_key.entries) []
