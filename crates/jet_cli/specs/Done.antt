-- What `Done` says to `window`.
use Rattle.jet_laws.specs.InTime.{IsInTime}
use Rattle.std.specs.Prelude.{◌≡◌, ℕ, Bool, false, List, ◌++◌, All, Some, None, IsSomeAnd, pos}
use Rattle.jet_lines.specs.Files.{first_bad_line, most_lines}
use Rattle.jet_lines.specs.Readings.{event_line}
use Rattle.jet_file.specs.Headline.{Headline, IsReadWhole}
use Rattle.jet_file.specs.Outside.{Told}
use Rattle.jet_file.specs.declared.outside.Out.TheVariants.{Rows, Notes}
use Rattle.jet_cli.specs.Base.{base_events, base_inflow, base_behind}
use Rattle.jet_cli.specs.Pacing.{KeepsPace}
use Rattle.jet_cli.specs.Words.{WindowCommand}

-- what Done to `window` says, where the outside tells its content
pub record IsDone (c : WindowCommand) (before now : ℕ → Bool) (old new : Told) : Type 0 where
  pub content : List ℕ
  pub rows : List ℕ
  pub notes : List ℕ
  pub content_is : old.content c.file ≡ Some content
  -- the file was opened by this call and read to its end, and none of its lines is bad
  pub read : IsReadWhole c.file content before now new
  pub good : first_bad_line (event_line 0) most_lines content ≡ None
  -- what this call wrote
  pub rows_written : new.written Rows ≡ old.written Rows ++ rows
  pub notes_written : new.written Notes ≡ old.written Notes ++ notes
  pub headline : Headline (base_inflow c content) (base_behind c content) rows notes
  -- each row was written before a read could run ahead of it
  pub pace : KeepsPace c content headline.table before now old new
  -- no content changed
  pub kept : new.content ≡ old.content
  -- an event is late exactly where it is behind
  pub exact : All (λ k. All (λ e. base_behind c content e ≡ false) k.events) headline.counted.kept

-- where no event of the file is behind, no late line is written
abbrev pub IsQuiet : WindowCommand → Told → Told → Type 0
IsQuiet c old new = IsSomeAnd (old.content c.file) (λ content. All (λ e. base_behind c content e ≡ false) (base_events content) → new.written Notes ≡ old.written Notes)

-- where no event of the file lags more than the lag, no late line is written
abbrev pub IsQuietInTime : WindowCommand → Told → Told → Type 0
IsQuietInTime c old new = IsSomeAnd (old.content c.file) (λ content. IsInTime (pos c.lag) (base_events content) → new.written Notes ≡ old.written Notes)
