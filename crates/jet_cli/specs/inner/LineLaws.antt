-- What the laws of lines say to the reading of the one file of `window`.
use Rattle.std.specs.Prelude.{◌≡◌, ◌+◌, ◌<◌, ◌≤◌, ◌∷◌, ◌++◌, ℕ, List, length, Option, Some, Ok, Err, true}
use Rattle.jet_items.specs.Values.{EventValue}
use Rattle.jet_lines.specs.Feeds.{NoFeed}
use Rattle.jet_lines.specs.Files.{EndAt, GoOn, HoldAll, are_good, whole_lines}
use Rattle.jet_lines.specs.Lines.{lines_of}
use Rattle.jet_lines.specs.Readings.{event_line}
use Rattle.jet_lines.specs.declared.fault.LineFault.{LineFault}
use Rattle.jet_lines.specs.declared.fault.LineFault.TheVariants.{TooLong, TooMany}

pub record LineLaws : Type 0 where
  pub line : (part n : ℕ) (line : List ℕ) (e : EventValue) → event_line part n line ≡ Ok (Some e) → e.line ≡ n
  pub long : (part n : ℕ) (line : List ℕ) → 512 < length line → event_line part n line ≡ Err TooLong
  pub more : (part most : ℕ) (given : List (List ℕ)) (line : List ℕ) (found : Option EventValue) → are_good (event_line part) most given ≡ true
      → length given < most → event_line part (length given + 1) line ≡ Ok found → GoOn (event_line part) most given line found
  pub bad : (part most : ℕ) (content : List ℕ) (given : List (List ℕ)) (line : List ℕ) (others : List (List ℕ)) (fault : LineFault) → are_good (event_line part) most given ≡ true
      → lines_of content ≡ given ++ line ∷ others → length given < most → event_line part (length given + 1) line ≡ Err fault → EndAt (event_line part) most content given fault
  pub many : (part most : ℕ) (content : List ℕ) (given : List (List ℕ)) (line : List ℕ) (others : List (List ℕ)) → are_good (event_line part) most given ≡ true
      → lines_of content ≡ given ++ line ∷ others → most ≤ length given → EndAt (event_line part) most content given TooMany
  pub all : (part most : ℕ) (content : List ℕ) → are_good (event_line part) most (lines_of content) ≡ true → HoldAll (event_line part) most content
  pub whole : (content rest : List ℕ) (given : List (List ℕ)) → ((more : List ℕ) → lines_of (content ++ more) ≡ given ++ lines_of (rest ++ more)) → NoFeed rest (length rest)
      → whole_lines content ≡ given
