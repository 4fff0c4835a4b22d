-- What the laws of lines say to the counting of a file's lines.
use Rattle.std.specs.Prelude.{◌≡◌, ◌+◌, ◌<◌, ◌≤◌, ◌∷◌, ◌++◌, [], ℕ, List, length, map, filter_map, Option, Some, Result, Ok, Err, is_ok, true}
use Rattle.std.specs.List.{enumerate_from, list_all}
use Rattle.jet_items.specs.Values.{EventValue, SideValue}
use Rattle.jet_lines.specs.Feeds.{NoFeed}
use Rattle.jet_lines.specs.Files.{EndAt, GoOn, HoldAll, are_good, fault_of, first_of, item_of, items_of, numbered_at, readings_in, whole_lines}
use Rattle.jet_lines.specs.Lines.{lines_of}
use Rattle.jet_lines.specs.Readings.{event_line, side_line}
use Rattle.jet_lines.specs.declared.fault.LineFault.{LineFault}
use Rattle.jet_lines.specs.declared.fault.LineFault.TheVariants.{TooLong, TooMany}

-- of the events of a source file
pub record EventLaws : Type 0 where
  pub line : (part n : ℕ) (line : List ℕ) (e : EventValue) → event_line part n line ≡ Ok (Some e) → e.line ≡ n
  pub long : (part n : ℕ) (line : List ℕ) → 512 < length line → event_line part n line ≡ Err TooLong
  pub fits : (part most n : ℕ) (line : List ℕ) → n < most → numbered_at (event_line part) most (n + 1, line) ≡ event_line part (n + 1) line
  pub over : (part most n : ℕ) (line : List ℕ) → most ≤ n → numbered_at (event_line part) most (n + 1, line) ≡ Err TooMany
  pub more : (part most : ℕ) (given : List (List ℕ)) (line : List ℕ) (found : Option EventValue) → are_good (event_line part) most given ≡ true
      → length given < most → event_line part (length given + 1) line ≡ Ok found → GoOn (event_line part) most given line found
  pub bad : (part most : ℕ) (content : List ℕ) (given : List (List ℕ)) (line : List ℕ) (others : List (List ℕ)) (fault : LineFault) → are_good (event_line part) most given ≡ true
      → lines_of content ≡ given ++ line ∷ others → length given < most → event_line part (length given + 1) line ≡ Err fault → EndAt (event_line part) most content given fault
  pub many : (part most : ℕ) (content : List ℕ) (given : List (List ℕ)) (line : List ℕ) (others : List (List ℕ)) → are_good (event_line part) most given ≡ true
      → lines_of content ≡ given ++ line ∷ others → most ≤ length given → EndAt (event_line part) most content given TooMany
  pub all : (part most : ℕ) (content : List ℕ) → are_good (event_line part) most (lines_of content) ≡ true → HoldAll (event_line part) most content

-- of the rows of a side file
pub record SideLaws : Type 0 where
  pub long : (n : ℕ) (line : List ℕ) → 512 < length line → side_line n line ≡ Err TooLong
  pub fits : (most n : ℕ) (line : List ℕ) → n < most → numbered_at side_line most (n + 1, line) ≡ side_line (n + 1) line
  pub over : (most n : ℕ) (line : List ℕ) → most ≤ n → numbered_at side_line most (n + 1, line) ≡ Err TooMany
  pub apart : (most : ℕ) (given : List (List ℕ)) (line : List ℕ) (others : List (List ℕ)) → readings_in side_line most (given ++ line ∷ others)
      ≡ readings_in side_line most given ++ numbered_at side_line most (length given + 1, line) ∷ map (numbered_at side_line most) (enumerate_from (length given + 1 + 1) others)
  pub count : (most : ℕ) (lines : List (List ℕ)) → length (readings_in side_line most lines) ≡ length lines
  pub good : (good : List (Result (Option SideValue) LineFault)) → list_all is_ok good ≡ true → items_of good ≡ filter_map item_of good
  pub no_fault : (n : ℕ) (good : List (Result (Option SideValue) LineFault)) → list_all is_ok good ≡ true → filter_map fault_of (enumerate_from n good) ≡ []
  pub first_fault : (n : ℕ) (good later : List (Result (Option SideValue) LineFault)) (fault : LineFault) → list_all is_ok good ≡ true
      → first_of (filter_map fault_of (enumerate_from n (good ++ Err fault ∷ later))) ≡ Some (n + length good, fault)

-- of both, and of the lines that were given of a file however it goes on
pub record LineLaws : Type 0 where
  pub events : EventLaws
  pub sides : SideLaws
  pub whole : (content rest : List ℕ) (given : List (List ℕ)) → ((more : List ℕ) → lines_of (content ++ more) ≡ given ++ lines_of (rest ++ more)) → NoFeed rest (length rest)
      → whole_lines content ≡ given
