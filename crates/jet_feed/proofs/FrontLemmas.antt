-- What a ring was sent is a front of the items of its file.
use Rattle.std.proofs.Common.{◌≡◌, ◌+◌, ℕ, ℤ, Bool, true, false, List, [], ◌∷◌, ◌++◌, map, length, Option, Some, None, Result, sym, ap, ◌∙◌, subst, append-nil, append_assoc}
use Rattle.std.specs.Prelude.{is_ok}
use Rattle.std.specs.List.{enumerate_from, list_all}
use mathlib.Core.List.{IsPrefix}
use Rattle.jet_items.specs.declared.item.Item.{Item}
use Rattle.jet_items.specs.declared.item.Item.TheVariants as item
use Rattle.jet_lines.specs.Files.{are_good, items_in, items_of, numbered_at, readings_in}
use Rattle.jet_lines.specs.Lines.{lines_of}
use Rattle.jet_lines.specs.Readings.{event_line, side_line}
use Rattle.jet_lines.specs.declared.fault.LineFault.{LineFault}
use Rattle.jet_file.specs.Outside.{Told, rest_of}
use Rattle.jet_flow.specs.DataFiles.{DataFile, SourceFile, SideFile}
use Rattle.jet_worker.specs.CheckText.{Checks, first_bad}
use Rattle.jet_worker.specs.SideRows.{side_after, side_rows}
use Rattle.jet_feed.specs.Fed.{AreGood, IsFed, done_where, line_items, unread, unread_in, waiting}
use Rattle.jet_feed.specs.FileItems.{file_items, source_line}
use Rattle.jet_feed.specs.declared.feed.Feed.{Feed}
use Rattle.jet_lines.proofs.FileLemmas.{all_good, items_append, readings_append}
use Rattle.jet_worker.proofs.SideLemmas.{no_bad_row}
use Rattle.jet_feed.proofs.ItemLemmas.{side_laws}

-- the items of good lines come first
items_split : {A : Type 0} (read : ℕ → List ℕ → Result (Option A) LineFault) (most : ℕ) (given others : List (List ℕ)) → are_good read most given ≡ true → (later : List A) × (items_in read most (given ++ others) ≡ items_in read most given ++ later)
items_split read most given [] good = ([], ap (items_in read most) (append-nil given) ∙ sym (append-nil (items_in read most given)))
items_split read most given (line ∷ others) good =
    let later = numbered_at read most (length given + 1, line) ∷ map (numbered_at read most) (enumerate_from (length given + 1 + 1) others) in
    (items_of later, ap items_of (readings_append read most given line others) ∙ items_append (readings_in read most given) later good)

-- a file whose lines are all good
pub file_whole : (c : Checks) (p : ℕ × DataFile) (bytes : List ℕ) (given : List (List ℕ)) → lines_of bytes ≡ given → AreGood c p given → (first_bad c p bytes ≡ None) × (file_items c p bytes ≡ line_items c p given)
file_whole c (p, SourceFile name lag) bytes given parts good =
    ((all_good (event_line p) c.most bytes (subst (λ (ls : List (List ℕ)). are_good (event_line p) c.most ls ≡ true) (sym parts) good.0)).0, ap (items_in (source_line p) c.most) parts)
file_whole c (p, SideFile name) bytes given parts good =
    let k = no_bad_row side_laws c.most bytes (subst (λ (ls : List (List ℕ)). list_all is_ok (side_after [] (readings_in side_line c.most ls)) ≡ true) (sym parts) good) in
    (k.0, ap (map item.Side) (k.1 ∙ ap (side_rows c.most) parts))

module _ (c : Checks) (p : ℕ × DataFile) (at : ℕ) (content : List ℕ) (t : Told) (sent : List Item) (feed : Feed) (h : IsFed c p at (Some content) (Some t) sent feed) where
  parts : lines_of content ≡ h.given ++ (unread feed ++ lines_of (feed.lines.rest ++ rest_of t at))
  parts = ap lines_of h.left.0 ∙ h.cut (rest_of t at) h.left.1

  -- behind it
  pub sent_whole : feed.ended ≡ true → (rest_of t at ≡ []) × (first_bad c p content ≡ None) × (sent ++ waiting feed ≡ file_items c p content ++ item.Done ∷ [])
  sent_whole ended =
      let k = h.end ended in
      let none : rest_of t at ≡ [] = h.left.1 k.0 in
      let nothing : unread feed ++ lines_of (feed.lines.rest ++ rest_of t at) ≡ [] =
      ap (λ (o : Option ℕ). unread_in o feed.lines.line ++ lines_of (feed.lines.rest ++ rest_of t at)) k.2 ∙ ap (λ (l : List ℕ). lines_of (l ++ rest_of t at)) k.1 ∙ ap lines_of none in
      let all : lines_of content ≡ h.given = parts ∙ ap (λ (l : List (List ℕ)). h.given ++ l) nothing ∙ append-nil h.given in
      let w = file_whole c p content h.given all h.good in
      (none, w.0, h.items ∙ ap (λ (b : Bool). line_items c p h.given ++ done_where b) ended ∙ ap (λ (l : List Item). l ++ item.Done ∷ []) (sym w.1))

-- before the end of a source file
pub source_front : (c : Checks) (k : ℕ) (name : List ℕ) (lag : ℤ) (at : ℕ) (content : List ℕ) (t : Told) (sent : List Item) (feed : Feed) → IsFed c (k, SourceFile name lag) at (Some content) (Some t) sent feed → feed.ended ≡ false
    → IsPrefix sent (file_items c (k, SourceFile name lag) content)
source_front c k name lag at content t sent feed h going =
    let p : ℕ × DataFile = (k, SourceFile name lag) in
    let later : List (List ℕ) = unread feed ++ lines_of (feed.lines.rest ++ rest_of t at) in
    let split = items_split (source_line k) c.most h.given later h.good.1 in
    let all : file_items c p content ≡ line_items c p h.given ++ split.0 = ap (items_in (source_line k) c.most) (parts c p at content t sent feed h) ∙ split.1 in
    let items : sent ++ waiting feed ≡ line_items c p h.given = h.items ∙ ap (λ (b : Bool). line_items c p h.given ++ done_where b) going ∙ append-nil (line_items c p h.given) in
    (waiting feed ++ split.0, sym (append_assoc sent (waiting feed) split.0) ∙ ap (λ (l : List Item). l ++ split.0) items ∙ sym all)
