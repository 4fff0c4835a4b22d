-- The first bad line of a file that is fed.
use Rattle.std.proofs.Common.{◌≡◌, ℕ, ◌+◌, ◌<◌, ◌≤◌, List, [], ◌∷◌, ◌++◌, length, Option, Some, None, Result, Ok, Err, refl, sym, ap, ◌∙◌, subst, arith, inl, inr}
use Rattle.jet_items.specs.Values.{SideValue}
use Rattle.jet_items.specs.declared.item.Item.{Item}
use Rattle.jet_items.specs.declared.no_memory.Refused.TheVariants as refused
use Rattle.jet_lines.specs.Cutting.{MayCome, NextIs}
use Rattle.jet_lines.specs.Files.{numbered_at}
use Rattle.jet_lines.specs.Lines.{lines_of}
use Rattle.jet_lines.specs.LinesValue.{LinesValue}
use Rattle.jet_lines.specs.Readings.{event_line, side_at, side_line}
use Rattle.jet_lines.specs.declared.cut.Cut.TheVariants as cut
use Rattle.jet_lines.specs.declared.fault.LineFault.{LineFault}
use Rattle.jet_lines.specs.declared.fault.LineFault.TheVariants as fault
use Rattle.jet_file.specs.Outside.{Told, rest_of}
use Rattle.jet_flow.specs.DataFiles.{DataFile, SourceFile, SideFile}
use Rattle.jet_flow.specs.SideFiles.{reading_after}
use Rattle.jet_worker.specs.CheckText.{Checks, first_bad}
use Rattle.jet_worker.specs.SideRows.{side_rows}
use Rattle.jet_worker.specs.inner.Tallying.{SideTallied, fault_in, next_fault}
use Rattle.jet_worker.specs.declared.stop.Stop.TheVariants.{BadLine}
use Rattle.jet_feed.specs.Bodies.{RefusesItem}
use Rattle.jet_feed.specs.Fed.{AreGood, IsBadIn, IsBadOf, IsFed, IsFirstBad, IsLeft, IsSoFar, Named, unread, unread_in}
use Rattle.jet_feed.specs.FileItems.{source_line}
use Rattle.jet_feed.specs.declared.body.Body.{Body}
use Rattle.jet_feed.specs.declared.body.Body.TheVariants.{Source, Side}
use Rattle.jet_feed.specs.declared.feed.Feed.{Feed}
use Rattle.jet_lines.proofs.EntryLemmas.{long_event, long_line}
use Rattle.jet_lines.proofs.FileLemmas.{bad_next, numbered_fits, numbered_over}
use Rattle.jet_worker.proofs.SideLemmas.{bad_row, refused_by}
use Rattle.jet_feed.proofs.ItemLemmas.{fault_read, side_laws}

-- ---- the fault of the line behind good ones

fault_is : {A : Type 0} (r : Result (Option A) LineFault) (why : LineFault) → fault_in r ≡ Some why → r ≡ Err why
fault_is (Ok x) why h = absurd (cc h)
fault_is (Err f) why h = ap Err (cc h)

first_is : (c : Checks) (p : ℕ × DataFile) (bytes : List ℕ) (given : List (List ℕ)) (line : List ℕ) (others : List (List ℕ)) (why : LineFault) → AreGood c p given
    → lines_of bytes ≡ given ++ line ∷ others → next_fault c p given line ≡ Some why → first_bad c p bytes ≡ Some (length given + 1, why)
first_is c (k, SourceFile name lag) bytes given line others why good parts bad =
    (bad_next (event_line k) c.most bytes given line others why good.0 parts (fault_is (numbered_at (event_line k) c.most (length given + 1, line)) why bad)).0
first_is c (k, SideFile name) bytes given line others why good parts bad =
    bad_row side_laws c.most bytes given line others why good parts (fault_is (reading_after (side_rows c.most given) (numbered_at side_line c.most (length given + 1, line))) why bad)

long_fault : (c : Checks) (p : ℕ × DataFile) (given : List (List ℕ)) (line : List ℕ) → length given < c.most → 512 < length line → next_fault c p given line ≡ Some fault.TooLong
long_fault c (k, SourceFile name lag) given line room long = ap fault_in (numbered_fits (event_line k) c.most (length given) line room ∙ long_event k (length given + 1) line long)
long_fault c (k, SideFile name) given line room long =
    ap (λ (r : Result (Option SideValue) LineFault). fault_in (reading_after (side_rows c.most given) r)) (numbered_fits side_line c.most (length given) line room ∙ long_line (side_at (length given + 1)) line long)

many_fault : (c : Checks) (p : ℕ × DataFile) (given : List (List ℕ)) (line : List ℕ) → c.most ≤ length given → next_fault c p given line ≡ Some fault.TooMany
many_fault c (k, SourceFile name lag) given line full = ap fault_in (numbered_over (event_line k) c.most (length given) line full)
many_fault c (k, SideFile name) given line full =
    ap (λ (r : Result (Option SideValue) LineFault). fault_in (reading_after (side_rows c.most given) r)) (numbered_over side_line c.most (length given) line full)

-- a line that was refused
refused_fault : (c : Checks) (p : ℕ × DataFile) (given : List (List ℕ)) (sent : List Item) (line : List ℕ) (body : Body) (n : ℕ) (why : LineFault) → AreGood c p given → IsSoFar c p given sent body
    → RefusesItem p.0 n line body (refused.Fault why) → n ≡ length given + 1 → n ≤ c.most → next_fault c p given line ≡ Some why
refused_fault c (k, SourceFile name lag) given sent line (Source m) n why good h bad number small =
    let room : length given < c.most = omega (arith, number, small) in
    let at : source_line k (length given + 1) line ≡ Err why = subst (λ (j : ℕ). source_line k j line ≡ Err why) number bad in
    ap fault_in (numbered_fits (event_line k) c.most (length given) line room ∙ fault_read k (length given + 1) line why at)
refused_fault c (k, SourceFile name lag) given sent line (Side rows) n why good h bad number small = absurd h
refused_fault c (k, SideFile name) given sent line (Source m) n why good h bad number small = absurd h
refused_fault c (k, SideFile name) given sent line (Side rows) n why good h bad number small =
    let room : length given < c.most = omega (arith, number, small) in
    let tallied : SideTallied c.most given (record { counts = rows.counts; rows = length (side_rows c.most given) }) = record { good = good; counts = h; rows = refl } in
    ap (λ (r : Result (Option SideValue) LineFault). fault_in (reading_after (side_rows c.most given) r)) (numbered_fits side_line c.most (length given) line room)
    ∙ ap (λ (j : ℕ). fault_in (reading_after (side_rows c.most given) (side_line j line))) (sym number)
    ∙ ap fault_in (elim bad [
      | inl is ↦ ap (reading_after (side_rows c.most given)) is
      | inr over ↦ refused_by n line over.0 (record { counts = rows.counts; rows = length (side_rows c.most given) }) (Err (refused.Fault why)) over.1 (over.2, over.3) c.most given tallied
    ])

-- ---- stops

-- the line behind those that were read is the first bad one
bad_here : (c : Checks) (p : ℕ × DataFile) (at : ℕ) (content : Option (List ℕ)) (told : Option Told) (sent : List Item) (feed : Feed) (h : IsFed c p at content told sent feed) (part n : ℕ) (why : LineFault)
    → part ≡ p.0 → n ≡ length h.given + 1
    → ((more : List ℕ) → MayCome feed.lines.ended more → (line : List ℕ) × (others : List (List ℕ)) × (unread feed ++ lines_of (feed.lines.rest ++ more) ≡ line ∷ others) × (next_fault c p h.given line ≡ Some why))
    → IsBadOf c p content (BadLine part n why)
bad_here c p at content told sent feed h part n why part_is number found = (part_is, first content told h.left)
  where
    first : (o : Option (List ℕ)) (t : Option Told) → IsLeft at o h.bytes feed.lines.ended t → IsFirstBad c p o n why
    first None t left = tt
    first (Some bytes) None left = absurd left
    first (Some bytes) (Some t) left =
        let more : List ℕ = rest_of t at in
        let k = found more left.1 in
        let parts : lines_of bytes ≡ h.given ++ k.0 ∷ k.1 = ap lines_of left.0 ∙ h.cut more left.1 ∙ ap (λ (l : List (List ℕ)). h.given ++ l) k.2 in
        first_is c p bytes h.given k.0 k.1 why h.good parts k.3 ∙ ap (λ (j : ℕ). Some (j, why)) (sym number)

pub none_unread : (feed : Feed) → feed.unread ≡ None → unread feed ≡ []
none_unread feed is = ap (λ (o : Option ℕ). unread_in o feed.lines.line) is

pub one_unread : (feed : Feed) (n : ℕ) → feed.unread ≡ Some n → unread feed ≡ feed.lines.line ∷ []
one_unread feed n is = ap (λ (o : Option ℕ). unread_in o feed.lines.line) is

-- a line that the cutter refused
pub bad_cut : (feed : Feed) (n : ℕ) (why : LineFault) (after : LinesValue) (told : Option Told) (sent : List Item) → feed.unread ≡ None → NextIs feed.lines (cut.Bad n why) after → IsBadIn feed told sent (BadLine feed.part n why)
bad_cut feed n fault.TooLong after told sent none next = λ c p at content h.
    let read : unread feed ≡ [] = none_unread feed none in
    let number : feed.lines.number ≡ length h.given = omega (arith, h.number, ap length read) in
    let room : length h.given < c.most = omega (arith, next.0, next.1, h.most, number) in
    bad_here c p at content told sent feed h feed.part n fault.TooLong h.part (omega (arith, next.0, number)) (λ more may.
    let found = next.2 more may in
    (found.0, found.1, ap (λ (l : List (List ℕ)). l ++ lines_of (feed.lines.rest ++ more)) read ∙ found.2, long_fault c p h.given found.0 room found.3))
bad_cut feed n fault.TooMany after told sent none next = λ c p at content h.
    let read : unread feed ≡ [] = none_unread feed none in
    let number : feed.lines.number ≡ length h.given = omega (arith, h.number, ap length read) in
    let full : c.most ≤ length h.given = omega (arith, next.0, next.1, h.most, number) in
    bad_here c p at content told sent feed h feed.part n fault.TooMany h.part (omega (arith, next.0, number)) (λ more may.
    let found = next.2 more may in
    (found.0, found.1, ap (λ (l : List (List ℕ)). l ++ lines_of (feed.lines.rest ++ more)) read ∙ found.2, many_fault c p h.given found.0 full))
bad_cut feed n (fault.BadByte at) after told sent none next = absurd next
bad_cut feed n fault.Quote after told sent none next = absurd next
bad_cut feed n fault.Fields after told sent none next = absurd next
bad_cut feed n (fault.Number i) after told sent none next = absurd next
bad_cut feed n (fault.Key f) after told sent none next = absurd next
bad_cut feed n fault.KeyFull after told sent none next = absurd next

-- a line whose reading was refused
pub bad_read : (feed : Feed) (n : ℕ) (why : LineFault) (told : Option Told) (sent : List Item) → feed.unread ≡ Some n → RefusesItem feed.part n feed.lines.line feed.body (refused.Fault why) → IsBadIn feed told sent (BadLine feed.part n why)
bad_read feed n why told sent is bad = λ c p at content h.
    let read : unread feed ≡ feed.lines.line ∷ [] = one_unread feed n is in
    let named : n ≡ feed.lines.number = subst (λ (o : Option ℕ). Named o feed.lines.number) is h.named in
    let number : n ≡ length h.given + 1 = omega (arith, named, h.number, ap length read) in
    let small : n ≤ c.most = omega (arith, named, h.few) in
    let at_part : RefusesItem p.0 n feed.lines.line feed.body (refused.Fault why) = subst (λ (k : ℕ). RefusesItem k n feed.lines.line feed.body (refused.Fault why)) h.part bad in
    bad_here c p at content told sent feed h feed.part n why h.part number (λ more may. (
      feed.lines.line,
      lines_of (feed.lines.rest ++ more),
      ap (λ (l : List (List ℕ)). l ++ lines_of (feed.lines.rest ++ more)) read,
      refused_fault c p h.given sent feed.lines.line feed.body n why h.good h.body at_part number small,
    ))
