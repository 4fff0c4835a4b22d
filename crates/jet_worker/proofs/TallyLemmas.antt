-- What a tally says of the first bad line of its file, and of the text for it.
use Rattle.std.proofs.Common.{◌≡◌, ℕ, ◌+◌, ◌<◌, ◌≤◌, Bool, true, false, cond, List, [], ◌∷◌, ◌++◌, length, Option, Some, None, Result, Ok, Err, refl, sym, ap, ◌∙◌, subst, arith, inl, inr}
use Rattle.std.specs.Prelude.{◌⊎◌, bytes_eq, codes, decimal, if◌then◌else◌, IfErr}
use Rattle.std.specs.Option.{unwrap_or}
use Rattle.std.specs.Map.{lookup}
use Rattle.std.specs.BTreeMap.{is_at}
use Rattle.std.specs.Ordering.{nat_cmp}
use Rattle.std.specs.Cmp.Lexicographic.{slice_cmp}
use Rattle.std.proofs.lemmas.Map.Text.{is_eq-slice_cmp}
use Rattle.std.proofs.lemmas.Slice.Eq.{bytes_eq-Decides}
use Rattle.jet_items.specs.LineText.{line_text}
use Rattle.jet_items.specs.Values.{EventValue}
use Rattle.jet_items.specs.declared.no_memory.Refused.{Refused}
use Rattle.jet_items.specs.declared.no_memory.Refused.TheVariants as refused
use Rattle.jet_lines.specs.Files.{are_good, first_bad_line, numbered_at}
use Rattle.jet_lines.specs.Lines.{lines_of}
use Rattle.jet_lines.specs.Readings.{event_line, side_line}
use Rattle.jet_lines.specs.declared.fault.LineFault.{LineFault}
use Rattle.jet_lines.specs.declared.fault.LineFault.TheVariants.{TooLong, TooMany}
use Rattle.jet_flow.specs.DataFiles.{DataFile, SourceFile, SideFile}
use Rattle.jet_flow.specs.SideFiles.{reading_after}
use Rattle.jet_worker.specs.CheckText.{Checks, check_line, first_bad}
use Rattle.jet_worker.specs.inner.LineLaws.{LineLaws}
use Rattle.jet_worker.specs.inner.Tallying.{RefusesLine, RefusesSideLine, Tallied, fault_in, next_fault}
use Rattle.jet_worker.specs.SideRows.{side_rows}
use Rattle.jet_worker.specs.declared.side_tally.SideTally.{SideTally}
use Rattle.jet_worker.specs.declared.tally.Tally.{Tally}
use Rattle.jet_worker.specs.declared.tally.Tally.TheVariants.{Source, Side}
use Rattle.jet_worker.proofs.SideLemmas.{bad_row, no_bad_row}

-- ---- the first bad line

fault_is : {A : Type 0} (r : Result (Option A) LineFault) (why : LineFault) → fault_in r ≡ Some why → r ≡ Err why
fault_is (Ok x) why h = absurd (cc h)
fault_is (Err f) why h = ap Err (cc h)

module _ (laws : LineLaws) where
  -- of a source file, whether the line is one too many or not
  bad_event : (k most : ℕ) (bytes : List ℕ) (given : List (List ℕ)) (line : List ℕ) (others : List (List ℕ)) (why : LineFault) → are_good (event_line k) most given ≡ true → lines_of bytes ≡ given ++ line ∷ others
      → numbered_at (event_line k) most (length given + 1, line) ≡ Err why → first_bad_line (event_line k) most bytes ≡ Some (length given + 1, why)
  bad_event k most bytes given line others why good parts bad = by_room (few_or_many (length given) most)
    where
      few_or_many : (n m : ℕ) → (n < m) ⊎ (m ≤ n)
      few_or_many n m = grind arith

      same : (f g : LineFault) (r : Result (Option EventValue) LineFault) → r ≡ Err f → r ≡ Err g → f ≡ g
      same f g r h k = cc (sym h ∙ k)

      by_room : (length given < most) ⊎ (most ≤ length given) → first_bad_line (event_line k) most bytes ≡ Some (length given + 1, why)
      by_room (inl room) = (laws.events.bad k most bytes given line others why good parts room (sym (laws.events.fits k most (length given) line room) ∙ bad)).0
      by_room (inr full) =
          (laws.events.many k most bytes given line others good parts full).0
          ∙ ap (λ (f : LineFault). Some (length given + 1, f)) (same TooMany why (numbered_at (event_line k) most (length given + 1, line)) (laws.events.over k most (length given) line full) bad)

  pub bad_is : (c : Checks) (p : ℕ × DataFile) (bytes : List ℕ) (given : List (List ℕ)) (line : List ℕ) (others : List (List ℕ)) (why : LineFault) (t : Tally) → Tallied c p given t
      → lines_of bytes ≡ given ++ line ∷ others → next_fault c p given line ≡ Some why → first_bad c p bytes ≡ Some (length given + 1, why)
  bad_is c (k, SourceFile name lag) bytes given line others why (Source t) h parts bad =
      bad_event k c.most bytes given line others why h.good parts (fault_is (numbered_at (event_line k) c.most (length given + 1, line)) why bad)
  bad_is c (k, SourceFile name lag) bytes given line others why (Side t) h parts bad = absurd h
  bad_is c (k, SideFile name) bytes given line others why (Side t) h parts bad =
      bad_row laws.sides c.most bytes given line others why h.good parts (fault_is (reading_after (side_rows c.most given) (numbered_at side_line c.most (length given + 1, line))) why bad)
  bad_is c (k, SideFile name) bytes given line others why (Source t) h parts bad = absurd h

  pub none_is : (c : Checks) (p : ℕ × DataFile) (bytes : List ℕ) (t : Tally) → Tallied c p (lines_of bytes) t → first_bad c p bytes ≡ None
  none_is c (k, SourceFile name lag) bytes (Source t) h = (laws.events.all k c.most bytes h.good).0
  none_is c (k, SourceFile name lag) bytes (Side t) h = absurd h
  none_is c (k, SideFile name) bytes (Side t) h = (no_bad_row laws.sides c.most bytes h.good).0
  none_is c (k, SideFile name) bytes (Source t) h = absurd h

  pub long_fault : (c : Checks) (p : ℕ × DataFile) (given : List (List ℕ)) (line : List ℕ) → length given < c.most → 512 < length line → next_fault c p given line ≡ Some TooLong
  long_fault c (k, SourceFile name lag) given line room long =
      ap fault_in (laws.events.fits k c.most (length given) line room ∙ laws.events.long k (length given + 1) line long)
  long_fault c (k, SideFile name) given line room long =
      ap (λ r. fault_in (reading_after (side_rows c.most given) r)) (laws.sides.fits c.most (length given) line room ∙ laws.sides.long (length given + 1) line long)

  pub many_fault : (c : Checks) (p : ℕ × DataFile) (given : List (List ℕ)) (line : List ℕ) → c.most ≤ length given → next_fault c p given line ≡ Some TooMany
  many_fault c (k, SourceFile name lag) given line full = ap fault_in (laws.events.over k c.most (length given) line full)
  many_fault c (k, SideFile name) given line full = ap (λ r. fault_in (reading_after (side_rows c.most given) r)) (laws.sides.over c.most (length given) line full)

  -- ---- a side line that is refused

  side_refuses : (n : ℕ) (line : List ℕ) (t : SideTally) (e : Refused LineFault) → RefusesSideLine n line t e → RefusesLine n line (Side t) e
  side_refuses n line t refused.NoMemory h = tt
  side_refuses n line t (refused.Fault why) h = λ c p given. refuses c p given
    where
      refuses : (c : Checks) (p : ℕ × DataFile) (given : List (List ℕ)) → Tallied c p given (Side t) → n ≡ length given + 1 → n ≤ c.most → next_fault c p given line ≡ Some why
      refuses c (k, SourceFile name lag) given tallied number small = absurd tallied
      refuses c (k, SideFile name) given tallied number small =
          let room : length given < c.most = omega (arith, number, small) in
          ap (λ r. fault_in (reading_after (side_rows c.most given) r)) (laws.sides.fits c.most (length given) line room)
          ∙ ap (λ (j : ℕ). fault_in (reading_after (side_rows c.most given) (side_line j line))) (sym number)
          ∙ ap fault_in (h c.most given tallied)

  pub side_refused_by : (n : ℕ) (line : List ℕ) (t : SideTally) (whole : Tally) (r : Result (Unit {0}) (Refused LineFault)) → whole ≡ Side t → IfErr r (RefusesSideLine n line t) → IfErr r (RefusesLine n line whole)
  side_refused_by n line t whole (Ok done) is h = tt
  side_refused_by n line t whole (Err e) is h = subst (λ (x : Tally). RefusesLine n line x e) (sym is) (side_refuses n line t e h)

  -- ---- the text for a side file

  pub side_line_is : (c : Checks) (p lines : ℕ) (file : DataFile) (bytes text : List ℕ) (t : SideTally) (whole : Tally) → whole ≡ Side t
      → text ≡ line_text (codes "side" ∷ decimal p ∷ decimal lines ∷ decimal t.rows ∷ []) → Tallied c (p, file) (lines_of bytes) whole → lines ≡ length (lines_of bytes)
      → text ≡ check_line c (p, file) bytes
  side_line_is c p lines file bytes text t whole is text_is h count = by_file file (subst (λ (x : Tally). Tallied c (p, file) (lines_of bytes) x) is h)
    where
      by_file : (f : DataFile) → Tallied c (p, f) (lines_of bytes) (Side t) → text ≡ check_line c (p, f) bytes
      by_file (SourceFile name lag) h = absurd h
      by_file (SideFile name) h =
          text_is ∙ ap (λ (n : ℕ). line_text (codes "side" ∷ decimal p ∷ decimal n ∷ decimal t.rows ∷ [])) count
          ∙ ap (λ (n : ℕ). line_text (codes "side" ∷ decimal p ∷ decimal (length (lines_of bytes)) ∷ decimal n ∷ [])) (h.rows ∙ ap length (sym (no_bad_row laws.sides c.most bytes h.good).1))

-- ---- the rows of keys

-- the number found under a key
abbrev number_at : List ℕ → List (List ℕ × ℕ) → ℕ
number_at key entries = unwrap_or (lookup (is_at (slice_cmp nat_cmp key)) entries) 0

counted_if : (b : Bool) (n : ℕ) (at : Option ℕ) → (b ≡ true → unwrap_or at 0 ≡ n) → unwrap_or (cond b (Some (n + 1)) at) 0 ≡ unwrap_or at 0 + (if b then 1 else 0)
counted_if true n at same = ap (λ (k : ℕ). k + 1) (sym (same refl))
counted_if false n at same = omega arith

-- one more was counted for k
pub counted_more : (k key : List ℕ) (n : ℕ) (old new : List (List ℕ × ℕ))
    → lookup (is_at (slice_cmp nat_cmp key)) new ≡ cond (is_at (slice_cmp nat_cmp k) key) (Some (n + 1)) (lookup (is_at (slice_cmp nat_cmp key)) old)
    → n ≡ number_at k old → number_at key new ≡ number_at key old + (if bytes_eq k key then 1 else 0)
counted_more k key n old new at is =
    ap (λ o. unwrap_or o 0) (at ∙ ap (λ b. cond b (Some (n + 1)) (lookup (is_at (slice_cmp nat_cmp key)) old)) (is_eq-slice_cmp k key))
    ∙ counted_if (bytes_eq k key) n (lookup (is_at (slice_cmp nat_cmp key)) old) (λ t. ap (λ q. number_at q old) (sym ((bytes_eq-Decides k key).0 t)) ∙ sym is)
