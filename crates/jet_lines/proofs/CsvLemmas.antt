-- What csv reads of a line of the form.
use Rattle.std.proofs.Common.{◌≡◌, ℕ, ◌==◌, ◌&&◌, List, [], ◌∷◌, ◌++◌, Bool, true, false, Option, Some, None, option_map, refl, ap, subst, sym, ◌∙◌, append_assoc, inl, inr}
use Rattle.std.proofs.lemmas.Bool.{cases_Bool, eqb-true}
use Rattle.std.specs.List.{list_all}
use Rattle.csv.specs.Machine.{next_record, Read}
use Rattle.std.specs.Prelude.{is_some, slice_get, zero, suc}
use Rattle.csv.specs.Reading.{ReadsNext, default_config, strip_bom}
use Rattle.csv.specs.Records.{field_at}
use Rattle.csv.proofs.RoundTrip.{record-same}
use Rattle.csv.specs.declared.parser.State.{State}
use Rattle.csv.specs.declared.parser.State.TheVariants as st
use Rattle.jet_lines.specs.Grammar.{is_line_byte}
use Rattle.jet_lines.specs.Scan.{fields_from, fields_of}
use Rattle.jet_lines.specs.declared.form.Stand.{Stand}
use Rattle.jet_lines.specs.declared.form.Stand.TheVariants as stand

-- where csv's machine stands then
abbrev state_of : Stand → State
state_of stand.Start = st.StartField
state_of stand.Plain = st.InField
state_of stand.Quoted = st.InQuoted
state_of stand.Closed = st.AfterQuote

and_first : (a b : Bool) → (a && b) ≡ true → a ≡ true
and_first true b e = refl
and_first false b e = cc e

and_second : (a b : Bool) → (a && b) ≡ true → b ≡ true
and_second true b e = e
and_second false b e = cc e

not_equal : (b n : ℕ) → (b ≡ n → ⊥) → (b == n) ≡ false
not_equal b n ne = elim (cases_Bool (b == n)) [ inl same ↦ absurd (ne (eqb-true b n same)) | inr other ↦ other ]

no_return : (b : ℕ) → is_line_byte b ≡ true → (b == 13) ≡ false
no_return b ok = not_equal b 13 (λ e. cc (subst (λ (n : ℕ). is_line_byte n ≡ true) e ok))

no_feed : (b : ℕ) → is_line_byte b ≡ true → (b == 10) ≡ false
no_feed b ok = not_equal b 10 (λ e. cc (subst (λ (n : ℕ). is_line_byte n ≡ true) e ok))

no_mark : (b : ℕ) → is_line_byte b ≡ true → (b == 239) ≡ false
no_mark b ok = not_equal b 239 (λ e. cc (subst (λ (n : ℕ). is_line_byte n ≡ true) e ok))

comma_no_mark : (b : ℕ) → (b == 44) ≡ true → (b == 34) ≡ false
comma_no_mark b comma = not_equal b 34 (λ e. cc (sym comma ∙ ap (λ (n : ℕ). n == 44) e))

-- the record that was read up to the end of the text
abbrev ends : List (List ℕ) → Option Read
ends fields = Some (fields, st.StartRecord, [])

some_is : {X : Type 0} (a b : X) → Some a ≡ Some b → a ≡ b
some_is a b e = cc e

after_comma : (fields : List (List ℕ)) (field rest : List ℕ) (o : Option (List (List ℕ))) (found : List (List ℕ))
    → ((later : List (List ℕ)) → o ≡ Some later → next_record default_config st.StartField (fields ++ field ∷ []) [] rest ≡ ends ((fields ++ field ∷ []) ++ later))
    → option_map (λ (x : List (List ℕ)). field ∷ x) o ≡ Some found
    → next_record default_config st.StartField (fields ++ field ∷ []) [] rest ≡ ends (fields ++ found)
after_comma fields field rest None found go e = cc e
after_comma fields field rest (Some later) found go e =
    go later refl ∙ ap ends (append_assoc fields (field ∷ []) later ∙ ap (λ (x : List (List ℕ)). fields ++ x) (some_is (field ∷ later) found e))

-- csv goes on from where a reader of the form stands, to the same fields
pub csv_reads : (s : Stand) (fields : List (List ℕ)) (field bytes : List ℕ) (found : List (List ℕ)) → list_all is_line_byte bytes ≡ true
    → fields_from s field bytes ≡ Some found → next_record default_config (state_of s) fields field bytes ≡ ends (fields ++ found)
unfolding next_record fields_from
csv_reads stand.Start fields field [] found ok e = ap (λ (x : List (List ℕ)). ends (fields ++ x)) (some_is _ _ e)
csv_reads stand.Plain fields field [] found ok e = ap (λ (x : List (List ℕ)). ends (fields ++ x)) (some_is _ _ e)
csv_reads stand.Quoted fields field [] found ok e = cc e
csv_reads stand.Closed fields field [] found ok e = ap (λ (x : List (List ℕ)). ends (fields ++ x)) (some_is _ _ e)
csv_reads stand.Start fields field (b ∷ rest) found ok e =
    let one = and_first (is_line_byte b) (list_all is_line_byte rest) ok in
    let more = and_second (is_line_byte b) (list_all is_line_byte rest) ok in
    elim (cases_Bool (b == 44)) [
      | inl comma ↦
          rw (comma_no_mark b comma, comma)
          (after_comma fields field rest (fields_from stand.Start [] rest) found
          (λ later was. csv_reads stand.Start (fields ++ field ∷ []) [] rest later more was) (rw comma at e))
      | inr plain ↦ elim (cases_Bool (b == 34)) [
        | inl mark ↦ rw mark (csv_reads stand.Quoted fields field rest found more (rw (plain, mark) at e))
        | inr other ↦
            rw (other, plain, no_return b one, no_feed b one)
            (csv_reads stand.Plain fields (field ++ b ∷ []) rest found more (rw (plain, other) at e))
      ]
    ]
csv_reads stand.Plain fields field (b ∷ rest) found ok e =
    let one = and_first (is_line_byte b) (list_all is_line_byte rest) ok in
    let more = and_second (is_line_byte b) (list_all is_line_byte rest) ok in
    elim (cases_Bool (b == 44)) [
      | inl comma ↦
          rw comma
          (after_comma fields field rest (fields_from stand.Start [] rest) found
          (λ later was. csv_reads stand.Start (fields ++ field ∷ []) [] rest later more was) (rw comma at e))
      | inr plain ↦ elim (cases_Bool (b == 34)) [
        | inl mark ↦ cc (rw (plain, mark) at e)
        | inr other ↦
            rw (plain, no_return b one, no_feed b one)
            (csv_reads stand.Plain fields (field ++ b ∷ []) rest found more (rw (plain, other) at e))
      ]
    ]
csv_reads stand.Quoted fields field (b ∷ rest) found ok e =
    let more = and_second (is_line_byte b) (list_all is_line_byte rest) ok in
    elim (cases_Bool (b == 34)) [
      | inl mark ↦ rw mark (csv_reads stand.Closed fields field rest found more (rw mark at e))
      | inr other ↦ rw other (csv_reads stand.Quoted fields (field ++ b ∷ []) rest found more (rw other at e))
    ]
csv_reads stand.Closed fields field (b ∷ rest) found ok e =
    let more = and_second (is_line_byte b) (list_all is_line_byte rest) ok in
    elim (cases_Bool (b == 44)) [
      | inl comma ↦
          rw (comma_no_mark b comma, comma)
          (after_comma fields field rest (fields_from stand.Start [] rest) found
          (λ later was. csv_reads stand.Start (fields ++ field ∷ []) [] rest later more was) (rw comma at e))
      | inr plain ↦ elim (cases_Bool (b == 34)) [
        | inl mark ↦ rw mark (csv_reads stand.Quoted fields (field ++ b ∷ []) rest found more (rw (plain, mark) at e))
        | inr other ↦ cc (rw (plain, other) at e)
      ]
    ]

no_bom : (line : List ℕ) → list_all is_line_byte line ≡ true → strip_bom line ≡ line
unfolding strip_bom
no_bom [] ok = refl
no_bom (a ∷ []) ok = refl
no_bom (a ∷ b ∷ []) ok = refl
no_bom (a ∷ b ∷ d ∷ rest) ok = rw (no_mark a (and_first (is_line_byte a) _ ok)) refl

-- what csv reads of a line of the form is the list of its fields, and nothing is left
pub csv_reads_line : (line : List ℕ) (found : List (List ℕ)) → (line ≡ [] → ⊥) → list_all is_line_byte line ≡ true → fields_of line ≡ Some found
    → next_record default_config st.StartRecord [] [] (strip_bom line) ≡ ends found
csv_reads_line [] found some ok e = absurd (some refl)
csv_reads_line (b ∷ rest) found some ok e =
    let one = and_first (is_line_byte b) (list_all is_line_byte rest) ok in
    rw (no_bom (b ∷ rest) ok)
    (record-same [] [] b rest (no_return b one) (no_feed b one) ∙ csv_reads stand.Start [] [] (b ∷ rest) found ok e)

-- the fields that a read of the line took
pub took_fields : (after : Option (List ℕ)) (found : Bool) (fields : List (List ℕ)) (s : State) (line : List ℕ) (o : Option (List (List ℕ)))
    → (line ≡ [] → ⊥) → list_all is_line_byte line ≡ true → fields_of line ≡ o → is_some o ≡ true
    → ReadsNext default_config st.StartRecord (Some (strip_bom line)) after found fields s → fields_of line ≡ Some fields
took_fields None found fields s line o some ok e form r = absurd r
took_fields (Some ys) found fields s line None some ok e form r = cc form
took_fields (Some ys) found fields s line (Some all) some ok e form r =
    let next = rw (csv_reads_line line all some ok e) at r in
    e ∙ ap (λ (x : List (List ℕ)). Some x) (sym next.1)

pub field_at_is : (fields : List (List ℕ)) (i : ℕ) → field_at fields i ≡ slice_get fields i
unfolding field_at
field_at_is [] i = refl
field_at_is (f ∷ fs) zero = refl
field_at_is (f ∷ fs) (suc i) = field_at_is fs i
