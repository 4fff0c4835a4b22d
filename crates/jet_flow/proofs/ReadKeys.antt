-- No key or label that is read has more than 24 bytes.
use Rattle.std.proofs.Common.{◌≡◌, ℕ, ◌≤◌, List, [], ◌∷◌, Bool, true, false, length, refl, arith, nat_lt, position, ◌==◌}
use Rattle.std.specs.Prelude.{Option, Some, None, Result, Ok, Err, ⊤, nat_le, take, filter_map, not, is_ok, slice_get, ◌&&◌, if◌then◌else◌}
use Rattle.std.specs.List.{AllByRecursion, prefix_len, enumerate_from}
use Rattle.std.proofs.lemmas.Bool.Decides.{nat_tests}
use Rattle.std.proofs.lemmas.List.Elements.{All-from_recursion}
use Rattle.jet_items.specs.KeyBytes.{is_key_byte}
use Rattle.jet_items.specs.KeyFaults.{where_bad}
use Rattle.jet_items.specs.declared.key.KeyFault.TheVariants.{Empty, Long}
use Rattle.jet_items.specs.Values.{EventValue, SideValue}
use Rattle.jet_lines.specs.Files.{numbered_at, readings, item_of, items_of, events_of}
use Rattle.jet_lines.specs.Lines.{lines_of}
use Rattle.jet_lines.specs.Readings.{◌>>=◌, fields_at, key_of, key_or_fault, values_at, value_at, event_at, side_at, line_at, is_idle, entry_of, entry_at, event_in, event_line, side_line}
use Rattle.jet_lines.specs.declared.fault.LineFault.{LineFault}
use Rattle.jet_plan.specs.declared.dag.Dag.{Dag}
use Rattle.jet_flow.specs.Contents.{contents_of, source_files, side_files}
use Rattle.jet_flow.specs.DataFiles.{file_name}
use Rattle.jet_flow.specs.Keys.{AreShort}
use Rattle.jet_flow.specs.SideFiles.{rows_of, rows_with, reading_after, most_rows}
use Rattle.jet_flow.proofs.Each.{IfThere, each_map, each_flat_map, each_filter_map, each_take, each_numbered, each_of}

-- what is said of a value that was read
abbrev IfRead : {A : Type 0} → (A → Type 0) → Result A LineFault → Type 0
IfRead P (Ok x) = P x
IfRead P (Err fault) = Unit {0}

go_on : {A B : Type 0} (P : A → Type 0) (Q : B → Type 0) (r : Result A LineFault) (f : A → Result B LineFault) → IfRead P r → ((x : A) → P x → IfRead Q (f x)) → IfRead Q (r >>= f)
go_on P Q (Ok x) f h keeps = keeps x h
go_on P Q (Err fault) f h keeps = tt

of_any : {A : Type 0} (r : Result A LineFault) → IfRead (λ x. ⊤) r
of_any (Ok x) = tt
of_any (Err fault) = tt

if_either : {A : Type 0} (P : A → Type 0) (b : Bool) (x y : Result A LineFault) → IfRead P x → IfRead P y → IfRead P (if b then x else y)
if_either P true x y h k = h
if_either P false x y h k = k

-- ---- keys

abbrev Short : List ℕ → Type 0
Short key = length key ≤ 24

short_if : (bytes : List ℕ) (empty long : Bool) (bad : Option ℕ) → nat_lt 24 (length bytes) ≡ long
    → IfRead Short (key_or_fault (if empty then Err Empty else if long then Err Long else where_bad bytes bad))
short_if bytes true long bad is = tt
short_if bytes false true bad is = tt
short_if bytes false false (Some at) is = tt
short_if bytes false false None is = grind (arith, nat_tests)

key_is_short : (text : Option (List ℕ)) → IfRead Short (key_of text)
key_is_short None = tt
key_is_short (Some text) = short_if text (length text == 0) (nat_lt 24 (length text)) (position (λ b. not (is_key_byte b)) text) refl

-- ---- lines

event_is_short : (part number : ℕ) (fields : List (List ℕ)) → IfRead (λ e. length e.key ≤ 24) (event_at part number fields)
event_is_short part number fields =
    if_either (λ e. length e.key ≤ 24) (nat_le 3 (length fields) && nat_le (length fields) 6) _ _
    (go_on (λ ts. ⊤) (λ e. length e.key ≤ 24) (value_at 0 (slice_get fields 0)) _ (of_any (value_at 0 (slice_get fields 0))) (λ ts t.
    go_on Short (λ e. length e.key ≤ 24) (key_of (slice_get fields 1)) _ (key_is_short (slice_get fields 1)) (λ key k.
    go_on (λ v. ⊤) (λ e. length e.key ≤ 24) (values_at fields) _ (of_any (values_at fields)) (λ v t. k)))) tt

side_is_short : (number : ℕ) (fields : List (List ℕ)) → IfRead (λ s. length s.label ≤ 24) (side_at number fields)
side_is_short number fields =
    if_either (λ s. length s.label ≤ 24) (nat_le 2 (length fields) && nat_le (length fields) 6) _ _
    (go_on (λ key. ⊤) (λ s. length s.label ≤ 24) (key_of (slice_get fields 0)) _ (of_any (key_of (slice_get fields 0))) (λ key t.
    go_on Short (λ s. length s.label ≤ 24) (key_of (slice_get fields 1)) _ (key_is_short (slice_get fields 1)) (λ label k.
    go_on (λ v. ⊤) (λ s. length s.label ≤ 24) (values_at fields) _ (of_any (values_at fields)) (λ v t. k)))) tt

line_holds : {A : Type 0} (P : A → Type 0) (item : List (List ℕ) → Result A LineFault) → ((fields : List (List ℕ)) → IfRead P (item fields)) → (line : List ℕ) → IfRead (IfThere P) (line_at item line)
line_holds P item each [] = tt
line_holds P item each (b ∷ bytes) =
    go_on (λ fields. ⊤) (IfThere P) (fields_at (b ∷ bytes)) _ (of_any (fields_at (b ∷ bytes))) (λ fields t.
    go_on P (IfThere P) (item fields) _ (each fields) (λ x p. p))

entry_holds : (P : EventValue → Type 0) (found : Option EventValue) → IfThere P found → IfThere P (event_in (entry_of found))
entry_holds P None h = tt
entry_holds P (Some e) h = h

event_holds : (P : EventValue → Type 0) (part n : ℕ) → ((fields : List (List ℕ)) → IfRead P (event_at part n fields)) → (line : List ℕ) → IfRead (IfThere P) (event_line part n line)
event_holds P part n each line =
    go_on (λ x. IfThere P (event_in x)) (IfThere P) (entry_at part n line) _
    (if_either (λ x. IfThere P (event_in x)) (is_idle line) _ _ tt
    (go_on (IfThere P) (λ x. IfThere P (event_in x)) (line_at (event_at part n) line) _ (line_holds P (event_at part n) each line) (entry_holds P))) (λ x h. h)

numbered_holds : {A : Type 0} (P : A → Type 0) (read : ℕ → List ℕ → Result (Option A) LineFault) → ((n : ℕ) (line : List ℕ) → IfRead (IfThere P) (read n line)) → (most : ℕ) (p : ℕ × List ℕ)
    → IfRead (IfThere P) (numbered_at read most p)
numbered_holds P read each most p = if_either (IfThere P) (nat_le p.0 most) _ _ (each p.0 p.1) tt

-- ---- files

readings_hold : {A : Type 0} (P : A → Type 0) (read : ℕ → List ℕ → Result (Option A) LineFault) → ((n : ℕ) (line : List ℕ) → IfRead (IfThere P) (read n line)) → (most : ℕ) (bytes : List ℕ)
    → AllByRecursion (IfRead (IfThere P)) (readings read most bytes)
readings_hold P read each most bytes =
    each_map (λ p. ⊤) (IfRead (IfThere P)) (numbered_at read most) (λ p t. numbered_holds P read each most p) (enumerate_from 1 (lines_of bytes)) (each_of (λ p. ⊤) (λ p. tt) (enumerate_from 1 (lines_of bytes)))

item_holds : {A : Type 0} (P : A → Type 0) (r : Result (Option A) LineFault) → IfRead (IfThere P) r → IfThere P (item_of r)
item_holds P (Ok item) h = h
item_holds P (Err fault) h = tt

items_hold : {A : Type 0} (P : A → Type 0) (all : List (Result (Option A) LineFault)) → AllByRecursion (IfRead (IfThere P)) all → AllByRecursion P (items_of all)
items_hold P all h = each_filter_map (IfRead (IfThere P)) P item_of (item_holds P) _ (each_take (IfRead (IfThere P)) (prefix_len is_ok all) all h)

row_holds : (P : SideValue → Type 0) (rows : List SideValue) (r : Result (Option SideValue) LineFault) → IfRead (IfThere P) r → IfRead (IfThere P) (reading_after rows r)
row_holds P rows (Ok None) h = tt
row_holds P rows (Err fault) h = tt
row_holds P rows (Ok (Some s)) h = if_either (IfThere P) (nat_lt (rows_with s.key rows) most_rows) _ _ h tt

rows_are_short : (most : ℕ) (bytes : List ℕ) → AllByRecursion (λ s. length s.label ≤ 24) (rows_of most bytes)
rows_are_short most bytes =
    items_hold (λ s. length s.label ≤ 24) _
    (each_map (λ p. IfRead (IfThere (λ s. length s.label ≤ 24)) p.1) (IfRead (IfThere (λ s. length s.label ≤ 24))) _ (λ p h. row_holds (λ s. length s.label ≤ 24) (filter_map item_of (take p.0 (readings side_line most bytes))) p.1 h) (enumerate_from 0 (readings side_line most bytes))
    (each_numbered (IfRead (IfThere (λ s. length s.label ≤ 24))) 0 (readings side_line most bytes) (readings_hold (λ s. length s.label ≤ 24) side_line (λ n line. line_holds (λ s. length s.label ≤ 24) (side_at n) (side_is_short n) line) most bytes)))

pub contents_are_short : (most : ℕ) (bytes : List ℕ → List ℕ) (dag : Dag) → AreShort (contents_of most bytes dag)
contents_are_short most bytes dag = record {
  keys = λ name. All-from_recursion (λ e. length e.key ≤ 24) _
      (each_flat_map (λ p. ⊤) (λ e. length e.key ≤ 24) (λ p. events_of most p.0 (bytes (file_name p.1)))
      (λ p t. items_hold (λ e. length e.key ≤ 24) _ (readings_hold (λ e. length e.key ≤ 24) (event_line p.0) (λ n line. event_holds (λ e. length e.key ≤ 24) p.0 n (event_is_short p.0 n) line) most (bytes (file_name p.1))))
      (source_files dag name) (each_of (λ p. ⊤) (λ p. tt) (source_files dag name)));
  labels = λ name. All-from_recursion (λ s. length s.label ≤ 24) _
      (each_flat_map (λ file. ⊤) (λ s. length s.label ≤ 24) (λ file. rows_of most (bytes (file_name file)))
      (λ file t. rows_are_short most (bytes (file_name file)))
      (side_files dag name) (each_of (λ file. ⊤) (λ file. tt) (side_files dag name)));
}
