-- The items of lines that are read one after another.
use Rattle.std.proofs.Common.{◌≡◌, ℕ, ◌+◌, ◌<◌, ◌≤◌, List, [], ◌∷◌, ◌++◌, map, length, Option, Some, None, Result, Ok, Err, refl, sym, ap, ◌∙◌, subst, arith}
use Rattle.std.specs.Prelude.{filter_map, option_map, option_to_list}
use Rattle.std.proofs.lemmas.List.{map-append}
use Rattle.std.proofs.lemmas.List.Elements.{filter_map-append}
use Rattle.jet_items.specs.Values.{EventValue, SideValue}
use Rattle.jet_policy.specs.MarkerValue.{MarkerValue}
use Rattle.jet_items.specs.declared.item.Item.{Item}
use Rattle.jet_items.specs.declared.item.Item.TheVariants as item
use Rattle.jet_lines.specs.Files.{item_of, readings_in}
use Rattle.jet_lines.specs.Readings.{◌>>=◌, entry_at, event_in, event_line, side_line}
use Rattle.jet_lines.specs.declared.entry.Entry.{Entry}
use Rattle.jet_lines.specs.declared.fault.LineFault.{LineFault}
use Rattle.jet_flow.specs.DataFiles.{DataFile, SourceFile, SideFile}
use Rattle.jet_worker.specs.CheckText.{Checks}
use Rattle.jet_worker.specs.inner.LineLaws.{SideLaws}
use Rattle.jet_worker.specs.SideRows.{side_rows}
use Rattle.jet_worker.specs.inner.Tallying.{SideTallied}
use Rattle.jet_feed.specs.Bodies.{CountsFound, KeepsBody, ReadsItem}
use Rattle.jet_feed.specs.Fed.{AreGood, IsSoFar, line_items}
use Rattle.jet_feed.specs.FileItems.{item_in, source_line}
use Rattle.jet_feed.specs.declared.body.Body.{Body}
use Rattle.jet_feed.specs.declared.body.Body.TheVariants.{Source, Side}
use Rattle.jet_feed.specs.declared.rows.Rows.{Rows}
use Rattle.jet_lines.proofs.EntryLemmas.{long_line}
use Rattle.jet_lines.proofs.FileLemmas.{all_items, faults_behind, good_more, length_readings, no_faults, numbered_fits, numbered_over, readings_append}
use Rattle.jet_lines.specs.Readings.{side_at}
use Rattle.jet_worker.proofs.SideLemmas.{took_by, took_no_row}

-- the laws of the lines of side files
pub side_laws : SideLaws
side_laws = record {
  long = λ n line h. long_line (side_at n) line h;
  fits = λ most n line h. numbered_fits side_line most n line h;
  over = λ most n line h. numbered_over side_line most n line h;
  apart = λ most given line others. readings_append side_line most given line others;
  count = λ most lines. length_readings side_line most lines;
  good = λ good ok. all_items good ok;
  no_fault = λ n good ok. no_faults n good ok;
  first_fault = λ n good later fault ok. faults_behind n good later fault ok;
}

-- ---- the events of a source's lines

event_found : (r : Result Entry LineFault) (found : Option Item) → (r >>= (λ (x : Entry). Ok (item_in x))) ≡ Ok found → (o : Option EventValue) × ((r >>= (λ (x : Entry). Ok (event_in x))) ≡ Ok o)
event_found (Ok x) found h = (event_in x, refl)
event_found (Err f) found h = absurd (cc h)

-- a line with an item has an event or none
pub event_read : (p n : ℕ) (line : List ℕ) (found : Option Item) → source_line p n line ≡ Ok found → (o : Option EventValue) × (event_line p n line ≡ Ok o)
event_read p n line found h = event_found (entry_at p n line) found h

fault_found : (r : Result Entry LineFault) (why : LineFault) → (r >>= (λ (x : Entry). Ok (item_in x))) ≡ Err why → (r >>= (λ (x : Entry). Ok (event_in x))) ≡ Err why
fault_found (Ok x) why h = absurd (cc h)
fault_found (Err f) why h = cc h

-- a bad line is bad for its event too
pub fault_read : (p n : ℕ) (line : List ℕ) (why : LineFault) → source_line p n line ≡ Err why → event_line p n line ≡ Err why
fault_read p n line why h = fault_found (entry_at p n line) why h

-- ---- the rows of a side file's lines

one_item : (o : Option SideValue) → let r : Result (Option SideValue) LineFault = Ok o in filter_map item_of (r ∷ []) ≡ option_to_list o
one_item None = refl
one_item (Some s) = refl

mapped : (o : Option SideValue) → map item.Side (option_to_list o) ≡ option_to_list (option_map item.Side o)
mapped None = refl
mapped (Some s) = refl

rows_more : (most : ℕ) (given : List (List ℕ)) (line : List ℕ) (found : Option SideValue) → length given < most → side_line (length given + 1) line ≡ Ok found
    → side_rows most (given ++ line ∷ []) ≡ side_rows most given ++ option_to_list found
rows_more most given line found room read =
    ap (filter_map item_of)
    (readings_append side_line most given line [] ∙ ap (λ (r : Result (Option SideValue) LineFault). readings_in side_line most given ++ r ∷ []) (numbered_fits side_line most (length given) line room ∙ read))
    ∙ filter_map-append item_of (readings_in side_line most given) (Ok found ∷ [])
    ∙ ap (λ (xs : List SideValue). side_rows most given ++ xs) (one_item found)

tallied : (most : ℕ) (given : List (List ℕ)) (line : List ℕ) (found : Option SideValue) (old new : Rows) (n : ℕ) → side_line n line ≡ Ok found → CountsFound found old new → n ≡ length given + 1 → n ≤ most
    → SideTallied most given (record { counts = old.counts; rows = length (side_rows most given) }) → SideTallied most (given ++ line ∷ []) (record { counts = new.counts; rows = length (side_rows most given) + length (option_to_list found) })
tallied most given line None old new n read same number small h =
    let k = took_no_row side_laws n line (record { counts = old.counts; rows = length (side_rows most given) }) read most given h number small in
    record {
      good = k.good;
      counts = λ key. same key ∙ k.counts key;
      rows = add_none (length (side_rows most given)) ∙ k.rows;
    }
  where
    add_none : (n : ℕ) → n + 0 ≡ n
    add_none n = omega arith
tallied most given line (Some row) old new n read c number small h =
    took_by side_laws n line row (record { counts = old.counts; rows = length (side_rows most given) }) (record { counts = new.counts; rows = length (side_rows most given) + 1 }) (Ok tt) read (record { room = c.room; counts = c.counts; rows = refl }) most given h number small

-- ---- one line more

-- what one line more of a file adds
pub record OneMore (c : Checks) (p : ℕ × DataFile) (given : List (List ℕ)) (line : List ℕ) (found : Option Item) (sent : List Item) (now : Body) : Type 0 where
  pub good : AreGood c p (given ++ line ∷ [])
  pub items : line_items c p (given ++ line ∷ []) ≡ line_items c p given ++ option_to_list found
  pub body : IsSoFar c p (given ++ line ∷ []) sent now

pub one_more : (c : Checks) (p : ℕ × DataFile) (given : List (List ℕ)) (line : List ℕ) (found : Option Item) (sent : List Item) (old new : Body) (n : ℕ)
    → AreGood c p given → IsSoFar c p given sent old → ReadsItem p.0 n line found old new → n ≡ length given + 1 → n ≤ c.most → OneMore c p given line found sent new
one_more c (p, SourceFile name lag) given line found sent (Source m) (Source m') n good h reads number small =
    let room : length given < c.most = omega (arith, number, small) in
    let at : source_line p (length given + 1) line ≡ Ok found = subst (λ (k : ℕ). source_line p k line ≡ Ok found) number reads.1 in
    let event = event_read p (length given + 1) line found at in
    let events = good_more (event_line p) c.most given line event.0 good.0 (numbered_fits (event_line p) c.most (length given) line room ∙ event.1) in
    let items = good_more (source_line p) c.most given line found good.1 (numbered_fits (source_line p) c.most (length given) line room ∙ at) in
    record {
      good = (events.0, items.0);
      items = items.1;
      body = subst (λ (v : MarkerValue). IsSoFar c (p, SourceFile name lag) (given ++ line ∷ []) sent (Source v)) (sym reads.0) h;
    }
one_more c (p, SourceFile name lag) given line found sent (Source m) (Side rows) n good h reads number small = absurd reads
one_more c (p, SourceFile name lag) given line found sent (Side rows) new n good h reads number small = absurd h
one_more c (p, SideFile name) given line found sent (Source m) new n good h reads number small = absurd h
one_more c (p, SideFile name) given line found sent (Side old) (Source m) n good h reads number small = absurd reads
one_more c (p, SideFile name) given line found sent (Side old) (Side new) n good h reads number small =
    let room : length given < c.most = omega (arith, number, small) in
    let at : side_line (length given + 1) line ≡ Ok reads.row = subst (λ (k : ℕ). side_line k line ≡ Ok reads.row) number reads.reads in
    let k = tallied c.most given line reads.row old new n reads.reads reads.counts number small (record { good = good; counts = h; rows = refl }) in
    record {
      good = k.good;
      items = ap (map item.Side) (rows_more c.most given line reads.row room at)
          ∙ map-append item.Side (side_rows c.most given) (option_to_list reads.row)
          ∙ ap (λ (xs : List Item). map item.Side (side_rows c.most given) ++ xs) (mapped reads.row ∙ ap option_to_list (sym reads.is));
      body = k.counts;
    }

-- a line that was refused leaves the body as it was
pub same_body : (c : Checks) (p : ℕ × DataFile) (given : List (List ℕ)) (sent : List Item) (old new : Body) → IsSoFar c p given sent old → KeepsBody old new → IsSoFar c p given sent new
same_body c (p, SourceFile name lag) given sent (Source m) (Source m') h same = subst (λ (v : MarkerValue). IsSoFar c (p, SourceFile name lag) given sent (Source v)) (sym same) h
same_body c (p, SourceFile name lag) given sent (Source m) (Side rows) h same = absurd same
same_body c (p, SourceFile name lag) given sent (Side rows) new h same = absurd h
same_body c (p, SideFile name) given sent (Source m) new h same = absurd h
same_body c (p, SideFile name) given sent (Side old) (Source m) h same = absurd same
same_body c (p, SideFile name) given sent (Side old) (Side new) h same = λ key. same key ∙ h key
