-- A window that is found by its number.
use Rattle.std.proofs.Common.{◌≡◌, ℕ, Bool, true, false, cond, ℤ, List, [], ◌∷◌, ◌++◌, map, Option, Some, None, Result, Ok, Err, Bor, refl, sym, ◌∙◌, ap}
use Rattle.std.specs.Prelude.{◌==◌, option_map, OnOk}
use Rattle.std.specs.List.{find}
use Rattle.std.specs.Option.{option_map_or}
use Rattle.jet_file.specs.Text.{row_line, window_line, late_line, late_window_line}
use Rattle.jet_items.specs.Rows.{Window}
use Rattle.jet_items.specs.Values.{RowValue, LateValue}
use Rattle.jet_sink.specs.Naming.{window_of}
use Rattle.jet_sink.specs.declared.windows.NamedWindow.{NamedWindow}

found_step : {X Y : Type 0} (f : X → Y) (b : Bool) (x : X) (rest : Option X) (mapped : Option Y) → mapped ≡ option_map f rest → cond b (Some (f x)) mapped ≡ option_map f (cond b (Some x) rest)
found_step f true x rest mapped h = refl
found_step f false x rest mapped h = h

pub find_mapped : {X Y : Type 0} (f : X → Y) (p : Y → Bool) (xs : List X) → find p (map f xs) ≡ option_map f (find (λ x. p (f x)) xs)
find_mapped f p [] = refl
find_mapped f p (x ∷ xs) = found_step f (p (f x)) x (find (λ y. p (f y)) xs) (find p (map f xs)) (find_mapped f p xs)

of_same : (r : Option (Bor NamedWindow)) → option_map (λ w. window_of w.now) r ≡ option_map window_of (option_map (λ w. w.now) r)
of_same None = refl
of_same (Some w) = refl

-- the window that was found among these
pub found_named : (ws : List Window) (items slice : List NamedWindow) (n : ℕ) (r : Option (Bor NamedWindow)) → map window_of items ≡ ws → slice ≡ items
    → option_map (λ w. w.now) r ≡ find (λ w. w.vertex == n) slice → option_map (λ w. window_of w.now) r ≡ find (λ w. w.vertex == n) ws
found_named ws items slice n r view same h =
    of_same r
    ∙ (ap (option_map window_of) (h ∙ ap (find (λ (w : NamedWindow). w.vertex == n)) same)
    ∙ (sym (find_mapped window_of (λ (w : Window). w.vertex == n) items) ∙ ap (find (λ (w : Window). w.vertex == n)) view))

on_ok : {T E : Type 0} (r : Result T E) (P Q : Type 0) → (P → Q) → OnOk r P → OnOk r Q
on_ok (Ok x) P Q f h = f h
on_ok (Err e) P Q f h = h

-- the line of a row, or of a late event, whose window was found
pub row_named : {T E : Type 0} (result : Result T E) (ws : List Window) (row : RowValue) (n : ℕ) (w : NamedWindow) (size : ℤ) (before after : List ℕ) → Some (window_of w) ≡ find (λ w. w.vertex == n) ws → n ≡ row.vertex
    → size ≡ w.policy.size → OnOk result (after ≡ before ++ row_line w.name size row) → OnOk result (after ≡ before ++ window_line ws row)
row_named result ws row n w size before after found is sized h =
    let there : Some (window_of w) ≡ find (λ (v : Window). v.vertex == row.vertex) ws = found ∙ ap (λ (k : ℕ). find (λ (v : Window). v.vertex == k) ws) is in
    let line : row_line w.name size row ≡ window_line ws row =
    ap (λ (s : ℤ). row_line w.name s row) sized ∙ ap (λ (o : Option Window). option_map_or (λ v. row_line v.name v.size row) o []) there in
    on_ok result (after ≡ before ++ row_line w.name size row) (after ≡ before ++ window_line ws row) (λ e. e ∙ ap (λ (text : List ℕ). before ++ text) line) h

pub late_named : {T E : Type 0} (result : Result T E) (ws : List Window) (late : LateValue) (n : ℕ) (w : NamedWindow) (before after : List ℕ) → Some (window_of w) ≡ find (λ w. w.vertex == n) ws → n ≡ late.vertex
    → OnOk result (after ≡ before ++ late_line w.name late.event) → OnOk result (after ≡ before ++ late_window_line ws late)
late_named result ws late n w before after found is h =
    let there : Some (window_of w) ≡ find (λ (v : Window). v.vertex == late.vertex) ws = found ∙ ap (λ (k : ℕ). find (λ (v : Window). v.vertex == k) ws) is in
    let line : late_line w.name late.event ≡ late_window_line ws late = ap (λ (o : Option Window). option_map_or (λ v. late_line v.name late.event) o []) there in
    on_ok result (after ≡ before ++ late_line w.name late.event) (after ≡ before ++ late_window_line ws late) (λ e. e ∙ ap (λ (text : List ℕ). before ++ text) line) h
