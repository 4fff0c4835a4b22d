-- That what Done says fixes what was written.
use Rattle.std.proofs.Common.{◌≡◌, ℕ, Bool, true, false, cond, not, List, [], ◌∷◌, ◌++◌, map, filter, Some, refl, ap, sym, ◌∙◌, subst, arith, append-nil, All}
use Rattle.std.specs.Prelude.{◌==◌, slice_index_or}
use Rattle.std.specs.List.{AllZip}
use Rattle.std.specs.List.Sorted.{IsPermutation}
use Rattle.std.proofs.lemmas.List.Elements.{All-head, All-tail, All-filter, All-map, filter-append}
use Rattle.std.proofs.lemmas.List.Sorted.{IsPermutation-map, IsPermutation-trans, IsPermutation-sym}
use Rattle.jet_items.proofs.Bags.{SameBag-from_permutation, SameBag-filter, SameBag-sym}
use Rattle.jet_items.specs.Bag.{SameBag}
use Rattle.jet_items.specs.Rows.{Inflow, AreRows}
use Rattle.jet_items.specs.Values.{EventValue, LateValue, RowValue}
use Rattle.jet_file.specs.Headline.{Counted, late_at}
use Rattle.jet_file.specs.Text.{rows_text}
use Rattle.jet_laws.specs.Bags.{EventsAsBags}
use Rattle.jet_laws.specs.RowLaws.{RowsAreOne, RowsStayByOrder}
use Rattle.jet_cli.specs.Base.{base_window, base_events, base_inflow, base_behind}
use Rattle.jet_cli.specs.Counting.{kept_among, late_among, as_late}
use Rattle.jet_cli.specs.Laws.{OutputIsOne}
use Rattle.jet_cli.specs.Words.{WindowCommand}
use Rattle.jet_cli.proofs.DoneLemmas.{one_of}
use Rattle.jet_cli.proofs.PaceLemmas.{filter_nothing}

-- ---- events that were sorted out by a test
all_pass : (p : EventValue → Bool) (xs : List EventValue) → All (λ e. p e ≡ true) xs → filter p xs ≡ xs
all_pass p [] h = refl
all_pass p (x ∷ xs) h =
    ap (λ (b : Bool). cond b (x ∷ filter p xs) (filter p xs)) (All-head (λ (e : EventValue). p e ≡ true) x xs h)
    ∙ ap (λ (l : List EventValue). x ∷ l) (all_pass p xs (All-tail (λ (e : EventValue). p e ≡ true) x xs h))

turned : (p : EventValue → Bool) (b : Bool) (xs : List EventValue) → All (λ e. p e ≡ b) xs → All (λ e. not (p e) ≡ not b) xs
turned p b xs h = λ k d low. ap not (h k d low)

sorted_out : (bags : EventsAsBags) (p : EventValue → Bool) (events late kept : List EventValue) → IsPermutation events (late ++ kept) → All (λ e. p e ≡ true) late → All (λ e. p e ≡ false) kept
    → IsPermutation late (filter p events) × IsPermutation kept (filter (λ e. not (p e)) events)
sorted_out bags p events late kept same behind not_behind =
    let bag : SameBag events (late ++ kept) = SameBag-from_permutation same in
    let q : EventValue → Bool = λ e. not (p e) in
    let first : filter p (late ++ kept) ≡ late =
    filter-append p late kept ∙ ap (λ (l : List EventValue). filter p late ++ l) (filter_nothing p kept not_behind) ∙ append-nil (filter p late) ∙ all_pass p late behind in
    let second : filter q (late ++ kept) ≡ kept =
    filter-append q late kept ∙ ap (λ (l : List EventValue). l ++ filter q kept) (filter_nothing q late (turned p true late behind)) ∙ all_pass q kept (turned p false kept not_behind) in (
      (bags late (filter p events)).0
          (SameBag-sym (subst (SameBag (filter p events)) first (SameBag-filter p bag))),
      (bags kept (filter q events)).0
          (SameBag-sym (subst (SameBag (filter q events)) second (SameBag-filter q bag))),
    )

-- ---- what a counting of the one window says
one_kept : (P : Inflow → Inflow → Type 0) (x : Inflow) (kept : List Inflow) → AllZip P (x ∷ []) kept → (k : Inflow) × (kept ≡ k ∷ []) × P x k
one_kept P x [] h = absurd h
one_kept P x (k ∷ []) h = (k, refl, h.0)
one_kept P x (k ∷ j ∷ kept) h = absurd h.1

late_whole : (late : List LateValue) → All (λ l. l.vertex ≡ 2) late → late ≡ as_late (late_at 2 late)
late_whole [] h = refl
late_whole (l ∷ late) h =
    let at : l.vertex ≡ 2 = All-head (λ (l : LateValue). l.vertex ≡ 2) l late h in
    let rest : late ≡ as_late (late_at 2 late) = late_whole late (All-tail (λ (l : LateValue). l.vertex ≡ 2) l late h) in
    ap (λ (v : ℕ). let x : LateValue = record { vertex = v; event = l.event } in x ∷ late) at
    ∙ ap (λ (ls : List LateValue). let x : LateValue = record { vertex = 2; event = l.event } in x ∷ ls) rest
    ∙ ap (λ (v : ℕ). as_late (map (λ (x : LateValue). x.event) (cond (v == 2) (l ∷ filter (λ (x : LateValue). x.vertex == 2) late) (filter (λ (x : LateValue). x.vertex == 2) late)))) (sym at)

counted_one : (bags : EventsAsBags) (stay : RowsStayByOrder) (c : WindowCommand) (content : List ℕ) (late : List LateValue) (table : List RowValue) → (h : Counted (base_inflow c content) (base_behind c content) late table)
    → All (λ k. All (λ e. base_behind c content e ≡ false) k.events) h.kept
    → AreRows (record { window = base_window c; events = kept_among c (base_events content) } ∷ []) table × IsPermutation late (as_late (late_among c (base_events content)))
counted_one bags stay c content late table h exact =
    let events : List EventValue = base_events content in
    let behind : EventValue → Bool = base_behind c content in
    let inflow : Inflow = record { window = base_window c; events = events } in
    let found = one_kept (λ (e k : Inflow). (k.window ≡ e.window) × IsPermutation e.events (late_at e.window.vertex late ++ k.events)) inflow h.kept h.once in
    let k : Inflow = found.0 in
    let kept : All (λ (e : EventValue). behind e ≡ false) k.events =
    All-head (λ (k : Inflow). All (λ (e : EventValue). behind e ≡ false) k.events) k [] (subst (All (λ (k : Inflow). All (λ (e : EventValue). behind e ≡ false) k.events)) found.1 exact) in
    let here : All (λ (l : LateValue). behind l.event ≡ true) (filter (λ (l : LateValue). l.vertex == 2) late) =
    All-filter (λ (l : LateValue). l.vertex == 2) (λ (l : LateValue). behind l.event ≡ true) late h.late_behind in
    let late_here : All (λ (e : EventValue). behind e ≡ true) (late_at 2 late) =
    All-map (λ (e : EventValue). behind e ≡ true) (λ (l : LateValue). l.event) (filter (λ (l : LateValue). l.vertex == 2) late) here in
    let parts = sorted_out bags behind events (late_at 2 late) k.events found.2.1 late_here kept in
    let vertex : All (λ (l : LateValue). l.vertex ≡ 2) late = λ i d low. sym (one_of (λ (e : Inflow). e.window.vertex ≡ (slice_index_or late i d).vertex) inflow (h.late_somewhere i d low)) in (
      stay (k ∷ []) (record { window = base_window c; events = kept_among c events } ∷ []) table ((found.2.0, parts.1), tt) (subst (λ (ks : List Inflow). AreRows ks table) found.1 h.are_rows),
      subst (λ (l : List LateValue). IsPermutation l (as_late (late_among c events))) (sym (late_whole late vertex))
          (IsPermutation-map (λ (e : EventValue). let l : LateValue = record { vertex = 2; event = e } in l) (late_at 2 late) (late_among c events) parts.0),
    )

same_some : (a b : List ℕ) → Some a ≡ Some b → a ≡ b
same_some a b h = cc h

pub output_is_one : EventsAsBags → RowsAreOne → RowsStayByOrder → OutputIsOne
output_is_one bags one_table stay c before now before' now' old new old' new' done done' same =
    let contents : done.content ≡ done'.content = same_some done.content done'.content (sym done.content_is ∙ same ∙ done'.content_is) in
    let one = counted_one bags stay c done.content done.headline.late done.headline.table done.headline.counted done.exact in
    let two = counted_one bags stay c done'.content done'.headline.late done'.headline.table done'.headline.counted done'.exact in
    let rows : AreRows (record { window = base_window c; events = kept_among c (base_events done.content) } ∷ []) done'.headline.table =
    subst (λ (s : List ℕ). AreRows (record { window = base_window c; events = kept_among c (base_events s) } ∷ []) done'.headline.table) (sym contents) two.0 in
    let late : IsPermutation done'.headline.late (as_late (late_among c (base_events done.content))) =
    subst (λ (s : List ℕ). IsPermutation done'.headline.late (as_late (late_among c (base_events s)))) (sym contents) two.1 in
    let tables : done.headline.table ≡ done'.headline.table =
    one_table (record { window = base_window c; events = kept_among c (base_events done.content) } ∷ []) done.headline.table done'.headline.table (λ i j d i_low j_low. absurd (omega (arith, i_low, j_low))) one.0 rows in (
      done.headline.rows_are ∙ ap (rows_text (base_window c ∷ [])) tables ∙ sym done'.headline.rows_are,
      IsPermutation-trans done.headline.late (as_late (late_among c (base_events done.content))) done'.headline.late one.1
          (IsPermutation-sym done'.headline.late (as_late (late_among c (base_events done.content))) late),
    )
