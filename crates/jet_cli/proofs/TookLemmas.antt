-- One event more, from what sorting it and letting the watermark pass its time do.
use Rattle.std.proofs.Common.{◌≡◌, ℕ, Bool, true, false, ℤ, pos, ◌≤ℤ◌, ◌<ℤ◌, List, [], ◌∷◌, ◌++◌, map, refl, ap, sym, ◌∙◌, subst, arith, Option, Some, None, append-nil, inl, inr, rules, All}
use Rattle.std.specs.Prelude.{if◌then◌else◌, IfSome, codes, flat_map, IsSomeAnd, ◌&&◌, int_lt}
use Rattle.std.proofs.lemmas.Int.{ints}
use Rattle.std.proofs.lemmas.List.{map-append}
use Rattle.jet_items.specs.Marks.{mark_at, mark_of, is_behind}
use Rattle.std.proofs.lemmas.List.Elements.{All-weaker, All-nil}
use Rattle.jet_items.specs.Rows.{Window, IsRowOf}
use Rattle.jet_items.specs.Values.{EventValue, RowValue}
use Rattle.jet_policy.specs.MarkerValue.{MarkerValue, HasSeen}
use Rattle.jet_file.specs.Text.{row_line, late_line}
use Rattle.jet_window.specs.Plain.{PlainValue, HasTaken, RowsBetween, RowsUpTo, is_between, window_named}
use Rattle.jet_window.proofs.Between.{closed_stay, follow}
use Rattle.jet_cli.specs.inner.Advance.{ClosesUpTo}
use Rattle.jet_cli.specs.Base.{base_window}
use Rattle.jet_cli.specs.Counting.{kept_among, mark_after, Counts}
use Rattle.jet_cli.specs.inner.Took.{mark_in, is_below, late_text_of, ClosesOn}
use Rattle.jet_cli.specs.Words.{WindowCommand}
use Rattle.jet_cli.proofs.KeptLemmas.{kept_more}
use Rattle.jet_worker.proofs.BehindLaws.{AreBefore, behind_at}

pub mark_is : (lag grain : ℤ) (times : List ℤ) (m : MarkerValue) → m.lag ≡ lag → m.grain ≡ grain → HasSeen m times → mark_in m ≡ mark_of lag grain times
mark_is lag grain times m l g h = ap (λ (x : ℤ). mark_at x m.grain m.greatest) l ∙ ap (λ (x : ℤ). mark_at lag x m.greatest) g ∙ ap (mark_at lag grain) h

-- an event that is not below the watermark is at or above it
pub at_or_above : (mark : Option ℤ) (ts : ℤ) → is_below mark ts ≡ false → IfSome mark (λ t. t ≤ℤ ts)
at_or_above None ts h = tt
at_or_above (Some t) ts h = grind (arith, ints, rules, h)

-- the rows go on
pub rows_go_on : (w : Window) (old new : Option ℤ) (events : List EventValue) (table given : List RowValue) → RowsUpTo w old events table → ClosesUpTo w old new events given
    → RowsUpTo w new events (table ++ given)
rows_go_on w old new events table given rows (inl (same, none)) =
    subst (λ (o : Option ℤ). RowsUpTo w o events (table ++ given)) (sym same)
    (subst (λ (more : List RowValue). RowsUpTo w old events (table ++ more)) (sym none)
    (subst (λ (all : List RowValue). RowsUpTo w old events all) (sym (append-nil table)) rows))
rows_go_on w old new events table given rows (inr (t, is, later, more)) =
    subst (λ (o : Option ℤ). RowsUpTo w o events (table ++ given)) (sym is) (follow w old t events table given later rows more)

-- a window that sorted an event: it let it by as late, or took it
pub record Sorted (c : WindowCommand) (e : EventValue) (table : List RowValue) (kept : List EventValue) (window : PlainValue) : Type 0 where
  pub vertex : window.vertex ≡ 2
  pub size : window.size ≡ pos c.size
  pub slide : window.slide ≡ pos c.slide
  pub taken : HasTaken window kept
  pub rows : RowsUpTo (base_window c) window.closed kept table

sorted_as : (c : WindowCommand) (events : List EventValue) (e : EventValue) (table : List RowValue) (marker : MarkerValue) (old mid : PlainValue) (b : Bool)
    → is_below (mark_in marker) e.ts ≡ b → is_behind (pos c.lag) (pos c.slide) events e ≡ b
    → old.closed ≡ mark_in marker
    → Counts c events table marker old
    → (b ≡ true → mid ≡ old)
    → (b ≡ false → (mid ≡ record old { events = old.events ++ e ∷ [] }) × ((all : List EventValue) → HasTaken old all → HasTaken mid (all ++ e ∷ [])))
    → Sorted c e table (kept_among c events ++ (if b then [] else e ∷ [])) mid
sorted_as c events e table marker old mid true below behind step h late kept =
    let same : mid ≡ old = late refl in
    let all : kept_among c events ++ [] ≡ kept_among c events = append-nil (kept_among c events) in
    let one : Sorted c e table (kept_among c events) old = record { vertex = h.vertex; size = h.size; slide = h.slide; taken = h.taken; rows = h.rows } in
    subst (λ (ks : List EventValue). Sorted c e table ks mid) (sym all) (subst (λ (p : PlainValue). Sorted c e table (kept_among c events) p) (sym same) one)
sorted_as c events e table marker old mid false below behind step h late kept =
    let both = kept refl in
    let closed : mid.closed ≡ old.closed = ap (λ (p : PlainValue). p.closed) both.0 in
    let above : IfSome old.closed (λ t. t ≤ℤ e.ts) = subst (λ (m : Option ℤ). IfSome m (λ t. t ≤ℤ e.ts)) (sym step) (at_or_above (mark_in marker) e.ts below) in
    record {
      vertex = ap (λ (p : PlainValue). p.vertex) both.0 ∙ h.vertex;
      size = ap (λ (p : PlainValue). p.size) both.0 ∙ h.size;
      slide = ap (λ (p : PlainValue). p.slide) both.0 ∙ h.slide;
      taken = both.1 (kept_among c events) h.taken;
      rows = subst (λ (o : Option ℤ). RowsUpTo (base_window c) o (kept_among c events ++ e ∷ []) table) (sym closed)
          (closed_stay (base_window c) old.closed (kept_among c events) table e above h.rows);
    }

-- whether an event is below the watermark of those before it
pub below_is_behind : (c : WindowCommand) (events : List EventValue) (e : EventValue) (table : List RowValue) (marker : MarkerValue) (window : PlainValue)
    → Counts c events table marker window → AreBefore e.line events
    → is_below (mark_in marker) e.ts ≡ is_behind (pos c.lag) (pos c.slide) events e
below_is_behind c events e table marker window h before =
    ap (λ (m : Option ℤ). is_below m e.ts) (mark_is (pos c.lag) (pos c.slide) (map (λ x. x.ts) events) marker h.lag h.grain h.seen)
    ∙ sym (behind_at (pos c.lag) (pos c.slide) events e before)

pub in_step : (c : WindowCommand) (events : List EventValue) (table : List RowValue) (marker : MarkerValue) (window : PlainValue)
    → Counts c events table marker window → window.closed ≡ mark_in marker
in_step c events table marker window h =
    h.closed ∙ sym (mark_is (pos c.lag) (pos c.slide) (map (λ x. x.ts) events) marker h.lag h.grain h.seen)

pub window_is : (c : WindowCommand) (p : PlainValue) → p.vertex ≡ 2 → p.size ≡ pos c.size → p.slide ≡ pos c.slide → window_named p (codes "w") ≡ base_window c
window_is c p v s d = cc

-- rows between two marks end after the first
after_is : (after upto : Option ℤ) (end : ℤ) → is_between after upto end ≡ true → IfSome after (λ t. t <ℤ end)
after_is None upto end h = tt
after_is (Some t) upto end h = first (int_lt t end) _ refl h
  where
    first : (a b : Bool) → int_lt t end ≡ a → (a && b) ≡ true → t <ℤ end
    first true b is h = grind (arith, ints, rules, is)
    first false b is h = absurd (cc h)

pub rows_end_after : (w : Window) (after upto : Option ℤ) (events : List EventValue) (given : List RowValue) → RowsBetween w after upto events given
    → All (λ r. IfSome after (λ t. t <ℤ r.end)) given
rows_end_after w after upto events given rows =
    All-weaker (λ (r : RowValue). IsRowOf w events r × (is_between after upto r.end ≡ true)) (λ (r : RowValue). IfSome after (λ t. t <ℤ r.end))
    (λ r h. after_is after upto r.end h.1) given rows.each

pub stays : (o : Option ℤ) → IfSome o (λ t. IsSomeAnd o (λ u. t ≤ℤ u))
stays None = tt
stays (Some t) = omega (arith, ints)

rises : (old : Option ℤ) (t : ℤ) → IfSome old (λ s. s ≤ℤ t) → IfSome old (λ s. IsSomeAnd (Some t) (λ u. s ≤ℤ u))
rises None t h = tt
rises (Some s) t h = h

goes_closes : (w : Window) (old new : Option ℤ) (events : List EventValue) (given : List RowValue) → ClosesUpTo w old new events given → ClosesOn old new given
goes_closes w old new events given (inl (same, none)) = record {
  up = subst (λ (o : Option ℤ). IfSome old (λ t. IsSomeAnd o (λ u. t ≤ℤ u))) (sym same) (stays old);
  later = subst (All (λ (r : RowValue). IfSome old (λ t. t <ℤ r.end))) (sym none) (All-nil (λ (r : RowValue). IfSome old (λ t. t <ℤ r.end)));
}
goes_closes w old new events given (inr (t, is, later, rows)) = record {
  up = subst (λ (o : Option ℤ). IfSome old (λ s. IsSomeAnd o (λ u. s ≤ℤ u))) (sym is) (rises old t later);
  later = rows_end_after w old (Some t) events given rows;
}

-- sorting an event closes nothing
sorts_only : (old mid : PlainValue) (e : EventValue) (b : Bool) {T : Type 0} → (b ≡ true → mid ≡ old) → (b ≡ false → (mid ≡ record old { events = old.events ++ e ∷ [] }) × T) → mid.closed ≡ old.closed
sorts_only old mid e true late kept = ap (λ (p : PlainValue). p.closed) (late refl)
sorts_only old mid e false late kept = ap (λ (p : PlainValue). p.closed) (kept refl).0

-- all that one event more does to what was counted
pub counts_more : (c : WindowCommand) (events : List EventValue) (e : EventValue) (table given : List RowValue) (marker next : MarkerValue) (old mid new : PlainValue)
    → Counts c events table marker old → AreBefore e.line events
    → (is_below (mark_in marker) e.ts ≡ true → mid ≡ old)
    → (is_below (mark_in marker) e.ts ≡ false → (mid ≡ record old { events = old.events ++ e ∷ [] }) × ((all : List EventValue) → HasTaken old all → HasTaken mid (all ++ e ∷ [])))
    → ((times : List ℤ) → HasSeen marker times → HasSeen next (times ++ e.ts ∷ []))
    → next.lag ≡ marker.lag → next.grain ≡ marker.grain
    → new.vertex ≡ mid.vertex → new.size ≡ mid.size → new.slide ≡ mid.slide
    → new.closed ≡ mark_in next
    → ((name : List ℕ) (all : List EventValue) → HasTaken mid all → ClosesUpTo (window_named mid name) mid.closed new.closed all given)
    → ((all : List EventValue) → HasTaken mid all → HasTaken new all)
    → Counts c (events ++ e ∷ []) (table ++ given) next new × ClosesOn (mark_after c events) (mark_after c (events ++ e ∷ [])) given
counts_more c events e table given marker next old mid new h before late kept seen lag grain vertex size slide step goes taken =
    let b : Bool = is_behind (pos c.lag) (pos c.slide) events e in
    let same : is_below (mark_in marker) e.ts ≡ b = below_is_behind c events e table marker old h before in
    let s : Sorted c e table (kept_among c events ++ (if b then [] else e ∷ [])) mid =
    sorted_as c events e table marker old mid b same refl (in_step c events table marker old h) h (λ is. late (same ∙ is)) (λ is. kept (same ∙ is)) in
    let more : kept_among c (events ++ e ∷ []) ≡ kept_among c events ++ (if b then [] else e ∷ []) = kept_more c events e before in
    let s2 : Sorted c e table (kept_among c (events ++ e ∷ [])) mid = subst (λ (ks : List EventValue). Sorted c e table ks mid) (sym more) s in
    let times : map (λ x. x.ts) (events ++ e ∷ []) ≡ map (λ (x : EventValue). x.ts) events ++ e.ts ∷ [] = map-append (λ (x : EventValue). x.ts) events (e ∷ []) in
    let seen2 : HasSeen next (map (λ x. x.ts) (events ++ e ∷ [])) =
    subst (λ (ts : List ℤ). HasSeen next ts) (sym times) (seen (map (λ x. x.ts) events) h.seen) in
    let goes2 : ClosesUpTo (base_window c) mid.closed new.closed (kept_among c (events ++ e ∷ [])) given =
    subst (λ (w : Window). ClosesUpTo w mid.closed new.closed (kept_among c (events ++ e ∷ [])) given) (window_is c mid s2.vertex s2.size s2.slide)
    (goes (codes "w") (kept_among c (events ++ e ∷ [])) s2.taken) in
    let closed : mid.closed ≡ mark_after c events = sorts_only old mid e (is_below (mark_in marker) e.ts) late kept ∙ h.closed in
    let closed2 : new.closed ≡ mark_after c (events ++ e ∷ []) =
    step ∙ mark_is (pos c.lag) (pos c.slide) (map (λ x. x.ts) (events ++ e ∷ [])) next (lag ∙ h.lag) (grain ∙ h.grain) seen2 in (
      record {
        lag = lag ∙ h.lag;
        grain = grain ∙ h.grain;
        seen = seen2;
        vertex = vertex ∙ s2.vertex;
        size = size ∙ s2.size;
        slide = slide ∙ s2.slide;
        closed = closed2;
        taken = taken (kept_among c (events ++ e ∷ [])) s2.taken;
        rows = rows_go_on (base_window c) mid.closed new.closed (kept_among c (events ++ e ∷ [])) table given s2.rows goes2;
      },
      subst (λ (o : Option ℤ). ClosesOn o (mark_after c (events ++ e ∷ [])) given) closed
          (subst (λ (o : Option ℤ). ClosesOn mid.closed o given) closed2 (goes_closes (base_window c) mid.closed new.closed (kept_among c (events ++ e ∷ [])) given goes2)),
    )

-- what sorting an event appended to the notes
pub notes_more : (c : WindowCommand) (events : List EventValue) (e : EventValue) (old new : List ℕ) (b below : Bool) → below ≡ b → is_behind (pos c.lag) (pos c.slide) events e ≡ b
    → (below ≡ true → new ≡ old ++ late_line (codes "w") e) → (below ≡ false → new ≡ old) → new ≡ old ++ late_text_of c events e
notes_more c events e old new true below same is late kept = late same ∙ ap (λ (b : Bool). old ++ (if b then late_line (codes "w") e else [])) (sym is)
notes_more c events e old new false below same is late kept = kept same ∙ sym (append-nil old) ∙ ap (λ (b : Bool). old ++ (if b then late_line (codes "w") e else [])) (sym is)

-- the lines of rows under the window's name and size
pub lines_more : (before mid after name : List ℕ) (size size' : ℤ) (given : List RowValue) → after ≡ mid ++ flat_map (row_line name size) given → mid ≡ before → name ≡ codes "w" → size ≡ size'
    → after ≡ before ++ flat_map (row_line (codes "w") size') given
lines_more before mid after name size size' given e b n s = cc
