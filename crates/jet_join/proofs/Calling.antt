-- The four calls of a join, each from what its body does.
use Rattle.std.proofs.Common.{◌≡◌, ℕ, ◌-◌, ◌≤◌, Bool, true, false, List, [], ◌∷◌, ◌++◌, map, length, take, Result, Ok, Err, IsErr, refl, sym, ◌∙◌, ap, subst, arith, append-nil, append_assoc}
use Rattle.std.proofs.lemmas.List.Elements.{filter-append}
use Rattle.std.specs.Prelude.{bytes_eq}
use Rattle.jet_items.specs.Values.{EventValue, SideValue}
use Rattle.jet_items.specs.Joins.{Joining, joined_with, or_itself, rows_with}
use Rattle.jet_items.specs.Kinds.{sides_of}
use Rattle.jet_items.specs.declared.item.Item.{Item}
use Rattle.jet_items.specs.declared.item.Item.TheVariants as item
use Rattle.jet_items.specs.declared.no_memory.NoMemory.{NoMemory}
use Rattle.jet_boxes.specs.Entry.{CallEntry, Given}
use Rattle.jet_boxes.specs.Held.{BoxView}
use Rattle.jet_boxes.specs.declared.port.Port.TheVariants.{Stream, Build}
use Rattle.jet_join.specs.declared.join.JoinP.{JoinP}
use Rattle.jet_join.specs.declared.side_rows.SideRows.{SideRows}
use Rattle.jet_join.specs.Kept.{kept_with}
use Rattle.jet_boxes.specs.Ports.{build_items, build_rows}
use Rattle.jet_join.specs.Stands.{gives, all_given, KeepsRows, JoinStands, JoinAmid, items_over, Puts}
use Rattle.jet_join.specs.Calls.{JoinCall}
use Rattle.jet_join.specs.Outs.{given-push, rows-push}

-- ---- an entry is at its end once all that it gives was put
ended : (j : Joining) (kept : SideRows) (next : ℕ) (taken : List CallEntry) (entry : CallEntry) (given put : List Item) → (h : JoinAmid j kept next taken entry given)
    → take next (gives j (build_rows taken) entry) ++ put ≡ gives j (build_rows taken) entry → given ++ put ≡ all_given j [] (taken ++ entry ∷ [])
ended j kept next taken entry given put h all =
    ap (λ xs. xs ++ put) h.gave
    ∙ (append_assoc (all_given j [] taken) (take next (gives j (build_rows taken) entry)) put
    ∙ (ap (λ xs. all_given j [] taken ++ xs) all ∙ sym (given-push j taken entry)))

no_row_more : (kept : SideRows) (taken : List CallEntry) (entry : CallEntry) → sides_of (build_items entry) ≡ [] → KeepsRows kept (build_rows taken) → KeepsRows kept (build_rows (taken ++ entry ∷ []))
no_row_more kept taken entry none h key =
    h key ∙ ap (rows_with key) (sym (rows-push taken entry ∙ (ap (λ rs. build_rows taken ++ rs) none ∙ append-nil (build_rows taken))))

at_start : (next n : ℕ) → next ≤ n - 1 → n ≤ 1 → next ≡ 0
at_start next n h k = omega (arith, h, k)

take_none : (next : ℕ) → next ≡ 0 → (xs : List Item) → take next xs ≡ []
take_none next h xs = ap (λ n. take n xs) h

-- ---- an item that passes, or the mark
pass_true : (j : Joining) (kept : SideRows) (next : ℕ) (taken : List CallEntry) (entry : CallEntry) (x : Item) (given : List Item) → ((rows : List SideValue) → gives j rows entry ≡ x ∷ []) → sides_of (build_items entry) ≡ []
    → JoinAmid j kept next taken entry given → JoinStands j kept next (taken ++ entry ∷ []) (given ++ x ∷ [])
pass_true j kept next taken entry x given one none h =
    let start : next ≡ 0 = at_start next (length (gives j (build_rows taken) entry)) h.place (rw (one (build_rows taken)) (omega arith)) in
    record {
      keeps = no_row_more kept taken entry none h.keeps;
      start = start;
      gave = ended j kept next taken entry given (x ∷ []) h (ap (λ xs. xs ++ x ∷ []) (take_none next start (gives j (build_rows taken) entry)) ∙ sym (one (build_rows taken)));
    }

pub pass_call : (p : JoinP) (entry : CallEntry) (x : Item) (before after : BoxView) (b : Bool) → (b ≡ true → after ≡ record before { items = before.items ++ x ∷ [] }) → (b ≡ false → after ≡ before) → (b ≡ false → length before.items ≡ before.room)
    → ((rows : List SideValue) → gives p.setting rows entry ≡ x ∷ []) → sides_of (build_items entry) ≡ [] → JoinCall p entry before (Ok b) p after
pass_call p entry x before after true put kept full one none = record {
  put = x ∷ [];
  settings = refl;
  room = ap (λ b. b.room) (put refl);
  puts = ap (λ b. b.items) (put refl);
  full = λ h. absurd (cc);
  wants = tt;
  keeps = λ taken given h. pass_true p.setting p.rows p.next taken entry x given one none h;
}
pass_call p entry x before after false put kept full one none = record {
  put = [];
  settings = refl;
  room = ap (λ b. b.room) (kept refl);
  puts = ap (λ b. b.items) (kept refl) ∙ sym (append-nil before.items);
  full = λ h. rw (kept refl) (full refl);
  wants = tt;
  keeps = λ taken given h. subst (JoinAmid p.setting p.rows p.next taken entry) (sym (append-nil given)) h;
}

-- what a join does not treat passes as it is
pub stream_passes : (j : Joining) (queue : ℕ) (x : Item) → ((e : EventValue) → x ≡ item.Event e → ⊥) → (rows : List SideValue) → gives j rows (Given Stream queue x) ≡ x ∷ []
stream_passes j queue (item.Event e) h rows = absurd (h e refl)
stream_passes j queue x h rows = refl

pub build_passes : (j : Joining) (queue : ℕ) (x : Item) → ((s : SideValue) → x ≡ item.Side s → ⊥) → (rows : List SideValue) → gives j rows (Given Build queue x) ≡ x ∷ []
build_passes j queue (item.Side s) h rows = absurd (h s refl)
build_passes j queue x h rows = refl

pub no_row : (queue : ℕ) (x : Item) → ((s : SideValue) → x ≡ item.Side s → ⊥) → sides_of (build_items (Given Build queue x)) ≡ []
no_row queue (item.Side s) h = absurd (h s refl)
no_row queue x h = refl

-- ---- an entry that gives nothing
none_true : (j : Joining) (kept : SideRows) (next : ℕ) (taken : List CallEntry) (entry : CallEntry) (given : List Item) → ((rows : List SideValue) → gives j rows entry ≡ []) → sides_of (build_items entry) ≡ []
    → JoinAmid j kept next taken entry given → JoinStands j kept next (taken ++ entry ∷ []) (given ++ [])
none_true j kept next taken entry given one none h =
    let start : next ≡ 0 = at_start next (length (gives j (build_rows taken) entry)) h.place (rw (one (build_rows taken)) (omega arith)) in
    record {
      keeps = no_row_more kept taken entry none h.keeps;
      start = start;
      gave = ended j kept next taken entry given [] h (ap (λ xs. xs ++ []) (take_none next start (gives j (build_rows taken) entry)) ∙ sym (one (build_rows taken)));
    }

pub none_call : (p : JoinP) (entry : CallEntry) (before : BoxView) → ((rows : List SideValue) → gives p.setting rows entry ≡ []) → sides_of (build_items entry) ≡ [] → JoinCall p entry before (Ok true) p before
none_call p entry before one none = record {
  put = [];
  settings = refl;
  room = refl;
  puts = sym (append-nil before.items);
  full = λ h. absurd (cc);
  wants = tt;
  keeps = λ taken given h. none_true p.setting p.rows p.next taken entry given one none h;
}

-- ---- a side row
pub keep_call : (p q : JoinP) (queue : ℕ) (s : SideValue) (before : BoxView) → q.setting ≡ p.setting → q.next ≡ p.next → ((key : List ℕ) → kept_with key q.rows ≡ kept_with key p.rows ++ rows_with key (s ∷ []))
    → JoinCall p (Given Build queue (item.Side s)) before (Ok true) q before
keep_call p q queue s before setting next kept = record {
  put = [];
  settings = setting;
  room = refl;
  puts = sym (append-nil before.items);
  full = λ h. absurd (cc);
  wants = tt;
  keeps = λ taken given h.
      let entry : CallEntry = Given Build queue (item.Side s) in
      let start : p.next ≡ 0 = at_start p.next 0 h.place (omega arith) in
      record {
        keeps = λ key. kept key ∙ (ap (λ rs. rs ++ rows_with key (s ∷ [])) (h.keeps key)
            ∙ (sym (filter-append (λ (r : SideValue). bytes_eq r.key key) (build_rows taken) (s ∷ [])) ∙ ap (rows_with key) (sym (rows-push taken entry))));
        start = next ∙ start;
        gave = ended p.setting p.rows p.next taken entry given [] h (ap (λ xs. xs ++ []) (take_none p.next start [])) ∙ ap (λ j. all_given j [] (taken ++ entry ∷ [])) (sym setting);
      };
}

pub want_call : (p q : JoinP) (queue : ℕ) (s : SideValue) (before : BoxView) (r : Result Bool NoMemory) → IsErr r → q.setting ≡ p.setting → q.next ≡ p.next → ((key : List ℕ) → kept_with key q.rows ≡ kept_with key p.rows)
    → JoinCall p (Given Build queue (item.Side s)) before r q before
want_call p q queue s before (Ok b) err setting next kept = absurd (cc)
want_call p q queue s before (Err e) err setting next kept = record {
  put = [];
  settings = setting;
  room = refl;
  puts = sym (append-nil before.items);
  full = λ h. absurd (cc);
  wants = refl;
  keeps = λ taken given h.
      let start : p.next ≡ 0 = at_start p.next 0 h.place (omega arith) in
      record {
        keeps = λ key. kept key ∙ h.keeps key;
        place = omega (arith, next, start);
        gave = append-nil given ∙ (h.gave ∙ (ap (λ xs. all_given p.setting [] taken ++ xs) (take_none p.next start [] ∙ sym (take_none q.next (next ∙ start) [])) ∙ ap (λ j. all_given j [] taken ++ take q.next []) (sym setting)));
      };
}

-- ---- an event
same_items : (j : Joining) (kept : SideRows) (rows : List SideValue) (e : EventValue) → KeepsRows kept rows → items_over j (kept_with e.key kept) e ≡ items_over j (rows_with e.key rows) e
same_items j kept rows e h = ap (λ rs. map item.Event (or_itself j.left e (map (joined_with j e) rs))) (h e.key)

pub event_place : (j : Joining) (kept : SideRows) (next : ℕ) (taken : List CallEntry) (queue : ℕ) (e : EventValue) (given : List Item) → JoinAmid j kept next taken (Given Stream queue (item.Event e)) given → next ≤ length (items_over j (kept_with e.key kept) e) - 1
event_place j kept next taken queue e given h = rw (same_items j kept (build_rows taken) e h.keeps) h.place

pub event_call : (p q : JoinP) (queue : ℕ) (e : EventValue) (before after : BoxView) (b : Bool) → q.setting ≡ p.setting → q.rows ≡ p.rows → after.room ≡ before.room
    → Puts (items_over p.setting (kept_with e.key p.rows) e) p.next before.items b q.next after.items → (b ≡ false → length after.items ≡ after.room) → JoinCall p (Given Stream queue (item.Event e)) before (Ok b) q after
event_call p q queue e before after true setting rows room m full = record {
  put = m.put;
  settings = setting;
  room = room;
  puts = m.puts;
  full = λ h. absurd (cc);
  wants = tt;
  keeps = λ taken given h.
      let entry : CallEntry = Given Stream queue (item.Event e) in
      let same : items_over p.setting (kept_with e.key p.rows) e ≡ gives p.setting (build_rows taken) entry = same_items p.setting p.rows (build_rows taken) e h.keeps in
      record {
        keeps = λ key. ap (kept_with key) rows ∙ no_row_more p.rows taken entry refl h.keeps key;
        start = (m.ended refl).0;
        gave = ended p.setting p.rows p.next taken entry given m.put h (subst (λ (all : List Item). take p.next all ++ m.put ≡ all) same (m.ended refl).1) ∙ ap (λ j. all_given j [] (taken ++ entry ∷ [])) (sym setting);
      };
}
event_call p q queue e before after false setting rows room m full = record {
  put = m.put;
  settings = setting;
  room = room;
  puts = m.puts;
  full = λ h. full refl;
  wants = tt;
  keeps = λ taken given h.
      let entry : CallEntry = Given Stream queue (item.Event e) in
      let same : items_over p.setting (kept_with e.key p.rows) e ≡ gives p.setting (build_rows taken) entry = same_items p.setting p.rows (build_rows taken) e h.keeps in
      record {
        keeps = λ key. ap (kept_with key) rows ∙ h.keeps key;
        place = subst (λ (j : Joining). q.next ≤ length (gives j (build_rows taken) entry) - 1) (sym setting) (subst (λ (all : List Item). q.next ≤ length all - 1) same (m.broken refl).0);
        gave = ap (λ xs. xs ++ m.put) h.gave
            ∙ (append_assoc (all_given p.setting [] taken) (take p.next (gives p.setting (build_rows taken) entry)) m.put
            ∙ (ap (λ xs. all_given p.setting [] taken ++ xs) (subst (λ (all : List Item). take p.next all ++ m.put ≡ take q.next all) same (m.broken refl).1)
            ∙ ap (λ j. all_given j [] taken ++ take q.next (gives j (build_rows taken) entry)) (sym setting)));
      };
}
