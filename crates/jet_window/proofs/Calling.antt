-- The calls of a combine vertex, whole.
use Rattle.std.proofs.Common.{◌≡◌, ℕ, Bool, true, false, ◌&&◌, ℤ, List, [], ◌∷◌, ◌++◌, Option, Some, Result, Ok, Err, refl, sym, ◌∙◌, ap, subst, length, append-nil, append_assoc}
use Rattle.std.specs.Prelude.{bytes_eq, IsErr, OnErr}
use Rattle.jet_items.specs.Values.{AccValue, FrameValue}
use Rattle.jet_items.specs.Totals.{both, total}
use Rattle.std.specs.Ordering.{int_eq}
use Rattle.std.proofs.lemmas.Bool.Decides.{Decides-int_eq}
use Rattle.jet_items.proofs.Covering.{Decides-covers, false_from}
use Rattle.jet_items.specs.Frames.{covers}
use Rattle.jet_items.specs.Ranges.{IsWithin, most_frame_end}
use Rattle.jet_items.specs.declared.item.Item.{Item}
use Rattle.jet_items.specs.declared.item.Item.TheVariants as item
use Rattle.jet_boxes.specs.declared.port.Port.{Port}
use Rattle.jet_items.specs.declared.no_memory.NoMemory.{NoMemory}
use Rattle.jet_boxes.specs.Entry.{CallEntry, Given, MarkTold, QueueClosed, Finish, IsData}
use Rattle.jet_boxes.specs.Calls.{Call, Outcome}
use Rattle.jet_boxes.specs.Held.{BoxView}
use Rattle.jet_window.specs.CombineCalls.{Stands, Amid, Alike}
use Rattle.jet_window.specs.declared.combine.CombineP.{CombineP}
use Rattle.jet_window.specs.Tables.{Place, place_cmp}
use Rattle.jet_window.specs.FrameTables.{Table, joined_in, held_at, held_in, IsKept}
use Rattle.jet_window.specs.Combining.{Clear, Passes, OpenAbove, IsOver}
use Rattle.jet_window.specs.Later.{later_of}
use Rattle.jet_window.specs.Taken.{is_due, InOpenWindow}
use Rattle.jet_window.specs.CombineStands.{IsFrame, Combine, Start, CombineStands, Gave, Marking, Finishing}
use Rattle.jet_window.proofs.Standing.{marking_gave, finishing_gave, stands_mark, stands_finish, stands_frame, stands_pass, stands_close}
use Rattle.jet_window.specs.CombineView.{combine_of, start_of, SameRest}
use Rattle.jet_window.proofs.Tabling.{place_total, place_equal, total-joined_in, ordered_insert, each_insert}
use Rattle.jet_window.proofs.Fitting.{share_none}
use Rattle.jet_window.proofs.Giving.{same_combine, same_start, at_rest}

not_true : false ≡ true → ⊥
not_true h = absurd (cc)

-- want of memory may come
may_want : (r : Result Bool NoMemory) → OnErr r (false ≡ false)
may_want (Ok b) = tt
may_want (Err e) = refl

-- a call that is still to be ended
partial : (p : CombineP) (taken : List CallEntry) (entry : CallEntry) (given : List Item) (r : Result Bool NoMemory) → (r ≡ Ok true → ⊥) → Amid p taken entry given → Outcome Stands Amid p taken entry given r
partial p taken entry given (Ok true) h k = absurd (h refl)
partial p taken entry given (Ok false) h k = k
partial p taken entry given (Err e) h k = k

-- the bound at the mark of the argument is the one at the later of the two marks
pub bound_until : (a b : Option ℤ) (t u : ℤ) (next : Option ℤ) → t ≡ u → Some u ≡ next → (Passes a (Some t) → Passes b (Some t)) → Passes a next → Passes b next
bound_until a b t u next is up h = subst (λ (o : Option ℤ). Passes a o → Passes b o) (ap Some is ∙ up) h

pub mark_partial : (p q : CombineP) (t : ℤ) (before after : BoxView) (r : Result Bool NoMemory) → SameRest p q → Gave (combine_of p) before.items (combine_of q) after.items → (Passes p.passed (later_of p.begun (Some t)) → Passes q.passed (later_of p.begun (Some t))) → after.room ≡ before.room → (r ≡ Ok true → ⊥) → (r ≡ Ok false → length after.items ≡ after.room) → Call Stands Amid Alike false p (MarkTold t) before r q after
mark_partial p q t before after r rest gave bound room not full = record {
  put = gave.put;
  settings = (rest.vertex, rest.policy, rest.begun, rest.start);
  room = room;
  puts = gave.puts;
  full = full;
  wants = may_want r;
  keeps = λ taken given h. partial q taken (MarkTold t) (given ++ gave.put) r not
      (at_rest p q rest (λ s last. Marking s last (combine_of q) taken t (given ++ gave.put)) (marking_gave (start_of p) p.last (combine_of p) before.items (combine_of q) after.items taken t given gave bound h));
}

pub mark_whole : (p q z : CombineP) (t u : ℤ) (before middle after : BoxView) → SameRest p q → Gave (combine_of p) before.items (combine_of q) middle.items → (Passes p.passed (later_of p.begun (Some t)) → Passes q.passed (later_of p.begun (Some t))) → middle.room ≡ before.room
    → Some u ≡ later_of p.begun (Some t) → q.ready.items ≡ [] → Clear q.policy.size q.policy.slide q.passed q.held u → OpenAbove q.policy.size q.policy.slide u q.held
    → z.vertex ≡ q.vertex → z.policy ≡ q.policy → z.begun ≡ q.begun → z.start ≡ q.start → z.last ≡ Some t → z.passed ≡ Some u → z.end ≡ q.end → z.held ≡ q.held → z.ready ≡ q.ready
    → after.room ≡ middle.room → after.items ≡ middle.items ++ item.Mark t ∷ []
    → Call Stands Amid Alike false p (MarkTold t) before (Ok true) z after
mark_whole p q z t u before middle after rest gave bound room up none clear above v o b f l w e h r room' items =
    let same : record (combine_of q) { passed = Some u } ≡ combine_of z = same_combine _ _ _ _ _ _ _ _ _ _ _ _ _ _ (sym v) (sym (ap (λ x. x.size) o)) (sym (ap (λ x. x.slide) o)) (sym w) (sym e) (sym h) (sym (ap (λ x. x.items) r)) in
    let begins : start_of p ≡ start_of z = same_start p z (b ∙ rest.begun) (f ∙ rest.start) in
    record {
      put = gave.put ++ item.Mark t ∷ [];
      settings = (v ∙ rest.vertex, o ∙ rest.policy, b ∙ rest.begun, f ∙ rest.start);
      room = room' ∙ room;
      puts = items ∙ (ap (λ (xs : List Item). xs ++ item.Mark t ∷ []) gave.puts ∙ append_assoc before.items gave.put (item.Mark t ∷ []));
      full = λ f. absurd (never f);
      wants = tt;
      keeps = λ taken given k.
          subst (λ (xs : List Item). CombineStands (start_of z) z.last (combine_of z) (taken ++ MarkTold t ∷ []) xs) (append_assoc given gave.put (item.Mark t ∷ []))
          (subst (λ (x : Combine). CombineStands (start_of z) z.last x (taken ++ MarkTold t ∷ []) ((given ++ gave.put) ++ item.Mark t ∷ [])) same
          (subst (λ (s : Start). CombineStands s z.last (record (combine_of q) { passed = Some u }) (taken ++ MarkTold t ∷ []) ((given ++ gave.put) ++ item.Mark t ∷ [])) begins
          (subst (λ (last : Option ℤ). CombineStands (start_of p) last (record (combine_of q) { passed = Some u }) (taken ++ MarkTold t ∷ []) ((given ++ gave.put) ++ item.Mark t ∷ [])) (sym l)
          (stands_mark (start_of p) p.last (combine_of q) taken t u (given ++ gave.put) up none clear above (marking_gave (start_of p) p.last (combine_of p) before.items (combine_of q) middle.items taken t given gave bound k)))));
    }
  where
    never : (let yes : Result Bool NoMemory = Ok true in yes ≡ Ok false) → ⊥
    never f = absurd (cc)

finish_outcome : (q : CombineP) (taken : List CallEntry) (given : List Item) (r : Result Bool NoMemory) → (r ≡ Ok true → q.ready.items ≡ []) → (r ≡ Ok true → q.held ≡ []) → Finishing (start_of q) q.last (combine_of q) taken given → Outcome Stands Amid q taken Finish given r
finish_outcome q taken given (Ok true) none empty k = stands_finish (start_of q) q.last (combine_of q) taken given (none refl) (empty refl) k
finish_outcome q taken given (Ok false) none empty k = k
finish_outcome q taken given (Err e) none empty k = k

pub finish_call : (p q : CombineP) (before after : BoxView) (r : Result Bool NoMemory) → SameRest p q → Gave (combine_of p) before.items (combine_of q) after.items → after.room ≡ before.room → (r ≡ Ok true → q.ready.items ≡ []) → (r ≡ Ok true → q.held ≡ []) → (r ≡ Ok false → length after.items ≡ after.room) → Call Stands Amid Alike false p Finish before r q after
finish_call p q before after r rest gave room none empty full = record {
  put = gave.put;
  settings = (rest.vertex, rest.policy, rest.begun, rest.start);
  room = room;
  puts = gave.puts;
  full = full;
  wants = may_want r;
  keeps = λ taken given h. finish_outcome q taken (given ++ gave.put) r none empty
      (at_rest p q rest (λ s last. Finishing s last (combine_of q) taken (given ++ gave.put)) (finishing_gave (start_of p) p.last (combine_of p) before.items (combine_of q) after.items taken given gave h));
}

-- ---- what is accepted
grows : (size : ℤ) (held : Table) (f : FrameValue) → IsWithin most_frame_end f.end → IsKept held → IsKept (joined_in held (f.end, f.key) f.acc)
grows size held f range h = record {
  ordered = ordered_insert (f.end, f.key) _ held h.ordered;
  ranges = each_insert place_cmp place_total place_equal (λ (z : Place). IsWithin most_frame_end z.0) (f.end, f.key) _ held h.ranges range;
}

pub frame_call : (p z : CombineP) (port : Port) (queue : ℕ) (f : FrameValue) (before : BoxView) → IsWithin most_frame_end f.end → InOpenWindow p.policy.size p.policy.slide (is_due p.begun) f.end
    → SameRest p z → z.passed ≡ p.passed → z.end ≡ p.end → z.ready ≡ p.ready → z.held ≡ joined_in p.held (f.end, f.key) f.acc → Call Stands Amid Alike false p (Given port queue (item.Frame f)) before (Ok true) z before
frame_call p z port queue f before range in_window rest w e r h =
    let new : Table = joined_in p.held (f.end, f.key) f.acc in
    let same : record (combine_of p) { held = new } ≡ combine_of z = same_combine _ _ _ _ _ _ _ _ _ _ _ _ _ _ (sym rest.vertex) (sym (ap (λ x. x.size) rest.policy)) (sym (ap (λ x. x.slide) rest.policy)) (sym w) (sym e) (sym h) (sym (ap (λ x. x.items) r)) in
    record {
      put = [];
      settings = (rest.vertex, rest.policy, rest.begun, rest.start);
      room = refl;
      puts = sym (append-nil before.items);
      full = λ g. absurd (never g);
      wants = tt;
      keeps = λ taken given k. at_rest p z rest (λ s last. CombineStands s last (combine_of z) (taken ++ Given port queue (item.Frame f) ∷ []) (given ++ []))
          (subst (λ (x : Combine). CombineStands (start_of p) p.last x (taken ++ Given port queue (item.Frame f) ∷ []) (given ++ [])) same
          (stands_frame (start_of p) p.last (combine_of p) taken given port queue f new
          (λ d key kept m b. total-joined_in (λ z. bytes_eq z.1 key && covers p.policy.size d z.0) (f.end, f.key) f.acc p.held kept.ordered)
          (λ d key kept w. total-joined_in (λ z. bytes_eq z.1 key && int_eq z.0 d) (f.end, f.key) f.acc p.held kept.ordered)
          (grows p.policy.size p.held f range)
          (λ due above old. each_insert place_cmp place_total place_equal (λ (z : Place). InOpenWindow p.policy.size p.policy.slide due z.0) (f.end, f.key) _ p.held old
          (in_window.0, in_window.1, in_window.2, above in_window.0 in_window.3 ((Decides-covers p.policy.size in_window.0 f.end).0 in_window.2).1)) k));
    }
  where
    never : (let yes : Result Bool NoMemory = Ok true in yes ≡ Ok false) → ⊥
    never g = absurd (cc)

-- a frame of which no window is left is not kept
pub over_call : (p : CombineP) (port : Port) (queue : ℕ) (f : FrameValue) (before : BoxView) → IsOver p.policy.size p.policy.slide p.begun f.end → Call Stands Amid Alike false p (Given port queue (item.Frame f)) before (Ok true) p before
over_call p port queue f before over = record {
  put = [];
  settings = (refl, refl, refl, refl);
  room = refl;
  puts = sym (append-nil before.items);
  full = λ g. absurd (never g);
  wants = tt;
  keeps = λ taken given k. stands_frame (start_of p) p.last (combine_of p) taken given port queue f p.held
      (λ d key kept m b. ap (λ (o : Option AccValue). both o (total (held_in p.policy.size d key) p.held)) (sym (share_none (bytes_eq f.key key) (covers p.policy.size d f.end) f.acc (over d m b))))
      (λ d key kept w. ap (λ (o : Option AccValue). both o (total (held_at d key) p.held)) (sym (share_none (bytes_eq f.key key) (int_eq f.end d) f.acc (apart d w))))
      (λ kept. kept) (λ due above old. old) k;
}
  where
    apart : (d : ℤ) → InOpenWindow p.policy.size p.policy.slide (is_due p.begun) d → int_eq f.end d ≡ false
    apart d w = false_from (int_eq f.end d) (Decides-int_eq f.end d) (λ same. not_true (sym (subst (λ (z : ℤ). covers p.policy.size w.0 z ≡ false) same (over w.0 w.1 w.3)) ∙ w.2))

    never : (let yes : Result Bool NoMemory = Ok true in yes ≡ Ok false) → ⊥
    never g = absurd (cc)

pub pass_call : (p : CombineP) (port : Port) (queue : ℕ) (x : Item) (before after : BoxView) → (IsFrame x → ⊥) → IsData x → after.room ≡ before.room → after.items ≡ before.items ++ x ∷ [] → Call Stands Amid Alike false p (Given port queue x) before (Ok true) p after
pass_call p port queue x before after not data_is room items = record {
  put = x ∷ [];
  settings = (refl, refl, refl, refl);
  room = room;
  puts = items;
  full = λ g. absurd (never g);
  wants = tt;
  keeps = λ taken given k. stands_pass (start_of p) p.last (combine_of p) taken given port queue x not data_is k;
}
  where
    never : (let yes : Result Bool NoMemory = Ok true in yes ≡ Ok false) → ⊥
    never g = absurd (cc)

pub not_frame : (x : Item) → ((f : FrameValue) → x ≡ item.Frame f → ⊥) → IsFrame x → ⊥
not_frame (item.Event e) h k = k
not_frame (item.Side e) h k = k
not_frame (item.Frame f) h k = h f refl
not_frame (item.Row e) h k = k
not_frame (item.Late e) h k = k
not_frame item.Idle h k = k
not_frame (item.Mark e) h k = k
not_frame item.Done h k = k

pub no_yes : (let no : Result Bool NoMemory = Ok false in no ≡ Ok true) → ⊥
no_yes h = absurd (cc)

pub err_not_ok : (r : Result Bool NoMemory) (b : Bool) → IsErr r → r ≡ Ok b → ⊥
err_not_ok (Ok d) b h k = not_true h
err_not_ok (Err e) b h k = absurd (cc)

-- a queue ends
pub close_call : (p : CombineP) (port : Port) (queue : ℕ) (before : BoxView) → Call Stands Amid Alike false p (QueueClosed port queue) before (Ok true) p before
close_call p port queue before = record {
  put = [];
  settings = (refl, refl, refl, refl);
  room = refl;
  puts = sym (append-nil before.items);
  full = λ g. absurd (never g);
  wants = tt;
  keeps = λ taken given k. subst (Stands p (taken ++ QueueClosed port queue ∷ [])) (sym (append-nil given)) (stands_close (start_of p) p.last (combine_of p) taken given port queue k);
}
  where
    never : (let yes : Result Bool NoMemory = Ok true in yes ≡ Ok false) → ⊥
    never g = absurd (cc)

-- nothing was put: there was no room, or memory was wanted
pub nothing_call : (p z : CombineP) (port : Port) (queue : ℕ) (x : Item) (before : BoxView) (r : Result Bool NoMemory) → (r ≡ Ok true → ⊥) → (r ≡ Ok false → length before.items ≡ before.room) → SameRest p z → z.passed ≡ p.passed → z.end ≡ p.end → z.held ≡ p.held → z.ready ≡ p.ready → Call Stands Amid Alike false p (Given port queue x) before r z before
nothing_call p z port queue x before r not full rest w e h ready =
    let same : combine_of p ≡ combine_of z = same_combine _ _ _ _ _ _ _ _ _ _ _ _ _ _ (sym rest.vertex) (sym (ap (λ x. x.size) rest.policy)) (sym (ap (λ x. x.slide) rest.policy)) (sym w) (sym e) (sym h) (sym (ap (λ x. x.items) ready)) in
    record {
      put = [];
      settings = (rest.vertex, rest.policy, rest.begun, rest.start);
      room = refl;
      puts = sym (append-nil before.items);
      full = full;
      wants = may_want r;
      keeps = λ taken given k. partial z taken (Given port queue x) (given ++ []) r not (at_rest p z rest (λ s last. CombineStands s last (combine_of z) taken (given ++ []))
          (subst (λ (x : Combine). CombineStands (start_of p) p.last x taken (given ++ [])) same (subst (λ (xs : List Item). CombineStands (start_of p) p.last (combine_of p) taken xs) (sym (append-nil given)) k)));
    }
