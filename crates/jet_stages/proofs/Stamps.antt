-- The calls of a stamp.
use Rattle.std.proofs.Common.{◌≡◌, ℕ, ◌<◌, ◌==◌, Bool, true, false, ◌||◌, ℤ, List, [], ◌∷◌, ◌++◌, length, Option, Some, None, Ok, refl, ap, sym, ◌∙◌, subst, append_assoc, append-nil, slice_index_or}
use Rattle.std.specs.Prelude.{IsSome, is_some}
use Rattle.std.proofs.lemmas.Bool.Decides.{Decides-eqb}
use Rattle.std.proofs.lemmas.Option.{get_or_from_slice_get}
use Rattle.jet_items.specs.declared.item.Item.{Item}
use Rattle.jet_items.specs.Order.{Each}
use Rattle.jet_policy.specs.MarkerValue.{MarkerValue}
use Rattle.jet_coalescer.specs.declared.queue.Queue.{Queue}
use Rattle.jet_coalescer.specs.Queues.{unknown, is_done_at}
use Rattle.jet_coalescer.specs.View.{View}
use Rattle.jet_boxes.specs.declared.port.Port.{Port}
use Rattle.jet_boxes.specs.declared.port.Port.TheVariants.{Stream, Build}
use Rattle.jet_boxes.specs.Held.{BoxView}
use Rattle.jet_boxes.specs.Entry.{CallEntry, Given, MarkTold, QueueClosed, Finish, IsData, NotClosed}
use Rattle.jet_boxes.specs.Calls.{Call}
use Rattle.jet_stages.specs.declared.stamp.Stamp.{Stamp}
use Rattle.jet_stages.specs.Stamp.{closes, is_closed}
use Rattle.jet_stages.specs.Stamping.{queue_known, Knows, Notes, Stamped, Owes, StampStands, StampAmid, Stands, Amid, Same, MayOwe, passed, mark_items}
use Rattle.jet_stages.proofs.Stamping.{Comes, stamped_next}
use Rattle.jet_stages.proofs.Knowing.{notes_same}

abbrev pub KnowsAll : Stamp → List CallEntry → Type 0
KnowsAll p taken = Knows p.lag p.grain p.markers.items p.queues taken

-- ---- a queue that may be taken from

not_closed : (q : ℕ) (taken : List CallEntry) → Each (NotClosed Stream q) taken → is_closed q taken ≡ false
not_closed q [] h = refl
not_closed q (entry ∷ taken) h = both (closes q entry) (is_closed q taken) (here entry h.0) (not_closed q taken h.1)
  where
    both : (a b : Bool) → a ≡ false → b ≡ false → (a || b) ≡ false
    both true b h k = cc
    both false b h k = k

    differs : (b : Bool) (k : ℕ) → (k == q) ≡ b → (k ≡ q → ⊥) → (k == q) ≡ false
    differs true k is apart = absurd (apart ((Decides-eqb k q).0 is))
    differs false k is apart = is

    here : (e : CallEntry) → NotClosed Stream q e → closes q e ≡ false
    here (Given port queue x) n = refl
    here (MarkTold t) n = refl
    here (QueueClosed Stream queue) n = differs (queue == q) queue refl (n refl)
    here (QueueClosed Build queue) n = refl
    here Finish n = refl

own_queue : (lag grain : ℤ) (markers : List MarkerValue) (queues : View) (taken : List CallEntry) (q : ℕ) → q < length markers → Knows lag grain markers queues taken → slice_index_or queues.queues q unknown ≡ queue_known lag grain q taken
own_queue lag grain markers queues taken q inside k = get_or_from_slice_get queues.queues q (queue_known lag grain q taken) unknown (k.queues_are q inside)

-- the queue exists and is open
pub record Ready (p : Stamp) (q : ℕ) : Type 0 where
  pub marker : q < length p.markers.items
  pub queue : q < length p.queues.queues
  pub going : is_done_at p.queues q ≡ false

stands_by : (lag grain : ℤ) (markers : List MarkerValue) (queues : View) (owed : Option ℤ) (taken : List CallEntry) (entry : CallEntry) (given : List Item) → owed ≡ None → StampAmid lag grain markers queues owed taken entry given → StampStands lag grain markers queues None taken given
stands_by lag grain markers queues None taken entry given none h = h
stands_by lag grain markers queues (Some t) taken entry given none h = cc

owes_by : (lag grain : ℤ) (markers : List MarkerValue) (queues : View) (owed : Option ℤ) (t : ℤ) (taken : List CallEntry) (entry : CallEntry) (given : List Item) → owed ≡ Some t → StampAmid lag grain markers queues owed taken entry given → Owes lag grain markers queues t taken entry given
owes_by lag grain markers queues owed t taken entry given is h = subst (λ (o : Option ℤ). StampAmid lag grain markers queues o taken entry given) is h

pub ready : (p : Stamp) (port : Port) (q : ℕ) (taken : List CallEntry) (entry : CallEntry) (given : List Item) → p.owed ≡ None → Amid p taken entry given → port ≡ Stream → q < length p.markers.items → Each (NotClosed port q) taken → Ready p q
ready p port q taken entry given none amid stream inside open_yet =
    let knows = (stands_by p.lag p.grain p.markers.items p.queues p.owed taken entry given none amid).knows in
    record {
      marker = inside;
      queue = subst (λ (n : ℕ). q < n) (sym knows.count) inside;
      going = ap (λ (x : Queue). x.done) (own_queue p.lag p.grain p.markers.items p.queues taken q inside knows) ∙ not_closed q taken (subst (λ (s : Port). Each (NotClosed s q) taken) stream open_yet);
    }

still_open : (p : Stamp) (q : ℕ) (taken : List CallEntry) → Ready p q → KnowsAll p taken → is_closed q taken ≡ false
still_open p q taken r knows = sym (ap (λ (x : Queue). x.done) (own_queue p.lag p.grain p.markers.items p.queues taken q r.marker knows)) ∙ r.going

pub item_comes : (p : Stamp) (q : ℕ) (x : Item) → Ready p q → IsData x → (taken : List CallEntry) → KnowsAll p taken → Comes (length p.markers.items) taken (Given Stream q x)
item_comes p q x r data' taken knows = (r.marker, data', still_open p q taken r knows)

pub end_comes : (p : Stamp) (q : ℕ) → Ready p q → (taken : List CallEntry) → KnowsAll p taken → Comes (length p.markers.items) taken (QueueClosed Stream q)
end_comes p q r taken knows = (r.marker, still_open p q taken r knows)

-- ---- nothing is done where the box is full

pub call_waits : (p : Stamp) (entry : CallEntry) (box : BoxView) → length box.items ≡ box.room → Call Stands Amid Same true p entry box (Ok false) p box
call_waits p entry box full =
    record {
      put = [];
      settings = (refl, refl, refl);
      room = refl;
      puts = sym (append-nil box.items);
      full = λ h. full;
      wants = tt;
      keeps = λ taken given h. subst (Amid p taken entry) (sym (append-nil given)) h;
    }

-- ---- what stands after an entry was taken

entry_taken : (lag grain : ℤ) (markers markers' : List MarkerValue) (queues queues' : View) (taken : List CallEntry) (entry : CallEntry) (given : List Item) (told : Option ℤ) → Comes (length markers) taken entry → Notes lag grain markers queues markers' queues' taken entry told → StampStands lag grain markers queues None taken given → Stamped (length markers') lag grain (taken ++ entry ∷ []) ((given ++ passed entry) ++ mark_items told)
entry_taken lag grain markers markers' queues queues' taken entry given told comes notes h =
    subst (λ (n : ℕ). Stamped n lag grain (taken ++ entry ∷ []) ((given ++ passed entry) ++ mark_items told)) (sym notes.count)
    (stamped_next (length markers) lag grain taken entry given told h.knows.step comes notes.rises h.stamped)

then_stands : (lag grain : ℤ) (markers markers' : List MarkerValue) (queues queues' : View) (taken : List CallEntry) (entry : CallEntry) (given : List Item) (told : Option ℤ) → Comes (length markers) taken entry → Notes lag grain markers queues markers' queues' taken entry told → StampStands lag grain markers queues None taken given → StampStands lag grain markers' queues' None (taken ++ entry ∷ []) (given ++ (passed entry ++ mark_items told))
then_stands lag grain markers markers' queues queues' taken entry given told comes notes h =
    record {
      none_owed = refl;
      knows = notes.knows;
      stamped = subst (Stamped (length markers') lag grain (taken ++ entry ∷ [])) (append_assoc given (passed entry) (mark_items told)) (entry_taken lag grain markers markers' queues queues' taken entry given told comes notes h);
    }

then_owes : (lag grain : ℤ) (markers markers' : List MarkerValue) (queues queues' : View) (taken : List CallEntry) (entry : CallEntry) (given : List Item) (t : ℤ) → MayOwe entry → Comes (length markers) taken entry → Notes lag grain markers queues markers' queues' taken entry (Some t) → StampStands lag grain markers queues None taken given → Owes lag grain markers' queues' t taken entry (given ++ passed entry)
then_owes lag grain markers markers' queues queues' taken entry given t may comes notes h =
    record {
      may = may;
      before = given;
      puts = refl;
      stood = subst (λ (n : ℕ). Stamped n lag grain taken given) (sym notes.count) h.stamped;
      knows = notes.knows;
      whole = entry_taken lag grain markers markers' queues queues' taken entry given (Some t) comes notes h;
    }

-- ---- an entry is begun: q is the stamp that noted it, with the mark that is owed, and r the stamp that settled

pub call_begins : (p q r : Stamp) (entry : CallEntry) (before mid after : BoxView) (done : Bool) → p.owed ≡ None → MayOwe entry → ((taken : List CallEntry) → KnowsAll p taken → Comes (length p.markers.items) taken entry) → (q.lag ≡ p.lag) × (q.grain ≡ p.grain) → ((taken : List CallEntry) → KnowsAll p taken → Notes p.lag p.grain p.markers.items p.queues q.markers.items q.queues taken entry q.owed) → length q.markers.items ≡ length p.markers.items → mid ≡ record before { items = before.items ++ passed entry } → (done ≡ true → (r ≡ record q { owed = None }) × (after ≡ record mid { items = mid.items ++ mark_items q.owed })) → (done ≡ false → (r ≡ q) × (after ≡ mid) × (length mid.items ≡ mid.room) × IsSome q.owed) → Call Stands Amid Same true p entry before (Ok done) r after
call_begins p q r entry before mid after true none may comes same notes count puts settled waits =
    let s = settled refl in
    record {
      put = passed entry ++ mark_items q.owed;
      settings = subst (Same p) (sym s.0) (same.0, same.1, count);
      room = ap (λ (b : BoxView). b.room) s.1 ∙ ap (λ (b : BoxView). b.room) puts;
      puts =
          ap (λ (b : BoxView). b.items) s.1
          ∙ (ap (λ (b : BoxView). b.items ++ mark_items q.owed) puts ∙ append_assoc before.items (passed entry) (mark_items q.owed));
      full = λ h. cc;
      wants = tt;
      keeps = λ taken given h.
          let stands = stands_by p.lag p.grain p.markers.items p.queues p.owed taken entry given none h in
          subst (λ (x : Stamp). Stands x (taken ++ entry ∷ []) (given ++ (passed entry ++ mark_items q.owed))) (sym s.0)
          (subst (λ (l : ℤ). StampStands l q.grain q.markers.items q.queues None (taken ++ entry ∷ []) (given ++ (passed entry ++ mark_items q.owed))) (sym same.0)
          (subst (λ (g : ℤ). StampStands p.lag g q.markers.items q.queues None (taken ++ entry ∷ []) (given ++ (passed entry ++ mark_items q.owed))) (sym same.1)
          (then_stands p.lag p.grain p.markers.items q.markers.items p.queues q.queues taken entry given q.owed (comes taken stands.knows) (notes taken stands.knows) stands)));
    }
call_begins p q r entry before mid after false none may comes same notes count puts settled waits =
    let w = waits refl in
    record {
      put = passed entry;
      settings = subst (Same p) (sym w.0) (same.0, same.1, count);
      room = ap (λ (b : BoxView). b.room) w.1 ∙ ap (λ (b : BoxView). b.room) puts;
      puts = ap (λ (b : BoxView). b.items) w.1 ∙ ap (λ (b : BoxView). b.items) puts;
      full = λ h. ap (λ (b : BoxView). length b.items) w.1 ∙ (w.2 ∙ sym (ap (λ (b : BoxView). b.room) w.1));
      wants = tt;
      keeps = λ taken given h.
          let stands = stands_by p.lag p.grain p.markers.items p.queues p.owed taken entry given none h in
          subst (λ (x : Stamp). Amid x taken entry (given ++ passed entry)) (sym w.0)
          (subst (λ (l : ℤ). StampAmid l q.grain q.markers.items q.queues q.owed taken entry (given ++ passed entry)) (sym same.0)
          (subst (λ (g : ℤ). StampAmid p.lag g q.markers.items q.queues q.owed taken entry (given ++ passed entry)) (sym same.1)
          (owing q.owed w.3 taken given (comes taken stands.knows) (notes taken stands.knows) stands)));
    }
  where
    owing : (o : Option ℤ) → IsSome o → (taken : List CallEntry) (given : List Item) → Comes (length p.markers.items) taken entry → Notes p.lag p.grain p.markers.items p.queues q.markers.items q.queues taken entry o → StampStands p.lag p.grain p.markers.items p.queues None taken given → StampAmid p.lag p.grain q.markers.items q.queues o taken entry (given ++ passed entry)
    owing None some taken given c n s = absurd (cc)
    owing (Some t) some taken given c n s = then_owes p.lag p.grain p.markers.items q.markers.items p.queues q.queues taken entry given t may c n s

-- ---- an entry goes on: its mark is owed

pub call_goes_on : (p r : Stamp) (entry : CallEntry) (before after : BoxView) (t : ℤ) (done : Bool) → p.owed ≡ Some t → (done ≡ true → (r ≡ record p { owed = None }) × (after ≡ record before { items = before.items ++ mark_items p.owed })) → (done ≡ false → (r ≡ p) × (after ≡ before) × (length before.items ≡ before.room) × IsSome p.owed) → Call Stands Amid Same true p entry before (Ok done) r after
call_goes_on p r entry before after t true is settled waits =
    let s = settled refl in
    record {
      put = mark_items p.owed;
      settings = subst (Same p) (sym s.0) (refl, refl, refl);
      room = ap (λ (b : BoxView). b.room) s.1;
      puts = ap (λ (b : BoxView). b.items) s.1;
      full = λ h. cc;
      wants = tt;
      keeps = λ taken given h.
          let owes = owes_by p.lag p.grain p.markers.items p.queues p.owed t taken entry given is h in
          subst (λ (x : Stamp). Stands x (taken ++ entry ∷ []) (given ++ mark_items p.owed)) (sym s.0)
          (subst (λ (o : Option ℤ). StampStands p.lag p.grain p.markers.items p.queues None (taken ++ entry ∷ []) (given ++ mark_items o)) (sym is)
          (record { none_owed = refl; knows = owes.knows; stamped = owes.whole }));
    }
call_goes_on p r entry before after t false is settled waits =
    let w = waits refl in
    subst (λ (x : Stamp). Call Stands Amid Same true p entry before (Ok false) x after) (sym w.0)
    (subst (λ (b : BoxView). Call Stands Amid Same true p entry before (Ok false) p b) (sym w.1) (call_waits p entry before w.2))

-- ---- entries of which nothing is owed and nothing is put

pub never_owed : (p : Stamp) (taken : List CallEntry) (entry : CallEntry) (given : List Item) → (MayOwe entry → ⊥) → (owed : Option ℤ) → StampAmid p.lag p.grain p.markers.items p.queues owed taken entry given → owed ≡ None
never_owed p taken entry given not_this None h = refl
never_owed p taken entry given not_this (Some t) h = absurd (not_this h.may)

pub none_by : (owed : Option ℤ) → is_some owed ≡ false → owed ≡ None
none_by None h = refl
none_by (Some t) h = cc

pub some_by : (owed : Option ℤ) → is_some owed ≡ true → (t : ℤ) × (owed ≡ Some t)
some_by None h = cc
some_by (Some t) h = (t, refl)

-- a mark that is told, or the finish
pub call_passes : (p : Stamp) (entry : CallEntry) (box : BoxView) → (MayOwe entry → ⊥) → ((taken : List CallEntry) → KnowsAll p taken → Notes p.lag p.grain p.markers.items p.queues p.markers.items p.queues taken entry None) → ((taken : List CallEntry) → Comes (length p.markers.items) taken entry) → passed entry ≡ [] → Call Stands Amid Same true p entry box (Ok true) p box
call_passes p entry box not_this notes comes nothing =
    record {
      put = [];
      settings = (refl, refl, refl);
      room = refl;
      puts = sym (append-nil box.items);
      full = λ h. cc;
      wants = tt;
      keeps = λ taken given h.
          let none : p.owed ≡ None = never_owed p taken entry given not_this p.owed h in
          let stands = stands_by p.lag p.grain p.markers.items p.queues p.owed taken entry given none h in
          subst (λ (o : Option ℤ). StampStands p.lag p.grain p.markers.items p.queues o (taken ++ entry ∷ []) (given ++ [])) (sym none)
          (subst (λ (xs : List Item). StampStands p.lag p.grain p.markers.items p.queues None (taken ++ entry ∷ []) (given ++ (xs ++ []))) nothing
          (then_stands p.lag p.grain p.markers.items p.markers.items p.queues p.queues taken entry given None (comes taken) (notes taken stands.knows) stands));
    }

pub mark_passes : (p : Stamp) (t : ℤ) (box : BoxView) → Call Stands Amid Same true p (MarkTold t) box (Ok true) p box
mark_passes p t box = call_passes p (MarkTold t) box (λ h. h) (λ taken knows. notes_same p.lag p.grain p.markers.items p.queues taken (MarkTold t) (λ q. refl) (λ q. refl) (λ q. refl) knows) (λ taken. tt) refl

pub finish_passes : (p : Stamp) (box : BoxView) → Call Stands Amid Same true p Finish box (Ok true) p box
finish_passes p box = call_passes p Finish box (λ h. h) (λ taken knows. notes_same p.lag p.grain p.markers.items p.queues taken Finish (λ q. refl) (λ q. refl) (λ q. refl) knows) (λ taken. tt) refl

-- the number of queues stays
pub count_stays : (p q : Stamp) (taken : List CallEntry) (entry : CallEntry) (given : List Item) → p.owed ≡ None → Amid p taken entry given → ((es : List CallEntry) → KnowsAll p es → Notes p.lag p.grain p.markers.items p.queues q.markers.items q.queues es entry q.owed) → length q.markers.items ≡ length p.markers.items
count_stays p q taken entry given none amid notes = (notes taken (stands_by p.lag p.grain p.markers.items p.queues p.owed taken entry given none amid).knows).count

pub same_box : (box : BoxView) → box ≡ record box { items = box.items ++ [] }
same_box box = ap (λ (xs : List Item). record box { items = xs }) (sym (append-nil box.items))
