use Rattle.std.proofs.Common.{rules, ◌≡◌, ◌+◌, ◌<◌, ℕ, ℤ, List, Option, take, length, get_or, sym, subst, ap, ◌∙◌, FitsSigned, to_z, of_z, w64, to_z-of_z}
use Rattle.jet_items.specs.Grid.{IsMultiple}
use Rattle.jet_items.specs.Totals.{both, total}
use Rattle.jet_items.specs.Values.{EventValue, AccValue}
use Rattle.jet_window.specs.Plain.{PlainValue}
use Rattle.jet_window.specs.Tables.{IsTable, IsFirstEnd, IsLastDue, brings, stepped}
use Rattle.jet_window.proofs.Reading.{total_take}
use Rattle.jet_window.proofs.Stepping.{table_same, stepped_is}
use Rattle.jet_window.proofs.plain.PlainWindow.table_until.Goals as goal

pub add_event-requires-clause-multiple : goal.add_event-requires-clause-multiple
add_event-requires-clause-multiple c =
    let fits_first : FitsSigned w64 c.first_end-first.result = record { sfits = c.first_end-first.type_inv } in
    let fits_slide : FitsSigned w64 c.slide-slide.result = record { sfits = c.slide-slide.type_inv } in
    let slide : c.self.inside.policy.slide ≡ to_z w64 (of_z w64 c.slide-slide.result) = sym (to_z-of_z fits_slide ∙ c.slide-slide.ensures.value) in
    subst (λ (s : ℤ). IsMultiple s (to_z w64 (of_z w64 c.first_end-first.result))) slide
    (subst (IsMultiple c.self.inside.policy.slide) (sym (to_z-of_z fits_first)) c.first_end-first.ensures.multiple)

pub loop-event-preserved : goal.loop-event-preserved
loop-event-preserved c =
    let fits_first : FitsSigned w64 c.first_end-first.result = record { sfits = c.first_end-first.type_inv } in
    let fits_last : FitsSigned w64 c.last_due-last.result = record { sfits = c.last_due-last.type_inv } in
    let fits_slide : FitsSigned w64 c.slide-slide.result = record { sfits = c.slide-slide.type_inv } in
    let fits_ts : FitsSigned w64 c.event.inside.ts = search rules in
    let size : ℤ = c.self.inside.policy.size in
    let slide : ℤ = c.self.inside.policy.slide in
    let closed : Option ℤ = c.self.inside.closed in
    let upto : Option ℤ = c.args.upto.now in
    let items : List EventValue = c.deref-event-items.result.now in
    let i : ℕ = c.loop-event.event-index in
    let x : EventValue = c.event-item.result in
    let ts : to_z w64 (of_z w64 c.event.inside.ts) ≡ x.ts = to_z-of_z fits_ts ∙ ap (λ (e : EventValue). e.ts) c.event.view_is in
    let begin : IsFirstEnd slide closed x.ts (to_z w64 (of_z w64 c.first_end-first.result)) =
    subst (λ (r : ℤ). IsFirstEnd slide closed x.ts r) (sym (to_z-of_z fits_first)) (subst (λ (t : ℤ). IsFirstEnd slide closed t c.first_end-first.result) ts c.first_end-first.ensures) in
    let stop : IsLastDue size upto x.ts (to_z w64 (of_z w64 c.last_due-last.result)) =
    subst (λ (r : ℤ). IsLastDue size upto x.ts r) (sym (to_z-of_z fits_last)) (subst (λ (t : ℤ). IsLastDue size upto t c.last_due-last.result) ts c.last_due-last.ensures) in
    let same : to_z w64 (of_z w64 c.slide-slide.result) ≡ slide = to_z-of_z fits_slide ∙ c.slide-slide.ensures.value in
    let first : ℤ = to_z w64 (of_z w64 c.first_end-first.result) in
    let last : ℤ = to_z w64 (of_z w64 c.last_due-last.result) in
    let lt : i < length items = search rules in
    let is : x ≡ get_or items i x = search rules in
    let before : IsTable c.self.inside.vertex (λ e key. total (brings size slide closed upto e key) (take i items)) c.loop-event.table =
    subst (λ (p : PlainValue). IsTable p.vertex (λ e key. total (brings p.size p.slide p.closed upto e key) (take i items)) c.loop-event.table) (sym c.self.view_is) c.loop-event.invariant.table in
    let added : IsTable c.self.inside.vertex (λ e key. both (total (brings size slide closed upto e key) (take i items)) (stepped (to_z w64 (of_z w64 c.slide-slide.result)) first last x e key)) c.add_event.new.table =
    c.in_ok-add_event.ensures (λ e key. total (brings size slide closed upto e key) (take i items)) before in
    let more : IsTable c.self.inside.vertex (λ e key. total (brings size slide closed upto e key) (take (i + 1) items)) c.add_event.new.table =
    table_same c.self.inside.vertex (λ e key. both (total (brings size slide closed upto e key) (take i items)) (stepped (to_z w64 (of_z w64 c.slide-slide.result)) first last x e key)) (λ e key. total (brings size slide closed upto e key) (take (i + 1) items)) c.add_event.new.table
    (λ e key. ap (λ (o : Option AccValue). both (total (brings size slide closed upto e key) (take i items)) o)
    (ap (λ (s : ℤ). stepped s first last x e key) same ∙ stepped_is size slide closed upto first last x c.self.invariant.slide_low begin stop e key)
    ∙ total_take (brings size slide closed upto e key) items i x lt is) added in
    record {
      items = c.loop-event.invariant.items;
      table = subst (λ (p : PlainValue). IsTable p.vertex (λ e key. total (brings p.size p.slide p.closed upto e key) (take (i + 1) items)) c.add_event.new.table) c.self.view_is more;
    }
