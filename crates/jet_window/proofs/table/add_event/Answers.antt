use Rattle.std.proofs.Common.{rules, arith, ◌≡◌, ℤ, pos, ◌+ℤ◌, ◌-ℤ◌, ◌≤ℤ◌, ◌<ℤ◌, Some, sym, subst, ap, ◌∙◌, slice_index_or, FitsSigned, to_z, of_z, w64, to_z-of_z}
use Rattle.std.specs.BTreeMap.{get, Updates}
use Rattle.std.proofs.lemmas.Int.{ints}
use Rattle.jet_items.specs.Grid.{IsMultiple}
use Rattle.jet_items.specs.Ranges.{IsWithin, most_row_end}
use Rattle.jet_items.specs.Rows.{first_value}
use Rattle.jet_items.specs.Totals.{both, one}
use Rattle.jet_items.specs.Values.{EventValue, AccValue, RowValue}
use Rattle.jet_window.specs.Tables.{place_cmp, with_row, stepped, IsTable}
use Rattle.jet_window.proofs.Stepping.{table_step, table_same, step_first, step_last}
use Rattle.jet_window.proofs.Walking.{end_within, end_next, multiple_next, nearer}
use Rattle.jet_window.proofs.table.add_event.Goals as goal

pub loop-end-init : goal.loop-end-init
loop-end-init c =
    let fits_slide : FitsSigned w64 c.args.slide = c.ranges.slide in
    let fits_first : FitsSigned w64 c.args.first = c.ranges.first in
    let slide : ℤ = to_z w64 (of_z w64 c.args.slide) in
    let first : ℤ = to_z w64 (of_z w64 c.args.first) in
    let a = c.requires.slide.0 in
    let low : pos 1 ≤ℤ slide = omega (arith, ints) in
    let multiple : IsMultiple slide first = rw (to_z-of_z fits_slide, to_z-of_z fits_first) c.requires.multiple in
    record {
      multiple = multiple;
      start = omega (arith, ints);
      near = λ lt. absurd (omega (arith, ints));
      table = λ known t. table_same c.args.vertex known (λ e key. both (known e key) (stepped slide first (first -ℤ slide) c.args.event.now e key)) c.args.table.now (step_first slide first c.args.event.now known low) t;
    }

pub invariant_of-row : goal.invariant_of-row
invariant_of-row c =
    let fits_last : FitsSigned w64 c.args.last = c.ranges.last in
    let fits_first : FitsSigned w64 c.args.first = c.ranges.first in
    let end : ℤ = to_z w64 c.loop-end.end-bits in
    let ts : c.event.inside.ts ≡ c.args.event.now.ts = ap (λ (e : EventValue). e.ts) c.event.view_is in
    let high : end ≤ℤ c.args.last = omega (arith, ints) in
    let start = c.loop-end.invariant.start in
    let low : c.args.first ≤ℤ end = omega (arith, ints) in
    end_within c.event.inside.ts c.args.event.now.ts c.args.first c.args.last end c.event.invariant.0 ts c.requires.above c.requires.within low high

pub overflow_add-end : goal.overflow_add-end
overflow_add-end c =
    let fits_slide : FitsSigned w64 c.args.slide = c.ranges.slide in
    let fits_last : FitsSigned w64 c.args.last = c.ranges.last in
    let fits_first : FitsSigned w64 c.args.first = c.ranges.first in
    let end : ℤ = to_z w64 c.loop-end.end-bits in
    let ts : c.event.inside.ts ≡ c.args.event.now.ts = ap (λ (e : EventValue). e.ts) c.event.view_is in
    let high : end ≤ℤ c.args.last = omega (arith, ints) in
    let start = c.loop-end.invariant.start in
    let low : c.args.first ≤ℤ end = omega (arith, ints) in
    let within : IsWithin most_row_end end = end_within c.event.inside.ts c.args.event.now.ts c.args.first c.args.last end c.event.invariant.0 ts c.requires.above c.requires.within low high in
    let a = within.0 in
    let b = within.1 in
    let p = c.requires.slide.0 in
    let q = c.requires.slide.1 in
    omega (arith, ints)

pub loop-end-smaller : goal.loop-end-smaller
loop-end-smaller c =
    let fits_slide : FitsSigned w64 c.args.slide = c.ranges.slide in
    let fits_last : FitsSigned w64 c.args.last = c.ranges.last in
    let fits_first : FitsSigned w64 c.args.first = c.ranges.first in
    let end : ℤ = to_z w64 c.loop-end.end-bits in
    let slide : ℤ = to_z w64 (of_z w64 c.args.slide) in
    let ts : c.event.inside.ts ≡ c.args.event.now.ts = ap (λ (e : EventValue). e.ts) c.event.view_is in
    let high : end ≤ℤ c.args.last = omega (arith, ints) in
    let start = c.loop-end.invariant.start in
    let low : c.args.first ≤ℤ end = omega (arith, ints) in
    let within : IsWithin most_row_end end = end_within c.event.inside.ts c.args.event.now.ts c.args.first c.args.last end c.event.invariant.0 ts c.requires.above c.requires.within low high in
    let same : slide ≡ c.args.slide = to_z-of_z fits_slide in
    nearer end slide within (subst (λ (s : ℤ). (pos 1 ≤ℤ s) × (s ≤ℤ pos 1000000000000)) (sym same) c.requires.slide)

pub loop-end-preserved : goal.loop-end-preserved
loop-end-preserved c =
    let fits_slide : FitsSigned w64 c.args.slide = c.ranges.slide in
    let fits_last : FitsSigned w64 c.args.last = c.ranges.last in
    let fits_first : FitsSigned w64 c.args.first = c.ranges.first in
    let end : ℤ = to_z w64 c.loop-end.end-bits in
    let slide : ℤ = to_z w64 (of_z w64 c.args.slide) in
    let first : ℤ = to_z w64 (of_z w64 c.args.first) in
    let x : EventValue = c.args.event.now in
    let ts : c.event.inside.ts ≡ c.args.event.now.ts = ap (λ (e : EventValue). e.ts) c.event.view_is in
    let high : end ≤ℤ c.args.last = omega (arith, ints) in
    let start = c.loop-end.invariant.start in
    let le : c.args.first ≤ℤ end = omega (arith, ints) in
    let within : IsWithin most_row_end end = end_within c.event.inside.ts c.args.event.now.ts c.args.first c.args.last end c.event.invariant.0 ts c.requires.above c.requires.within le high in
    let same : slide ≡ c.args.slide = to_z-of_z fits_slide in
    let sizes = subst (λ (s : ℤ). (pos 1 ≤ℤ s) × (s ≤ℤ pos 1000000000000)) (sym same) c.requires.slide in
    let low : pos 1 ≤ℤ slide = sizes.0 in
    let next : to_z w64 (of_z w64 (end +ℤ slide)) ≡ end +ℤ slide = end_next end slide within sizes in
    let back : end ≡ to_z w64 (of_z w64 (end +ℤ slide)) -ℤ slide = omega (arith, ints, next) in
    let fits_v : FitsSigned w64 (slice_index_or c.event.inside.v 0 (pos 0)) = search rules in
    let e : EventValue = record { part = c.event.inside.part; line = c.event.inside.line; ts = c.event.inside.ts; key = c.event.inside.key; v = c.event.inside.v } in
    let one_is : c.one-acc.result ≡ one (first_value e) = c.one-acc.ensures.value ∙ ap one (to_z-of_z fits_v) in
    let row_one : (let r : RowValue = record { vertex = c.args.vertex; end = end; key = c.event.inside.key; acc = c.one-acc.result } in r) ≡ record { vertex = c.args.vertex; end = end; key = e.key; acc = one (first_value e) } = ap (λ (a : AccValue). let r : RowValue = record { vertex = c.args.vertex; end = end; key = c.event.inside.key; acc = a } in r) one_is in
    let row_is : (let r : RowValue = record { vertex = c.args.vertex; end = end; key = c.event.inside.key; acc = c.one-acc.result } in r) ≡ record { vertex = c.args.vertex; end = end; key = x.key; acc = one (first_value x) } = row_one ∙ ap (λ (y : EventValue). let r : RowValue = record { vertex = c.args.vertex; end = end; key = y.key; acc = one (first_value y) } in r) c.event.view_is in
    let updates : Updates place_cmp c.loop-end.table c.add_row.new.table (end, x.key) (Some (with_row (get place_cmp c.loop-end.table (end, x.key)) (record { vertex = c.args.vertex; end = end; key = x.key; acc = one (first_value x) }))) =
    subst (λ (r : RowValue). Updates place_cmp c.loop-end.table c.add_row.new.table (r.end, r.key) (Some (with_row (get place_cmp c.loop-end.table (r.end, r.key)) r))) row_is c.in_ok-add_row.ensures in
    record {
      multiple = subst (IsMultiple slide) (sym next) (multiple_next slide end low c.loop-end.invariant.multiple);
      start = omega (arith, ints, next);
      near = λ lt. omega (arith, ints, next);
      table = λ known t. subst (λ (z : ℤ). IsTable c.args.vertex (λ f key. both (known f key) (stepped slide first z x f key)) c.add_row.new.table) back
          (table_step c.args.vertex slide first end x known c.loop-end.table c.add_row.new.table low c.loop-end.invariant.multiple start (c.loop-end.invariant.table known t) updates);
    }

pub returns : goal.returns
returns c =
    let fits_slide : FitsSigned w64 c.args.slide = c.ranges.slide in
    let fits_last : FitsSigned w64 c.args.last = c.ranges.last in
    let fits_first : FitsSigned w64 c.args.first = c.ranges.first in
    let end : ℤ = to_z w64 c.loop-end.end-bits in
    let slide : ℤ = to_z w64 (of_z w64 c.args.slide) in
    let first : ℤ = to_z w64 (of_z w64 c.args.first) in
    let last : ℤ = to_z w64 (of_z w64 c.args.last) in
    let x : EventValue = c.args.event.now in
    let a = c.requires.slide.0 in
    let low : pos 1 ≤ℤ slide = omega (arith, ints) in
    let over : last <ℤ end = omega (arith, ints) in
    λ known t.
    let whole : IsTable c.args.vertex (λ e key. both (known e key) (stepped slide first last x e key)) c.loop-end.table =
    table_same c.args.vertex (λ e key. both (known e key) (stepped slide first (end -ℤ slide) x e key)) (λ e key. both (known e key) (stepped slide first last x e key)) c.loop-end.table
    (λ e key. ap (both (known e key)) (step_last slide first last end x low c.loop-end.invariant.multiple over c.loop-end.invariant.near e key)) (c.loop-end.invariant.table known t) in
    subst (λ (s : ℤ). IsTable c.args.vertex (λ e key. both (known e key) (stepped s c.args.first c.args.last x e key)) c.loop-end.table) (to_z-of_z fits_slide)
    (subst (λ (f : ℤ). IsTable c.args.vertex (λ e key. both (known e key) (stepped slide f c.args.last x e key)) c.loop-end.table) (to_z-of_z fits_first)
    (subst (λ (l : ℤ). IsTable c.args.vertex (λ e key. both (known e key) (stepped slide first l x e key)) c.loop-end.table) (to_z-of_z fits_last) whole))
