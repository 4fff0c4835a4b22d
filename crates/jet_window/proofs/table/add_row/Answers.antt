use Rattle.std.proofs.Common.{rules, ◌≡◌, Option, Some, subst, ap, ◌∙◌, to_z-of_z, FitsSigned, w64}
use Rattle.std.specs.BTreeMap.{get, Updates}
use Rattle.jet_items.specs.Values.{RowValue}
use Rattle.jet_window.specs.Tables.{Place, place_cmp, with_row}
use Rattle.jet_window.proofs.table.add_row.Goals as goal

pub returns : goal.returns
returns c =
    let fits_end : FitsSigned w64 c.row.inside.end = search rules in
    let place : Place = (c.row.inside.end, c.row.inside.key) in
    let got = simp to_z-of_z at c.get.ensures.value in
    let found : c.copied.result ≡ get place_cmp c.args.table.now place = c.copied.ensures ∙ got in
    let whole : c.joined-whole.result ≡ with_row (get place_cmp c.args.table.now place) c.args.row = c.joined-whole.ensures ∙ ap (λ (o : Option RowValue). with_row o c.args.row) found in
    let updates = simp to_z-of_z at c.in_ok-insert.ensures.updates in
    subst (λ (p : Place). Updates place_cmp c.args.table.now c.insert.new.self p (Some (with_row (get place_cmp c.args.table.now p) c.args.row))) (ap (λ (r : RowValue). (r.end, r.key)) c.row.view_is)
    (subst (λ (r : RowValue). Updates place_cmp c.args.table.now c.insert.new.self place (Some r)) whole updates)
