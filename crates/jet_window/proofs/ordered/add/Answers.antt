use Rattle.std.proofs.Common.{rules, ◌≡◌, Some, None, sym, ◌∙◌, ap, FitsSigned, to_z-of_z, w64}
use Rattle.std.specs.Map.{lookup}
use Rattle.std.specs.BTreeMap.{is_at}
use Rattle.std.specs.BTreeMap.Entry.{entry_value}
use Rattle.jet_window.specs.Places.{RowPlace, row_place_cmp}
use Rattle.jet_window.specs.declared.ordered.Alike.{Alike}
use Rattle.jet_window.proofs.Placing.{added, still_held, adds_first, adds_later, unchanged, on_err}
use Rattle.jet_window.proofs.ordered.add.Goals as goal

pub returns-in_err-push-in-Occupied-clause-order : goal.returns-in_err-push-in-Occupied-clause-order
returns-in_err-push-in-Occupied-clause-order c =
    let fits : FitsSigned w64 c.row.inside.end = search rules in
    let k : RowPlace = (c.row.inside.end, c.row.inside.vertex, c.row.inside.key) in
    let w : Alike = record c.into_mut.result.now { more = c.push.new.self } in
    still_held k w c.args.rows.now.entries _ _ c.requires (search rules) (simp to_z-of_z at (c.in_ok-entry.ensures.update.1 w)) (c.in_ok-entry.ensures.update.2 w) c.row.invariant

pub returns-in_err-push-in-Occupied-clause-err : goal.returns-in_err-push-in-Occupied-clause-err
returns-in_err-push-in-Occupied-clause-err c =
    let fits : FitsSigned w64 c.row.inside.end = search rules in
    let k : RowPlace = (c.row.inside.end, c.row.inside.vertex, c.row.inside.key) in
    let v : Alike = c.into_mut.result.now in
    let w : Alike = record v { more = c.push.new.self } in
    let value = simp to_z-of_z at c.in_ok-entry.ensures.value in
    on_err c.from_residual-in_err-push-in-Occupied.result
    (unchanged k v w c.args.rows.now.entries _ _ c.requires (simp to_z-of_z at (c.in_ok-entry.ensures.update.1 w)) (search rules)
    (sym value ∙ (ap (λ e. entry_value e) c.in-Occupied.is ∙ c.into_mut.ensures.value)) (search rules) c.in_err-push-in-Occupied.ensures.items)

pub returns-in_ok-push-in-Occupied-clause-ok : goal.returns-in_ok-push-in-Occupied-clause-ok
returns-in_ok-push-in-Occupied-clause-ok c =
    let fits : FitsSigned w64 c.row.inside.end = search rules in
    let k : RowPlace = (c.row.inside.end, c.row.inside.vertex, c.row.inside.key) in
    let v : Alike = c.into_mut.result.now in
    let w : Alike = record v { more = c.push.new.self } in
    let value = simp to_z-of_z at c.in_ok-entry.ensures.value in
    let there : lookup (is_at (row_place_cmp k)) c.args.rows.now.entries ≡ Some v = sym value ∙ (ap (λ e. entry_value e) c.in-Occupied.is ∙ c.into_mut.ensures.value) in
    added c.args.row.now k w c.args.rows.now.entries _ _ c.requires (simp to_z-of_z at (c.in_ok-entry.ensures.update.1 w)) (search rules)
    (adds_later c.args.row.now k c.row.inside.acc v w _ (sym c.row.view_is) (search rules) c.in_ok-push-in-Occupied.ensures.items there)

pub returns-in_ok-push-in-Occupied-clause-order : goal.returns-in_ok-push-in-Occupied-clause-order
returns-in_ok-push-in-Occupied-clause-order c =
    let fits : FitsSigned w64 c.row.inside.end = search rules in
    let k : RowPlace = (c.row.inside.end, c.row.inside.vertex, c.row.inside.key) in
    let w : Alike = record c.into_mut.result.now { more = c.push.new.self } in
    still_held k w c.args.rows.now.entries _ _ c.requires (search rules) (simp to_z-of_z at (c.in_ok-entry.ensures.update.1 w)) (c.in_ok-entry.ensures.update.2 w) c.row.invariant

pub returns-in-Vacant-clause-ok : goal.returns-in-Vacant-clause-ok
returns-in-Vacant-clause-ok c =
    let fits : FitsSigned w64 c.row.inside.end = search rules in
    let k : RowPlace = (c.row.inside.end, c.row.inside.vertex, c.row.inside.key) in
    let w : Alike = record { first = c.row.inside.acc; more = c.new-more.result } in
    let found = simp to_z-of_z at c.in_ok-entry.ensures.found in
    let none : lookup (is_at (row_place_cmp k)) c.args.rows.now.entries ≡ None = rw c.in-Vacant.is at found in
    added c.args.row.now k w c.args.rows.now.entries _ _ c.requires (simp to_z-of_z at (c.in_ok-entry.ensures.update.1 w)) (search rules)
    (adds_first c.args.row.now k c.row.inside.acc w _ (sym c.row.view_is) (search rules) (search rules) none)

pub returns-in-Vacant-clause-order : goal.returns-in-Vacant-clause-order
returns-in-Vacant-clause-order c =
    let fits : FitsSigned w64 c.row.inside.end = search rules in
    let k : RowPlace = (c.row.inside.end, c.row.inside.vertex, c.row.inside.key) in
    let w : Alike = record { first = c.row.inside.acc; more = c.new-more.result } in
    still_held k w c.args.rows.now.entries _ _ c.requires (search rules) (simp to_z-of_z at (c.in_ok-entry.ensures.update.1 w)) (c.in_ok-entry.ensures.update.2 w) c.row.invariant
