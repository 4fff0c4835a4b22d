use Rattle.std.proofs.Common.{◌≡◌, ℕ, List, sym, subst}
use Rattle.std.specs.BTreeMap.{values, IsOrdered}
use Rattle.jet_items.specs.Values.{EventValue, RowValue}
use Rattle.jet_policy.specs.Policy.{IsPolicy}
use Rattle.jet_window.specs.Plain.{PlainValue, HasTaken, RowsBetween, window_named}
use Rattle.jet_window.specs.Tables.{place_cmp}
use Rattle.jet_window.proofs.Reading.{both_ok, rows_between}
use Rattle.jet_window.proofs.plain.PlainWindow.rows_until.Goals as goal

pub returns : goal.returns
returns c =
    let policy : IsPolicy c.args.self.now.size c.args.self.now.slide = subst (λ (p : PlainValue). IsPolicy p.size p.slide) c.self.view_is c.self.invariant in
    both_ok c.rows_of.result (λ rows. rows.items ≡ values c.in_ok-table.table) (λ rows. IsOrdered place_cmp c.in_ok-table.table)
    (λ rows. (name : List ℕ) (all : List EventValue) → HasTaken c.args.self.now all → RowsBetween (window_named c.args.self.now name) c.args.self.now.closed c.args.upto all rows.items)
    (λ rows items ordered. λ name all taken. subst (λ (rs : List RowValue). RowsBetween (window_named c.args.self.now name) c.args.self.now.closed c.args.upto all rs) (sym items) (rows_between c.args.self.now c.args.upto all policy taken name c.in_ok-table.table c.in_ok-table.ensures ordered))
    c.rows_of.ensures.items c.rows_of.ensures.ordered
