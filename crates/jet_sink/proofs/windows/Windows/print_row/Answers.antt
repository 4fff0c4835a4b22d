use Rattle.std.proofs.Common.{◌∙◌, sym, ap, rules, w64, to_z-of_z, FitsSigned}
use Rattle.std.specs.Prelude.{option_map}
use Rattle.jet_items.specs.Values.{RowValue}
use Rattle.jet_sink.specs.Naming.{window_of}
use Rattle.jet_sink.proofs.Naming.{row_named}
use Rattle.jet_sink.proofs.windows.Windows.print_row.Goals as goal

pub returns-in-Some : goal.returns-in-Some
returns-in-Some c =
    let fits : FitsSigned w64 c.size.result = search rules in
    row_named c.print_row.result c.args.self.now c.args.row.now c.row.inside.vertex c.in-Some.window.now c.size.result c.args.to.now.items c.print_row.new.to.items
    (sym (ap (option_map (λ w. window_of w.now)) c.in-Some.is) ∙ c.find.ensures) (ap (λ (r : RowValue). r.vertex) c.row.view_is) c.size.ensures.value (simp to_z-of_z at c.print_row.ensures.ok)
