use Rattle.std.proofs.Common.{rules, ◌≡◌, ◌++◌, pos, List, None, ◌∙◌, subst, ap, refl, w64, to_z-of_z, FitsSigned, All, Option, ◌<ℤ◌, ℤ}
use Rattle.std.specs.Prelude.{flat_map, codes, IfSome}
use Rattle.jet_items.specs.Rows.{Window}
use Rattle.jet_items.specs.Values.{EventValue, RowValue}
use Rattle.jet_file.specs.Text.{row_line}
use Rattle.jet_window.specs.Plain.{RowsBetween}
use Rattle.jet_window.proofs.Between.{rows_whole}
use Rattle.jet_cli.specs.Base.{base_window}
use Rattle.jet_cli.specs.Counting.{kept_among, mark_after}
use Rattle.jet_cli.proofs.TookLemmas.{window_is, lines_more, rows_end_after, stays}
use Rattle.jet_cli.proofs.counter.WindowCounter.finish.Goals as goal

pub returns : goal.returns
returns c = record {
  finished = λ command events table counts prints.
      let old = c.args.self.now in
      let given : List RowValue = c.in_ok-rows.rows.items in
      let kept : List EventValue = kept_among command events in
      let fits : FitsSigned w64 old.size = search rules in
      let rest : RowsBetween (base_window command) old.window.closed None kept given =
      subst (λ (w : Window). RowsBetween w old.window.closed None kept given) (window_is command old.window counts.vertex counts.size counts.slide)
      (c.in_ok-rows.ensures.rows (codes "w") kept counts.taken) in
      let printed : c.print_rows.new.to.items ≡ old.rows.items ++ flat_map (row_line old.name old.size) c.deref.result.now = simp to_z-of_z at c.in_ok-print_rows.ensures in
      record {
        given = given;
        closes = record {
          up = stays (mark_after command events);
          later = subst (λ (o : Option ℤ). All (λ (r : RowValue). IfSome o (λ t. t <ℤ r.end)) given) counts.closed (rows_end_after (base_window command) old.window.closed None kept given rest);
        };
        all = rows_whole (base_window command) old.window.closed kept table given counts.rows rest;
        rows = lines_more old.rows.items old.rows.items c.print_rows.new.to.items old.name old.size (pos command.size) given
            (printed ∙ ap (λ (rows : List RowValue). old.rows.items ++ flat_map (row_line old.name old.size) rows) c.deref.ensures.value) refl prints.name prints.size;
        notes = refl;
      };
}
