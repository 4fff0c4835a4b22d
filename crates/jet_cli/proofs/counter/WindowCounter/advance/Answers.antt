use Rattle.std.proofs.Common.{rules, ◌∷◌, [], w64, to_z-of_z, FitsSigned, ◌≡◌, ◌++◌, ℤ, ◌≤ℤ◌, List, Some, sym, ◌∙◌, subst, ap, inr}
use Rattle.std.specs.Prelude.{IfSome, flat_map, Option}
use Rattle.jet_items.specs.Marks.{mark_of}
use Rattle.jet_items.specs.Values.{RowValue}
use Rattle.jet_file.specs.Text.{row_line}
use Rattle.jet_policy.specs.MarkerValue.{HasSeen, IsRaised}
use Rattle.jet_window.specs.Plain.{PlainValue}
use Rattle.jet_cli.specs.inner.Took.{mark_in}
use Rattle.jet_cli.proofs.MarkLemmas.{StepsTo, sees}
use Rattle.jet_cli.proofs.counter.WindowCounter.advance.Goals as goal
use Rattle.jet_cli.proofs.counter.WindowCounter.advance.Goals.{In-Some, In_default, After-see}

goes : (c : After-see) → StepsTo (mark_in c.args.self.now.marker) (mark_in c.see.new.self) c.see.result
goes c =
    let fits : FitsSigned w64 c.args.ts = c.ranges.ts in
    let seen : (times : List ℤ) → HasSeen c.args.self.now.marker times → HasSeen c.see.new.self (times ++ c.args.ts ∷ []) = simp to_z-of_z at c.see.ensures.seen in
    let raised : (times : List ℤ) → HasSeen c.args.self.now.marker times → IsRaised (mark_of c.args.self.now.marker.lag c.args.self.now.marker.grain times) (mark_of c.args.self.now.marker.lag c.args.self.now.marker.grain (times ++ c.args.ts ∷ [])) c.see.result = simp to_z-of_z at c.see.ensures.raised in
    sees c.args.self.now.marker c.see.new.self c.args.ts c.see.result c.requires.grain seen c.see.ensures.lag c.see.ensures.grain raised

rises : (c : In-Some) → StepsTo (mark_in c.args.self.now.marker) (mark_in c.see.new.self) (Some c.in-Some.mark)
rises c = subst (λ (o : Option ℤ). StepsTo (mark_in c.args.self.now.marker) (mark_in c.see.new.self) o) c.in-Some.is (goes ((goal.at.In-Some c).After-see))

pub close-requires : goal.close-requires
close-requires c =
    subst (λ (m : Option ℤ). IfSome m (λ s. s ≤ℤ c.in-Some.mark)) (sym c.requires.in_step) (rises ((goal.at.close-requires c).In-Some)).1

pub returns-in_ok-print_rows-clause-in_step : goal.returns-in_ok-print_rows-clause-in_step
returns-in_ok-print_rows-clause-in_step c = ap (λ (p : PlainValue). p.closed) c.in_ok-rows.ensures.same ∙ sym (rises ((goal.at.returns-in_ok-print_rows-clause-in_step c).In-Some)).0

pub returns-in_ok-print_rows-clause-advanced : goal.returns-in_ok-print_rows-clause-advanced
returns-in_ok-print_rows-clause-advanced c =
    let fits : FitsSigned w64 c.args.self.now.size = search rules in
    let printed : c.print_rows.new.to.items ≡ c.args.self.now.rows.items ++ flat_map (row_line c.args.self.now.name c.args.self.now.size) c.deref.result.now = simp to_z-of_z at c.in_ok-print_rows.ensures in
    let later : IfSome c.args.self.now.window.closed (λ s. s ≤ℤ c.in-Some.mark) =
    subst (λ (m : Option ℤ). IfSome m (λ s. s ≤ℤ c.in-Some.mark)) (sym c.requires.in_step) (rises ((goal.at.returns-in_ok-print_rows-clause-advanced c).In-Some)).1 in
    record {
      given = c.in_ok-rows.rows.items;
      rows = printed ∙ ap (λ (rows : List RowValue). c.args.self.now.rows.items ++ flat_map (row_line c.args.self.now.name c.args.self.now.size) rows) c.deref.ensures.value;
      goes_on = λ name events h. inr (c.in-Some.mark, ap (λ (p : PlainValue). p.closed) c.in_ok-rows.ensures.same, later, c.in_ok-rows.ensures.rows name events h);
      taken = c.in_ok-rows.ensures.taken;
    }

pub returns-in_default-clause-in_step : goal.returns-in_default-clause-in_step
returns-in_default-clause-in_step c =
    let same : mark_in c.see.new.self ≡ mark_in c.args.self.now.marker =
    subst (λ (o : Option ℤ). StepsTo (mark_in c.args.self.now.marker) (mark_in c.see.new.self) o) c.in_default.is (goes ((goal.at.returns-in_default-clause-in_step c).After-see)) in
    c.requires.in_step ∙ sym same
