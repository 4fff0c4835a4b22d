use Rattle.std.proofs.Common.{rules, sym, ◌∙◌, FitsSigned, to_z-of_z, w64}
use Rattle.jet_window.proofs.Placing.{none_out, first_out, first_least, if_more}
use Rattle.jet_window.proofs.ordered.OrderedRows.next.Goals as goal

pub returns-then-not-is_out-clause-none : goal.returns-then-not-is_out-clause-none
returns-then-not-is_out-clause-none c =
    let fits : FitsSigned w64 c.in_ok-place.place.now.0 = search rules in
    let tested = simp to_z-of_z at c.is_out.ensures in
    rw (← c.self.view_is) (none_out c.self.inside.closed c.self.inside.passed c.in_ok-place.place.now c.in_ok-place.field-0-1.now c.self.inside.rows.entries c.in_ok-place.ensures.first c.self.invariant
    (sym tested ∙ c.if-not-is_out.true))

pub returns-clause-let_out : goal.returns-clause-let_out
returns-clause-let_out c =
    let fits : FitsSigned w64 c.in_ok-place.place.now.0 = search rules in
    let tested = simp to_z-of_z at c.is_out.ensures in
    rw (← c.self.view_is) (if_more _ _ c.take_first.result (λ row first. first_out c.self.inside.closed c.self.inside.passed c.in_ok-place.place.now c.in_ok-place.field-0-1.now c.self.inside.rows.entries
    c.take_first.new.rows.entries row c.in_ok-place.ensures.first (sym tested ∙ c.if-not-is_out.false) first) c.take_first.ensures.taken)

pub returns-clause-least : goal.returns-clause-least
returns-clause-least c =
    if_more _ _ c.take_first.result (λ row first. first_least row c.self.inside.rows.entries c.take_first.new.rows.entries c.self.invariant first) c.take_first.ensures.taken
