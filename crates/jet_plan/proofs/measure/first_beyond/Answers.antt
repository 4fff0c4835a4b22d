use Rattle.std.proofs.Common.{◌∙◌, ap, length, position, nat_lt}
use Rattle.jet_plan.specs.Tables.{measured}
use Rattle.jet_plan.proofs.MeasureLaws.{first_by_cap}
use Rattle.jet_plan.proofs.measure.first_beyond.Goals as goal

pub returns-clause-value : goal.returns-clause-value
returns-clause-value c =
    let vs = c.args.vertices.now in
    let most = c.args.most in
    c.first_above.ensures.value
    ∙ (ap (position (λ n. nat_lt most n)) (c.as_slice-2.ensures.value ∙ c.in_ok-table.ensures)
    ∙ (first_by_cap most c.requires.most (measured c.args.measure vs c.as_slice.result.now (length vs)) vs
    ∙ ap (λ es. position (λ v. nat_lt most (measured c.args.measure vs es (length vs) v.name)) vs) (c.as_slice.ensures.value ∙ c.in_ok-edges.ensures)))
