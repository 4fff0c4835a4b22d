use Rattle.std.proofs.Common.{◌≡◌, ◌+◌, ◌<◌, [], drop, length, get_or, sym, ap, arith, ◌∙◌}
use Rattle.std.proofs.lemmas.List.{drop_more, drop_all}
use Rattle.jet_lines.specs.Scan.{has_form}
use Rattle.jet_lines.specs.declared.form.Stand.TheVariants as stand
use Rattle.jet_lines.proofs.FormLemmas.{has_form_some, form_step}
use Rattle.jet_lines.proofs.form.has_form.Goals as goal

pub loop-b-preserved : goal.loop-b-preserved
loop-b-preserved c =
    let below : c.loop-b.b-index < length c.args.line.now = omega arith in
    let step = form_step c.loop-b.stand (get_or c.args.line.now c.loop-b.b-index 0) (drop (c.loop-b.b-index + 1) c.args.line.now) _ (sym c.in-Some.ensures) in
    sym step ∙ ap (has_form c.loop-b.stand) (sym (drop_more c.args.line.now c.loop-b.b-index 0 below)) ∙ c.loop-b.invariant

pub returns-in-None : goal.returns-in-None
returns-in-None c =
    let below : c.loop-b.b-index < length c.args.line.now = omega arith in
    let step = form_step c.loop-b.stand (get_or c.args.line.now c.loop-b.b-index 0) (drop (c.loop-b.b-index + 1) c.args.line.now) _ (sym c.in-None.ensures) in
    sym step ∙ ap (has_form c.loop-b.stand) (sym (drop_more c.args.line.now c.loop-b.b-index 0 below)) ∙ c.loop-b.invariant
    ∙ sym (has_form_some stand.Start [] c.args.line.now)

pub returns : goal.returns
unfolding has_form
returns c =
    let ends : drop c.loop-b.b-index c.args.line.now ≡ [] = drop_all c.loop-b.b-index c.args.line.now (omega arith) in
    c.may_end.ensures ∙ ap (has_form c.loop-b.stand) (sym ends) ∙ c.loop-b.invariant ∙ sym (has_form_some stand.Start [] c.args.line.now)
