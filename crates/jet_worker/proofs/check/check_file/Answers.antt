use Rattle.std.proofs.Common.{rules, ◌∙◌, w64, to_z-of_z, FitsSigned}
use Rattle.std.proofs.lemmas.Result.{err_from_is_err_and}
use Rattle.jet_worker.specs.Opening.{file_in}
use Rattle.jet_worker.proofs.CheckLemmas.{goes_text, goes_unread, goes_untold}
use Rattle.jet_worker.proofs.check.check_file.Goals as goal

pub returns-in_err-lines-clause-told : goal.returns-in_err-lines-clause-told
returns-in_err-lines-clause-told g c =
    let fits : FitsSigned w64 c.args.limits.unit = search rules in
    let p = err_from_is_err_and c.from_residual.result c.from_residual.ensures.1 in rw (p.1, p.2) (λ check most unit.
    goes_unread check (c.args.file.now.part, file_in c.args.file.now.file) c.args.file.now.at c.in_err-lines.field-0.0 (g.O.Outside.told c.args.out.now) (g.O.Outside.told c.tally_lines.new.out)
    (c.in_err-lines.ensures.told check (file_in c.args.file.now.file) most (c.new-tally.ensures.tallied check (to_z-of_z fits ∙ unit))))

pub returns-in-Ok-clause-told : goal.returns-in-Ok-clause-told
returns-in-Ok-clause-told g c =
    let fits : FitsSigned w64 c.args.limits.unit = search rules in λ check most unit.
    goes_text c.laws_of_lines.ensures check (c.args.file.now.part, file_in c.args.file.now.file) c.args.file.now.at c.in_ok-lines.lines c.tally_lines.new.tally c.as_bytes.result.now c.write_text.result
    (g.O.Outside.told c.args.out.now) (g.O.Outside.told c.tally_lines.new.out) (g.O.Outside.told c.write_text.new.out)
    (λ bytes tallied count. c.as_bytes.ensures.value ∙ c.in-Ok.ensures check (file_in c.args.file.now.file) bytes tallied count)
    c.write_text.ensures.no_bad_line (c.in_ok-lines.ensures.told check (file_in c.args.file.now.file) most (c.new-tally.ensures.tallied check (to_z-of_z fits ∙ unit))) c.write_text.ensures.told

pub returns-clause-told : goal.returns-clause-told
returns-clause-told g c =
    let fits : FitsSigned w64 c.args.limits.unit = search rules in λ check most unit.
    goes_untold check (c.args.file.now.part, file_in c.args.file.now.file) c.args.file.now.at c.in_ok-lines.lines c.tally_lines.new.tally
    (g.O.Outside.told c.args.out.now) (g.O.Outside.told c.tally_lines.new.out) (c.in_ok-lines.ensures.told check (file_in c.args.file.now.file) most (c.new-tally.ensures.tallied check (to_z-of_z fits ∙ unit)))
