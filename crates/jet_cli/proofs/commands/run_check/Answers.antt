use Rattle.std.proofs.Common.{◌∙◌}
use Rattle.std.proofs.lemmas.Result.{err_from_is_err_and}
use Rattle.jet_worker.specs.Calls.{Calling}
use Rattle.jet_worker.specs.Checked.{CheckStops}
use Rattle.jet_cli.specs.WordsView.{job_read}
use Rattle.jet_cli.proofs.CheckLemmas.{goes_checked, goes_check_known, goes_check_stops, goes_halts_read, lacks_data}
use Rattle.jet_cli.proofs.commands.run_check.Goals as goal

pub returns-in_err-plan-clause-halt : goal.returns-in_err-plan-clause-halt
returns-in_err-plan-clause-halt g c =
    let p = err_from_is_err_and c.from_residual.result c.from_residual.ensures.1 in
    rw (p.1, p.2) (goes_halts_read (job_read c.args.words.now) c.in_err-plan.field-0.0 (g.O.Outside.told c.args.out.now) (g.O.Outside.told c.read_plan.new.out) c.in_err-plan.ensures.no_bad_line c.in_err-plan.ensures.halt)

pub returns-in_err-check_files-clause-halt : goal.returns-in_err-check_files-clause-halt
returns-in_err-check_files-clause-halt g c =
    let p = err_from_is_err_and c.from_residual-in_err-check_files.result c.from_residual-in_err-check_files.ensures.1 in
    rw (p.1, p.2) (goes_check_stops c.a_valid_job_allows_lines.ensures (job_read c.args.words.now) c.in_ok-plan.plan c.in_err-check_files.field-0.0 (g.O.Outside.opened c.args.out.now) (g.O.Outside.opened c.read_plan.new.out) c.in_ok-plan.ensures.valid
    (g.O.Outside.told c.args.out.now) (g.O.Outside.told c.read_plan.new.out) (g.O.Outside.told c.check_files.new.out) c.in_ok-plan.ensures.plan c.in_err-check_files.ensures.stop)

pub returns-in_err-check_files-clause-works : goal.returns-in_err-check_files-clause-works
returns-in_err-check_files-clause-works g c = λ steady.
    let p = err_from_is_err_and c.from_residual-in_err-check_files.result c.from_residual-in_err-check_files.ensures.1 in
    rw (p.1, p.2) (λ is. lacks_data (job_read c.args.words.now) c.in_ok-plan.plan (g.O.Outside.opened c.args.out.now) (g.O.Outside.opened c.read_plan.new.out) (g.O.Outside.told c.args.out.now) (g.O.Outside.told c.read_plan.new.out)
    c.in_ok-plan.ensures.plan (c.in_err-check_files.ensures.works (c.in_ok-plan.ensures.outcome.steady_same ∙ steady) is))

pub returns-clause-done : goal.returns-clause-done
returns-clause-done g c =
    goes_checked c.a_valid_job_allows_lines.ensures (job_read c.args.words.now) c.in_ok-plan.plan (g.O.Outside.opened c.args.out.now) (g.O.Outside.opened c.read_plan.new.out) (g.O.Outside.opened c.check_files.new.out) c.in_ok-plan.ensures.valid
    (g.O.Outside.told c.args.out.now) (g.O.Outside.told c.read_plan.new.out) (g.O.Outside.told c.check_files.new.out) c.in_ok-plan.ensures.plan c.in_ok-check_files.ensures.done

pub returns-in_err-check_files-clause-known : goal.returns-in_err-check_files-clause-known
returns-in_err-check_files-clause-known g c =
    let p = err_from_is_err_and c.from_residual-in_err-check_files.result c.from_residual-in_err-check_files.ensures.1 in
    rw (p.1, p.2) (goes_check_known c.a_valid_job_allows_lines.ensures (job_read c.args.words.now) c.in_ok-plan.plan (λ k. Calling (CheckStops k c.in_err-check_files.field-0.0)) c.in_err-check_files.field-0.0 (g.O.Outside.opened c.args.out.now) (g.O.Outside.opened c.read_plan.new.out) c.in_ok-plan.ensures.valid
    (g.O.Outside.told c.args.out.now) (g.O.Outside.told c.read_plan.new.out) (g.O.Outside.told c.check_files.new.out) c.in_ok-plan.ensures.plan c.in_err-check_files.ensures.stop)
