use Rattle.std.proofs.Common.{◌∙◌}
use Rattle.std.proofs.lemmas.Result.{err_from_is_err_and}
use Rattle.jet_coordinator.specs.Runs.{RunStops}
use Rattle.jet_flow.specs.Inflows.{windows}
use Rattle.jet_worker.specs.Calls.{Calling}
use Rattle.jet_cli.specs.WordsView.{job_read}
use Rattle.jet_cli.proofs.CheckLemmas.{goes_check_known, lacks_data}
use Rattle.jet_cli.proofs.RunJobLemmas.{goes_run, goes_run_stops, goes_run_unread}
use Rattle.jet_cli.proofs.commands.run_files.Goals as goal

pub returns-in_err-plan-clause-halt : goal.returns-in_err-plan-clause-halt
returns-in_err-plan-clause-halt g c =
    let p = err_from_is_err_and c.from_residual.result c.from_residual.ensures.1 in
    rw (p.1, p.2) (goes_run_unread (job_read c.args.words.now) c.in_err-plan.field-0.0 (g.O.Outside.told c.args.out.now) (g.O.Outside.told c.read_plan.new.out) c.in_err-plan.ensures.no_bad_line c.in_err-plan.ensures.halt)

pub returns-in_err-run_to_end-clause-halt : goal.returns-in_err-run_to_end-clause-halt
returns-in_err-run_to_end-clause-halt g c =
    let p = err_from_is_err_and c.from_residual-in_err-run_to_end.result c.from_residual-in_err-run_to_end.ensures.1 in
    rw (p.1, p.2) (goes_run_stops c.a_valid_job_allows_lines.ensures (job_read c.args.words.now) c.in_ok-plan.plan c.in_err-run_to_end.field-0.0 (g.O.Outside.opened c.args.out.now) (g.O.Outside.opened c.read_plan.new.out) c.in_ok-plan.ensures.valid
    (g.O.Outside.told c.args.out.now) (g.O.Outside.told c.read_plan.new.out) (g.O.Outside.told c.run_to_end.new.out) c.in_ok-plan.ensures.plan c.in_err-run_to_end.ensures.stop)

pub returns-in_err-run_to_end-clause-works : goal.returns-in_err-run_to_end-clause-works
returns-in_err-run_to_end-clause-works g c = λ steady.
    let p = err_from_is_err_and c.from_residual-in_err-run_to_end.result c.from_residual-in_err-run_to_end.ensures.1 in
    rw (p.1, p.2) (λ is. lacks_data (job_read c.args.words.now) c.in_ok-plan.plan (g.O.Outside.opened c.args.out.now) (g.O.Outside.opened c.read_plan.new.out) (g.O.Outside.told c.args.out.now) (g.O.Outside.told c.read_plan.new.out)
    c.in_ok-plan.ensures.plan (c.in_err-run_to_end.ensures.works (c.in_ok-plan.ensures.outcome.steady_same ∙ steady) is))

pub returns-clause-done : goal.returns-clause-done
returns-clause-done g c =
    goes_run c.a_valid_job_allows_lines.ensures (job_read c.args.words.now) c.in_ok-plan.plan (g.O.Outside.opened c.args.out.now) (g.O.Outside.opened c.read_plan.new.out) (g.O.Outside.opened c.run_to_end.new.out) c.in_ok-plan.ensures.valid
    (g.O.Outside.told c.args.out.now) (g.O.Outside.told c.read_plan.new.out) (g.O.Outside.told c.run_to_end.new.out) c.in_ok-plan.ensures.plan c.in_ok-run_to_end.ensures.done

pub returns-in_err-run_to_end-clause-known : goal.returns-in_err-run_to_end-clause-known
returns-in_err-run_to_end-clause-known g c =
    let p = err_from_is_err_and c.from_residual-in_err-run_to_end.result c.from_residual-in_err-run_to_end.ensures.1 in
    rw (p.1, p.2) (goes_check_known c.a_valid_job_allows_lines.ensures (job_read c.args.words.now) c.in_ok-plan.plan (λ k. Calling (RunStops k (windows c.in_ok-plan.plan.dag) c.in_err-run_to_end.field-0.0)) c.in_err-run_to_end.field-0.0
    (g.O.Outside.opened c.args.out.now) (g.O.Outside.opened c.read_plan.new.out) c.in_ok-plan.ensures.valid
    (g.O.Outside.told c.args.out.now) (g.O.Outside.told c.read_plan.new.out) (g.O.Outside.told c.run_to_end.new.out) c.in_ok-plan.ensures.plan c.in_err-run_to_end.ensures.stop)
