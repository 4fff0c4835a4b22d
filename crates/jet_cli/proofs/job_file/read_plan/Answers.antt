use Rattle.std.proofs.Common.{◌≡◌, ◌∙◌, ap, sym, subst, ℕ, List, Ok}
use Rattle.std.proofs.lemmas.Result.{err_from_is_err_and}
use Rattle.jet_items.specs.Gives.{Fails}
use Rattle.jet_job.specs.Jobs.{job_at}
use Rattle.jet_plan.specs.Plans.{IsFirst}
use Rattle.jet_plan.specs.declared.settings.Settings.{Settings}
use Rattle.jet_cli.specs.Refusals.{with_options}
use Rattle.jet_cli.specs.WordsView.{job_read}
use Rattle.jet_cli.proofs.CommandLemmas.{goes_halts_job, goes_halts_plan, goes_halts_text, goes_plan}
use Rattle.jet_cli.proofs.job_file.read_plan.Goals as goal

pub returns-in_err-job-clause-halt : goal.returns-in_err-job-clause-halt
returns-in_err-job-clause-halt g c =
    let w = c.args.words.now in
    let p = err_from_is_err_and c.from_residual-in_err-job.result c.from_residual-in_err-job.ensures.1 in
    let fails : Fails c.in_err-job.field-0.0 (job_at c.in_ok-text.text.items) = subst (λ (t : List ℕ). Fails c.in_err-job.field-0.0 (job_at t)) c.deref.ensures.value c.in_err-job.ensures.settled in
    rw (p.1, p.2) (goes_halts_job (job_read w) c.in_ok-text.text.items c.in_err-job.field-0.0 (g.O.Outside.opened c.args.out.now) (g.O.Outside.opened c.job_text.new.out)
    (g.O.Outside.told c.args.out.now) (g.O.Outside.told c.job_text.new.out) fails c.in_ok-text.ensures.text)

pub returns-in_err-check-clause-halt : goal.returns-in_err-check-clause-halt
returns-in_err-check-clause-halt g c =
    let w = c.args.words.now in
    let p = err_from_is_err_and c.from_residual-in_err-check.result c.from_residual-in_err-check.ensures.1 in
    let is : job_at c.in_ok-text.text.items ≡ Ok c.in_ok-job.job = ap job_at (sym c.deref.ensures.value) ∙ c.in_ok-job.ensures.settled in
    let first : IsFirst c.in_ok-job.job.dag (with_options w.options c.in_ok-job.job.settings) c.in_err-check.field-0.0 =
    subst (λ (s : Settings). IsFirst c.in_ok-job.job.dag s c.in_err-check.field-0.0) c.with_options-settings.ensures c.in_err-check.ensures in
    rw (p.1, p.2) (goes_halts_plan (job_read w) c.in_ok-text.text.items c.in_ok-job.job c.in_err-check.field-0.0 (g.O.Outside.opened c.args.out.now) (g.O.Outside.opened c.job_text.new.out)
    (g.O.Outside.told c.args.out.now) (g.O.Outside.told c.job_text.new.out) is first c.in_ok-text.ensures.text)

pub returns-clause-plan : goal.returns-clause-plan
returns-clause-plan g c =
    let w = c.args.words.now in
    let is : job_at c.in_ok-text.text.items ≡ Ok c.in_ok-job.job = ap job_at (sym c.deref.ensures.value) ∙ c.in_ok-job.ensures.settled in
    goes_plan (job_read w) c.in_ok-text.text.items c.in_ok-job.job c.in_ok-check.field-0 (g.O.Outside.opened c.args.out.now) (g.O.Outside.opened c.job_text.new.out)
    (g.O.Outside.told c.args.out.now) (g.O.Outside.told c.job_text.new.out) is c.in_ok-check.ensures.0 (c.in_ok-check.ensures.1 ∙ c.with_options-settings.ensures) c.in_ok-text.ensures.text

pub returns-in_err-text-clause-halt : goal.returns-in_err-text-clause-halt
returns-in_err-text-clause-halt g c =
    let p = err_from_is_err_and c.from_residual.result c.from_residual.ensures.1 in
    rw (p.1, p.2) (goes_halts_text (job_read c.args.words.now) c.in_err-text.field-0.0 (g.O.Outside.told c.args.out.now) (g.O.Outside.told c.job_text.new.out) c.in_err-text.ensures.stop)
